use Rattle.std.proofs.Common.{◌≡◌, take, IsPermutation, IsSorted, ◌∷◌, is_eq, refl, sym, ap, ◌∙◌, subst, arith}
use Rattle.std.specs.List.{position_or_len}
use Rattle.std.proofs.lemmas.Grind.{common_steps}
use Rattle.queue.specs.Queues.{held, memory, Takes}
use Rattle.queue.specs.Sequences.{drop_one, holds, laid}
use Rattle.queue.proofs.Searching.{length_without}
use Rattle.queue.proofs.Laying.{laid_front}
use Rattle.queue.proofs.Ordering.{removal_sorted, removal_shuffles}
use Rattle.queue.proofs.queue.Queue.take_out.Goals as goal

pub returns : goal.returns
returns g c =
    let q = c.args.self.now in
    let cmp = g.T.Ordered.order in
    let equal = λ (e : g.row.T.Denot). is_eq (cmp e c.args.wanted) in
    let same : take c.len-count.result (memory q) ≡ held q = grind (arith, common_steps) in
    let found = c.take_from-found.ensures.found ∙ ap (holds cmp c.args.wanted) same in
    let fewer = length_without equal (held q) in
    let takes : Takes (drop_one cmp c.args.wanted (held q)) q _ = record {
      memory_after = c.take_from-found.ensures.after ∙ ap (λ es. laid (drop_one cmp c.args.wanted es) (memory q)) same;
      count = grind (arith, common_steps);
      lender = refl;
    } in
    let now = laid_front _ _ _ _ takes.memory_after takes.count in
    record {
      found = found;
      rest = takes;
      stays_sorted = λ up. subst (IsSorted cmp) (sym now) (removal_sorted g.met.T.Ordered.total (held q) (position_or_len equal (held q)) up);
      one_fewer = λ e. subst (λ es. IsPermutation (held q) (c.args.wanted ∷ es)) (sym now) (removal_shuffles g.met.T.Ordered.same c.args.wanted (held q) (sym found ∙ e));
    }
