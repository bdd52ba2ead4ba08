use Rattle.std.proofs.Common.{◌≡◌, ◌+◌, take, IsPermutation, IsSorted, ◌∷◌, is_gt, sym, subst, arith}
use Rattle.std.specs.List.{position_or_len}
use Rattle.std.proofs.lemmas.Grind.{common_steps}
use Rattle.std.proofs.lemmas.List.Sorted.{IsPermutation-insert}
use Rattle.queue.specs.Queues.{held}
use Rattle.queue.specs.Sequences.{insertion}
use Rattle.queue.proofs.Ordering.{insertion_sorted}
use Rattle.queue.proofs.queue.Queue.put.Goals as goal

pub returns-clause-stays_sorted : goal.returns-clause-stays_sorted
returns-clause-stays_sorted g c =
    let now : take (c.len-count.result + 1) c.put_in.new.places ≡ insertion g.T.Ordered.order c.args.new (held c.args.self.now) = grind (arith, common_steps) in
    λ up. subst (IsSorted g.T.Ordered.order) (sym now) (insertion_sorted g.met.T.Ordered.total c.args.new (held c.args.self.now) up)

pub returns-clause-one_more : goal.returns-clause-one_more
returns-clause-one_more g c =
    let now : take (c.len-count.result + 1) c.put_in.new.places ≡ insertion g.T.Ordered.order c.args.new (held c.args.self.now) = grind (arith, common_steps) in
    λ _. subst (IsPermutation (c.args.new ∷ held c.args.self.now)) (sym now) (IsPermutation-insert (held c.args.self.now) (position_or_len (λ e. is_gt (g.T.Ordered.order e c.args.new)) (held c.args.self.now)) c.args.new)
