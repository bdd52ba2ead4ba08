use Rattle.std.proofs.Common.{◌≡◌, take, length, remove, is_eq, sym, ap, ◌∙◌, arith}
use Rattle.std.specs.List.{position_or_len}
use Rattle.std.proofs.lemmas.List.{length-take-le}
use Rattle.queue.specs.Sequences.{laid}
use Rattle.queue.proofs.Searching.{found_at, found_none}
use Rattle.queue.proofs.Laying.{closed, unchanged}
use Rattle.queue.proofs.line.take_from.Goals as goal

pub returns-in_default : goal.returns-in_default
returns-in_default g c =
    let xs = c.args.places.now in
    let es = take c.args.count xs in
    let equal = λ (e : g.row.T.Denot). is_eq (g.T.Ordered.order e c.args.wanted) in
    let long : length es ≡ c.args.count = length-take-le c.args.count xs c.requires in
    let none = found_none equal es (sym c.in_default.is ∙ c.place_of.ensures) in
    record {
      found = sym none.0;
      after = unchanged xs c.args.count (position_or_len equal es) c.requires (omega (arith, none.1, long));
    }

pub returns : goal.returns
returns g c =
    let xs = c.args.places.now in
    let es = take c.args.count xs in
    let equal = λ (e : g.row.T.Denot). is_eq (g.T.Ordered.order e c.args.wanted) in
    let long : length es ≡ c.args.count = length-take-le c.args.count xs c.requires in
    let at = found_at equal es c.in-Some.at (sym c.in-Some.is ∙ c.place_of.ensures) in
    record {
      found = sym at.0;
      after = c.copy_within.ensures.after ∙ closed xs c.args.count c.in-Some.at c.requires (omega (arith, at.1, long)) ∙ ap (λ i. laid (remove es i) xs) at.2;
    }
