use Rattle.std.proofs.Common.{◌<◌, rules, arith, ap, ◌∙◌, length, refl}
use borrow.Author.Tests.{tests}
use Rattle.std.proofs.lemmas.Iterator.{cases_from_all, YieldsList-from_range}
use Rattle.tasks.specs.List.{listed}
use Rattle.planning.specs.Plans.{size, InTime}
use Rattle.planning.proofs.Judging.{judged}
use Rattle.planning.proofs.plan.Plan.judge.Goals as goal

pub returns : goal.returns
returns c =
    let p = c.args.self.now in
    judged p c.all.result c.len.result (c.len.ensures ∙ ap (λ l. length (listed l)) c.list.ensures)
    (cases_from_all _ _ c.all.result (λ k. (k < size p) × InTime p k) (λ k. (k < size p) × InTime p k → ⊥) c.all.ensures.ran (YieldsList-from_range 0 c.len.result c.len.result refl (omega arith))
    (λ x q k. search (rules, tests)) (λ x q k. search (rules, tests)))
