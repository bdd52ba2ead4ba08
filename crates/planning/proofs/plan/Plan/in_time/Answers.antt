use Rattle.std.proofs.Common.{◌<◌, length, ap, ◌∙◌, rules, arith}
use borrow.Author.Tests.{tests}
use Rattle.std.proofs.lemmas.Bool.{false≢true}
use Rattle.tasks.specs.List.{listed, task_at, filler}
use Rattle.analysis.specs.Demand.{deadline}
use Rattle.planning.specs.Plans.{list_of, size}
use Rattle.planning.proofs.Judging.{is_listed, not_listed, match_weaker, in_time_is}
use Rattle.planning.proofs.plan.Plan.in_time.Goals as goal

pub returns-in_default : goal.returns-in_default
returns-in_default c = (
  λ e. absurd (false≢true e),
  λ t. absurd (omega (arith, t.0, not_listed (listed c.list.result.now) c.args.task c.in_default.ensures, ap (λ l. length (listed l)) c.list.ensures)),
)

pub returns : goal.returns
unfolding task_at
returns c =
    let p = c.args.self.now in
    let found = is_listed (listed c.list.result.now) c.args.task c.in-Some.asked filler c.in-Some.ensures in
    let here : c.args.task < size p = omega (arith, found.0, ap (λ l. length (listed l)) c.list.ensures) in
    in_time_is p c.args.task here c.is_some_and.result c.from-deadline.result c.hold.result c.response.result c.zip-parts.result c.hold.ensures c.response.ensures
    (c.from-deadline.ensures ∙ ap (λ t. deadline (list_of p) t) (found.1 ∙ ap (λ l. task_at l c.args.task) c.list.ensures)) c.zip-parts.ensures
    (match_weaker _ _ _ c.zip-parts.result (λ x e. search (rules, tests)) c.is_some_and.ensures)
