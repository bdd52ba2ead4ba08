use Rattle.std.proofs.Common.{◌≤◌, Some, sym, ap, ◌∙◌, arith}
use Rattle.tasks.specs.List.{task_at}
use Rattle.analysis.specs.Demand.{deadline, demand}
use Rattle.analysis.specs.WholePeriod.{whole_period}
use Rattle.analysis.specs.WholePeriodLaws.{within_is, within_none}
use Rattle.analysis.proofs.question.Question.whole_period.Goals as goal

pub returns-then-asked-from : goal.returns-then-asked-from
unfolding whole_period
returns-then-asked-from c =
    let q = c.args.self.now in
    let limit = ap (deadline q.list.now) c.asked-limit.ensures in
    let asked = c.demand-asked.ensures ∙ ap (demand q.list.now q.set q.task) limit in
    sym (within_none _ _ (omega (arith, limit, asked, c.from.ensures, c.if-asked-from.true)))

pub returns : goal.returns
unfolding whole_period
returns c =
    let q = c.args.self.now in
    let limit = ap (deadline q.list.now) c.asked-limit.ensures in
    let asked = c.demand-asked.ensures ∙ ap (demand q.list.now q.set q.task) limit in
    let fits : demand q.list.now q.set q.task (deadline q.list.now (task_at q.list.now q.task)) ≤ deadline q.list.now (task_at q.list.now q.task) = omega (arith, limit, asked, c.from.ensures, c.if-asked-from.false) in
    ap Some asked ∙ sym (within_is _ _ fits)
