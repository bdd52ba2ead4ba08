use Rattle.std.proofs.Common.{◌≡◌, ◌<◌, true, false, length, sym, subst, rules, arith}
use Rattle.fixed.specs.FixedVec.{elements}
use Rattle.tasks.specs.List.{listed}
use Rattle.tasks.proofs.Reading.{listed_few}
use Rattle.planning.specs.Orders.{RowsKeep}
use Rattle.planning.specs.Rows.{hold_fits}
use Rattle.planning.proofs.RowLaws.{keep_more, pushed, hold_read}
use Rattle.planning.proofs.plan.OpenPlan.row.Goals as goal

pub invariant_of-self : goal.invariant_of-self
invariant_of-self c =
    let p = c.args.self.now in
    let n = length (elements p.rows) in
    let same : c.args.task ≡ n = omega (arith, c.if-task-len.false, c.len.ensures) in
    let room : n < length (listed p.list) = omega (arith, same, c.if-task-len-2.false, c.len-else-task-len.ensures) in
    let hold = subst (λ k. hold_fits p.list k c.args.row.hold ≡ true) same (sym (hold_read p.list c.tasks.result.now c.args.task c.args.row.hold c.index-tasks-task.result true c.if-not-may_hold.ensures c.index-tasks-task.is c.tasks.ensures (omega (arith, same, room)))) in
    record { keep = subst (RowsKeep p.list) (sym (pushed p.rows c.push.new.self c.push.result c.args.row c.push.ensures (omega (arith, room, listed_few p.list)))) (keep_more p.list (elements p.rows) c.args.row p.keep room (sym c.if-not-rank_fits.ensures) hold) }

pub returns-then-not-may_hold : goal.returns-then-not-may_hold
returns-then-not-may_hold c =
    let p = c.args.self.now in
    let here : c.args.task < length (listed p.list) = omega (arith, c.if-task-len-2.false, c.len-else-task-len.ensures) in
    let late = hold_read p.list c.tasks.result.now c.args.task c.args.row.hold c.index-tasks-task.result false c.if-not-may_hold.ensures c.index-tasks-task.is c.tasks.ensures here in
    search rules
