-- The set of the tasks before this one that are above.
use Rattle.std.proofs.Common.{◌≡◌, take}
use Rattle.planning.specs.Orders.{ranks, above_in}
use Rattle.planning.specs.Plans.{rows}
use Rattle.planning.proofs.plan.Plan.above.Given as goal

abbrev pub invariant-loop-task : goal.invariant-loop-task
invariant-loop-task l = l.set ≡ above_in (take l.task (ranks (rows l.self))) l.rank
