-- No smaller number of ticks meets its demand.
use Rattle.std.proofs.Common.{ℕ, ◌-◌, ◌<◌, ◌≤◌}
use Rattle.analysis.specs.Demand.{demand}
use Rattle.analysis.proofs.question.Question.response.Given as goal

abbrev pub invariant-loop-limit : goal.invariant-loop-limit
invariant-loop-limit l =
    (1 ≤ l.ticks) × (l.ticks ≤ l.limit) × ((t : ℕ) → 1 ≤ t → t < l.ticks → t < demand l.self.list.now l.self.set l.self.task t)

abbrev pub decreases-loop-limit : goal.decreases-loop-limit
decreases-loop-limit l = l.limit - l.ticks
