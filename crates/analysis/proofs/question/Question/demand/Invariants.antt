-- What is added so far and the load of the tasks that are left are the demand.
use Rattle.std.proofs.Common.{◌≡◌, ◌+◌, ◌*◌, ◌/◌, ◌^◌, ◌≤◌, drop}
use Rattle.analysis.specs.Demand.{load, demand}
use Rattle.analysis.proofs.question.Question.demand.Given as goal

abbrev pub invariant-loop-number : goal.invariant-loop-number
invariant-loop-number l =
    (l.sum + load l.self.list.now (drop l.number l.other-items) (l.self.set / 2 ^ l.number) l.ticks ≡ demand l.self.list.now l.self.set l.self.task l.ticks)
    × (l.sum ≤ (l.number + 1) * 2 ^ 32)
