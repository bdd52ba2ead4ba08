-- What was found among the tasks before this one.
use Rattle.std.proofs.Common.{◌≡◌}
use Rattle.planning.specs.Rounds.{search_below}
use Rattle.planning.proofs.rounds.Round.search.Given as goal

abbrev pub invariant-loop-task : goal.invariant-loop-task
invariant-loop-task g l = l.found ≡ search_below (g.T.Test.bound l.self.test.now l.self.list.now) l.self.list.now l.preference l.self.unplaced l.task
