-- The rounds that are left lead to where planning ends, and the draft so far is sound.
use Rattle.std.proofs.Common.{◌-◌}
use Rattle.planning.proofs.GoingOn.{Going}
use Rattle.planning.proofs.rounds.calls.rounds.Given as goal

abbrev pub invariant-loop-rank : goal.invariant-loop-rank
invariant-loop-rank g l = Going (g.T.Test.bound l.test l.list) l.list (l.rank - 1) l.draft
