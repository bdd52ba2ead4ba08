-- The tasks so far are the first of the standing list.
use Rattle.std.proofs.Common.{◌≡◌, take}
use Rattle.tasks.specs.List.{rows, opened}
use Rattle.tasks.specs.Standing.{standing}
use Rattle.tasks.proofs.standing.standing_list.Given as goal

abbrev pub invariant-loop-row : goal.invariant-loop-row
invariant-loop-row l = rows (opened l.list) ≡ take l.row-index standing
