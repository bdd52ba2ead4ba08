-- The header and the lines of the tasks before this one are put together, and each took at most 84 bytes.
use Rattle.std.proofs.Common.{◌≡◌, ◌+◌, ◌*◌, ◌≤◌, ◌++◌, length, codes}
use Rattle.files.specs.Report.{lines_below}
use Rattle.files.specs.Text.{written}
use Rattle.files.proofs.report.print_plan.Given as goal

abbrev pub invariant-loop-task : goal.invariant-loop-task
invariant-loop-task l =
    (written l.text ≡ codes "task rank bound hold\n" ++ lines_below l.plan l.task)
    × (length (written l.text) ≤ 21 + 84 * l.task)
