-- What the two kinds of files have in common, shown of each: what is the same but for the rows, and that a record is short.
use Rattle.std.specs.Prelude.{◌≡◌, ℕ, ◌≤◌, length}
use Rattle.std.proofs.Common.{refl, ap, ◌∙◌, arith, lit≤}
use Rattle.std.proofs.Common.{length-take}
use Rattle.files.specs.ListFiles.{task_record}
use Rattle.files.specs.PlanFiles.{plan_rules, row_record}
use Rattle.tasks.specs.List.{row}
use Rattle.tasks.specs.declared.task.Task.{Task}
use Rattle.planning.specs.declared.plan.OpenPlan.{OpenPlan}
use Rattle.planning.specs.declared.plan.Row.{Row}

pub task_short : (t : Task) → length (task_record (row t)) ≤ 25
task_short t = omega (arith, length-take t.name.bytes.len t.name.bytes.places, t.name.bytes.room)

pub same_list : (p : OpenPlan) → p.list ≡ p.list
same_list p = refl

pub same_list_on : (p q r : OpenPlan) → q.list ≡ p.list → r.list ≡ q.list → r.list ≡ p.list
same_list_on p q r e f = f ∙ e

pub same_plan_rules : (p q : OpenPlan) → q.list ≡ p.list → plan_rules q.list ≡ plan_rules p.list
same_plan_rules p q e = ap plan_rules e

pub row_short : (k : ℕ) (r : Row) → length (row_record k r) ≤ 25
row_short k r = lit≤ tt
