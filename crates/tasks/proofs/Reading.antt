-- What is read of a list at a listed number is that task. Assumes nothing.
use Rattle.std.proofs.Common.{◌≡◌, ℕ, ◌<◌, ◌≤◌, List, length, get_or, ap, ◌∙◌, arith}
use Rattle.std.proofs.lemmas.List.{get_or_default, length-take-le}
use Rattle.tasks.specs.List.{listed, task_at, filler}
use Rattle.tasks.specs.declared.list.TaskList.{TaskList}
use Rattle.tasks.specs.declared.task.Task.{Task}

pub read_is : (l : TaskList) (xs : List Task) (k : ℕ) (x : Task) → xs ≡ listed l → k < length (listed l) → get_or xs k x ≡ task_at l k
unfolding task_at
read_is l xs k x e h = ap (λ ys. get_or ys k x) e ∙ get_or_default (listed l) k x filler h

pub listed_few : (l : TaskList) → length (listed l) ≤ 32
listed_few l = omega (arith, length-take-le l.tasks.len l.tasks.places (omega (arith, l.tasks.room)), l.tasks.room)
