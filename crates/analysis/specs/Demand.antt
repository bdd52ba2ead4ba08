-- How much processor time is asked for.
--
--   charge l x         what one job of the task x asks of the processor, in ticks
--   deadline l x       how many ticks after its release a job of x is due
--   ceil t p           how many periods of p ticks begin in t ticks: t divided by p, rounded up
--   load l xs S t      what the tasks of S ask for in t ticks; xs are the tasks, S has a bit for each
--   demand l S i t     the demand of task i below the set S in t ticks: one job of i, and every job of S
use Rattle.std.specs.Prelude.{ℕ, ◌+◌, ◌-◌, ◌*◌, ◌/◌, ◌%◌, List, [], ◌∷◌}
use Rattle.tasks.specs.List.{listed, task_at}
use Rattle.tasks.specs.declared.list.TaskList.{TaskList}
use Rattle.tasks.specs.declared.task.Task.{Task}

abbrev pub charge : TaskList → Task → ℕ
charge l x = x.cost

abbrev pub deadline : TaskList → Task → ℕ
deadline l x = x.period

abbrev pub ceil : ℕ → ℕ → ℕ
ceil t p = (t + (p - 1)) / p

unfoldable pub load : TaskList → List Task → ℕ → ℕ → ℕ
load l [] S t = 0
load l (x ∷ xs) S t = S % 2 * (charge l x * ceil t x.period) + load l xs (S / 2) t

unfoldable pub demand : TaskList → ℕ → ℕ → ℕ → ℕ
demand l S i t = charge l (task_at l i) + load l (listed l) S t
