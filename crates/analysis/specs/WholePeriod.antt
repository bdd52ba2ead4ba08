-- The bound of the whole-period test.
--
--   within d limit        d, if it is at most the limit
--   whole_period l S i    the demand of task i below S over its whole deadline, if that is at most the deadline
use Rattle.std.specs.Prelude.{ℕ, cond, Some, None, Option, nat_le}
use Rattle.tasks.specs.List.{task_at}
use Rattle.tasks.specs.declared.list.TaskList.{TaskList}
use Rattle.analysis.specs.Demand.{deadline, demand}

abbrev pub within : ℕ → ℕ → Option ℕ
within d limit = cond (nat_le d limit) (Some d) None

unfoldable pub whole_period : TaskList → ℕ → ℕ → Option ℕ
whole_period l S i = within (demand l S i (deadline l (task_at l i))) (deadline l (task_at l i))
