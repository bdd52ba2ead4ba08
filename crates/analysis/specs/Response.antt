-- The response of a task below a set: the smallest number of ticks in which its demand is met.
--
--   Response l S i r     r is the response of task i below S: from 1 to the deadline, the demand in r ticks is at most r,
--                        and no smaller number of ticks from 1 on has that
--   Smallest l S i o     o is that response, or none where no number of ticks from 1 to the deadline meets its demand
--   least f from n       the least of the n numbers from `from` on that passes the test f, if one does
--   response l S i       the response of task i below S, if there is one
use Rattle.std.specs.Prelude.{ℕ, zero, suc, ◌<◌, ◌≤◌, Bool, cond, Some, None, Option, nat_le}
use Rattle.tasks.specs.List.{task_at}
use Rattle.tasks.specs.declared.list.TaskList.{TaskList}
use Rattle.analysis.specs.Demand.{deadline, demand}

pub record Response (l : TaskList) (S i r : ℕ) : Type 0 where
  pub positive : 1 ≤ r
  pub in_time : r ≤ deadline l (task_at l i)
  pub met : demand l S i r ≤ r
  pub smallest : (t : ℕ) → 1 ≤ t → t < r → t < demand l S i t

abbrev pub Smallest : TaskList → ℕ → ℕ → Option ℕ → Type 0
Smallest l S i None = (t : ℕ) → 1 ≤ t → t ≤ deadline l (task_at l i) → t < demand l S i t
Smallest l S i (Some r) = Response l S i r

abbrev pub least : (ℕ → Bool) → ℕ → ℕ → Option ℕ
least f from zero = None
least f from (suc n) = cond (f from) (Some from) (least f (suc from) n)

unfoldable pub response : TaskList → ℕ → ℕ → Option ℕ
response l S i = least (λ t. nat_le (demand l S i t) t) 1 (deadline l (task_at l i))
