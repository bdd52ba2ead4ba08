-- Plans: what can be read of one, and when it is good.
--
--   list_of p          the list that the plan p is for
--   open_rows p, rows p    the rows of the open plan p so far, and of the plan p, in task order
--   size p             how many tasks the plan p has
--   rank_of p k        the rank of task k; a greater rank goes first
--   held_for p k       the hold of task k
--   charge_of p k, deadline_of p k, period_of p k    what a job of task k asks for, when it is due, how far releases lie apart
--   above p k          the set of the tasks of greater rank than task k
--   InTime p k         task k has a response below the tasks of greater rank that, after its hold, is at most its deadline
--   Fits p             every task of the plan is in time
use Rattle.std.specs.Prelude.{ℕ, ◌+◌, ◌<◌, ◌≤◌, List, length, slice_index}
use Rattle.fixed.specs.FixedVec.{elements}
use Rattle.tasks.specs.List.{listed, task_at}
use Rattle.tasks.specs.declared.list.TaskList.{TaskList}
use Rattle.analysis.specs.Demand.{charge, deadline}
use Rattle.analysis.specs.Response.{Response}
use Rattle.planning.specs.Orders.{ranks, holds, above_in}
use Rattle.planning.specs.declared.plan.OpenPlan.{OpenPlan}
use Rattle.planning.specs.declared.plan.Plan.{Plan}
use Rattle.planning.specs.declared.plan.Row.{Row}

abbrev pub open_rows : OpenPlan → List Row
open_rows p = elements p.rows

abbrev pub list_of : Plan → TaskList
list_of p = p.made.list

abbrev pub rows : Plan → List Row
rows p = open_rows p.made

abbrev pub size : Plan → ℕ
size p = length (listed (list_of p))

abbrev pub rank_of : Plan → ℕ → ℕ
rank_of p k = slice_index (ranks (rows p)) k

abbrev pub held_for : Plan → ℕ → ℕ
held_for p k = slice_index (holds (rows p)) k

abbrev pub charge_of : Plan → ℕ → ℕ
charge_of p k = charge (list_of p) (task_at (list_of p) k)

abbrev pub deadline_of : Plan → ℕ → ℕ
deadline_of p k = deadline (list_of p) (task_at (list_of p) k)

abbrev pub period_of : Plan → ℕ → ℕ
period_of p k = (task_at (list_of p) k).period

unfoldable pub above : Plan → ℕ → ℕ
above p k = above_in (ranks (rows p)) (rank_of p k)

pub record InTime (p : Plan) (k : ℕ) : Type 0 where
  pub ticks : ℕ
  pub response : Response (list_of p) (above p k) k ticks
  pub fits : held_for p k + ticks ≤ deadline (list_of p) (task_at (list_of p) k)

abbrev pub Fits : Plan → Type 0
Fits p = (k : ℕ) → k < size p → InTime p k
