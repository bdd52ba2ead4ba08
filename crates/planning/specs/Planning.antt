-- What planning answers and writes, for a list l of n tasks at a test whose meaning there is `bound`.
--
--   tally b l          how planning ends: placed and left over are all n tasks
--   answered t         the answer with the tally t: refused if a task is left over
--   Written b l p      the plan p has the list, and the rows that the rounds gave; behind them lie those of no task
--   Few l t            at most n(n+1)/2 questions were put
--   RowsDecide l       every list with the rows of l comes to the same end by the exact test
--   Whole l t          the tasks placed and the ones of the set left over are together n
use Rattle.std.specs.Prelude.{◌≡◌, ℕ, ◌+◌, ◌-◌, ◌*◌, ◌≤◌, cond, length, take, Ok, Err, Option, Result, ◌==◌, count_ones}
use Rattle.tasks.specs.List.{listed, rows}
use Rattle.tasks.specs.declared.list.TaskList.{TaskList}
use Rattle.analysis.specs.Response.{response}
use Rattle.planning.specs.Plans.{list_of, rows as plan_rows}
use Rattle.planning.specs.Rounds.{planned}
use Rattle.planning.specs.declared.fault.PlanFault.{PlanFault}
use Rattle.planning.specs.declared.fault.PlanFault.TheVariants.{LeftOver}
use Rattle.planning.specs.declared.fault.Tally.{Tally}
use Rattle.planning.specs.declared.plan.Plan.{Plan}

abbrev pub tally : (ℕ → ℕ → Option ℕ) → TaskList → Tally
tally bound l = record {
  placed = length (listed l) - count_ones (planned bound l).unplaced;
  questions = (planned bound l).questions;
  left = (planned bound l).unplaced;
}

abbrev pub answered : Tally → Result Tally PlanFault
answered t = cond (t.left == 0) (Ok t) (Err (LeftOver t))

pub record Written (bound : ℕ → ℕ → Option ℕ) (l : TaskList) (p : Plan) : Type 0 where
  pub list : list_of p ≡ l
  pub rows : plan_rows p ≡ take (length (listed l)) (planned bound l).rows
  pub places : p.made.rows.places ≡ (planned bound l).rows

abbrev pub Few : TaskList → Tally → Type 0
Few l t = 2 * t.questions ≤ length (listed l) * (length (listed l) + 1)

abbrev pub Whole : TaskList → Tally → Type 0
Whole l t = t.placed + count_ones t.left ≡ length (listed l)

abbrev pub RowsDecide : TaskList → Type 0
RowsDecide l = (m : TaskList) → rows (listed m) ≡ rows (listed l) → planned (response m) m ≡ planned (response l) l
