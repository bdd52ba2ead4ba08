-- What the faults of planning tell.
--
--   plan_refusal f    number, layer and place of the planning fault f
--   row_refusal f     number, layer and place of the row fault f
use Rattle.tasks.specs.Faults.{told}
use Rattle.tasks.specs.declared.fault.Layer.TheVariants.{Plan}
use Rattle.tasks.specs.declared.fault.Refusal.{Refusal}
use Rattle.planning.specs.declared.fault.PlanFault.{PlanFault}
use Rattle.planning.specs.declared.fault.PlanFault.TheVariants.{LeftOver}
use Rattle.planning.specs.declared.fault.RowFault.{RowFault}
use Rattle.planning.specs.declared.fault.RowFault.TheVariants.{WrongTask, WrongRank, WrongHold}

abbrev pub plan_refusal : PlanFault → Refusal
plan_refusal (LeftOver t) = told Plan 16 t.left

abbrev pub row_refusal : RowFault → Refusal
row_refusal (WrongTask p) = told Plan 13 p
row_refusal (WrongRank p) = told Plan 14 p
row_refusal (WrongHold p) = told Plan 15 p
