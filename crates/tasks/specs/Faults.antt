-- What a refusal tells.
--
--   layer_word l      the word of the layer l, as bytes
--   told l n p        the refusal with the number n that the layer l tells of the place p
--   task_refusal f    number, layer and place of the task fault f
use Rattle.std.specs.Prelude.{ℕ, List, codes}
use Rattle.tasks.specs.declared.fault.Layer.{Layer}
use Rattle.tasks.specs.declared.fault.Layer.TheVariants.{Bytes, Task, Plan, Run}
use Rattle.tasks.specs.declared.fault.Refusal.{Refusal}
use Rattle.tasks.specs.declared.fault.TaskFault.{TaskFault}
use Rattle.tasks.specs.declared.fault.TaskFault.TheVariants.{NameLength, UnknownPreference, ZeroCost, CostAbovePeriod, PeriodTooLong, TooManyTasks}

abbrev pub layer_word : Layer → List ℕ
layer_word Bytes = codes "bytes"
layer_word Task = codes "task"
layer_word Plan = codes "plan"
layer_word Run = codes "run"

abbrev pub told : Layer → ℕ → ℕ → Refusal
told l n p = record { number = n; layer = l; place = p }

abbrev pub task_refusal : TaskFault → Refusal
task_refusal (NameLength p) = told Task 5 p
task_refusal (UnknownPreference p) = told Task 6 p
task_refusal (ZeroCost p) = told Task 7 p
task_refusal (CostAbovePeriod p) = told Task 8 p
task_refusal (PeriodTooLong p) = told Task 9 p
task_refusal (TooManyTasks p) = told Task 10 p
