-- What the faults of files tell.
--
--   byte_refusal f       number, layer and place of the byte fault f
--   file_refusal row f   those of a file's fault: of its bytes, or of one of its rows, which tells what `row` says
--   list_refusal f       those of a list file's fault: of its bytes, or of one of its tasks
--   plan_file_refusal f  those of a plan file's fault: of its bytes, or of one of its rows
use Rattle.files.specs.declared.fault.ByteFault.{ByteFault}
use Rattle.files.specs.declared.fault.ByteFault.TheVariants.{TooLong, CutOff, WrongMark, WrongKind, WrongLength, WrongCount, BytesAfterEnd, ShortBuffer}
use Rattle.files.specs.declared.fault.FileFault.{FileFault}
use Rattle.files.specs.declared.fault.FileFault.TheVariants.{Bytes, Row}
use Rattle.planning.specs.Faults.{row_refusal}
use Rattle.tasks.specs.Faults.{told, task_refusal}
use Rattle.tasks.specs.declared.fault.Layer.TheVariants as layer
use Rattle.tasks.specs.declared.fault.Refusal.{Refusal}
use Rattle.tasks.specs.declared.fault.TaskFault.{TaskFault}
use Rattle.planning.specs.declared.fault.RowFault.{RowFault}

abbrev pub byte_refusal : ByteFault → Refusal
byte_refusal (TooLong p) = told layer.Bytes 1 p
byte_refusal (CutOff p) = told layer.Bytes 2 p
byte_refusal (WrongMark p) = told layer.Bytes 3 p
byte_refusal (WrongKind p) = told layer.Bytes 4 p
byte_refusal (WrongLength p) = told layer.Bytes 5 p
byte_refusal (WrongCount p) = told layer.Bytes 11 p
byte_refusal (BytesAfterEnd p) = told layer.Bytes 12 p
byte_refusal (ShortBuffer p) = told layer.Bytes 21 p

abbrev pub file_refusal : {F : Type 0} → (F → Refusal) → FileFault F → Refusal
file_refusal row (Bytes f) = byte_refusal f
file_refusal row (Row f) = row f

abbrev pub list_refusal : FileFault TaskFault → Refusal
list_refusal = file_refusal task_refusal

abbrev pub plan_file_refusal : FileFault RowFault → Refusal
plan_file_refusal = file_refusal row_refusal
