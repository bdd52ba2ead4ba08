-- List files: what their bytes say, and how they are laid out.
--
--   list_adds at rs s   the rows after the record s at the place `at`, where rs are the rows before it, or what is wrong with it
--   list_rules          what the records of a list file do: no row is ever missing
--   decoded bs          the rows of the list file bs, or what is wrong with it
--   Reads bs old new a  reading the bytes bs answers a, and turns the lent list `old` into `new`
--   task_body r         preference, cost, period and name of the row r
--   task_record r       the record of the row r
--   encoded rs          the list file of the rows rs with no notes
--   KeepsLimits r       the row r keeps the limits of a task
--   IsList rs           they are at most 32 rows, and each keeps the limits
--   ListFile bs rs      bs is a list file, and its tasks have the rows rs
--   ReadsFiles bs new a reading bs answers a, and is accepted exactly if bs is a list file; the list `new` then has its rows
use Rattle.std.specs.Prelude.{◌≡◌, ℕ, ◌≤◌, false, List, ◌∷◌, ◌++◌, length, is_ok, Err, Result}
use Rattle.std.specs.List.{AllByRecursion}
use Rattle.files.specs.Decoding.{Rules, unless, decoded_by, Says}
use Rattle.files.specs.Format.{Said, task, note, end, plan}
use Rattle.files.specs.Layout.{two_bytes, laid, encoded_by, FileOf, Accepts}
use Rattle.files.specs.declared.fault.ByteFault.TheVariants.{WrongKind}
use Rattle.files.specs.declared.fault.FileFault.{FileFault}
use Rattle.files.specs.declared.fault.FileFault.TheVariants.{Bytes}
use Rattle.files.specs.declared.record.FileKind.TheVariants.{List as ListKind}
use Rattle.tasks.specs.List.{Row, new_row, rows, listed, add_fault}
use Rattle.tasks.specs.declared.fault.TaskFault.{TaskFault}
use Rattle.tasks.specs.declared.list.TaskList.{TaskList}

abbrev pub list_adds : ℕ → List Row → Said → Result (List Row) (FileFault TaskFault)
list_adds at rs (task p c q n) = unless (add_fault (length rs) at (new_row n p c q)) (new_row n p c q) rs
list_adds at rs (note b) = Err (Bytes (WrongKind at))
list_adds at rs (end n) = Err (Bytes (WrongKind at))
list_adds at rs (plan t r h) = Err (Bytes (WrongKind at))

abbrev pub list_rules : Rules Row TaskFault
list_rules = record { kind = ListKind; adds = list_adds; lacks = λ _. false }

abbrev pub decoded : List ℕ → Result (List Row) (FileFault TaskFault)
decoded = decoded_by list_rules

pub record Reads (bs : List ℕ) (old new : TaskList) (answer : Result (Unit {0}) (FileFault TaskFault)) : Type 0 where
  pub says : Says (decoded bs) (rows (listed new)) answer
  pub untouched : is_ok answer ≡ false → new ≡ old

abbrev pub task_body : Row → List ℕ
task_body r = r.preference ∷ (two_bytes r.cost ++ (two_bytes r.period ++ r.name))

abbrev pub task_record : Row → List ℕ
task_record r = laid 1 (task_body r)

abbrev pub encoded : List Row → List ℕ
encoded = encoded_by (λ _ r. task_record r)

pub record KeepsLimits (r : Row) : Type 0 where
  pub preference : r.preference ≤ 1
  pub some_cost : 1 ≤ r.cost
  pub cost : r.cost ≤ r.period
  pub period : r.period ≤ 60000
  pub named : 1 ≤ length r.name
  pub name : length r.name ≤ 16

pub record IsList (rs : List Row) : Type 0 where
  pub few : length rs ≤ 32
  pub limits : AllByRecursion KeepsLimits rs

abbrev pub ListFile : List ℕ → List Row → Type 0
ListFile = FileOf (λ _ r. task_record r) IsList

abbrev pub ReadsFiles : List ℕ → TaskList → Result (Unit {0}) (FileFault TaskFault) → Type 0
ReadsFiles bs new a = Accepts (ListFile bs) (rows (listed new)) a
