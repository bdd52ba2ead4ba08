-- Plan files, for a closed list l: what their bytes say, and how they are laid out.
--
--   plan_adds l at rs s            the rows after the record s at the place `at`, where rs are the rows before it, or what is wrong with it
--   plan_rules l                   what the records of a plan file do: a row is missing while there are fewer than tasks
--   decoded_plan l bs              the rows of the plan file bs, or what is wrong with it
--   ReadsPlan l bs old new a       reading the bytes bs for the list l answers a, and turns the lent plan `old` into `new`
--   row_body k r                   task number k, and rank and hold of the row r
--   row_record k r                 the record of the row r of task k
--   encoded_plan rs                the plan file of the rows rs with no notes
--   PlanFile l bs rs               bs is a plan file for the list l, and its rows are rs: they keep the rules of a plan for l
--   ReadsPlanFiles l bs new a      reading bs for l answers a, and is accepted exactly if bs is a plan file for l; the plan `new` then has its rows
use Rattle.std.specs.Prelude.{◌≡◌, ℕ, true, false, List, ◌∷◌, length, is_ok, Err, Result, nat_lt}
use Rattle.files.specs.Decoding.{Rules, unless, decoded_by, Says}
use Rattle.files.specs.Format.{Said, task, note, end, plan}
use Rattle.files.specs.Layout.{two_bytes, laid, encoded_by, FileOf, Accepts}
use Rattle.files.specs.declared.fault.ByteFault.TheVariants.{WrongKind}
use Rattle.files.specs.declared.fault.FileFault.{FileFault}
use Rattle.files.specs.declared.fault.FileFault.TheVariants.{Bytes}
use Rattle.files.specs.declared.record.FileKind.TheVariants.{Plan as PlanKind}
use Rattle.tasks.specs.List.{listed}
use Rattle.tasks.specs.declared.list.TaskList.{TaskList}
use Rattle.planning.specs.Orders.{new_plan_row, KeepsRules}
use Rattle.planning.specs.Plans.{list_of, rows}
use Rattle.planning.specs.Rows.{plan_row_fault}
use Rattle.planning.specs.declared.fault.RowFault.{RowFault}
use Rattle.planning.specs.declared.plan.Plan.{Plan}
use Rattle.planning.specs.declared.plan.Row.{Row}

abbrev pub plan_adds : TaskList → ℕ → List Row → Said → Result (List Row) (FileFault RowFault)
plan_adds l at rs (task p c q n) = Err (Bytes (WrongKind at))
plan_adds l at rs (note b) = Err (Bytes (WrongKind at))
plan_adds l at rs (end n) = Err (Bytes (WrongKind at))
plan_adds l at rs (plan k r h) = unless (plan_row_fault l rs at k r h) (new_plan_row r h) rs

abbrev pub plan_rules : TaskList → Rules Row RowFault
plan_rules l = record { kind = PlanKind; adds = plan_adds l; lacks = λ rs. nat_lt (length rs) (length (listed l)) }

abbrev pub decoded_plan : TaskList → List ℕ → Result (List Row) (FileFault RowFault)
decoded_plan l = decoded_by (plan_rules l)

pub record ReadsPlan (l : TaskList) (bs : List ℕ) (old new : Plan) (answer : Result (Unit {0}) (FileFault RowFault)) : Type 0 where
  pub says : Says (decoded_plan l bs) (rows new) answer
  pub list : is_ok answer ≡ true → list_of new ≡ l
  pub untouched : is_ok answer ≡ false → new ≡ old

abbrev pub row_body : ℕ → Row → List ℕ
row_body k r = k ∷ r.rank ∷ two_bytes r.hold

abbrev pub row_record : ℕ → Row → List ℕ
row_record k r = laid 4 (row_body k r)

abbrev pub encoded_plan : List Row → List ℕ
encoded_plan = encoded_by row_record

abbrev pub PlanFile : TaskList → List ℕ → List Row → Type 0
PlanFile l = FileOf row_record (KeepsRules l)

abbrev pub ReadsPlanFiles : TaskList → List ℕ → Plan → Result (Unit {0}) (FileFault RowFault) → Type 0
ReadsPlanFiles l bs new a = Accepts (PlanFile l bs) (rows new) a
