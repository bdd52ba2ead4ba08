-- Task lists, and what a row must keep to be added.
--
--   listed l, opened l      the tasks of a closed list, of an open list, in the order of their numbers
--   task_at l k             task k of the closed list l; past its end some task that keeps the limits
--   Row, row t, rows ts     what there is to know of a task: name, preference as a number, cost, period
--   new_row n p c q, row_said r     the row with these, the row that is handed in as r
--   limit_fault at p c q    what is wrong with the numbers of a row, if anything is; the fault names the place `at`
--   add_fault k at r        what is wrong with adding the row r to a list of k tasks, if anything is
--   Adds at r old new a     adding the row r, refused at the place `at`, turns `old` into `new` and answers a
use Rattle.std.specs.Prelude.{◌≡◌, ℕ, false, cond, List, [], ◌∷◌, ◌++◌, map, length, replicate, is_ok, Some, None, Option, Result, MatchResult, ◌==◌, nat_le, nat_lt, slice_index_or, refl}
use Rattle.std.proofs.Common.{lit≤}
use Rattle.fixed.specs.FixedVec.{elements}
use Rattle.tasks.specs.Task.{name_fits, name_of, preference_number}
use Rattle.tasks.specs.declared.fault.TaskFault.{TaskFault}
use Rattle.tasks.specs.declared.fault.TaskFault.TheVariants.{NameLength, UnknownPreference, ZeroCost, CostAbovePeriod, PeriodTooLong, TooManyTasks}
use Rattle.tasks.specs.declared.list.OpenList.{OpenList}
use Rattle.tasks.specs.declared.list.TaskList.{TaskList}
use Rattle.tasks.specs.declared.task.Preference.TheVariants.{Asap}
use Rattle.tasks.specs.declared.task.Task.{Task}
use Rattle.tasks.specs.declared.task.TaskRow.{TaskRow}

abbrev pub listed : TaskList → List Task
listed l = elements l.tasks

abbrev pub opened : OpenList → List Task
opened l = listed l.list

-- a task that keeps the limits, for places past a list's end
pub filler : Task
filler = record {
  name = record { bytes = record { places = replicate 16 0; len = 1; room = (lit≤ tt, refl) }; not_empty = lit≤ tt };
  preference = Asap;
  cost = 1;
  period = 1;
  limits = (lit≤ tt, lit≤ tt, lit≤ tt);
}

unfoldable pub task_at : TaskList → ℕ → Task
task_at l k = slice_index_or (listed l) k filler

pub record Row : Type 0 where
  pub name : List ℕ
  pub preference : ℕ
  pub cost : ℕ
  pub period : ℕ

abbrev pub new_row : List ℕ → ℕ → ℕ → ℕ → Row
new_row n p c q = record { name = n; preference = p; cost = c; period = q }

abbrev pub row_said : TaskRow → Row
row_said r = new_row r.name.now r.preference r.cost r.period

abbrev pub row : Task → Row
row t = new_row (name_of t.name) (preference_number t.preference) t.cost t.period

abbrev pub rows : List Task → List Row
rows ts = map row ts

abbrev pub limit_fault : ℕ → ℕ → ℕ → ℕ → Option TaskFault
limit_fault at p c q =
    cond (nat_lt 1 p) (Some (UnknownPreference at))
    (cond (c == 0) (Some (ZeroCost at))
    (cond (nat_lt q c) (Some (CostAbovePeriod at))
    (cond (nat_lt 60000 q) (Some (PeriodTooLong at)) None)))

abbrev pub or_else : Option TaskFault → Option TaskFault → Option TaskFault
or_else None other = other
or_else (Some f) other = Some f

abbrev pub add_fault : ℕ → ℕ → Row → Option TaskFault
add_fault k at r =
    or_else (limit_fault at r.preference r.cost r.period)
    (cond (nat_le 32 k) (Some (TooManyTasks at))
    (cond (name_fits r.name) None (Some (NameLength at))))

pub record Adds (at : ℕ) (r : Row) (old new : OpenList) (answer : Result ℕ TaskFault) : Type 0 where
  pub number : MatchResult answer (λ k. (add_fault (length (opened old)) at r ≡ None) × (k ≡ length (opened old))) (λ f. add_fault (length (opened old)) at r ≡ Some f)
  pub tasks : rows (opened new) ≡ cond (is_ok answer) (rows (opened old) ++ r ∷ []) (rows (opened old))
  pub untouched : is_ok answer ≡ false → new ≡ old
