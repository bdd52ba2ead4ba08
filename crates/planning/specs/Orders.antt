-- What the rows of a plan keep, for a closed list l of n tasks.
--
--   new_plan_row r h     the row with the rank r and the hold h
--   no_row               the row of a task that is not placed
--   ranks rs, holds rs   the ranks, the holds of the rows rs
--   Ranked l m rs        each of the first m ranks is from 1 to n
--   Apart m rs           no two of the first m ranks are equal
--   Held l m hs          each of the first m holds is below its task's deadline
--   Prompt l m hs        each of the first m holds is 0 where its task is ASAP
--   RowsKeep l rs        the rows rs, one for each of the first tasks, keep all that
--   KeepsRules l rs      they are as many as the tasks, and keep it
--   above_in rs r        the set of the places in rs that have a rank above r
use Rattle.std.specs.Prelude.{◌≡◌, ℕ, ◌+◌, ◌*◌, ◌<◌, ◌≤◌, cond, List, [], ◌∷◌, map, length, nat_lt, slice_index}
use Rattle.tasks.specs.List.{listed, task_at}
use Rattle.tasks.specs.declared.list.TaskList.{TaskList}
use Rattle.tasks.specs.declared.task.Preference.TheVariants.{Asap}
use Rattle.analysis.specs.Demand.{deadline}
use Rattle.planning.specs.declared.plan.Row.{Row}

abbrev pub new_plan_row : ℕ → ℕ → Row
new_plan_row r h = record { rank = r; hold = h }

abbrev pub no_row : Row
no_row = new_plan_row 0 0

abbrev pub ranks : List Row → List ℕ
ranks rs = map (λ r. r.rank) rs

abbrev pub holds : List Row → List ℕ
holds rs = map (λ r. r.hold) rs

abbrev pub Ranked : TaskList → ℕ → List ℕ → Type 0
Ranked l m rs = (k : ℕ) → k < m → (1 ≤ slice_index rs k) × (slice_index rs k ≤ length (listed l))

abbrev pub Apart : ℕ → List ℕ → Type 0
Apart m rs = (j k : ℕ) → (j < m) × (k < m) × (slice_index rs j ≡ slice_index rs k) → j ≡ k

abbrev pub Held : TaskList → ℕ → List ℕ → Type 0
Held l m hs = (k : ℕ) → k < m → slice_index hs k < deadline l (task_at l k)

abbrev pub Prompt : TaskList → ℕ → List ℕ → Type 0
Prompt l m hs = (k : ℕ) → (k < m) × ((task_at l k).preference ≡ Asap) → slice_index hs k ≡ 0

pub record RowsKeep (l : TaskList) (rs : List Row) : Type 0 where
  pub few : length rs ≤ length (listed l)
  pub ranked : Ranked l (length rs) (ranks rs)
  pub apart : Apart (length rs) (ranks rs)
  pub held : Held l (length rs) (holds rs)
  pub prompt : Prompt l (length rs) (holds rs)

pub record KeepsRules (l : TaskList) (rs : List Row) : Type 0 where
  pub all : length rs ≡ length (listed l)
  pub keep : RowsKeep l rs

abbrev pub above_in : List ℕ → ℕ → ℕ
above_in [] r = 0
above_in (x ∷ xs) r = cond (nat_lt r x) 1 0 + 2 * above_in xs r
