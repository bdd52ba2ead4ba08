-- What holds of a draft after every round, for a list l of n tasks at a test whose meaning there is `bound`.
--
--   rank_in d k, held_in d k  the rank and the hold of task k in the draft d
--   WellPlaced b l d k        task k was placed with the test's bound below a set that has every task which is still unplaced
--                             or has a greater rank, and it is held for as long as that bound leaves
--   Drafted b l m d           m tasks are placed: their ranks are different and go from 1 to m, each is well placed,
--                             and the others are the unplaced set
--   FewAsked l d              the questions put, and as many as the unplaced tasks can still take, are at most n(n+1)/2
use Rattle.std.specs.Prelude.{◌≡◌, ℕ, ◌+◌, ◌-◌, ◌*◌, ◌^◌, ◌<◌, ◌≤◌, ◌⊎◌, length, Some, Option, count_ones, slice_index}
use Rattle.tasks.specs.List.{listed, task_at}
use Rattle.tasks.specs.Set.{bit}
use Rattle.tasks.specs.declared.list.TaskList.{TaskList}
use Rattle.analysis.specs.Demand.{deadline}
use Rattle.analysis.specs.Question.{Premises}
use Rattle.planning.specs.Orders.{ranks, holds}
use Rattle.planning.specs.Rounds.{hold_by}
use Rattle.planning.specs.declared.rounds.Draft.{Draft}

abbrev pub rank_in : Draft → ℕ → ℕ
rank_in d k = slice_index (ranks d.rows) k

abbrev pub held_in : Draft → ℕ → ℕ
held_in d k = slice_index (holds d.rows) k

pub record WellPlaced (bound : ℕ → ℕ → Option ℕ) (l : TaskList) (d : Draft) (k : ℕ) : Type 0 where
  pub below : ℕ
  pub limit : ℕ
  pub asked : Premises l below k
  pub bounded : bound below k ≡ Some limit
  pub covers : (j : ℕ) → j < length (listed l) → (bit d.unplaced j ≡ 1) ⊎ (rank_in d k < rank_in d j) → bit below j ≡ 1
  pub held : held_in d k ≡ hold_by (task_at l k).preference (deadline l (task_at l k) - limit)

pub record Drafted (bound : ℕ → ℕ → Option ℕ) (l : TaskList) (m : ℕ) (d : Draft) : Type 0 where
  pub sized : m + count_ones d.unplaced ≡ length (listed l)
  pub word : d.unplaced < 2 ^ length (listed l)
  pub long : length d.rows ≡ 32
  pub ranked : (k : ℕ) → k < length (listed l) → bit d.unplaced k ≡ 0 → (1 ≤ rank_in d k) × (rank_in d k ≤ m)
  pub apart : (j k : ℕ) → j < length (listed l) → k < length (listed l) → bit d.unplaced j ≡ 0 → bit d.unplaced k ≡ 0 → rank_in d j ≡ rank_in d k → j ≡ k
  pub well : (k : ℕ) → k < length (listed l) → bit d.unplaced k ≡ 0 → WellPlaced bound l d k

abbrev pub FewAsked : TaskList → Draft → Type 0
FewAsked l d = 2 * d.questions + count_ones d.unplaced * (count_ones d.unplaced + 1) ≤ length (listed l) * (length (listed l) + 1)
