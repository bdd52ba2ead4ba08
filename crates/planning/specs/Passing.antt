-- Orders that pass a test, at a list l whose test means `bound` there, and what one round does with them.
--
--   PassingOrder b l     an order of all tasks of l for which the test has a bound for every task below the tasks of greater rank
--   RoundPlaces b l U o  o is what a round over the set U of unplaced tasks chose: somebody, if some order passes and U has a task;
--                        and whoever is chosen is of U and has its bound below all others of U
use Rattle.std.specs.Prelude.{◌≡◌, ℕ, ◌<◌, true, List, length, take, is_some, Some, Option, slice_index}
use Rattle.tasks.specs.List.{listed}
use Rattle.tasks.specs.Set.{bit, without}
use Rattle.tasks.specs.declared.list.TaskList.{TaskList}
use Rattle.planning.specs.Orders.{Ranked, Apart, above_in}
use Rattle.planning.specs.declared.rounds.Candidate.{Candidate}

pub record PassingOrder (bound : ℕ → ℕ → Option ℕ) (l : TaskList) : Type 0 where
  pub ranks : List ℕ
  pub ranked : Ranked l (length (listed l)) ranks
  pub apart : Apart (length (listed l)) ranks
  pub passes : (k : ℕ) → k < length (listed l) → is_some (bound (above_in (take (length (listed l)) ranks) (slice_index ranks k)) k) ≡ true

pub record RoundPlaces (bound : ℕ → ℕ → Option ℕ) (l : TaskList) (U : ℕ) (o : Option Candidate) : Type 0 where
  pub somebody : PassingOrder bound l → (k : ℕ) → bit U k ≡ 1 → is_some o ≡ true
  pub of_the_set : (c : Candidate) → o ≡ Some c → bit U c.task ≡ 1
  pub bounded_below_the_rest : (c : Candidate) → o ≡ Some c → bound (without U c.task) c.task ≡ Some c.bound
