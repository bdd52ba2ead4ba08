-- Plans of lists that are written out, by the definitions alone.
--
--   task_of n p c q       the task with these parts, where they keep the limits
--   list_with ts          the closed list of the tasks ts
--   standing_list         the standing list
--   bounds_from l rs k n  the responses of n tasks of l from task k on, each below the tasks of greater rank by the ranks rs
--   Standing              the standing list's plan
use Rattle.std.specs.Prelude.{◌≡◌, ℕ, zero, suc, ◌-◌, T, List, [], ◌∷◌, ◌++◌, length, take, replicate, Some, codes, Option, ◌==◌, nat_le, slice_index}
use Rattle.std.proofs.Common.{leb→le, eqb→eq}
use Rattle.tasks.specs.List.{listed, rows, filler}
use Rattle.tasks.specs.Standing.{standing}
use Rattle.tasks.specs.declared.list.TaskList.{TaskList}
use Rattle.tasks.specs.declared.task.Preference.{Preference}
use Rattle.tasks.specs.declared.task.Preference.TheVariants.{Asap, Alap}
use Rattle.tasks.specs.declared.task.Task.{Task}
use Rattle.analysis.specs.Response.{response}
use Rattle.planning.specs.Orders.{ranks as ranks_of, holds as holds_of, above_in}
use Rattle.planning.specs.Rounds.{planned}

-- the name's bytes, with zeros behind them
abbrev padded : List ℕ → List ℕ
padded n = n ++ replicate (16 - length n) 0

abbrev pub task_of : (n : List ℕ) (p : Preference) (c q : ℕ) → T (nat_le 1 (length (take (length n) (padded n)))) → T (nat_le (length n) 16) → T (length (padded n) == 16) → T (nat_le 1 c) → T (nat_le c q) → T (nat_le q 60000) → Task
task_of n p c q n1 n2 n3 a b d = record {
  name = record { bytes = record { places = padded n; len = length n; room = (leb→le (length n) 16 n2, eqb→eq (length (padded n)) 16 n3) }; not_empty = leb→le 1 (length (take (length n) (padded n))) n1 };
  preference = p;
  cost = c;
  period = q;
  limits = (leb→le 1 c a, leb→le c q b, leb→le q 60000 d);
}

abbrev filled : List Task → List Task
filled ts = ts ++ replicate (32 - length ts) filler

abbrev pub list_with : (ts : List Task) → T (nat_le (length ts) 32) → T (length (filled ts) == 32) → TaskList
list_with ts a b = record { tasks = record { places = filled ts; len = length ts; room = (leb→le (length ts) 32 a, eqb→eq (length (filled ts)) 32 b) } }

abbrev pub standing_list : TaskList
standing_list =
    list_with
    (task_of (codes "antenna-a") Asap 1 5 tt tt tt tt tt tt
    ∷ task_of (codes "antenna-b") Asap 1 5 tt tt tt tt tt tt
    ∷ task_of (codes "pick") Asap 2 20 tt tt tt tt tt tt
    ∷ task_of (codes "beep") Asap 1 50 tt tt tt tt tt tt
    ∷ task_of (codes "card") Alap 4 50 tt tt tt tt tt tt
    ∷ task_of (codes "radio") Alap 5 100 tt tt tt tt tt tt
    ∷ task_of (codes "clock") Alap 2 200 tt tt tt tt tt tt
    ∷ task_of (codes "battery") Alap 1 1000 tt tt tt tt tt tt
    ∷ []) tt tt

abbrev pub bounds_from : TaskList → List ℕ → ℕ → ℕ → List (Option ℕ)
bounds_from l rs k zero = []
bounds_from l rs k (suc n) = response l (above_in rs (slice_index rs k)) k ∷ bounds_from l rs (suc k) n

pub record Standing : Type 0 where
  pub list : rows (listed standing_list) ≡ standing
  pub ranks : ranks_of (take 8 (planned (response standing_list) standing_list).rows) ≡ 7 ∷ 8 ∷ 6 ∷ 5 ∷ 4 ∷ 3 ∷ 2 ∷ 1 ∷ []
  pub bounds : bounds_from standing_list (7 ∷ 8 ∷ 6 ∷ 5 ∷ 4 ∷ 3 ∷ 2 ∷ 1 ∷ []) 0 8 ≡ Some 2 ∷ Some 1 ∷ Some 4 ∷ Some 5 ∷ Some 13 ∷ Some 20 ∷ Some 28 ∷ Some 29 ∷ []
  pub holds : holds_of (take 8 (planned (response standing_list) standing_list).rows) ≡ 0 ∷ 0 ∷ 0 ∷ 0 ∷ 37 ∷ 80 ∷ 172 ∷ 971 ∷ []
  pub questions : (planned (response standing_list) standing_list).questions ≡ 20
  pub left_over : (planned (response standing_list) standing_list).unplaced ≡ 0
