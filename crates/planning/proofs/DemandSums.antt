-- Demand as a sum over the listed tasks, and the demand on a task below the tasks of greater rank by the ranks. Assumes nothing.
use Rattle.std.proofs.Common.{◌≡◌, ℕ, zero, suc, ◌+◌, ◌*◌, ◌/◌, ◌%◌, ltb, List, [], ◌∷◌, length, get_or, sym, refl, ap, ◌∙◌, arith}
use Rattle.tasks.specs.List.{listed, task_at, filler}
use Rattle.tasks.specs.Set.{bit}
use Rattle.tasks.specs.declared.list.TaskList.{TaskList}
use Rattle.tasks.specs.declared.task.Task.{Task}
use Rattle.analysis.specs.Demand.{charge, ceil, load, demand}
use Rattle.planning.specs.Counts.{sum_below, count_if}
use Rattle.planning.specs.Plans.{list_of, size, rank_of, above, charge_of, period_of}
use Rattle.planning.specs.declared.plan.Plan.{Plan}
use Rattle.planning.proofs.Above.{above_bit}
use Rattle.planning.proofs.Sums.{sum_same}

sum_front : (n : ℕ) (f : ℕ → ℕ) → sum_below (suc n) f ≡ f 0 + sum_below n (λ k. f (suc k))
sum_front zero f = refl
sum_front (suc n) f = omega (arith, sum_front n f)

load_sum : (l : TaskList) (xs : List Task) (S t : ℕ) → load l xs S t ≡ sum_below (length xs) (λ k. bit S k * (charge l (get_or xs k filler) * ceil t (get_or xs k filler).period))
unfolding load
load_sum l [] S t = refl
load_sum l (x ∷ xs) S t =
    ap (λ n. S % 2 * (charge l x * ceil t x.period) + n) (load_sum l xs (S / 2) t)
    ∙ sym (sum_front (length xs) (λ k. bit S k * (charge l (get_or (x ∷ xs) k filler) * ceil t (get_or (x ∷ xs) k filler).period)))

-- what each task of greater rank than i asks for in t ticks
abbrev pub asked : Plan → ℕ → ℕ → ℕ → ℕ
asked p i t k = count_if (ltb (rank_of p i) (rank_of p k)) * (charge_of p k * ceil t (period_of p k))

pub demand_above : (p : Plan) (i t : ℕ) → demand (list_of p) (above p i) i t ≡ charge_of p i + sum_below (size p) (asked p i t)
unfolding demand task_at above
demand_above p i t =
    ap (λ n. charge_of p i + n)
    (load_sum (list_of p) (listed (list_of p)) (above p i) t
    ∙ sum_same (size p) _ (asked p i t) (λ k h. ap (λ b. b * (charge_of p k * ceil t (period_of p k))) (above_bit p i k)))
