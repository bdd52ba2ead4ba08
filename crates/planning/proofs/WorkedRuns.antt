-- Runs of three plans of the four tasks, settled by computing the definitions. Assumes nothing.
use Rattle.std.proofs.Common.{◌≡◌, ℕ, zero, suc, ◌<◌, ◌≤◌, ◌≢◌, List, [], ◌∷◌, ◌++◌, get_or, replicate, refl, arith}
use Rattle.tasks.specs.List.{task_at}
use Rattle.tasks.specs.declared.task.Preference.TheVariants.{Asap}
use Rattle.analysis.specs.Demand.{deadline}
use Rattle.planning.specs.Orders.{new_plan_row, no_row, ranks as ranks_of, holds as holds_of}
use Rattle.planning.specs.Replays.{pends_now, pick_below, entry_for}
use Rattle.planning.specs.WorkedRuns.{four_tasks, PlanWith, FourTasksRun}
use Rattle.planning.specs.declared.plan.Row.{Row}

-- what holds of 0 to 3 holds of every number below 4
of_four : (P : ℕ → Type 0) → P 0 → P 1 → P 2 → P 3 → (k : ℕ) → k < 4 → P k
of_four P a b c d zero h = a
of_four P a b c d (suc zero) h = b
of_four P a b c d (suc (suc zero)) h = c
of_four P a b c d (suc (suc (suc zero))) h = d
of_four P a b c d (suc (suc (suc (suc k)))) h = absurd (omega arith)

-- ranks a to d, and holds x and y of the two ALAP tasks, that a plan of the four tasks may have
record MayHave (a b c d x y : ℕ) : Type 0 where
  ranked : (1 ≤ a) × (a ≤ 4) × (1 ≤ b) × (b ≤ 4) × (1 ≤ c) × (c ≤ 4) × (1 ≤ d) × (d ≤ 4)
  apart : (a ≢ b) × (a ≢ c) × (a ≢ d) × (b ≢ c) × (b ≢ d) × (c ≢ d)
  held : (x < 5) × (y < 10)

module _ (a b c d x y : ℕ) (may : MayHave a b c d x y) where
  four_rows : List Row
  four_rows = new_plan_row a 0 ∷ new_plan_row b 0 ∷ new_plan_row c x ∷ new_plan_row d y ∷ []

  abbrev ranks : List ℕ
  ranks = ranks_of four_rows

  abbrev holds : List ℕ
  holds = holds_of four_rows

  four_ranked : (k : ℕ) → k < 4 → (1 ≤ get_or ranks k 0) × (get_or ranks k 0 ≤ 4)
  unfolding four_rows
  four_ranked = of_four (λ k. (1 ≤ get_or ranks k 0) × (get_or ranks k 0 ≤ 4)) (omega arith) (omega arith) (omega arith) (omega arith)

  four_apart : (j k : ℕ) → (j < 4) × (k < 4) × (get_or ranks j 0 ≡ get_or ranks k 0) → j ≡ k
  unfolding four_rows
  four_apart j k e =
      let row : (i : ℕ) → (get_or ranks i 0 ≡ get_or ranks 0 0 → i ≡ 0) → (get_or ranks i 0 ≡ get_or ranks 1 0 → i ≡ 1) → (get_or ranks i 0 ≡ get_or ranks 2 0 → i ≡ 2) → (get_or ranks i 0 ≡ get_or ranks 3 0 → i ≡ 3) → (k : ℕ) → k < 4 → get_or ranks i 0 ≡ get_or ranks k 0 → i ≡ k =
      λ i. of_four (λ k. get_or ranks i 0 ≡ get_or ranks k 0 → i ≡ k) in
      of_four (λ j. (k : ℕ) → k < 4 → get_or ranks j 0 ≡ get_or ranks k 0 → j ≡ k)
      (row 0 (λ s. omega arith) (λ s. omega arith) (λ s. omega arith) (λ s. omega arith))
      (row 1 (λ s. omega arith) (λ s. omega arith) (λ s. omega arith) (λ s. omega arith))
      (row 2 (λ s. omega arith) (λ s. omega arith) (λ s. omega arith) (λ s. omega arith))
      (row 3 (λ s. omega arith) (λ s. omega arith) (λ s. omega arith) (λ s. omega arith))
      j e.0 k e.1 e.2

  four_held : (k : ℕ) → k < 4 → get_or holds k 0 < deadline four_tasks (task_at four_tasks k)
  unfolding four_rows task_at
  four_held = of_four (λ k. get_or holds k 0 < deadline four_tasks (task_at four_tasks k)) (omega arith) (omega arith) (omega arith) (omega arith)

  four_prompt : (k : ℕ) → (k < 4) × ((task_at four_tasks k).preference ≡ Asap) → get_or holds k 0 ≡ 0
  unfolding four_rows task_at
  four_prompt k e =
      of_four (λ k. (task_at four_tasks k).preference ≡ Asap → get_or holds k 0 ≡ 0)
      (λ _. refl) (λ _. refl)
      (λ q. cc)
      (λ q. cc)
      k e.0 e.1

  four : PlanWith (a ∷ b ∷ c ∷ d ∷ []) (0 ∷ 0 ∷ x ∷ y ∷ [])
  unfolding four_rows
  four = record {
    plan = record {
      made = record {
        list = four_tasks;
        rows = record { places = four_rows ++ replicate 28 no_row; len = 4; room = (omega arith, refl) };
        keep = record { few = omega arith; ranked = four_ranked; apart = four_apart; held = four_held; prompt = four_prompt };
      };
      full = refl;
    };
    list = refl;
    ranks = refl;
    holds = refl;
  }

pub four_tasks_run : FourTasksRun
unfolding four four_rows task_at pends_now pick_below entry_for
four_tasks_run = record {
  held_by_hand = record { of = four 4 2 3 1 3 2 (omega arith); runs = refl };
  as_planned = record { of = four 4 3 2 1 0 2 (omega arith); runs = refl };
  held_too_long = record { of = four 4 3 2 1 0 3 (omega arith); released_are = refl; due_are = refl; kept_are = refl; missed_are = refl; idle_are = refl; runs = refl };
  refuses = record { of = four 4 3 2 1 0 2 (omega arith); notes = refl };
}
