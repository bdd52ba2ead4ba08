-- If some order passes, a round over a set with a task chooses somebody.
-- Of the set, take the task of least rank in that order: ranks are apart, so the others of the set all have greater ranks. The test has
-- a bound for it below all tasks of greater rank, and by the first law one below the others of the set, which are fewer. So it is
-- eligible, whatever its preference, and a round chooses nobody only if nobody is.
-- Likewise the ranks of a draft that places all are an order that passes: each task was placed with a bound below a set that has every
-- task of greater rank, so it has one below just those. Assumes nothing.
use Rattle.std.proofs.Common.{◌≡◌, ℕ, zero, suc, ◌<◌, ◌≤◌, true, List, length, get_or, take, is_some, Some, None, Option, sym, refl, ap, ◌∙◌, subst, ⊎_elim, arith}
use Rattle.std.proofs.lemmas.Bool.{cases_eq, cases_lt, true≢false}
use Rattle.tasks.specs.List.{listed}
use Rattle.tasks.specs.Set.{bit, without, Within}
use Rattle.tasks.specs.declared.list.TaskList.{TaskList}
use Rattle.tasks.proofs.SetLaws.{bit_le, one_or_none, bit_without_same, bit_without_other}
use Rattle.analysis.specs.Question.{Premises}
use Rattle.planning.specs.Choices.{RoundChooses}
use Rattle.planning.specs.Drafts.{rank_in, Drafted}
use Rattle.planning.specs.Orders.{ranks as ranks_of, above_in}
use Rattle.planning.specs.Passing.{PassingOrder, RoundPlaces}
use Rattle.planning.specs.Rounds.{round}
use Rattle.planning.specs.declared.rounds.Candidate.{Candidate}
use Rattle.planning.specs.declared.rounds.Draft.{Draft}
use Rattle.planning.specs.declared.rounds.Found.{Found}
use Rattle.planning.proofs.Above.{rank_more, rank_premises}
use Rattle.planning.proofs.Choosing.{round_chooses, chose_nobody}
use Rattle.planning.proofs.Finishing.{finished_ranked, finished_apart, finished_well, placed_within}
use Rattle.planning.proofs.Searching.{round_chosen}

-- the first law of tests, at one list
abbrev pub Fewer : (ℕ → ℕ → Option ℕ) → TaskList → Type 0
Fewer bound l = (a s i b : ℕ) → Premises l s i → Within a s → bound s i ≡ Some b → (c : ℕ) × (bound a i ≡ Some c) × (c ≤ b)

-- ---- the task of least rank

-- a task of U whose rank is at most that of any task of U below n
record Lowest (rs : List ℕ) (U n : ℕ) : Type 0 where
  task : ℕ
  in_set : bit U task ≡ 1
  least : (j : ℕ) → j < n → bit U j ≡ 1 → get_or rs task 0 ≤ get_or rs j 0

module _ (rs : List ℕ) (U : ℕ) where
  -- whoever has a rank at most that of the lowest so far and that of the next task of U is the lowest of both
  of_both : (n k : ℕ) (low : Lowest rs U n) → bit U k ≡ 1 → get_or rs k 0 ≤ get_or rs low.task 0 → (bit U n ≡ 1 → get_or rs k 0 ≤ get_or rs n 0) → Lowest rs U (suc n)
  of_both n k low i h next = record {
    task = k;
    in_set = i;
    least = λ j b e.
        ⊎_elim
        (λ (same : j ≡ n). omega (arith, ap (λ t. get_or rs t 0) same, next (ap (bit U) (sym same) ∙ e)))
        (λ (other : j ≡ n → ⊥). omega (arith, h, low.least j (omega arith) e))
        (cases_eq j n);
  }

  next_task : (n : ℕ) → Lowest rs U n → Lowest rs U (suc n)
  next_task n low =
      ⊎_elim
      (λ (here : bit U n ≡ 1). ⊎_elim
      (λ (less : get_or rs n 0 < get_or rs low.task 0). of_both n n low here (omega arith) (λ _. omega arith))
      (λ (more : get_or rs low.task 0 ≤ get_or rs n 0). of_both n low.task low low.in_set (omega arith) (λ _. more))
      (cases_lt (get_or rs n 0) (get_or rs low.task 0)))
      (λ (lacks : bit U n ≡ 0). of_both n low.task low low.in_set (omega arith) (λ e. omega arith))
      (one_or_none U n)

  -- a set with a task has a task of least rank
  lowest : (n k : ℕ) → bit U k ≡ 1 → Lowest rs U n
  lowest zero k i = record { task = k; in_set = i; least = λ j h e. omega arith }
  lowest (suc n) k i = next_task n (lowest n k i)

-- ---- a round

some_is : (o : Option ℕ) → is_some o ≡ true → (b : ℕ) × (o ≡ Some b)
some_is None e = absurd (true≢false (sym e))
some_is (Some b) e = (b, refl)

module _ (bound : ℕ → ℕ → Option ℕ) (l : TaskList) (U : ℕ) (fewer : Fewer bound l) (all : (k : ℕ) → bit U k ≡ 1 → k < length (listed l)) where
  module _ (order : PassingOrder bound l) (low : Lowest order.ranks U (length (listed l))) where
    abbrev rank : ℕ → ℕ
    rank k = get_or order.ranks k 0

    -- the tasks of greater rank than the lowest of the set
    abbrev higher : ℕ
    higher = above_in (take (length (listed l)) order.ranks) (rank low.task)

    -- the others of the set have greater ranks
    others_higher : Within (without U low.task) higher
    others_higher j =
        let n = length (listed l) in
        let k = low.task in
        ⊎_elim
        (λ (same : j ≡ k). omega (arith, ap (bit (without U k)) same, bit_without_same U k))
        (λ (other : j ≡ k → ⊥). ⊎_elim
        (λ (one : bit U j ≡ 1).
        let apart : rank j ≡ rank k → ⊥ = λ e. other (order.apart j k (all j one, all k low.in_set, e)) in
        omega (arith, bit_le (without U k) j, rank_more n order.ranks (rank k) j (all j one) (omega (arith, low.least j (all j one) one, apart))))
        (λ (none : bit U j ≡ 0). omega (arith, bit_without_other U k j other))
        (one_or_none U j))
        (cases_eq j k)

    lowest_bounded : (b : ℕ) × (bound (without U low.task) low.task ≡ Some b)
    lowest_bounded =
        let k = low.task in
        let below = all k low.in_set in
        let met = some_is (bound higher k) (order.passes k below) in
        let c = fewer (without U k) higher k met.0 (rank_premises l order.ranks k below) others_higher met.1 in
        (c.0, c.1)

  chooses_somebody : (o : Option Candidate) → RoundChooses bound l U o → PassingOrder bound l → (k : ℕ) → bit U k ≡ 1 → is_some o ≡ true
  chooses_somebody (Some c) chosen order k i = refl
  chooses_somebody None none order k i =
      let low = lowest order.ranks U (length (listed l)) k i in
      let met = lowest_bounded order low in
      absurd (chose_nobody bound l U all none low.task met.0 low.in_set met.1)

pub round_places : (bound : ℕ → ℕ → Option ℕ) (l : TaskList) (U : ℕ) → Fewer bound l → ((k : ℕ) → bit U k ≡ 1 → k < length (listed l)) → RoundPlaces bound l U (round bound l U).best
round_places bound l U fewer all = record {
  somebody = chooses_somebody bound l U fewer all (round bound l U).best (round_chooses bound l U);
  of_the_set = λ c e. (round_chosen bound l U c e).in_set;
  bounded_below_the_rest = λ c e. (round_chosen bound l U c e).bounded;
}

-- what the code found is what a round finds
pub found_places : (bound : ℕ → ℕ → Option ℕ) (l : TaskList) (U : ℕ) (f : Found) → f ≡ round bound l U → Fewer bound l → ((k : ℕ) → bit U k ≡ 1 → k < length (listed l)) → RoundPlaces bound l U f.best
found_places bound l U f e fewer all = subst (λ g. RoundPlaces bound l U g.best) (sym e) (round_places bound l U fewer all)

-- ---- a draft that places all

pub passing_from_draft : (bound : ℕ → ℕ → Option ℕ) (l : TaskList) (m : ℕ) (d : Draft) → Fewer bound l → Drafted bound l m d → d.unplaced ≡ 0 → PassingOrder bound l
passing_from_draft bound l m d fewer drafted none = record {
  ranks = ranks_of d.rows;
  ranked = finished_ranked bound l m d drafted none;
  apart = finished_apart bound l m d drafted none;
  passes = λ k h.
      let w = finished_well bound l m d drafted none k h in
      ap is_some (fewer (above_in (take (length (listed l)) (ranks_of d.rows)) (rank_in d k)) w.below k w.limit w.asked (placed_within bound l d k w) w.bounded).1;
}
