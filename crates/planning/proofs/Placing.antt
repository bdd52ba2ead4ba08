-- A round that places a candidate keeps what holds of a draft.
-- The candidate leaves the unplaced set and gets the next rank, which no placed task has. Below it stay just the unplaced tasks: they are
-- the ones that will get greater ranks. Assumes nothing.
use Rattle.std.proofs.Common.{◌≡◌, ℕ, ◌+◌, ◌*◌, ◌^◌, ◌<◌, ◌≤◌, length, get_or, set, Option, sym, refl, ap, ◌∙◌, subst, inl, inr, ⊎_elim, add-mul, mul-le-mul_left, mul-add, arith}
use lib.Count.{ones, ones-ones}
use Rattle.std.proofs.lemmas.Nat.{pow_pos}
use Rattle.std.proofs.lemmas.List.{get_or-set_same, get_or-set_other, length-set, length-map, map-set}
use Rattle.std.proofs.lemmas.Bool.{cases_eq}
use Rattle.tasks.specs.List.{listed, task_at}
use Rattle.tasks.specs.Set.{bit, without}
use Rattle.tasks.specs.declared.list.TaskList.{TaskList}
use Rattle.tasks.proofs.Reading.{listed_few}
use Rattle.tasks.proofs.SetLaws.{one_or_none, bits_below, first_is, bit_without_same, bit_without_other, bit_first, without_le}
use Rattle.tasks.proofs.SetSizes.{ones_without}
use Rattle.planning.specs.Drafts.{rank_in, held_in, WellPlaced, Drafted, FewAsked}
use Rattle.planning.specs.Orders.{new_plan_row, ranks, holds}
use Rattle.planning.specs.Rounds.{hold_by, hold_of, counted, placed_in, begun}
use Rattle.planning.specs.declared.rounds.Candidate.{Candidate}
use Rattle.planning.specs.declared.rounds.Draft.{Draft}
use Rattle.planning.proofs.Searching.{Chosen, premised_without}

-- with n unplaced tasks fewer by one, their questions and those of this round are no more than were allowed
fewer : (n m Q q all : ℕ) → n + 1 ≡ m → q ≤ m → 2 * Q + m * (m + 1) ≤ all → 2 * (Q + q) + n * (n + 1) ≤ all
fewer n m Q q all e h few =
    let square = ap (λ k. k * (k + 1)) (sym e) in
    omega (arith, square, add-mul n 1 (n + 1 + 1), mul-add n (n + 1) 1)

module _ (bound : ℕ → ℕ → Option ℕ) (l : TaskList) where
  start_word : (begun l).unplaced < 2 ^ length (listed l)
  start_word = omega (arith, first_is (length (listed l)) (listed_few l), pow_pos (length (listed l)))

  start_size : ones (begun l).unplaced ≡ length (listed l)
  start_size = ap ones (first_is (length (listed l)) (listed_few l)) ∙ ones-ones (length (listed l))

  -- before the first round
  pub drafted_start : Drafted bound l 0 (begun l)
  drafted_start = record {
    sized = omega (arith, start_size);
    word = start_word;
    long = refl;
    ranked = λ k h e. absurd (omega (arith, e, bit_first (length (listed l)) k (listed_few l) h));
    apart = λ j k h i e f q. absurd (omega (arith, e, bit_first (length (listed l)) j (listed_few l) h));
    well = λ k h e. absurd (omega (arith, e, bit_first (length (listed l)) k (listed_few l) h));
  }

  pub few_start : FewAsked l (begun l)
  few_start = omega (arith, ap (λ k. k * (k + 1)) start_size)

  module _ (m : ℕ) (d : Draft) (c : Candidate) (q : ℕ) (old : Drafted bound l m d) (chosen : Chosen bound l d.unplaced c) where
    new : Draft
    new = placed_in l (counted d q) c (m + 1)

    task_listed : c.task < length (listed l)
    task_listed = bits_below d.unplaced c.task (length (listed l)) old.word chosen.in_set

    ranks_new : ranks new.rows ≡ set (ranks d.rows) c.task (m + 1)
    unfolding new
    ranks_new = map-set (λ r. r.rank) d.rows c.task (new_plan_row (m + 1) (hold_of l c))

    holds_new : holds new.rows ≡ set (holds d.rows) c.task (hold_of l c)
    unfolding new
    holds_new = map-set (λ r. r.hold) d.rows c.task (new_plan_row (m + 1) (hold_of l c))

    rank_own : rank_in new c.task ≡ m + 1
    unfolding new
    rank_own = ap (λ rs. get_or rs c.task 0) ranks_new ∙ get_or-set_same (ranks d.rows) c.task (m + 1) 0 (omega (arith, task_listed, listed_few l, old.long, length-map d.rows (λ r. r.rank)))

    rank_other : (k : ℕ) → (k ≡ c.task → ⊥) → rank_in new k ≡ rank_in d k
    unfolding new
    rank_other k n = ap (λ rs. get_or rs k 0) ranks_new ∙ get_or-set_other (ranks d.rows) c.task k (m + 1) 0 n

    held_own : held_in new c.task ≡ hold_of l c
    unfolding new
    held_own = ap (λ hs. get_or hs c.task 0) holds_new ∙ get_or-set_same (holds d.rows) c.task (hold_of l c) 0 (omega (arith, task_listed, listed_few l, old.long, length-map d.rows (λ r. r.hold)))

    held_other : (k : ℕ) → (k ≡ c.task → ⊥) → held_in new k ≡ held_in d k
    unfolding new
    held_other k n = ap (λ hs. get_or hs k 0) holds_new ∙ get_or-set_other (holds d.rows) c.task k (hold_of l c) 0 n

    -- a task that is still unplaced was so before, and is another
    still : (k : ℕ) → bit new.unplaced k ≡ 1 → (bit d.unplaced k ≡ 1) × (k ≡ c.task → ⊥)
    unfolding new
    still k e =
        let other : k ≡ c.task → ⊥ = λ s. omega (arith, e, ap (λ j. bit (without d.unplaced c.task) j) s, bit_without_same d.unplaced c.task) in
        (sym (bit_without_other d.unplaced c.task k other) ∙ e, other)

    -- a placed task is the new one or was placed before
    placed : (k : ℕ) → bit new.unplaced k ≡ 0 → (k ≡ c.task → ⊥) → bit d.unplaced k ≡ 0
    unfolding new
    placed k e n = sym (bit_without_other d.unplaced c.task k n) ∙ e

    well_own : WellPlaced bound l new c.task
    unfolding new
    well_own = record {
      below = without d.unplaced c.task;
      limit = c.bound;
      asked = premised_without l d.unplaced c.task (λ k e. bits_below d.unplaced k (length (listed l)) old.word e) task_listed;
      bounded = chosen.bounded;
      covers = λ j h.
          ⊎_elim (λ e. e)
          (λ over. ⊎_elim
          (λ (same : j ≡ c.task). absurd (omega (arith, over, rank_own, ap (rank_in new) same)))
          (λ (other : j ≡ c.task → ⊥). bit_without_other d.unplaced c.task j other ∙
          ⊎_elim (λ e. e) (λ e. absurd (omega (arith, over, rank_own, rank_other j other, old.ranked j h e))) (one_or_none d.unplaced j))
          (cases_eq j c.task));
      held = held_own ∙ ap (hold_by (task_at l c.task).preference) chosen.slack_is;
    }

    well_other : (k : ℕ) → (k ≡ c.task → ⊥) → WellPlaced bound l d k → WellPlaced bound l new k
    well_other k n w = record {
      below = w.below;
      limit = w.limit;
      asked = w.asked;
      bounded = w.bounded;
      covers = λ j h.
          ⊎_elim (λ e. w.covers j h (inl (still j e).0))
          (λ over. ⊎_elim
          (λ (same : j ≡ c.task). w.covers j h (inl (ap (bit d.unplaced) same ∙ chosen.in_set)))
          (λ (other : j ≡ c.task → ⊥). w.covers j h (inr (omega (arith, over, rank_other k n, rank_other j other))))
          (cases_eq j c.task));
      held = held_other k n ∙ w.held;
    }

    pub drafted_step : Drafted bound l (m + 1) (placed_in l (counted d q) c (m + 1))
    unfolding new
    drafted_step = record {
      sized = omega (arith, old.sized, ones_without d.unplaced c.task, chosen.in_set);
      word = omega (arith, old.word, without_le d.unplaced c.task);
      long = length-set d.rows c.task (new_plan_row (m + 1) (hold_of l c)) ∙ old.long;
      ranked = λ k h e. ⊎_elim
          (λ (same : k ≡ c.task). let r = ap (rank_in new) same ∙ rank_own in (omega (arith, r), omega (arith, r)))
          (λ (other : k ≡ c.task → ⊥). let r = old.ranked k h (placed k e other) in (omega (arith, r, rank_other k other), omega (arith, r, rank_other k other)))
          (cases_eq k c.task);
      apart = λ j k h i e f same. ⊎_elim
          (λ (a : j ≡ c.task). ⊎_elim
          (λ (b : k ≡ c.task). a ∙ sym b)
          (λ (b : k ≡ c.task → ⊥). absurd (omega (arith, same, ap (rank_in new) a, rank_own, rank_other k b, old.ranked k i (placed k f b))))
          (cases_eq k c.task))
          (λ (a : j ≡ c.task → ⊥). ⊎_elim
          (λ (b : k ≡ c.task). absurd (omega (arith, same, ap (rank_in new) b, rank_own, rank_other j a, old.ranked j h (placed j e a))))
          (λ (b : k ≡ c.task → ⊥). old.apart j k h i (placed j e a) (placed k f b) (sym (rank_other j a) ∙ same ∙ rank_other k b))
          (cases_eq k c.task))
          (cases_eq j c.task);
      well = λ k h e. ⊎_elim
          (λ (same : k ≡ c.task). subst (WellPlaced bound l new) (sym same) well_own)
          (λ (other : k ≡ c.task → ⊥). well_other k other (old.well k h (placed k e other)))
          (cases_eq k c.task);
    }

    pub few_step : q ≤ ones d.unplaced → FewAsked l d → FewAsked l (placed_in l (counted d q) c (m + 1))
    few_step h few = fewer (ones (without d.unplaced c.task)) (ones d.unplaced) d.questions q _ (omega (arith, ones_without d.unplaced c.task, chosen.in_set)) h few

-- ending without a candidate
pub few_ended : (l : TaskList) (d : Draft) (q : ℕ) → q ≤ ones d.unplaced → FewAsked l d → 2 * (d.questions + q) ≤ length (listed l) * (length (listed l) + 1)
few_ended l d q h few =
    let m = ones d.unplaced in
    ⊎_elim
    (λ (none : m ≡ 0). omega arith)
    (λ (some : m ≡ 0 → ⊥). let two : 2 ≤ m + 1 = omega arith in omega (arith, mul-le-mul_left m two))
    (cases_eq m 0)
