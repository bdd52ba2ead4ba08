-- A draft with nothing unplaced is a plan, and what planning answers is its tally. That plan is judged yes: each task was placed with a bound below a set that has all
-- tasks of greater rank, its demand below just those is met in that time too, so there is a response at most that bound, and the
-- hold is what the bound leaves. Of the test only its second law is used. Assumes nothing.
use Rattle.std.proofs.Common.{◌≡◌, ℕ, ◌+◌, ◌-◌, ◌*◌, ◌<◌, ◌≤◌, eqb, List, map, length, get_or, take, Some, Ok, Err, Option, sym, ap, ◌∙◌, subst, inr, ⊎_elim, arith}
use lib.Count.{ones}
use Rattle.std.proofs.lemmas.List.{length-take-le, take-map, get_or-take}
use Rattle.std.proofs.lemmas.Bool.{cases_lt, cond-true, cond-false, eq-eqb, ne_eqb}
use Rattle.tasks.specs.List.{listed, task_at}
use Rattle.tasks.specs.Set.{bit, Within}
use Rattle.tasks.specs.declared.list.TaskList.{TaskList}
use Rattle.tasks.specs.declared.task.Preference.{Preference}
use Rattle.tasks.specs.declared.task.Preference.TheVariants.{Asap, Alap}
use Rattle.tasks.proofs.Reading.{listed_few}
use Rattle.tasks.proofs.SetLaws.{bit_le, bit_past, bit_zero}
use Rattle.analysis.specs.Demand.{deadline, demand}
use Rattle.analysis.specs.Question.{Premises}
use Rattle.analysis.specs.DemandLaws.{demand_within, demand_some}
use Rattle.analysis.specs.ResponseLaws.{response_exists}
use Rattle.planning.specs.Choices.{Stuck}
use Rattle.planning.specs.Drafts.{rank_in, held_in, WellPlaced, Drafted}
use Rattle.planning.specs.Orders.{ranks, holds, Ranked, Apart, Held, Prompt, RowsKeep, above_in}
use Rattle.planning.specs.Plans.{list_of, rows, size, rank_of, held_for, above, Fits}
use Rattle.planning.specs.Planning.{tally, answered, Few, Whole}
use Rattle.planning.specs.Rounds.{hold_by, planned}
use Rattle.planning.specs.declared.fault.PlanFault.TheVariants.{LeftOver}
use Rattle.planning.specs.declared.plan.Plan.{Plan}
use Rattle.planning.specs.declared.plan.Row.{Row}
use Rattle.planning.specs.declared.rounds.Draft.{Draft}
use Rattle.planning.proofs.Above.{rank_less, rank_below}

-- the second law of tests, at one list
abbrev pub Sound : (ℕ → ℕ → Option ℕ) → TaskList → Type 0
Sound bound l = (s i b : ℕ) → Premises l s i → bound s i ≡ Some b → (b ≤ deadline l (task_at l i)) × (demand l s i b ≤ b)

-- of the first n rows, those below n are the same
first_is : (f : Row → ℕ) (rs : List Row) (n k : ℕ) → k < n → get_or (map f (take n rs)) k 0 ≡ get_or (map f rs) k 0
first_is f rs n k h = ap (λ xs. get_or xs k 0) (sym (take-map f n rs)) ∙ get_or-take n (map f rs) k 0 h

hold_limit : (p : Preference) (slack : ℕ) → hold_by p slack ≤ slack
hold_limit Asap slack = omega arith
hold_limit Alap slack = omega arith

module _ (bound : ℕ → ℕ → Option ℕ) (l : TaskList) (m : ℕ) (d : Draft) (drafted : Drafted bound l m d) (none : d.unplaced ≡ 0) where
  placed : (k : ℕ) → bit d.unplaced k ≡ 0
  placed k = ap (λ s. bit s k) none ∙ bit_zero k

  few : m ≤ length (listed l)
  few = omega (arith, drafted.sized)

  pub finished_ranked : Ranked l (length (listed l)) (ranks d.rows)
  finished_ranked k h = let r = drafted.ranked k h (placed k) in (r.0, omega (arith, r.1, few))

  pub finished_apart : Apart (length (listed l)) (ranks d.rows)
  finished_apart j k e = drafted.apart j k e.0 e.1 (placed j) (placed k) e.2

  pub finished_well : (k : ℕ) → k < length (listed l) → WellPlaced bound l d k
  finished_well k h = drafted.well k h (placed k)

  finished_held : Sound bound l → Held l (length (listed l)) (holds d.rows)
  finished_held sound k h =
      let w = finished_well k h in
      let s = sound w.below k w.limit w.asked w.bounded in
      omega (arith, w.held, hold_limit (task_at l k).preference (deadline l (task_at l k) - w.limit), s, demand_some l w.below k w.limit, (task_at l k).limits)

  finished_prompt : Prompt l (length (listed l)) (holds d.rows)
  finished_prompt k e =
      let w = finished_well k e.0 in
      w.held ∙ ap (λ p. hold_by p (deadline l (task_at l k) - w.limit)) e.1

  -- the rows of the tasks are those of a plan
  pub finished_count : length (take (length (listed l)) d.rows) ≡ length (listed l)
  finished_count = length-take-le (length (listed l)) d.rows (omega (arith, drafted.long, listed_few l))

  first_rank : (k : ℕ) → k < length (take (length (listed l)) d.rows) → get_or (ranks (take (length (listed l)) d.rows)) k 0 ≡ rank_in d k
  first_rank k h = first_is (λ r. r.rank) d.rows (length (listed l)) k (omega (arith, finished_count))

  first_hold : (k : ℕ) → k < length (take (length (listed l)) d.rows) → get_or (holds (take (length (listed l)) d.rows)) k 0 ≡ held_in d k
  first_hold k h = first_is (λ r. r.hold) d.rows (length (listed l)) k (omega (arith, finished_count))

  pub finished_keep : Sound bound l → RowsKeep l (take (length (listed l)) d.rows)
  finished_keep sound = record {
    few = omega (arith, finished_count);
    ranked = λ k h. let r = finished_ranked k (omega (arith, finished_count)) in (omega (arith, first_rank k h, r), omega (arith, first_rank k h, r));
    apart = λ j k e. finished_apart j k (omega (arith, finished_count, e.0), omega (arith, finished_count, e.1), sym (first_rank j e.0) ∙ e.2 ∙ first_rank k e.1);
    held = λ k h. omega (arith, first_hold k h, finished_held sound k (omega (arith, finished_count)));
    prompt = λ k e. first_hold k e.0 ∙ finished_prompt k (omega (arith, finished_count, e.0), e.1);
  }

-- the set below which a task was placed has all tasks of greater rank
pub placed_within : (bound : ℕ → ℕ → Option ℕ) (l : TaskList) (d : Draft) (k : ℕ) (w : WellPlaced bound l d k) → Within (above_in (take (length (listed l)) (ranks d.rows)) (rank_in d k)) w.below
placed_within bound l d k w j =
    let n = length (listed l) in
    let more = above_in (take n (ranks d.rows)) (rank_in d k) in
    ⊎_elim
    (λ (listed_j : j < n). ⊎_elim
    (λ (greater : rank_in d k < rank_in d j). omega (arith, bit_le more j, w.covers j listed_j (inr greater)))
    (λ (less : rank_in d j ≤ rank_in d k). omega (arith, rank_less n (ranks d.rows) (rank_in d k) j listed_j less))
    (cases_lt (rank_in d k) (rank_in d j)))
    (λ (past : n ≤ j). omega (arith, bit_past more j n (rank_below n (ranks d.rows) (rank_in d k)) past))
    (cases_lt j n)

-- the plan that has the draft's rows
module _ (bound : ℕ → ℕ → Option ℕ) (p : Plan) (m : ℕ) (d : Draft) (drafted : Drafted bound (list_of p) m d) (sound : Sound bound (list_of p)) (same : rows p ≡ take (size p) d.rows) (none : d.unplaced ≡ 0) where
  rank_same : (k : ℕ) → k < size p → rank_of p k ≡ rank_in d k
  rank_same k h = ap (λ rs. get_or (ranks rs) k 0) same ∙ first_is (λ r. r.rank) d.rows (size p) k h

  held_same : (k : ℕ) → k < size p → held_for p k ≡ held_in d k
  held_same k h = ap (λ rs. get_or (holds rs) k 0) same ∙ first_is (λ r. r.hold) d.rows (size p) k h

  within : (k : ℕ) (w : WellPlaced bound (list_of p) d k) → Within (above_in (ranks (rows p)) (rank_in d k)) w.below
  within k w =
      subst (λ rs. Within (above_in rs (rank_in d k)) w.below) (take-map (λ r. r.rank) (size p) d.rows ∙ sym (ap ranks same)) (placed_within bound (list_of p) d k w)

  pub finished_fits : Fits p
  unfolding above
  finished_fits k h =
      let w = finished_well bound (list_of p) m d drafted none k h in
      let s = sound w.below k w.limit w.asked w.bounded in
      let met : demand (list_of p) (above p k) k w.limit ≤ w.limit = omega (arith, s.1, demand_within (list_of p) (above p k) w.below k w.limit (subst (λ r. Within (above_in (ranks (rows p)) r) w.below) (sym (rank_same k h)) (within k w))) in
      let r = response_exists (list_of p) (above p k) k w.limit s.0 met in
      record {
        ticks = r.0;
        response = r.1;
        fits = omega (arith, r.2, s.0, held_same k h, w.held, hold_limit (task_at (list_of p) k).preference (deadline (list_of p) (task_at (list_of p) k) - w.limit));
      }

-- ---- what planning answers

module _ (bound : ℕ → ℕ → Option ℕ) (l : TaskList) (d : Draft) (is : d ≡ planned bound l) where
  -- the tally of the draft is the definition's
  tally_is : (n : ℕ) → n ≡ length (listed l) → record { placed = n - ones d.unplaced; questions = d.questions; left = d.unplaced } ≡ tally bound l
  tally_is n e = (λ i. record { placed = e i - ones (is i).unplaced; questions = (is i).questions; left = (is i).unplaced })

  pub answer_ok : (n : ℕ) → n ≡ length (listed l) → d.unplaced ≡ 0 → Ok (record { placed = n - ones d.unplaced; questions = d.questions; left = d.unplaced }) ≡ answered (tally bound l)
  answer_ok n e none =
      ap Ok (tally_is n e) ∙ sym (cond-true (eqb (tally bound l).left 0) (Ok (tally bound l)) (Err (LeftOver (tally bound l))) (eq-eqb _ 0 (ap (λ x. x.unplaced) (sym is) ∙ none)))

  pub answer_left : (n : ℕ) → n ≡ length (listed l) → (d.unplaced ≡ 0 → ⊥) → Err (LeftOver (record { placed = n - ones d.unplaced; questions = d.questions; left = d.unplaced })) ≡ answered (tally bound l)
  answer_left n e some =
      ap (λ t. Err (LeftOver t)) (tally_is n e) ∙ sym (cond-false (eqb (tally bound l).left 0) (Ok (tally bound l)) (Err (LeftOver (tally bound l))) (ne_eqb _ 0 (λ z. some (ap (λ x. x.unplaced) is ∙ z))))

  pub tally_few : 2 * d.questions ≤ length (listed l) * (length (listed l) + 1) → Few l (tally bound l)
  tally_few h = omega (arith, ap (λ x. x.questions) is)

  pub tally_stuck : Stuck bound d.unplaced → Stuck bound (tally bound l).left
  tally_stuck stuck = subst (λ x. Stuck bound x.unplaced) is stuck

  pub tally_whole : (m : ℕ) → Drafted bound l m d → Whole l (tally bound l)
  tally_whole m s = omega (arith, s.sized, ap (λ x. ones x.unplaced) is)
