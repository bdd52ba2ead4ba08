-- If nothing is missed in the demanding pattern on a task, its demand is met in some number of ticks that, after its hold, is in time.
-- All tasks of the level (the task itself and those of greater rank) become ready at the tick `lead`, and then as often as they may. So
-- t ticks later at least as many jobs of each have become ready as are counted in the demand of t + 1 ticks. What they ask for is at most
-- the ticks since `lead` and what is left, since each tick does at most one tick of work, and nothing is dropped undone.
-- The first job of the task must be done by its due tick. It is done by a tick that runs it, when no other job of the level is ready; so
-- all that is left then is one tick of work, and the demand of the ticks up to and with this one is met.
-- Assumes nothing.
use Rattle.std.proofs.Common.{◌≡◌, ℕ, zero, suc, ◌+◌, ◌-◌, ◌*◌, ◌<◌, ◌≤◌, Bool, true, false, cond, not, ◌&&◌, ◌||◌, eqb, ltb, leb, ◌⊎◌, List, [], ◌∷◌, ◌++◌, Some, None, Option, sym, refl, ap, ◌∙◌, subst, inl, inr, ⊎_elim, mul-le-mul_right, div-lt_iff_lt-mul, mul-le-mul_left, arith}
use Rattle.std.proofs.lemmas.Bool.{cases_Bool, cases_eq, cases_lt, cond-true, cond-false, eqb-true, eqb-false, eq-eqb, ne_eqb, leb-true, leb-false, le-leb, lt-ltb, le-ltb, and_parts, and_from, and_right, true≢false}
use Rattle.std.proofs.lemmas.Bool.Decides.{nat_tests}
use Rattle.analysis.specs.Demand.{ceil}
use Rattle.planning.specs.Counts.{sum_below, count_if, due_in, kept_in}
use Rattle.planning.specs.Logs.{Entry, released, ran, Log, now, is_for, known, age, served, ended}
use Rattle.planning.specs.Patterns.{longest_hold, lead, offered, offers_below, pattern_to, Met, Demanding, PatternsDemand}
use Rattle.planning.specs.Plans.{size, rank_of, held_for, charge_of, deadline_of, period_of}
use Rattle.planning.specs.Replays.{pick_below, entry_for, noted, log_from, log_of}
use Rattle.planning.specs.Runs.{clock_end, Pends, Picks, Lawful}
use Rattle.planning.specs.declared.event.Event.{Event}
use Rattle.planning.specs.declared.event.Event.TheVariants.{Release, Tick}
use Rattle.planning.specs.declared.plan.Plan.{Plan}
use Rattle.planning.proofs.Counting.{no_miss_earlier, no_miss_done}
use Rattle.planning.proofs.DemandSums.{asked, demand_above}
use Rattle.planning.proofs.PatternSteps.{Paced, Offered, release_paced, release_paced_gain, release_offered, release_first, release_unfinished, not_offered, refused_offered, tick_paced, tick_paced_gain, idle_left, enough_jobs}
use Rattle.planning.proofs.PlanLimits.{charge_some, deadline_in_period, period_short, hold_in_deadline, ranks_apart}
use Rattle.planning.proofs.Replaying.{pick_picks, entry_accepted, leads_of, log_from_append, lawful_run}
use Rattle.planning.proofs.Sums.{sum_le, sum_add, sum_zero, sum_at, sum_one, sum_gain}
use Rattle.planning.proofs.WindowSteps.{newly, more_if, Ran}
use Rattle.planning.proofs.Windows.{in_level, left_of}

longest_covers : (p : Plan) (n k : ℕ) → k < n → held_for p k ≤ longest_hold p n
longest_covers p zero k h = absurd (omega arith)
longest_covers p (suc n) k h =
    ⊎_elim (λ (same : k ≡ n). omega (arith, ap (held_for p) same)) (λ (other : k ≡ n → ⊥). omega (arith, longest_covers p n k (omega arith))) (cases_eq k n)

longest_short : (p : Plan) (n : ℕ) → n ≤ size p → longest_hold p n ≤ 60000
longest_short p zero h = omega arith
longest_short p (suc n) h = omega (arith, longest_short p n (omega arith), hold_in_deadline p n h, deadline_in_period p n, period_short p n)

hold_in_lead : (p : Plan) (k : ℕ) → k < size p → held_for p k ≤ lead p
unfolding lead
hold_in_lead p k h = longest_covers p (size p) k h

lead_short : (p : Plan) → lead p ≤ 60000
unfolding lead
lead_short p = longest_short p (size p) (omega arith)

-- ---- releases let no time pass

release_clock : (p : Plan) (l : Log) (k : ℕ) → now (noted (entry_for p l (Release k)) l) ≡ now l
unfolding entry_for
release_clock p l k =
    let may = ltb k (size p) && (not (known k l) || leb (period_of p k) (age k l)) in
    let clock : Option Entry → ℕ = λ o. now (noted o l) in
    ⊎_elim (λ (t : may ≡ true). ap clock (cond-true may _ _ t)) (λ (f : may ≡ false). ap clock (cond-false may _ _ f)) (cases_Bool may)

offers_clock : (p : Plan) (i t : ℕ) (l : Log) (k : ℕ) → now (log_from p l (offers_below p i t k)) ≡ now l
offers_clock p i t l zero = refl
offers_clock p i t l (suc k) =
    let m = log_from p l (offers_below p i t k) in
    let one : (b : Bool) → now (log_from p m (cond b (Release k ∷ []) [])) ≡ now m = elim [ true ↦ release_clock p m k | false ↦ refl ] in
    ap now (log_from_append p l (offers_below p i t k) (cond (offered p i t k) (Release k ∷ []) [])) ∙ one (offered p i t k) ∙ offers_clock p i t l k

-- ---- where nothing is missed, nothing was missed before

lawful_noted : (p : Plan) (l : Log) (e : Event) (o : Option Entry) → entry_for p l e ≡ o → Lawful p l → Lawful p (noted o l)
lawful_noted p l e None same law = law
lawful_noted p l e (Some x) same law = ((entry_accepted p l e x same).1, law)

no_miss_noted : (p : Plan) (l : Log) (o : Option Entry) → Lawful p (noted o l) → kept_in p (noted o l) ≡ due_in p (noted o l) → kept_in p l ≡ due_in p l
no_miss_noted p l None law kept = kept
no_miss_noted p l (Some x) law kept = no_miss_earlier p x l law kept

no_miss_back : (p : Plan) (l : Log) (es : List Event) → Lawful p l → kept_in p (log_from p l es) ≡ due_in p (log_from p l es) → kept_in p l ≡ due_in p l
no_miss_back p l [] law kept = kept
no_miss_back p l (e ∷ es) law kept =
    let next = lawful_noted p l e (entry_for p l e) refl law in
    no_miss_noted p l (entry_for p l e) next (no_miss_back p (noted (entry_for p l e) l) es next kept)

module _ (p : Plan) (i : ℕ) (listed_task : i < size p) where
  -- the tick at which the first job of the task is due
  abbrev last : ℕ
  last = lead p + (deadline_of p i - held_for p i)

  abbrev PacedAt : Log → ℕ → ℕ → Type 0
  PacedAt l m j = Paced (in_level p i j) (known j l) (ended j l) (age j l) (served j l) (held_for p j) (deadline_of p j) (charge_of p j) (period_of p j) (now l) (lead p) m

  abbrev OfferedAt : Log → ℕ → Type 0
  OfferedAt l j = Offered (in_level p i j) (known j l) (age j l) (held_for p j) (period_of p j) (now l) (lead p)

  record Pace (l : Log) : Type 0 where
    jobs : ℕ → ℕ
    each : (j : ℕ) → j < size p → PacedAt l (jobs j) j
    total : sum_below (size p) (λ j. jobs j * charge_of p j) ≤ (now l - lead p) + sum_below (size p) (left_of p i l)
    first : known i l ≡ true → now l + held_for p i ≤ lead p + age i l
    unfinished : known i l ≡ true → served i l < charge_of p i

  start : Pace []
  start = record {
    jobs = λ _. 0;
    each = λ j h. record {
      outside = λ e. absurd (true≢false (sym e));
      waiting = λ _ _. omega (arith, hold_in_lead p j h);
      not_early = λ e. absurd (true≢false (sym e));
      young = λ e. absurd (true≢false (sym e));
      not_ended = refl;
      unserved = λ e. absurd (true≢false (sym e));
      in_time = λ e. absurd (true≢false (sym e));
      none = λ _. refl;
      ready = λ e. absurd (true≢false (sym e));
      held = λ e. absurd (true≢false (sym e));
    };
    total = omega (arith, sum_le (size p) (λ j. 0 * charge_of p j) (left_of p i []) (λ j h. omega arith));
    first = λ e. absurd (true≢false (sym e));
    unfinished = λ e. absurd (true≢false (sym e));
  }

  -- ---- the releases that are offered at one tick

  module _ (l : Log) (k : ℕ) (h : k < size p) (old : Pace l) (before : (j : ℕ) → j < k → OfferedAt l j) where
    -- of the tasks below the next one, all were offered if this one was
    one_more : (m : Log) → OfferedAt m k → ((j : ℕ) → j < k → OfferedAt m j) → (j : ℕ) → j < suc k → OfferedAt m j
    one_more m this others j less =
        ⊎_elim (λ (same : j ≡ k). subst (OfferedAt m) (sym same) this) (λ (other : j ≡ k → ⊥). others j (omega arith)) (cases_eq j k)

    module _ (on : offered p i (now l) k ≡ true) (may : (not (known k l) || leb (period_of p k) (age k l)) ≡ true) (early : now l < last) where
      own_may : (j : ℕ) → eqb k j ≡ true → known j l ≡ true → period_of p j ≤ age j l
      own_may j b = subst (λ t. known t l ≡ true → period_of p t ≤ age t l) (eqb-true k j b) (λ kn. grind (arith, nat_tests))

      own_level : (j : ℕ) → eqb k j ≡ true → in_level p i j ≡ true
      own_level j b = subst (λ t. in_level p i t ≡ true) (eqb-true k j b) (and_parts (in_level p i k) _ on).0

      own_time : (j : ℕ) → eqb k j ≡ true → lead p ≤ now l + held_for p j
      own_time j b = subst (λ t. lead p ≤ now l + held_for p t) (eqb-true k j b) (leb-true _ _ (and_parts (in_level p i k) _ on).1)

      released_pace : Pace (released k ∷ l)
      released_pace =
          let jobs : ℕ → ℕ = λ j. more_if (eqb k j && eqb (held_for p j) 0) (old.jobs j) in
          record {
            jobs = jobs;
            each = λ j less. release_paced (in_level p i j) (known j l) (ended j l) _ _ _ _ _ _ _ _ _ (hold_in_deadline p j less) (deadline_in_period p j) (old.each j less) (eqb k j) (own_may j) (own_level j) (own_time j);
            total =
                omega (
                  arith,
                  old.total,
                  sum_gain (size p) (λ j. jobs j * charge_of p j) (left_of p i l) (left_of p i (released k ∷ l)) (λ j. old.jobs j * charge_of p j)
                      (λ j less. release_paced_gain (in_level p i j) (known j l) (ended j l) (age j l) (served j l) (held_for p j) (deadline_of p j) (charge_of p j) (period_of p j) (now l) (lead p) (old.jobs j) (hold_in_deadline p j less) (deadline_in_period p j) (old.each j less) (eqb k j) (own_may j) (own_level j) (own_time j)),
                );
            first = release_first (in_level p i i) (known i l) (ended i l) _ _ _ _ _ _ _ _ _ (hold_in_deadline p i listed_task) (deadline_in_period p i) (old.each i listed_task) (eqb k i) (own_may i) (own_level i) (own_time i) (le-leb _ _ (omega arith)) (omega (arith, hold_in_deadline p i listed_task)) old.first;
            unfinished = release_unfinished (in_level p i i) (known i l) (ended i l) _ _ _ _ _ _ _ _ _ (hold_in_deadline p i listed_task) (deadline_in_period p i) (old.each i listed_task) (eqb k i) (own_may i) (own_level i) (own_time i) (charge_some p i) old.unfinished;
          }

      released_offered : (j : ℕ) → j < suc k → OfferedAt (released k ∷ l) j
      released_offered j less =
          release_offered (in_level p i j) (known j l) (ended j l) _ _ _ _ _ _ _ _ _ (hold_in_deadline p j (omega arith)) (deadline_in_period p j) (old.each j (omega arith)) (eqb k j) (own_may j) (own_level j) (own_time j)
          (λ other. before j (omega (arith, eqb-false k j other)))

    -- the log after the offer
    abbrev offer : Log
    offer = log_from p l (cond (offered p i (now l) k) (Release k ∷ []) [])

    record Offers (m : Log) : Type 0 where
      pace : Pace m
      offers : (j : ℕ) → j < suc k → OfferedAt m j

    after_offer : now l < last → Offers offer
    unfolding entry_for
    after_offer early =
        ⊎_elim
        (λ (on : offered p i (now l) k ≡ true).
        let taken = ap (λ b. cond b (Release k ∷ []) []) on in
        ⊎_elim
        (λ (may : (not (known k l) || leb (period_of p k) (age k l)) ≡ true).
        let accepted : entry_for p l (Release k) ≡ Some (released k) = cond-true _ _ _ (and_from _ _ (lt-ltb k (size p) h) may) in
        subst Offers (sym (ap (λ es. log_from p l es) taken ∙ ap (λ o. noted o l) accepted))
        (record { pace = released_pace on may early; offers = released_offered on may early }))
        (λ (soon : (not (known k l) || leb (period_of p k) (age k l)) ≡ false).
        let refused : entry_for p l (Release k) ≡ None = cond-false _ _ _ (and_right _ _ soon) in
        subst Offers (sym (ap (λ es. log_from p l es) taken ∙ ap (λ o. noted o l) refused))
        (record { pace = old; offers = one_more l (refused_offered (in_level p i k) (known k l) (ended k l) _ _ _ _ _ _ _ _ _ (hold_in_deadline p k h) (deadline_in_period p k) (old.each k h) soon) before }))
        (cases_Bool (not (known k l) || leb (period_of p k) (age k l))))
        (λ (off : offered p i (now l) k ≡ false).
        subst Offers (sym (ap (λ b. log_from p l (cond b (Release k ∷ []) [])) off))
        (record { pace = old; offers = one_more l (not_offered (in_level p i k) (known k l) (ended k l) _ _ _ _ _ _ _ _ _ (hold_in_deadline p k h) (deadline_in_period p k) (old.each k h) off) before }))
        (cases_Bool (offered p i (now l) k))

  -- all of them, of the tasks below k
  record Offering (k : ℕ) (m : Log) : Type 0 where
    pace : Pace m
    offers : (j : ℕ) → j < k → OfferedAt m j

  offering : (t : ℕ) (l : Log) → Pace l → now l ≡ t → t < last → (k : ℕ) → k ≤ size p → Offering k (log_from p l (offers_below p i t k))
  offering t l pace clock early zero h = record { pace = pace; offers = λ j less. absurd (omega arith) }
  offering t l pace clock early (suc k) h =
      let before = offering t l pace clock early k (omega arith) in
      let m = log_from p l (offers_below p i t k) in
      let still : now m ≡ t = offers_clock p i t l k ∙ clock in
      let next = after_offer m k h before.pace before.offers (omega (arith, still, early)) in
      let same : log_from p m (cond (offered p i (now m) k) (Release k ∷ []) []) ≡ log_from p l (offers_below p i t (suc k)) =
      ap (λ x. log_from p m (cond (offered p i x k) (Release k ∷ []) [])) still ∙ sym (log_from_append p l (offers_below p i t k) (cond (offered p i t k) (Release k ∷ []) [])) in
      subst (Offering (suc k)) same (record { pace = next.pace; offers = next.offers })

  -- ---- a tick

  module _ (l : Log) (old : Pace l) (offers : (j : ℕ) → j < size p → OfferedAt l j) where
    ran_it : (o : Option ℕ) → Picks p l o → (j : ℕ) → is_for j o ≡ true → Pends p l j
    ran_it None none j e = absurd (true≢false (sym e))
    ran_it (Some k) picked j e = subst (Pends p l) (eqb-true k j e) picked.0

    -- each tick does at most one tick of work, and none before all become ready
    one_at_most : (o : Option ℕ) → Picks p l o → (now l - lead p) + sum_below (size p) (λ j. count_if (is_for j o)) ≤ suc (now l) - lead p
    one_at_most None none = omega (arith, sum_zero (size p))
    one_at_most (Some k) picked =
        let pends = picked.0 in
        omega (arith, sum_one (size p) k pends.listed, (old.each k pends.listed).not_early pends.known, pends.past_hold)

    module _ (o : Option ℕ) (picked : Picks p l o) (law : Lawful p (ran o ∷ l)) (kept : kept_in p (ran o ∷ l) ≡ due_in p (ran o ∷ l)) where
      run_of : (j : ℕ) → j < size p → Ran (in_level p i j) (known j l) (ended j l) (is_for j o) (age j l) (served j l) (held_for p j) (deadline_of p j) (charge_of p j)
      run_of j h = record {
        level = λ e. (old.each j h).outside (ran_it o picked j e).known;
        known = λ e. (ran_it o picked j e).known;
        past_hold = λ e. (ran_it o picked j e).past_hold;
        before_due = λ e. (ran_it o picked j e).before_due;
        not_ended = λ e. (ran_it o picked j e).not_ended;
        work_left = λ e. (ran_it o picked j e).work_left;
      }

      kept_one : (j : ℕ) → j < size p → known j l ≡ true → suc (age j l) ≡ deadline_of p j → charge_of p j ≤ count_if (is_for j o) + served j l
      kept_one j h kn due = ⊎_elim (λ z. z) (λ (e : ended j l ≡ true). absurd (true≢false (sym e ∙ (old.each j h).not_ended))) (no_miss_done p o l j law kept h kn due)

      ticked : (known i l ≡ true → count_if (is_for i o) + served i l < charge_of p i) → Pace (ran o ∷ l)
      ticked left =
          let jobs : ℕ → ℕ = λ j. more_if (newly (known j l) (age j l) (held_for p j)) (old.jobs j) in
          record {
            jobs = jobs;
            each = λ j h. tick_paced (in_level p i j) (known j l) (ended j l) _ _ _ _ _ _ _ _ _ (hold_in_deadline p j h) (deadline_in_period p j) (old.each j h) (is_for j o) (run_of j h) (offers j h) (kept_one j h);
            total =
                omega (
                  arith,
                  old.total,
                  one_at_most o picked,
                  sum_add (size p) (left_of p i (ran o ∷ l)) (λ j. count_if (is_for j o)),
                  sum_gain (size p) (λ j. jobs j * charge_of p j) (left_of p i l) (λ j. left_of p i (ran o ∷ l) j + count_if (is_for j o)) (λ j. old.jobs j * charge_of p j)
                      (λ j h. tick_paced_gain (in_level p i j) (known j l) (ended j l) (age j l) (served j l) (held_for p j) (deadline_of p j) (charge_of p j) (period_of p j) (now l) (lead p) (old.jobs j) (hold_in_deadline p j h) (deadline_in_period p j) (old.each j h) (is_for j o) (run_of j h) (offers j h) (kept_one j h)),
                );
            first = λ kn. omega (arith, old.first kn);
            unfinished = left;
          }

    -- the tick that does the last of the task's work: no other job of the level is ready
    module _ (top : Picks p l (Some i)) (end : charge_of p i ≤ suc (served i l)) where
      began : lead p ≤ now l
      began = omega (arith, (old.each i listed_task).not_early top.0.known, top.0.past_hold)

      above_it : (j : ℕ) → j < size p → (i ≡ j → ⊥) → in_level p i j ≡ true → rank_of p i < rank_of p j
      above_it j h other lev =
          ⊎_elim (λ z. z) (λ (low : rank_of p j ≤ rank_of p i). absurd (other (ranks_apart p i j listed_task h (omega (arith, leb-true (rank_of p i) (rank_of p j) lev))))) (cases_lt (rank_of p i) (rank_of p j))

      one_left : (j : ℕ) → j < size p → left_of p i l j ≤ count_if (eqb i j)
      one_left j h =
          ⊎_elim
          (λ (same : i ≡ j).
          let one = cond-true {A = ℕ} (eqb i j) 1 0 (eq-eqb i j same) in
          let end' : charge_of p j ≤ suc (served j l) = subst (λ t. charge_of p t ≤ suc (served t l)) same end in
          grind (arith, nat_tests))
          (λ (other : i ≡ j → ⊥).
          ⊎_elim
          (λ (lev : in_level p i j ≡ true).
          omega (
            arith,
            idle_left (in_level p i j) (known j l) (ended j l) (age j l) (served j l) (held_for p j) (deadline_of p j) (charge_of p j) (period_of p j) (now l) (lead p) (old.jobs j) (hold_in_deadline p j h) (deadline_in_period p j) (old.each j h)
                (λ kn a b c d. omega (arith, above_it j h other lev, top.1 j (record { listed = h; known = kn; past_hold = a; before_due = b; not_ended = c; work_left = d }))),
          ))
          (λ (low : in_level p i j ≡ false). grind (arith, nat_tests))
          (cases_Bool (in_level p i j)))
          (cases_eq i j)

      abbrev ticks_to_end : ℕ
      ticks_to_end = suc (now l - lead p)

      term : (j : ℕ) → j < size p → asked p i ticks_to_end j + cond (eqb i j) (charge_of p i) 0 ≤ old.jobs j * charge_of p j
      term j h =
          let m = old.jobs j in
          let q = period_of p j in
          let c = charge_of p j in
          ⊎_elim
          (λ (lev : in_level p i j ≡ true).
          let enough = enough_jobs (in_level p i j) (known j l) (ended j l) (age j l) (served j l) (held_for p j) (deadline_of p j) c q (now l) (lead p) m (hold_in_deadline p j h) (deadline_in_period p j) (old.each j h) (offers j h) lev began in
          let spaced : 0 < q = omega (arith, deadline_in_period p j, hold_in_deadline p j h) in
          ⊎_elim
          (λ (same : i ≡ j).
          let some : 1 ≤ m = ⊎_elim (λ (none : m < 1). absurd (let none' : m ≡ 0 = omega arith in omega (arith, ap (λ n. n * q) none'))) (λ z. z) (cases_lt m 1) in
          let own : count_if (ltb (rank_of p i) (rank_of p j)) ≡ 0 = cond-false {A = ℕ} (ltb (rank_of p i) (rank_of p j)) 1 0 (le-ltb _ _ (omega (arith, ap (rank_of p) same))) in
          omega (arith, mul-le-mul_right c some, ap (λ n. n * (c * ceil ticks_to_end q)) own, cond-true {A = ℕ} (eqb i j) (charge_of p i) 0 (eq-eqb i j same), ap (charge_of p) same))
          (λ (other : i ≡ j → ⊥).
          let high : count_if (ltb (rank_of p i) (rank_of p j)) ≡ 1 = cond-true {A = ℕ} (ltb (rank_of p i) (rank_of p j)) 1 0 (lt-ltb _ _ (above_it j h other lev)) in
          let begun : ceil ticks_to_end q < suc m = (div-lt_iff_lt-mul spaced).1 (omega arith) in
          let few : ceil ticks_to_end q ≤ m = omega arith in
          omega (arith, mul-le-mul_left c few, ap (λ n. n * (c * ceil ticks_to_end q)) high, cond-false {A = ℕ} (eqb i j) (charge_of p i) 0 (ne_eqb i j other)))
          (cases_eq i j))
          (λ (low : in_level p i j ≡ false).
          let less = leb-false (rank_of p i) (rank_of p j) low in
          let out : count_if (ltb (rank_of p i) (rank_of p j)) ≡ 0 = cond-false {A = ℕ} (ltb (rank_of p i) (rank_of p j)) 1 0 (le-ltb _ _ (omega arith)) in
          omega (arith, ap (λ n. n * (c * ceil ticks_to_end q)) out, cond-false {A = ℕ} (eqb i j) (charge_of p i) 0 (ne_eqb i j (λ same. omega (arith, ap (rank_of p) same)))))
          (cases_Bool (in_level p i j))

      met : Met p i
      met = record {
        ticks = ticks_to_end;
        met =
            omega (
              arith,
              old.total,
              demand_above p i ticks_to_end,
              sum_add (size p) (asked p i ticks_to_end) (λ j. cond (eqb i j) (charge_of p i) 0),
              sum_at (size p) i (charge_of p i) listed_task,
              sum_le (size p) (λ j. asked p i ticks_to_end j + cond (eqb i j) (charge_of p i) 0) (λ j. old.jobs j * charge_of p j) term,
              sum_le (size p) (left_of p i l) (λ j. count_if (eqb i j)) one_left,
              sum_one (size p) i listed_task,
            );
        in_time = omega (arith, old.first top.0.known, top.0.before_due, began);
      }

    -- the demand was met, or the pace is kept
    after_tick : (o : Option ℕ) → Picks p l o → Lawful p (ran o ∷ l) → kept_in p (ran o ∷ l) ≡ due_in p (ran o ∷ l) → Met p i ⊎ Pace (ran o ∷ l)
    after_tick None none law kept = inr (ticked None none law kept (λ kn. omega (arith, old.unfinished kn)))
    after_tick (Some k) picked law kept =
        ⊎_elim
        (λ (own : eqb k i ≡ true).
        ⊎_elim
        (λ (more : suc (served i l) < charge_of p i). inr (ticked (Some k) picked law kept (λ kn. omega (arith, more, cond-true {A = ℕ} (eqb k i) 1 0 own))))
        (λ (end : charge_of p i ≤ suc (served i l)). inl (met (subst (λ t. Picks p l (Some t)) (eqb-true k i own) picked) end))
        (cases_lt (suc (served i l)) (charge_of p i)))
        (λ (other : eqb k i ≡ false). inr (ticked (Some k) picked law kept (λ kn. omega (arith, old.unfinished kn, cond-false {A = ℕ} (eqb k i) 1 0 other))))
        (cases_Bool (eqb k i))

  -- ---- tick after tick

  -- the log after t ticks, and at tick t once all is offered
  abbrev after : ℕ → Log
  after t = log_of p (pattern_to p i t)

  abbrev between : ℕ → Log
  between t = log_from p (after t) (offers_below p i t (size p))

  lawful_after : (t : ℕ) → Lawful p (after t)
  lawful_after t = lawful_run p (pattern_to p i t) (after t) (leads_of p [] (pattern_to p i t))

  after_is : (t : ℕ) → after (suc t) ≡ log_from p (between t) (Tick ∷ [])
  after_is t =
      log_from_append p [] (pattern_to p i t) (offers_below p i t (size p) ++ Tick ∷ [])
      ∙ log_from_append p (after t) (offers_below p i t (size p)) (Tick ∷ [])

  ticks_on : (t : ℕ) → now (between t) ≡ t → t < last → after (suc t) ≡ ran (pick_below p (between t) (size p)) ∷ between t
  unfolding entry_for
  ticks_on t clock early =
      let soon : now (between t) < clock_end = omega (arith, clock, early, lead_short p, deadline_in_period p i, period_short p i) in
      after_is t ∙ ap (λ o. noted o (between t)) (cond-true _ _ _ (lt-ltb (now (between t)) clock_end soon))

  after_clock : (t : ℕ) → t ≤ last → now (after t) ≡ t
  after_clock zero h = refl
  after_clock (suc t) h =
      let still = offers_clock p i t (after t) (size p) ∙ after_clock t (omega arith) in
      ap now (ticks_on t still h) ∙ ap suc still

  stage : (t : ℕ) → t ≤ last → kept_in p (after t) ≡ due_in p (after t) → Met p i ⊎ Pace (after t)
  stage zero h kept = inr start
  stage (suc t) h kept =
      let m = between t in
      let o = pick_below p m (size p) in
      let is : after (suc t) ≡ ran o ∷ m = ticks_on t (offers_clock p i t (after t) (size p) ∙ after_clock t (omega arith)) h in
      let back : kept_in p (after t) ≡ due_in p (after t) =
      no_miss_back p (after t) (offers_below p i t (size p) ++ Tick ∷ []) (lawful_after t)
      (subst (λ x. kept_in p x ≡ due_in p x) (log_from_append p [] (pattern_to p i t) (offers_below p i t (size p) ++ Tick ∷ [])) kept) in
      ⊎_elim inl
      (λ pace.
      let all = offering t (after t) pace (after_clock t (omega arith)) h (size p) (omega arith) in
      ⊎_elim inl (λ next. inr (subst Pace (sym is) next))
      (after_tick m all.pace all.offers o (pick_picks p m) (subst (Lawful p) is (lawful_after (suc t))) (subst (λ x. kept_in p x ≡ due_in p x) is kept)))
      (stage t (omega arith) back)

  -- at its due tick the first job of the task is not unfinished
  not_at_last : Pace (after last) → ⊥
  not_at_last pace =
      let clock = after_clock last (omega arith) in
      let short = hold_in_deadline p i listed_task in
      let each = pace.each i listed_task in
      ⊎_elim
      (λ (kn : known i (after last) ≡ true).
      let late : deadline_of p i ≤ age i (after last) = omega (arith, pace.first kn, clock, short) in
      omega (arith, pace.unfinished kn, each.in_time kn late))
      (λ (un : known i (after last) ≡ false). omega (arith, each.waiting (le-leb (rank_of p i) (rank_of p i) (omega arith)) un, clock, short))
      (cases_Bool (known i (after last)))

  pub demanding : Demanding p i
  demanding = record {
    length_is = after_clock last (omega arith);
    ends_early = omega (arith, after_clock last (omega arith), lead_short p, deadline_in_period p i, period_short p i);
    met_if_none_missed = λ kept. ⊎_elim (λ z. z) (λ pace. absurd (not_at_last pace)) (stage last (omega arith) kept);
  }

pub patterns_demand : PatternsDemand
patterns_demand p i h = demanding p i h
