-- A task with the response r below the tasks of greater rank is done r ticks after it became ready, in every run.
-- The level of the task is itself and the tasks of greater rank. A window is a stretch of fewer than r ticks up to now in which the
-- processor always had a job of the level to run: the ticks of the window, and what the jobs of the level have left, are at most what
-- the jobs that became ready in it ask for. Every event keeps such a window:
-- a release or a finish only alters what one task has left; a tick that ran a job of the level makes the window one tick longer; and a
-- tick at which no job of the level was ready begins a new one. A tick that would make the window r ticks long begins a new one as well:
-- in the r - 1 ticks before it no task had more jobs become ready than are counted in the demand of r ticks, which is at most r, so at
-- most one tick of work was left, and this tick did it.
-- A job that has work left became ready within the window, so fewer than r ticks ago. Assumes nothing.
use Rattle.std.proofs.Common.{◌≡◌, ℕ, suc, ◌+◌, ◌*◌, ◌<◌, ◌≤◌, Bool, true, false, cond, ◌&&◌, eqb, ltb, leb, [], ◌∷◌, Some, None, Option, ap, subst, inl, inr, ⊎_elim, mul-le-mul_right, mul-le-mul_left, le-div_iff_mul-le, arith}
use Rattle.std.proofs.lemmas.Bool.{cases_Bool, cases_eq, cases_lt, cond-true, eqb-true, eq-eqb, leb-true, leb-false, le-leb, lt-ltb}
use Rattle.std.proofs.lemmas.Bool.Decides.{nat_tests}
use Rattle.analysis.specs.Demand.{ceil}
use Rattle.analysis.specs.Response.{Response}
use Rattle.planning.specs.Counts.{sum_below, count_if}
use Rattle.planning.specs.Logs.{released, finished, ran, Log, is_for, known, age, served, ended}
use Rattle.planning.specs.Plans.{list_of, size, rank_of, held_for, above, charge_of, deadline_of, period_of}
use Rattle.planning.specs.RunLaws.{InWindow, WindowsHold}
use Rattle.planning.specs.Runs.{Pends, Picks, Lawful}
use Rattle.planning.specs.declared.plan.Plan.{Plan}
use Rattle.planning.proofs.DemandSums.{asked, demand_above}
use Rattle.planning.proofs.PlanLimits.{deadline_in_period, hold_in_deadline, ranks_apart}
use Rattle.planning.proofs.Replaying.{lawful_run}
use Rattle.planning.proofs.Sums.{sum_le, sum_add, sum_none, sum_at, sum_one, sum_gain}
use Rattle.planning.proofs.WindowSteps.{level_by, Counted, newly, more_if, release_counted, release_gain, finish_counted, finish_less, carried, Ran, tick_carries, tick_carries_none, tick_counted, tick_gain, fresh_counted, fresh_gain, became_ready}

-- what a job of task j has left, if j is of the level of task i
abbrev pub in_level : Plan → ℕ → ℕ → Bool
in_level p i j = leb (rank_of p i) (rank_of p j)

abbrev pub left_of : Plan → ℕ → Log → ℕ → ℕ
left_of p i l j = level_by (in_level p i j) (known j l) (ended j l) (age j l) (served j l) (held_for p j) (deadline_of p j) (charge_of p j)

module _ (p : Plan) (i r : ℕ) (listed_task : i < size p) (resp : Response (list_of p) (above p i) i r) where
  pub record Window (l : Log) : Type 0 where
    pub ticks : ℕ
    pub jobs : ℕ → ℕ
    pub short : ticks < r
    pub each : (j : ℕ) → j < size p → Counted (in_level p i j) (known j l) (age j l) (held_for p j) (period_of p j) ticks (jobs j) (left_of p i l j)
    pub busy : ticks + sum_below (size p) (left_of p i l) ≤ sum_below (size p) (λ j. jobs j * charge_of p j)

  empty : Window []
  empty = record {
    ticks = 0;
    jobs = λ _. 0;
    short = resp.positive;
    each = λ j h. record { none = λ _. grind (arith, nat_tests); level = λ x. absurd (omega arith); known = λ x. absurd (omega arith); ready = λ x. absurd (omega arith); held = λ x. absurd (omega arith) };
    busy = omega (arith, sum_le (size p) (left_of p i []) (λ j. 0 * charge_of p j) (λ j h. grind (arith, nat_tests)));
  }

  -- ---- a release and a finish

  module _ (l : Log) (k : ℕ) (old : Window l) where
    after_finish : Window (finished k ∷ l)
    after_finish = record {
      ticks = old.ticks;
      jobs = old.jobs;
      short = old.short;
      each = λ j h. finish_counted (in_level p i j) (known j l) (ended j l) (eqb k j) _ _ _ _ _ _ _ _ (old.each j h);
      busy =
          omega (
            arith,
            old.busy,
            sum_le (size p) (left_of p i (finished k ∷ l)) (left_of p i l) (λ j h. finish_less (in_level p i j) (known j l) (ended j l) (eqb k j) (age j l) (served j l) (held_for p j) (deadline_of p j) (charge_of p j) 0 0 0),
          );
    }

    after_release : (known k l ≡ true → period_of p k ≤ age k l) → Window (released k ∷ l)
    after_release spaced =
        let jobs : ℕ → ℕ = λ j. more_if (eqb k j && (in_level p i j && eqb (held_for p j) 0)) (old.jobs j) in
        let own : (j : ℕ) → eqb k j ≡ true → known j l ≡ true → period_of p j ≤ age j l =
        λ j b. subst (λ t. known t l ≡ true → period_of p t ≤ age t l) (eqb-true k j b) spaced in
        record {
          ticks = old.ticks;
          jobs = jobs;
          short = old.short;
          each = λ j h. release_counted (in_level p i j) (known j l) (ended j l) (eqb k j) _ _ _ _ _ _ _ _ (own j) (hold_in_deadline p j h) (deadline_in_period p j) (old.each j h);
          busy =
              omega (
                arith,
                old.busy,
                sum_gain (size p) (left_of p i (released k ∷ l)) (λ j. old.jobs j * charge_of p j) (left_of p i l) (λ j. jobs j * charge_of p j)
                    (λ j h. release_gain (in_level p i j) (known j l) (ended j l) (eqb k j) (age j l) (served j l) (held_for p j) (deadline_of p j) (charge_of p j) 0 0 (old.jobs j)),
              );
        }

  -- ---- a tick

  module _ (l : Log) (o : Option ℕ) where
    carried_by : ℕ → ℕ
    carried_by j = carried (in_level p i j) (known j l) (ended j l) (is_for j o) (age j l) (served j l) (held_for p j) (deadline_of p j) (charge_of p j)

    -- where nothing is carried over, a window begins
    begin : ((j : ℕ) → j < size p → carried_by j ≡ 0) → Window (ran o ∷ l)
    unfolding carried_by
    begin rest =
        let jobs : ℕ → ℕ = λ j. count_if (in_level p i j && newly (known j l) (age j l) (held_for p j)) in
        record {
          ticks = 0;
          jobs = jobs;
          short = resp.positive;
          each = λ j h. fresh_counted (in_level p i j) (known j l) (ended j l) (is_for j o) _ _ _ _ _ _ (rest j h);
          busy =
              omega (
                arith,
                sum_le (size p) (left_of p i (ran o ∷ l)) (λ j. jobs j * charge_of p j)
                    (λ j h. fresh_gain (in_level p i j) (known j l) (ended j l) (is_for j o) (age j l) (served j l) (held_for p j) (deadline_of p j) (charge_of p j) 0 (rest j h)),
              );
        }

    -- no job of the level was ready and unfinished
    level_idle : ((j : ℕ) → in_level p i j ≡ true → Pends p l j → ⊥) → Window (ran o ∷ l)
    unfolding carried_by
    level_idle out =
        begin (λ j h.
        tick_carries_none (in_level p i j) (known j l) (ended j l) (is_for j o) _ _ _ _ _
        (λ lev kn a b c d. out j lev (record { listed = h; known = kn; past_hold = a; before_due = b; not_ended = c; work_left = d })))

  -- a job of the level ran
  module _ (l : Log) (k : ℕ) (lev : in_level p i k ≡ true) (pends : Pends p l k) (old : Window l) where
    it_ran : (j : ℕ) → Ran (in_level p i j) (known j l) (ended j l) (eqb k j) (age j l) (served j l) (held_for p j) (deadline_of p j) (charge_of p j)
    it_ran j =
        let at : eqb k j ≡ true → (in_level p i j ≡ true) × Pends p l j = λ b. subst (λ t. (in_level p i t ≡ true) × Pends p l t) (eqb-true k j b) (lev, pends) in
        record {
          level = λ b. (at b).0;
          known = λ b. (at b).1.known;
          past_hold = λ b. (at b).1.past_hold;
          before_due = λ b. (at b).1.before_due;
          not_ended = λ b. (at b).1.not_ended;
          work_left = λ b. (at b).1.work_left;
        }

    one_done : sum_below (size p) (carried_by l (Some k)) + 1 ≤ sum_below (size p) (left_of p i l)
    unfolding carried_by
    one_done =
        omega (
          arith,
          sum_one (size p) k pends.listed,
          sum_add (size p) (carried_by l (Some k)) (λ j. count_if (eqb k j)),
          sum_le (size p) (λ j. carried_by l (Some k) j + count_if (eqb k j)) (left_of p i l)
              (λ j h. tick_carries (in_level p i j) (known j l) (ended j l) (eqb k j) (age j l) (served j l) (held_for p j) (deadline_of p j) (charge_of p j) (it_ran j)),
        )

    go_on : suc old.ticks < r → Window (ran (Some k) ∷ l)
    unfolding carried_by
    go_on short =
        let jobs : ℕ → ℕ = λ j. more_if (in_level p i j && newly (known j l) (age j l) (held_for p j)) (old.jobs j) in
        record {
          ticks = suc old.ticks;
          jobs = jobs;
          short = short;
          each = λ j h. tick_counted (in_level p i j) (known j l) (ended j l) (eqb k j) _ _ _ _ _ _ _ _ (old.each j h);
          busy =
              omega (
                arith,
                old.busy,
                one_done,
                sum_gain (size p) (left_of p i (ran (Some k) ∷ l)) (λ j. old.jobs j * charge_of p j) (carried_by l (Some k)) (λ j. jobs j * charge_of p j)
                    (λ j h. tick_gain (in_level p i j) (known j l) (ended j l) (eqb k j) (age j l) (served j l) (held_for p j) (deadline_of p j) (charge_of p j) 0 0 (old.jobs j)),
              );
        }

    -- no more jobs of a task became ready before the last tick of the response than its demand counts
    within : suc old.ticks ≡ r → (j : ℕ) → j < size p → 1 ≤ old.jobs j → old.jobs j * period_of p j ≤ old.ticks + period_of p j
    within last j h some =
        let c = old.each j h in
        let hold = hold_in_deadline p j h in
        let spaced = deadline_in_period p j in
        ⊎_elim (λ (held : age j l < held_for p j). omega (arith, c.held some held)) (λ (ready : held_for p j ≤ age j l). omega (arith, c.ready some ready)) (cases_lt (age j l) (held_for p j))

    term : suc old.ticks ≡ r → (j : ℕ) → j < size p → old.jobs j * charge_of p j ≤ asked p i r j + cond (eqb i j) (charge_of p i) 0
    term last j h =
        let m = old.jobs j in
        let q = period_of p j in
        ⊎_elim
        (λ (none : m < 1). let none' : m ≡ 0 = omega arith in omega (arith, ap (λ n. n * charge_of p j) none'))
        (λ (some : 1 ≤ m).
        let few = within last j h some in
        let high = leb-true (rank_of p i) (rank_of p j) ((old.each j h).level some) in
        ⊎_elim
        (λ (same : i ≡ j).
        let own : r ≤ q = omega (arith, resp.in_time, deadline_in_period p i, ap (period_of p) same) in
        let one : m ≤ 1 = ⊎_elim (λ (two : 1 < m). absurd (omega (arith, mul-le-mul_right q two))) (λ (z : m ≤ 1). z) (cases_lt 1 m) in
        omega (arith, mul-le-mul_right (charge_of p j) one, cond-true {A = ℕ} (eqb i j) (charge_of p i) 0 (eq-eqb i j same), ap (charge_of p) same))
        (λ (other : i ≡ j → ⊥).
        let above : rank_of p i < rank_of p j = ⊎_elim (λ z. z) (λ (z : rank_of p j ≤ rank_of p i). absurd (other (ranks_apart p i j listed_task h (omega arith)))) (cases_lt (rank_of p i) (rank_of p j)) in
        let counted : count_if (ltb (rank_of p i) (rank_of p j)) ≡ 1 = cond-true {A = ℕ} (ltb (rank_of p i) (rank_of p j)) 1 0 (lt-ltb (rank_of p i) (rank_of p j) above) in
        let begun : m ≤ ceil r q = (le-div_iff_mul-le (omega (arith, deadline_in_period p j, hold_in_deadline p j h))).1 (omega arith) in
        omega (arith, mul-le-mul_left (charge_of p j) begun, ap (λ n. n * (charge_of p j * ceil r q)) counted))
        (cases_eq i j))
        (cases_lt m 1)

    -- the tick that would make the window as long as the response did the last of its work
    at_response : suc old.ticks ≡ r → Window (ran (Some k) ∷ l)
    at_response last =
        let total : sum_below (size p) (carried_by l (Some k)) ≡ 0 =
        omega (
          arith,
          old.busy,
          one_done,
          sum_le (size p) (λ j. old.jobs j * charge_of p j) (λ j. asked p i r j + cond (eqb i j) (charge_of p i) 0) (term last),
          sum_add (size p) (asked p i r) (λ j. cond (eqb i j) (charge_of p i) 0),
          sum_at (size p) i (charge_of p i) listed_task,
          demand_above p i r,
          resp.met,
        ) in
        begin l (Some k) (sum_none (size p) (carried_by l (Some k)) total)

    level_runs : Window (ran (Some k) ∷ l)
    level_runs = ⊎_elim go_on (λ (late : r ≤ suc old.ticks). at_response (omega (arith, old.short))) (cases_lt (suc old.ticks) r)

  after_tick : (l : Log) (o : Option ℕ) → Picks p l o → Window l → Window (ran o ∷ l)
  after_tick l None none old = level_idle l None (λ j lev pends. none j pends)
  after_tick l (Some k) picked old =
      ⊎_elim
      (λ (lev : in_level p i k ≡ true). level_runs l k lev picked.0 old)
      (λ (low : in_level p i k ≡ false).
      level_idle l (Some k) (λ j lev pends. omega (arith, leb-true (rank_of p i) (rank_of p j) lev, leb-false (rank_of p i) (rank_of p k) low, picked.1 j pends)))
      (cases_Bool (in_level p i k))

  pub window : (l : Log) → Lawful p l → Window l
  window [] law = empty
  window (released k ∷ l) law = after_release l k (window l law.1) law.0.1
  window (finished k ∷ l) law = after_finish l k (window l law.1)
  window (ran o ∷ l) law = after_tick l o law.0.1 (window l law.1)

  -- a job that has work left became ready in the window
  pub in_window : (l : Log) → Lawful p l → InWindow p i r l
  in_window l law =
      let w = window l law in
      let unfinished : known i l ≡ true → held_for p i ≤ age i l → age i l ≤ deadline_of p i → ended i l ≡ false → served i l < charge_of p i → age i l < held_for p i + r =
      λ kn ready due en left.
      omega (
        arith,
        w.short,
        became_ready (in_level p i i) (known i l) (ended i l) (age i l) (served i l) (held_for p i) (deadline_of p i) (charge_of p i) (period_of p i) w.ticks (w.jobs i) (le-leb (rank_of p i) (rank_of p i) (omega arith)) kn ready due en left (w.each i listed_task),
      ) in
      record {
        done = λ kn late due.
            ⊎_elim (λ (left : served i l < charge_of p i).
            ⊎_elim inr (λ (en : ended i l ≡ false). absurd (omega (arith, unfinished kn (omega arith) due en left))) (cases_Bool (ended i l)))
            inl
            (cases_lt (served i l) (charge_of p i));
        none_pends = λ pends. unfinished pends.known pends.past_hold (omega (arith, pends.before_due)) pends.not_ended pends.work_left;
      }

pub windows_hold : WindowsHold
windows_hold p k r h resp es l run = in_window p k r h resp l (lawful_run p es l run)
