-- A search finds the best of the eligible tasks, and a round chooses as the rules say.
-- The search goes up through the numbers and changes its mind only for a greater slack, so of equal ones the first stays.
-- Assumes nothing.
use Rattle.std.proofs.Common.{◌≡◌, ℕ, zero, suc, ◌+◌, ◌<◌, true, false, cond, eqb, ltb, length, is_some, Some, None, Option, sym, refl, ap, ◌∙◌, subst, inl, inr, ⊎_elim, arith}
use Rattle.std.proofs.lemmas.Bool.{cases_Bool, cases_eq, cond-true, cond-false, and_parts, and_from, eqb-true, eq-eqb, ltb-true, ltb-false, true≢false}
use Rattle.tasks.specs.List.{listed, task_at}
use Rattle.tasks.specs.Set.{bit, without}
use Rattle.tasks.specs.declared.list.TaskList.{TaskList}
use Rattle.tasks.specs.declared.task.Preference.{Preference}
use Rattle.tasks.specs.declared.task.Preference.TheVariants.{Asap, Alap}
use Rattle.planning.specs.Choices.{Eligible, slack_of, NoneFits, Chosen, RoundChooses, asked_below, RoundAsks, RoundsByTheRules, Stuck}
use Rattle.planning.specs.Rounds.{prefers, asks, candidate, better, considered, search_below, search, round}
use Rattle.planning.specs.declared.rounds.Candidate.{Candidate}
use Rattle.planning.specs.declared.rounds.Found.{Found}
use Rattle.planning.proofs.Searching.{one_more}

prefers_self : (p q : Preference) → q ≡ p → prefers p q ≡ true
prefers_self Asap q e = ap (prefers Asap) e
prefers_self Alap q e = ap (prefers Alap) e

prefers_only : (p q : Preference) → prefers p q ≡ true → q ≡ p
prefers_only Asap Asap e = refl
prefers_only Asap Alap e = absurd (true≢false (sym e))
prefers_only Alap Asap e = absurd (true≢false (sym e))
prefers_only Alap Alap e = refl

module _ (bound : ℕ → ℕ → Option ℕ) (l : TaskList) (p : Preference) (U : ℕ) where
  -- a task that is not eligible changes nothing
  passed : (k : ℕ) (o : Option Candidate) → ((x : ℕ) → Eligible bound l p U k x → ⊥) → Chosen bound l p U k o → Chosen bound l p U (suc k) o
  passed k None out none = λ j x h e.
      ⊎_elim (λ (same : j ≡ k). out x (subst (λ i. Eligible bound l p U i x) same e)) (λ (other : j ≡ k → ⊥). none j x (omega arith) e) (cases_eq j k)
  passed k (Some c) out best = record {
    eligible = best.eligible;
    below = omega (arith, best.below);
    slack_is = best.slack_is;
    greatest = λ j x h e.
        ⊎_elim (λ (same : j ≡ k). absurd (out x (subst (λ i. Eligible bound l p U i x) same e))) (λ (other : j ≡ k → ⊥). best.greatest j x (omega arith) e) (cases_eq j k);
    least = λ j x h e s.
        ⊎_elim (λ (same : j ≡ k). absurd (out x (subst (λ i. Eligible bound l p U i x) same e))) (λ (other : j ≡ k → ⊥). best.least j x (omega arith) e s) (cases_eq j k);
  }

  module _ (k x : ℕ) (here : Eligible bound l p U k x) where
    new : Candidate
    new = record { task = k; bound = x; slack = slack_of l k x }

    -- the bound is the test's, so any other one for the same task is the same
    only : (j y : ℕ) → j ≡ k → Eligible bound l p U j y → slack_of l j y ≡ slack_of l k x
    only j y s e =
        let both : Some x ≡ Some y = sym here.bounded ∙ ap (λ i. bound (without U i) i) (sym s) ∙ e.bounded in
        let same : x ≡ y = cc in
        (λ i. slack_of l (s i) (sym same i))

    taken : (old : Option Candidate) → Chosen bound l p U k old → Chosen bound l p U (suc k) (better old (Some new))
    unfolding new
    taken None none = record {
      eligible = here;
      below = omega arith;
      slack_is = refl;
      greatest = λ j y h e. ⊎_elim (λ (s : j ≡ k). omega (arith, only j y s e)) (λ (o : j ≡ k → ⊥). absurd (none j y (omega arith) e)) (cases_eq j k);
      least = λ j y h e s. ⊎_elim (λ (q : j ≡ k). omega arith) (λ (o : j ≡ k → ⊥). absurd (none j y (omega arith) e)) (cases_eq j k);
    }
    taken (Some c) best =
        ⊎_elim
        (λ (t : ltb c.slack (slack_of l k x) ≡ true).
        let more = ltb-true c.slack (slack_of l k x) t in
        subst (Chosen bound l p U (suc k)) (sym (cond-true (ltb c.slack (slack_of l k x)) (Some new) (Some c) t)) (record {
          eligible = here;
          below = omega arith;
          slack_is = refl;
          greatest = λ j y h e. ⊎_elim (λ (s : j ≡ k). omega (arith, only j y s e)) (λ (o : j ≡ k → ⊥). omega (arith, more, best.greatest j y (omega arith) e)) (cases_eq j k);
          least = λ j y h e s. ⊎_elim (λ (q : j ≡ k). omega arith) (λ (o : j ≡ k → ⊥). absurd (omega (arith, more, s, best.greatest j y (omega arith) e))) (cases_eq j k);
        }))
        (λ (f : ltb c.slack (slack_of l k x) ≡ false).
        let less = ltb-false c.slack (slack_of l k x) f in
        subst (Chosen bound l p U (suc k)) (sym (cond-false (ltb c.slack (slack_of l k x)) (Some new) (Some c) f)) (record {
          eligible = best.eligible;
          below = omega (arith, best.below);
          slack_is = best.slack_is;
          greatest = λ j y h e. ⊎_elim (λ (s : j ≡ k). omega (arith, less, only j y s e)) (λ (o : j ≡ k → ⊥). best.greatest j y (omega arith) e) (cases_eq j k);
          least = λ j y h e s. ⊎_elim (λ (q : j ≡ k). omega (arith, best.below)) (λ (o : j ≡ k → ⊥). best.least j y (omega arith) e s) (cases_eq j k);
        }))
        (cases_Bool (ltb c.slack (slack_of l k x)))

  -- one question
  asked : (k : ℕ) (old : Option Candidate) (o : Option ℕ) → asks l p U k ≡ true → bound (without U k) k ≡ o → Chosen bound l p U k old → Chosen bound l p U (suc k) (better old (candidate l k o))
  unfolding new
  asked k old (Some x) a b best =
      let parts = and_parts (eqb (bit U k) 1) (prefers p (task_at l k).preference) a in
      taken k x (record { in_set = eqb-true (bit U k) 1 parts.0; prefers_so = prefers_only p _ parts.1; bounded = b }) old best
  asked k None None a b best = passed k None (λ x e. absurd (let clash : None ≡ Some x = sym b ∙ e.bounded in cc)) best
  asked k (Some c) None a b best = passed k (Some c) (λ x e. absurd (let clash : None ≡ Some x = sym b ∙ e.bounded in cc)) best

  pub search_chooses : (k : ℕ) → Chosen bound l p U k (search_below bound l p U k).best
  unfolding search_below
  search_chooses zero = λ j x h e. omega arith
  search_chooses (suc k) =
      let before = search_below bound l p U k in
      let after = considered before (candidate l k (bound (without U k) k)) in
      ⊎_elim
      (λ (t : asks l p U k ≡ true).
      subst (λ f. Chosen bound l p U (suc k) f.best) (sym (cond-true (asks l p U k) after before t)) (asked k before.best (bound (without U k) k) t refl (search_chooses k)))
      (λ (f : asks l p U k ≡ false).
      subst (λ g. Chosen bound l p U (suc k) g.best) (sym (cond-false (asks l p U k) after before f))
      (passed k before.best (λ x e. absurd (true≢false (sym (and_from _ _ (eq-eqb (bit U k) 1 e.in_set) (prefers_self p _ e.prefers_so)) ∙ f))) (search_chooses k)))
      (cases_Bool (asks l p U k))

module _ (bound : ℕ → ℕ → Option ℕ) (l : TaskList) (U : ℕ) where
  late_first : (o : Option Candidate) → is_some o ≡ true → Chosen bound l Alap U (length (listed l)) o → RoundChooses bound l U o
  late_first None e best = absurd (true≢false (sym e))
  late_first (Some c) e best = inl best

  soon_second : (o : Option Candidate) → NoneFits bound l Alap U (length (listed l)) → Chosen bound l Asap U (length (listed l)) o → RoundChooses bound l U o
  soon_second None none best = (none, best)
  soon_second (Some c) none best = inr (none, best)

  none_late : (o : Option Candidate) → is_some o ≡ false → Chosen bound l Alap U (length (listed l)) o → NoneFits bound l Alap U (length (listed l))
  none_late None e none = none
  none_late (Some c) e best = absurd (true≢false e)

  pub round_chooses : RoundChooses bound l U (round bound l U).best
  unfolding round
  round_chooses =
      let late = search bound l Alap U in
      let soon = search bound l Asap U in
      let both : Found = record { questions = late.questions + soon.questions; best = soon.best } in
      let chosen = search_chooses bound l Alap U (length (listed l)) in
      ⊎_elim
      (λ (t : is_some late.best ≡ true).
      subst (λ f. RoundChooses bound l U f.best) (sym (cond-true (is_some late.best) late both t)) (late_first late.best t chosen))
      (λ (f : is_some late.best ≡ false).
      subst (λ g. RoundChooses bound l U g.best) (sym (cond-false (is_some late.best) late both f))
      (soon_second soon.best (none_late late.best f chosen) (search_chooses bound l Asap U (length (listed l)))))
      (cases_Bool (is_some late.best))

  no_preference : (p : Preference) (k x : ℕ) → (task_at l k).preference ≡ p → RoundChooses bound l U None → k < length (listed l) → bit U k ≡ 1 → bound (without U k) k ≡ Some x → ⊥
  no_preference Alap k x q none h i b = none.0 k x h (record { in_set = i; prefers_so = q; bounded = b })
  no_preference Asap k x q none h i b = none.1 k x h (record { in_set = i; prefers_so = q; bounded = b })

  -- a round over a listed set that chooses nobody: whatever its preference, no task of the set has a bound below the others
  pub chose_nobody : ((k : ℕ) → bit U k ≡ 1 → k < length (listed l)) → RoundChooses bound l U None → Stuck bound U
  chose_nobody all none k x i b = no_preference (task_at l k).preference k x refl none (all k i) i b

  -- ---- the questions

  search_asks : (p : Preference) (k : ℕ) → (search_below bound l p U k).questions ≡ asked_below l p U k
  unfolding search_below
  search_asks p zero = refl
  search_asks p (suc k) =
      one_more (asks l p U k) (search_below bound l p U k) (candidate l k (bound (without U k) k)) ∙ ap (λ q. q + cond (asks l p U k) 1 0) (search_asks p k)

  some_late : (o : Option Candidate) → is_some o ≡ true → Chosen bound l Alap U (length (listed l)) o → NoneFits bound l Alap U (length (listed l)) → ⊥
  some_late None e best none = true≢false (sym e)
  some_late (Some c) e best none = none c.task c.bound best.below best.eligible

  pub round_asks : RoundAsks bound l U (round bound l U).questions
  unfolding round
  round_asks =
      let late = search bound l Alap U in
      let soon = search bound l Asap U in
      let both : Found = record { questions = late.questions + soon.questions; best = soon.best } in
      let chosen = search_chooses bound l Alap U (length (listed l)) in
      let alap = search_asks Alap (length (listed l)) in
      let asap = search_asks Asap (length (listed l)) in
      ⊎_elim
      (λ (t : is_some late.best ≡ true).
      let is = ap (λ f. f.questions) (cond-true (is_some late.best) late both t) in
      record { alap_only = λ k x h e. is ∙ alap; both = λ none. absurd (some_late late.best t chosen none) })
      (λ (f : is_some late.best ≡ false).
      let is = ap (λ g. g.questions) (cond-false (is_some late.best) late both f) in
      record { alap_only = λ k x h e. absurd (none_late late.best f chosen k x h e); both = λ none. is ∙ (λ i. alap i + asap i) })
      (cases_Bool (is_some late.best))

pub rounds_by_the_rules : (bound : ℕ → ℕ → Option ℕ) (l : TaskList) → RoundsByTheRules bound l
rounds_by_the_rules bound l U = (round_chooses bound l U, round_asks bound l U)
