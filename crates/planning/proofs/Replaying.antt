-- The law of runs and the function that computes their logs agree.
-- Whether a job pends is a test of six parts. The task that is picked is found by going up through the tasks; ranks are apart, so no
-- other task is the greatest. So an event has at most one note, the computed one, and a run has one log, the computed one.
-- Assumes nothing.
use Rattle.std.proofs.Common.{◌≡◌, ℕ, zero, suc, ◌<◌, ◌≤◌, Bool, true, false, cond, not, ◌&&◌, ◌||◌, ltb, leb, List, [], ◌∷◌, ◌++◌, Some, None, Decides, Option, sym, refl, ap, ◌∙◌, subst, inl, inr, ⊎_elim, arith}
use Rattle.std.proofs.lemmas.Bool.{cases_eq, cond-true, cond_both, leb-true, le-leb, ltb-true, ltb-false, not-true, not_from_false, true≢false}
use Rattle.std.proofs.lemmas.Bool.Decides.{Decides-and, Decides-like, Decides-ltb, not_from_Decides}
use Rattle.planning.specs.Logs.{Entry, released, finished, ran, Log, now, known, age, served, ended}
use Rattle.planning.specs.Plans.{size, rank_of, held_for, charge_of, deadline_of, period_of}
use Rattle.planning.specs.Replays.{pends_now, higher, pick_below, entry_for, noted, log_from}
use Rattle.planning.specs.Runs.{clock_end, Pends, MayRelease, MayFinish, Picks, Allowed, Lawful, Accepts, After, Leads, Run}
use Rattle.planning.specs.RunLaws.{RunsAreReplays}
use Rattle.planning.specs.declared.event.Event.{Event}
use Rattle.planning.specs.declared.event.Event.TheVariants.{Release, Finish, Tick}
use Rattle.planning.specs.declared.plan.Plan.{Plan}
use Rattle.planning.proofs.PlanLimits.{ranks_apart}

pub decides_leb : (a b : ℕ) → Decides (leb a b) (a ≤ b)
decides_leb a b = (leb-true a b, le-leb a b)

pub pends_now_decides : (p : Plan) (l : Log) (k : ℕ) → Decides (pends_now p l k) (Pends p l k)
unfolding pends_now
pends_now_decides p l k =
    Decides-like
    (pends_now p l k)
    (λ q. record {
      listed = q.0;
      known = q.1.0;
      past_hold = q.1.1.0;
      before_due = q.1.1.1.0;
      not_ended = q.1.1.1.1.0;
      work_left = q.1.1.1.1.1;
    })
    (λ q. (q.listed, (q.known, (q.past_hold, (q.before_due, (q.not_ended, q.work_left))))))
    (Decides-and _ _ (Decides-ltb k (size p))
    (Decides-and _ _ (λ e. e, λ e. e)
    (Decides-and _ _ (decides_leb (held_for p k) (age k l))
    (Decides-and _ _ (Decides-ltb (age k l) (deadline_of p k))
    (Decides-and _ _ (not-true (ended k l), not_from_false (ended k l)) (Decides-ltb (served k l) (charge_of p k)))))))

-- ---- the pick

module _ (p : Plan) (l : Log) where
  -- the pick among the tasks below n
  PicksBelow : ℕ → Option ℕ → Type 0
  PicksBelow n None = (j : ℕ) → j < n → Pends p l j → ⊥
  PicksBelow n (Some k) = Pends p l k × ((j : ℕ) → j < n → Pends p l j → rank_of p j ≤ rank_of p k)

  passed : (k : ℕ) (o : Option ℕ) → (Pends p l k → ⊥) → PicksBelow k o → PicksBelow (suc k) o
  unfolding PicksBelow
  passed k None out none = λ j h q.
      ⊎_elim (λ (same : j ≡ k). out (subst (Pends p l) same q)) (λ (other : j ≡ k → ⊥). none j (omega arith) q) (cases_eq j k)
  passed k (Some i) out best = (
    best.0,
    λ j h q.
        ⊎_elim (λ (same : j ≡ k). absurd (out (subst (Pends p l) same q))) (λ (other : j ≡ k → ⊥). best.1 j (omega arith) q) (cases_eq j k),
  )

  taken : (k : ℕ) (o : Option ℕ) → Pends p l k → PicksBelow k o → PicksBelow (suc k) (higher p o k)
  unfolding PicksBelow
  taken k None here none = (
    here,
    λ j h q.
        ⊎_elim (λ (same : j ≡ k). omega (arith, ap (rank_of p) same)) (λ (other : j ≡ k → ⊥). absurd (none j (omega arith) q)) (cases_eq j k),
  )
  taken k (Some i) here best =
      cond_both
      (ltb (rank_of p i) (rank_of p k))
      (Some k)
      (Some i)
      (PicksBelow (suc k))
      (λ e. (
        here,
        λ j h q.
            ⊎_elim
            (λ (same : j ≡ k). omega (arith, ap (rank_of p) same))
            (λ (other : j ≡ k → ⊥). omega (arith, ltb-true _ _ e, best.1 j (omega arith) q))
            (cases_eq j k),
      ))
      (λ e. (
        best.0,
        λ j h q.
            ⊎_elim
            (λ (same : j ≡ k). omega (arith, ltb-false _ _ e, ap (rank_of p) same))
            (λ (other : j ≡ k → ⊥). best.1 j (omega arith) q)
            (cases_eq j k),
      ))

  picks_below : (n : ℕ) → PicksBelow n (pick_below p l n)
  unfolding pick_below PicksBelow
  picks_below zero = λ j h q. omega arith
  picks_below (suc k) =
      cond_both
      (pends_now p l k)
      (higher p (pick_below p l k) k)
      (pick_below p l k)
      (PicksBelow (suc k))
      (λ e. taken k (pick_below p l k) ((pends_now_decides p l k).0 e) (picks_below k))
      (λ e. passed k (pick_below p l k) (not_from_Decides (pends_now p l k) (pends_now_decides p l k) e) (picks_below k))

  picks_all : (o : Option ℕ) → PicksBelow (size p) o → Picks p l o
  unfolding PicksBelow
  picks_all None none = λ j q. none j q.listed q
  picks_all (Some k) best = (best.0, λ j q. best.1 j q.listed q)

  pub pick_picks : Picks p l (pick_below p l (size p))
  pick_picks = picks_all (pick_below p l (size p)) (picks_below (size p))

  pub picks_only : (o o' : Option ℕ) → Picks p l o → Picks p l o' → o ≡ o'
  picks_only None None a b = refl
  picks_only None (Some k) a b = absurd (a k b.0)
  picks_only (Some k) None a b = absurd (b k a.0)
  picks_only (Some k) (Some j) a b =
      let ranks : rank_of p k ≡ rank_of p j = omega (arith, a.1 j b.0, b.1 k a.0) in
      ap Some (ranks_apart p k j a.0.listed b.0.listed ranks)

-- ---- the note of an event

some_if : {X : Type 0} (b : Bool) (x y : X) → cond b (Some x) None ≡ Some y → (b ≡ true) × (y ≡ x)
some_if true x y e = (refl, let z : y ≡ x = cc in z)
some_if false x y e = cc

module _ (p : Plan) (l : Log) where
  may_release : (k : ℕ) → Decides (ltb k (size p) && (not (known k l) || leb (period_of p k) (age k l))) (MayRelease p l k)
  may_release k = Decides-and _ _ (Decides-ltb k (size p)) (since (known k l) (period_of p k) (age k l))
    where
      since : (b : Bool) (m n : ℕ) → Decides (not b || leb m n) (b ≡ true → m ≤ n)
      since true m n = (λ e _. leb-true m n e, λ h. le-leb m n (h refl))
      since false m n = (λ e f. absurd (true≢false (sym f)), λ h. refl)

  may_finish : (k : ℕ) → Decides (pends_now p l k && leb 1 (served k l)) (MayFinish p l k)
  may_finish k = Decides-and _ _ (pends_now_decides p l k) (decides_leb 1 (served k l))

  pub entry_accepted : (e : Event) (x : Entry) → entry_for p l e ≡ Some x → Accepts p l e x
  unfolding entry_for
  entry_accepted (Release k) x e =
      let parts = some_if _ (released k) x e in
      (parts.1, subst (Allowed p l) (sym parts.1) ((may_release k).0 parts.0))
  entry_accepted (Finish k) x e =
      let parts = some_if _ (finished k) x e in
      (parts.1, subst (Allowed p l) (sym parts.1) ((may_finish k).0 parts.0))
  entry_accepted Tick x e =
      let parts = some_if _ (ran (pick_below p l (size p))) x e in
      ((pick_below p l (size p), parts.1), subst (Allowed p l) (sym parts.1) (ltb-true (now l) clock_end parts.0, pick_picks p l))

  pub accepted_entry : (e : Event) (x : Entry) → Accepts p l e x → entry_for p l e ≡ Some x
  unfolding entry_for
  accepted_entry (Release k) x a =
      cond-true _ (Some (released k)) None ((may_release k).1 (subst (Allowed p l) a.0 a.1)) ∙ ap Some (sym a.0)
  accepted_entry (Finish k) x a =
      cond-true _ (Some (finished k)) None ((may_finish k).1 (subst (Allowed p l) a.0 a.1)) ∙ ap Some (sym a.0)
  accepted_entry Tick x a =
      let may = subst (Allowed p l) a.0.1 a.1 in
      cond-true _ (Some (ran (pick_below p l (size p)))) None ((Decides-ltb (now l) clock_end).1 may.0)
      ∙ ap (λ o. Some (ran o)) (picks_only p l (pick_below p l (size p)) a.0.0 (pick_picks p l) may.1)
      ∙ ap Some (sym a.0.1)

  pub entry_refused : (e : Event) → entry_for p l e ≡ None → (x : Entry) → Accepts p l e x → ⊥
  entry_refused e none x a =
      let both : None ≡ Some x = sym none ∙ accepted_entry e x a in
      let z : ◌≡◌ {A = ℕ} 0 1 = cc in
      omega arith

  none_if : (o : Option Entry) → ((x : Entry) → o ≡ Some x → ⊥) → o ≡ None
  none_if None out = refl
  none_if (Some x) out = absurd (out x refl)

  -- an event leads to the log with its computed note, and to no other
  after_is : (e : Event) (m : Log) → After p e l m → m ≡ noted (entry_for p l e) l
  after_is e m (inl a) = a.2 ∙ ap (λ o. noted o l) (sym (accepted_entry e a.0 a.1))
  after_is e m (inr a) = a.1 ∙ ap (λ o. noted o l) (sym (none_if (entry_for p l e) (λ x f. a.0 x (entry_accepted e x f))))

  after_of : (e : Event) (o : Option Entry) → entry_for p l e ≡ o → After p e l (noted o l)
  after_of e None f = inr (entry_refused e f, refl)
  after_of e (Some x) f = inl (x, entry_accepted e x f, refl)

-- ---- the log of a run

module _ (p : Plan) where
  pub leads_is : (l : Log) (es : List Event) (m : Log) → Leads p l es m → m ≡ log_from p l es
  leads_is l [] m h = h
  leads_is l (e ∷ es) m h = leads_is h.0 es m h.2 ∙ ap (λ k. log_from p k es) (after_is p l e h.0 h.1)

  pub leads_of : (l : Log) (es : List Event) → Leads p l es (log_from p l es)
  leads_of l [] = refl
  leads_of l (e ∷ es) = (noted (entry_for p l e) l, after_of p l e (entry_for p l e) refl, leads_of (noted (entry_for p l e) l) es)

  pub log_from_append : (l : Log) (es ds : List Event) → log_from p l (es ++ ds) ≡ log_from p (log_from p l es) ds
  log_from_append l [] ds = refl
  log_from_append l (e ∷ es) ds = log_from_append (noted (entry_for p l e) l) es ds

  pub lawful_leads : (l : Log) (es : List Event) (m : Log) → Lawful p l → Leads p l es m → Lawful p m
  lawful_leads l [] m w h = subst (Lawful p) (sym h) w
  lawful_leads l (e ∷ es) m w h =
      lawful_leads h.0 es m
      (⊎_elim
      (λ (a : (x : Entry) × Accepts p l e x × (h.0 ≡ x ∷ l)). subst (Lawful p) (sym a.2) (a.1.1, w))
      (λ (a : ((x : Entry) → Accepts p l e x → ⊥) × (h.0 ≡ l)). subst (Lawful p) (sym a.1) w)
      h.1)
      h.2

  pub lawful_run : (es : List Event) (l : Log) → Run p es l → Lawful p l
  lawful_run es l h = lawful_leads [] es l tt h

pub runs_are_replays : RunsAreReplays
runs_are_replays p es m = (leads_is p [] es m, λ same. subst (Run p es) (sym same) (leads_of p [] es))

-- an event that is not accepted leads back to the log of the run before it
pub refused_leaves : (p : Plan) (es : List Event) (l : Log) → Run p es l → (e : Event) (m : Log) → ((x : Entry) → Accepts p l e x → ⊥) → Run p (es ++ e ∷ []) m → m ≡ l
refused_leaves p es l run e m out more =
    leads_is p [] (es ++ e ∷ []) m more
    ∙ log_from_append p [] es (e ∷ [])
    ∙ ap (λ k. noted (entry_for p k e) k) (sym (leads_is p [] es l run))
    ∙ ap (λ o. noted o l) (none_if p l (entry_for p l e) (λ x f. out x (entry_accepted p l e x f)))
