-- What judging a task needs: it is in time exactly if the response that is found fits after the hold; and a plan fits exactly if all
-- its tasks are in time. Assumes nothing.
use Rattle.std.proofs.Common.{◌≡◌, ℕ, ◌+◌, ◌<◌, ◌≤◌, Bool, true, false, cond, ltb, leb, List, length, get_or, Some, None, Decides, Option, MatchOption, MatchBool, sym, refl, ap, ◌∙◌, subst, inl, inr, ⊎_elim, arith}
use Rattle.std.proofs.lemmas.Bool.{cases_Bool, lt-ltb, ltb-true, cond-true, cond-false, leb-true, le-leb, true≢false}
use Rattle.std.proofs.lemmas.Option.{slice_get_within, get_or_from_slice_get, slice_get_cases}
use Rattle.std.proofs.lemmas.List.FromFn.{length-range_with_len, get_or-range_with_len}
use Rattle.std.specs.Option.{option_zip}
use Rattle.std.specs.List.{slice_get, range_with_len, AllWithin, HoldsAt}
use Rattle.tasks.specs.List.{task_at}
use Rattle.tasks.specs.declared.task.Task.{Task}
use Rattle.analysis.specs.Demand.{deadline}
use Rattle.analysis.specs.Response.{response}
use Rattle.analysis.specs.ResponseLaws.{response_is, response_some}
use Rattle.planning.specs.Plans.{list_of, size, held_for, above, InTime, Fits}
use Rattle.planning.specs.declared.plan.Plan.{Plan}

-- what is looked up at a number k is there, if k is below n
pub looked_up : (k n v w : ℕ) → Some v ≡ cond (ltb k n) (Some w) None → (k < n) × (v ≡ w)
looked_up k n v w e =
    ⊎_elim
    (λ (here : ltb k n ≡ true).
    let both : Some v ≡ Some w = e ∙ cond-true (ltb k n) (Some w) None here in
    let same : v ≡ w = cc in
    (ltb-true k n here, same))
    (λ (past : ltb k n ≡ false).
    let clash : Some v ≡ None = e ∙ cond-false (ltb k n) (Some w) None past in
    cc)
    (cases_Bool (ltb k n))

-- a task that is found by its number is listed, and it is that task
pub is_listed : (ts : List Task) (k : ℕ) (t d : Task) → Some t ≡ slice_get ts k → (k < length ts) × (t ≡ get_or ts k d)
is_listed ts k t d e = (slice_get_within ts k t (sym e), sym (get_or_from_slice_get ts k t d (sym e)))

pub not_listed : (ts : List Task) (k : ℕ) → None ≡ slice_get ts k → length ts ≤ k
not_listed ts k e =
    elim (slice_get_cases ts k).1 [
      | inl here ↦ (let clash : None ≡ Some here.0 = e ∙ here.2 in cc)
      | inr past ↦ past.0
    ]

pub match_weaker : {T : Type 0} (P : Type 0) (Q R : T → Type 0) (o : Option T) → ((x : T) → Q x → R x) → MatchOption o P Q → MatchOption o P R
match_weaker P Q R None f m = m
match_weaker P Q R (Some x) f m = f x m

module _ (p : Plan) (k : ℕ) (h : k < size p) where
  found : {T : Type 0} (o : Option T) (x : Option T) → o ≡ cond (ltb k (size p)) x None → o ≡ x
  found o x e = e ∙ cond-true (ltb k (size p)) _ _ (lt-ltb k (size p) h)

  decided : (b : Bool) (limit : ℕ) (r : Option ℕ) (o : Option (ℕ × ℕ)) → r ≡ response (list_of p) (above p k) k → limit ≡ deadline (list_of p) (task_at (list_of p) k) → o ≡ option_zip (Some (held_for p k)) r → MatchOption o (b ≡ false) (λ x. b ≡ leb (x.0 + x.1) limit) → Decides b ((k < size p) × InTime p k)
  decided b limit None o is d z m =
      let no : b ≡ false = subst (λ u. MatchOption u (b ≡ false) (λ x. b ≡ leb (x.0 + x.1) limit)) z m in (
        λ yes. absurd (true≢false (sym yes ∙ no)),
        λ t. absurd (let clash : None ≡ Some t.1.ticks = is ∙ response_is (list_of p) (above p k) k t.1.ticks t.1.response in cc),
      )
  decided b limit (Some ticks) o is d z m =
      let so : b ≡ leb (held_for p k + ticks) limit = subst (λ u. MatchOption u (b ≡ false) (λ x. b ≡ leb (x.0 + x.1) limit)) z m in (
        λ yes. (h, record { ticks = ticks; response = response_some (list_of p) (above p k) k ticks (sym is); fits = omega (arith, d, leb-true (held_for p k + ticks) limit (sym so ∙ yes)) }),
        λ t.
            let both : Some ticks ≡ Some t.1.ticks = is ∙ response_is (list_of p) (above p k) k t.1.ticks t.1.response in
            let same : ticks ≡ t.1.ticks = cc in
            so ∙ le-leb (held_for p k + ticks) limit (omega (arith, t.1.fits, d, same)),
      )

  pub in_time_is : (b : Bool) (limit : ℕ) (hold ticks : Option ℕ) (o : Option (ℕ × ℕ)) → hold ≡ cond (ltb k (size p)) (Some (held_for p k)) None → ticks ≡ cond (ltb k (size p)) (response (list_of p) (above p k) k) None → limit ≡ deadline (list_of p) (task_at (list_of p) k) → o ≡ option_zip hold ticks → MatchOption o (b ≡ false) (λ x. b ≡ leb (x.0 + x.1) limit) → Decides b ((k < size p) × InTime p k)
  in_time_is b limit hold ticks o e r d z m =
      decided b limit ticks o (found ticks _ r) d (z ∙ ap (λ x. option_zip x ticks) (found hold _ e)) m

-- ---- all tasks

pub judged : (p : Plan) (b : Bool) (n : ℕ) → n ≡ size p → MatchBool b (AllWithin (λ k. (k < size p) × InTime p k) (range_with_len 0 n) 0 (length (range_with_len 0 n))) ((k : ℕ) × (k < length (range_with_len 0 n)) × HoldsAt (λ k. (k < size p) × InTime p k → ⊥) (range_with_len 0 n) k) → Decides b (Fits p)
judged p true n e all = (
  λ _ k h.
      let at : get_or (range_with_len 0 n) k 0 ≡ k = omega (arith, get_or-range_with_len 0 n k 0 (omega arith)) in
      (subst (λ j. (j < size p) × InTime p j) at (all k 0 (omega arith) (omega (arith, length-range_with_len 0 n)))).1,
  λ _. refl,
)
judged p false n e some = (
  λ yes. cc,
  λ fits.
      let k = some.0 in
      let below : k < n = omega (arith, some.1, length-range_with_len 0 n) in
      let at : get_or (range_with_len 0 n) k 0 ≡ k = omega (arith, get_or-range_with_len 0 n k 0 below) in
      absurd (subst (λ j. (j < size p) × InTime p j → ⊥) at (some.2 0) (omega arith, fits k (omega arith))),
)
