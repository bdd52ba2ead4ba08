-- The least number that passes a test, by a search upward. Assumes nothing.
use Rattle.std.specs.Prelude.{◌≡◌, ℕ, zero, suc, ◌+◌, ◌<◌, ◌≤◌, Bool, true, false, Some, None, refl}
use Rattle.std.proofs.Common.{sym, ap, ◌∙◌, ⊎_elim, arith}
use Rattle.std.proofs.lemmas.Bool.{cases_Bool, cases_eq, cond-true, cond-false, true≢false}
use Rattle.analysis.specs.Response.{least}

-- r is the least number from `from` on that passes
pub record Leastly (f : ℕ → Bool) (from n r : ℕ) : Type 0 where
  pub low : from ≤ r
  pub high : r < from + n
  pub passes : f r ≡ true
  pub first : (t : ℕ) → from ≤ t → t < r → f t ≡ false

pub least_none : (f : ℕ → Bool) (from n : ℕ) → ((t : ℕ) → from ≤ t → t < from + n → f t ≡ false) → least f from n ≡ None
least_none f from zero h = refl
least_none f from (suc n) h =
    cond-false (f from) _ _ (h from (omega arith) (omega arith)) ∙ least_none f (suc from) n (λ t a b. h t (omega arith) (omega arith))

pub least_is : (f : ℕ → Bool) (from n r : ℕ) → Leastly f from n r → least f from n ≡ Some r
least_is f from zero r h = absurd (omega (arith, h.low, h.high))
least_is f from (suc n) r h =
    ⊎_elim
    (λ (same : from ≡ r). cond-true (f from) _ _ (ap f same ∙ h.passes) ∙ ap Some same)
    (λ (other : from ≡ r → ⊥).
    let before : from < r = omega (arith, h.low) in
    cond-false (f from) _ _ (h.first from (omega arith) before)
    ∙ least_is f (suc from) n r (record { low = before; high = omega (arith, h.high); passes = h.passes; first = λ t a b. h.first t (omega arith) b }))
    (cases_eq from r)

-- a number that passes has a least one at most as great
pub least_exists : (f : ℕ → Bool) (from n b : ℕ) → from ≤ b → b < from + n → f b ≡ true → (r : ℕ) × (least f from n ≡ Some r) × (r ≤ b)
least_exists f from zero b lo hi p = absurd (omega arith)
least_exists f from (suc n) b lo hi p =
    ⊎_elim
    (λ (t : f from ≡ true). (from, cond-true (f from) _ _ t, lo))
    (λ (e : f from ≡ false).
    ⊎_elim
    (λ (same : from ≡ b). absurd (true≢false (sym p ∙ ap f (sym same) ∙ e)))
    (λ (other : from ≡ b → ⊥).
    let rest = least_exists f (suc from) n b (omega arith) (omega arith) p in
    (rest.0, cond-false (f from) _ _ e ∙ rest.1, rest.2))
    (cases_eq from b))
    (cases_Bool (f from))

pub least_some : (f : ℕ → Bool) (from n r : ℕ) → least f from n ≡ Some r → Leastly f from n r
least_some f from zero r e = cc
least_some f from (suc n) r e =
    ⊎_elim
    (λ (t : f from ≡ true).
    let hit : Some from ≡ Some r = sym (cond-true (f from) (Some from) (least f (suc from) n) t) ∙ e in
    let same : from ≡ r = cc in
    record { low = omega arith; high = omega arith; passes = ap f (sym same) ∙ t; first = λ s a b. absurd (omega arith) })
    (λ (m : f from ≡ false).
    let rest = least_some f (suc from) n r (sym (cond-false (f from) (Some from) (least f (suc from) n) m) ∙ e) in
    record {
      low = omega (arith, rest.low);
      high = omega (arith, rest.high);
      passes = rest.passes;
      first = λ s a b. ⊎_elim (λ (same : from ≡ s). ap f (sym same) ∙ m) (λ (other : from ≡ s → ⊥). rest.first s (omega arith) b) (cases_eq from s);
    })
    (cases_Bool (f from))

-- where none is found, none passes
pub least_all : (f : ℕ → Bool) (from n : ℕ) → least f from n ≡ None → (t : ℕ) → from ≤ t → t < from + n → f t ≡ false
least_all f from n e t lo hi =
    ⊎_elim
    (λ (p : f t ≡ true).
    let some = least_exists f from n t lo hi p in
    let clash : Some some.0 ≡ None = sym some.1 ∙ e in
    cc)
    (λ m. m)
    (cases_Bool (f t))
