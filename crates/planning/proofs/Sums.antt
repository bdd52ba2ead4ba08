-- Sums over the tasks below n. Assumes nothing.
use Rattle.std.proofs.Common.{◌≡◌, ℕ, zero, suc, ◌+◌, ◌<◌, ◌≤◌, cond, eqb, refl, ap, ⊎_elim, arith}
use Rattle.std.proofs.lemmas.Bool.{cases_eq, eq-eqb, ne_eqb, cond-true, cond-false}
use Rattle.planning.specs.Counts.{sum_below, count_if}

pub sum_same : (n : ℕ) (f g : ℕ → ℕ) → ((k : ℕ) → k < n → f k ≡ g k) → sum_below n f ≡ sum_below n g
sum_same zero f g h = refl
sum_same (suc n) f g h = omega (arith, h n (omega arith), sum_same n f g (λ k i. h k (omega arith)))

pub sum_le : (n : ℕ) (f g : ℕ → ℕ) → ((k : ℕ) → k < n → f k ≤ g k) → sum_below n f ≤ sum_below n g
sum_le zero f g h = omega arith
sum_le (suc n) f g h = omega (arith, h n (omega arith), sum_le n f g (λ k i. h k (omega arith)))

pub sum_add : (n : ℕ) (f g : ℕ → ℕ) → sum_below n (λ k. f k + g k) ≡ sum_below n f + sum_below n g
sum_add zero f g = refl
sum_add (suc n) f g = omega (arith, sum_add n f g)

-- a sum is 0 only if all of it is
pub sum_none : (n : ℕ) (f : ℕ → ℕ) → sum_below n f ≡ 0 → (k : ℕ) → k < n → f k ≡ 0
sum_none zero f e k h = absurd (omega arith)
sum_none (suc n) f e k h =
    ⊎_elim
    (λ (same : k ≡ n). omega (arith, ap f same))
    (λ (other : k ≡ n → ⊥). sum_none n f (omega arith) k (omega arith))
    (cases_eq k n)

pub sum_zero : (n : ℕ) → sum_below n (λ _. 0) ≡ 0
sum_zero zero = refl
sum_zero (suc n) = omega (arith, sum_zero n)

-- what one of n has is all that the sum has
sum_past : (n k c : ℕ) → n ≤ k → sum_below n (λ j. cond (eqb k j) c 0) ≡ 0
sum_past zero k c h = refl
sum_past (suc n) k c h = omega (arith, sum_past n k c (omega arith), cond-false {A = ℕ} (eqb k n) c 0 (ne_eqb k n (λ e. omega arith)))

pub sum_at : (n k c : ℕ) → k < n → sum_below n (λ j. cond (eqb k j) c 0) ≡ c
sum_at zero k c h = absurd (omega arith)
sum_at (suc n) k c h =
    ⊎_elim
    (λ (same : k ≡ n). omega (arith, cond-true {A = ℕ} (eqb k n) c 0 (eq-eqb k n same), sum_past n k c (omega arith)))
    (λ (other : k ≡ n → ⊥). omega (arith, cond-false {A = ℕ} (eqb k n) c 0 (ne_eqb k n other), sum_at n k c (omega arith)))
    (cases_eq k n)

pub sum_one : (n k : ℕ) → k < n → sum_below n (λ j. count_if (eqb k j)) ≡ 1
sum_one n k h = sum_at n k 1 h

-- what each term gains, the sum gains
pub sum_gain : (n : ℕ) (a b c d : ℕ → ℕ) → ((k : ℕ) → k < n → a k + b k ≤ c k + d k) → sum_below n a + sum_below n b ≤ sum_below n c + sum_below n d
sum_gain n a b c d h =
    omega (arith, sum_le n (λ k. a k + b k) (λ k. c k + d k) h, sum_add n a b, sum_add n c d)

-- of two equal sums, one of which is nowhere the greater, all terms are equal
pub sum_tight : (n : ℕ) (f g : ℕ → ℕ) → ((k : ℕ) → k < n → f k ≤ g k) → sum_below n f ≡ sum_below n g → (k : ℕ) → k < n → f k ≡ g k
sum_tight zero f g h e k i = absurd (omega arith)
sum_tight (suc n) f g h e k i =
    let rest : (j : ℕ) → j < n → f j ≤ g j = λ j a. h j (omega arith) in
    ⊎_elim
    (λ (same : k ≡ n). omega (arith, ap f same, ap g same, h n (omega arith), sum_le n f g rest))
    (λ (other : k ≡ n → ⊥). sum_tight n f g rest (omega (arith, h n (omega arith), sum_le n f g rest)) k (omega arith))
    (cases_eq k n)
