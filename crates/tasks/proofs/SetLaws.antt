-- What the words of sets mean, bit by bit.
-- A word halves once for every task below k, so bit k is the remainder of the word shifted down by k; taking the bit's weight out leaves
-- every other bit as it was. Assumes nothing.
use Rattle.std.proofs.Common.{◌≡◌, ℕ, zero, suc, ◌-◌, ◌*◌, ◌/◌, ◌%◌, ◌^◌, ◌<◌, ◌≤◌, ◌≢◌, ◌⊎◌, sym, refl, ap, ◌∙◌, inl, inr, ⊎_elim, mul_assoc, pow-suc, div-one, one-add, arith}
use Rattle.std.proofs.lemmas.Nat.{pow_pos, shr-shr, one_shl}
use Rattle.std.proofs.lemmas.Bool.{cases_eq, cases_lt}
use Rattle.tasks.specs.Set.{bit, without, first_set}

pub bit_is : (s k : ℕ) → bit s k ≡ s / 2 ^ k % 2
bit_is s zero = ap (λ n. n % 2) (sym (div-one s))
bit_is s (suc k) = bit_is (s / 2) k ∙ ap (λ n. n % 2) (shr-shr s 1 k ∙ ap (λ e. s / 2 ^ e) (one-add k))

pub bit_le : (s k : ℕ) → bit s k ≤ 1
bit_le s zero = omega arith
bit_le s (suc k) = bit_le (s / 2) k

pub one_or_none : (s k : ℕ) → (bit s k ≡ 1) ⊎ (bit s k ≡ 0)
one_or_none s k = ⊎_elim inl (λ n. inr (omega (arith, bit_le s k))) (cases_eq (bit s k) 1)

-- the word 0 has no task
pub bit_zero : (k : ℕ) → bit 0 k ≡ 0
bit_zero zero = refl
bit_zero (suc k) = bit_zero k

-- a word of n bits has no task from n on
pub bit_past : (s k n : ℕ) → s < 2 ^ n → n ≤ k → bit s k ≡ 0
bit_past s zero zero h l = omega arith
bit_past s zero (suc n) h l = omega arith
bit_past s (suc k) zero h l = bit_past (s / 2) k 0 (omega arith) (omega arith)
bit_past s (suc k) (suc n) h l = bit_past (s / 2) k n (omega (arith, pow-suc 2 n)) (omega arith)

-- the weight of a bit that is set lies in the word
pub bit_weight : (s k : ℕ) → bit s k * 2 ^ k ≤ s
bit_weight s zero = omega arith
bit_weight s (suc k) = omega (arith, bit_weight (s / 2) k, ap (λ n. bit (s / 2) k * n) (pow-suc 2 k), mul_assoc (bit (s / 2) k) (2 ^ k) 2)

pub without_suc : (s k : ℕ) → (without s (suc k) / 2 ≡ without (s / 2) k) × (without s (suc k) % 2 ≡ s % 2)
unfolding without
without_suc s k =
    let w = bit_weight (s / 2) k in
    let e = ap (λ n. bit (s / 2) k * n) (pow-suc 2 k) ∙ sym (mul_assoc (bit (s / 2) k) (2 ^ k) 2) in
    (omega (arith, e, w), omega (arith, e, w))

pub bit_without_same : (s k : ℕ) → bit (without s k) k ≡ 0
unfolding without
bit_without_same s zero = omega arith
bit_without_same s (suc k) = ap (λ n. bit n k) (without_suc s k).0 ∙ bit_without_same (s / 2) k

pub bit_without_other : (s k j : ℕ) → j ≢ k → bit (without s k) j ≡ bit s j
unfolding without
bit_without_other s zero zero n = absurd (n refl)
bit_without_other s zero (suc j) n = ap (λ m. bit m j) (omega arith)
bit_without_other s (suc k) zero n = (without_suc s k).1
bit_without_other s (suc k) (suc j) n =
    ap (λ m. bit m j) (without_suc s k).0 ∙ bit_without_other (s / 2) k j (λ e. n (ap suc e))

-- without a task that it lacks, a set stays as it is
pub without_none : (s k : ℕ) → bit s k ≡ 0 → without s k ≡ s
unfolding without
without_none s k e = ap (λ b. s - b * 2 ^ k) e ∙ omega arith

pub without_some : (s k : ℕ) → bit s k ≡ 1 → without s k ≡ s - 2 ^ k
unfolding without
without_some s k e = ap (λ b. s - b * 2 ^ k) e ∙ omega arith

-- a word has only tasks below n exactly if it is below the n-th power of two
pub bits_below : (s k n : ℕ) → s < 2 ^ n → bit s k ≡ 1 → k < n
bits_below s k n h e = ⊎_elim (λ l. l) (λ l. absurd (omega (arith, bit_past s k n h l))) (cases_lt k n)

pub below_bits : (m s n : ℕ) → s < 2 ^ m → ((k : ℕ) → bit s k ≡ 1 → k < n) → s < 2 ^ n
below_bits zero s n h b = omega (arith, pow_pos n)
below_bits (suc m) s zero h b =
    let half = below_bits m (s / 2) 0 (omega (arith, pow-suc 2 m)) (λ k e. absurd (omega (arith, b (suc k) e))) in
    let low : s % 2 ≡ 0 = ⊎_elim (λ (e : s % 2 ≡ 1). absurd (omega (arith, b 0 e))) (λ (n : s % 2 ≡ 1 → ⊥). omega arith) (cases_eq (s % 2) 1) in
    omega arith
below_bits (suc m) s (suc n) h b =
    let half = below_bits m (s / 2) n (omega (arith, pow-suc 2 m)) (λ k e. omega (arith, b (suc k) e)) in
    omega (arith, pow-suc 2 n)

pub first_is : (n : ℕ) → n ≤ 32 → first_set n ≡ 2 ^ n - 1
first_is n h = ap (λ e. 2 ^ e - 1) (omega arith)

-- a task of a 32-bit word is below 32, and a word with just that task is its weight
pub bit_within : (s k : ℕ) → s < 2 ^ 32 → bit s k ≡ 1 → k < 32
bit_within s k h e = bits_below s k 32 h e

pub weight_is : (s k : ℕ) → s < 2 ^ 32 → bit s k ≡ 1 → (1 * 2 ^ k) % 2 ^ 32 ≡ 2 ^ k
weight_is s k h e = one_shl k 32 (bit_within s k h e)

pub weight_le : (s k : ℕ) → bit s k ≡ 1 → 2 ^ k ≤ s
weight_le s k e = omega (arith, bit_weight s k, ap (λ b. b * 2 ^ k) e)

pub without_le : (s k : ℕ) → without s k ≤ s
unfolding without
without_le s k = omega arith

-- the first n tasks are in the set of the first n
first_bits : (n k : ℕ) → k < n → bit (2 ^ n - 1) k ≡ 1
first_bits zero k h = absurd (omega arith)
first_bits (suc n) zero h = omega (arith, pow-suc 2 n, pow_pos n)
first_bits (suc n) (suc k) h =
    let half : (2 ^ suc n - 1) / 2 ≡ 2 ^ n - 1 = omega (arith, pow-suc 2 n, pow_pos n) in
    ap (λ s. bit s k) half ∙ first_bits n k (omega arith)

pub bit_first : (n k : ℕ) → n ≤ 32 → k < n → bit (first_set n) k ≡ 1
bit_first n k h l = ap (λ s. bit s k) (first_is n h) ∙ first_bits n k l
