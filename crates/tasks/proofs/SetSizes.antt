-- How many tasks a set has: the ones of its word, counted from either end, and one fewer without a task. Assumes nothing.
use Rattle.std.proofs.Common.{◌≡◌, ℕ, zero, suc, ◌+◌, ◌-◌, ◌*◌, ◌/◌, ◌%◌, ◌^◌, ◌<◌, ◌≤◌, sym, refl, ap, ◌∙◌, pow-suc, arith}
use lib.Count.{ones, ones_in, ones_step}
use Rattle.tasks.specs.Set.{bit, without}
use Rattle.tasks.proofs.SetLaws.{bit_le, without_suc}

-- how many of the tasks below k are in the set
abbrev pub size_below : ℕ → ℕ → ℕ
size_below s zero = 0
size_below s (suc k) = size_below s k + bit s k

pub size_le : (s k : ℕ) → size_below s k ≤ k
size_le s zero = omega arith
size_le s (suc k) = omega (arith, size_le s k, bit_le s k)

size_low : (s k : ℕ) → size_below s (suc k) ≡ s % 2 + size_below (s / 2) k
size_low s zero = omega arith
size_low s (suc k) = omega (arith, size_low s k)

pub size_ones : (n s : ℕ) → s < 2 ^ n → size_below s n ≡ ones s
unfolding ones ones_in
size_ones zero zero h = refl
size_ones zero (suc s) h = absurd (omega arith)
size_ones (suc n) s h = size_low s n ∙ ap (λ m. s % 2 + m) (size_ones n (s / 2) (omega (arith, pow-suc 2 n))) ∙ sym (ones_step s)

pub ones_without : (s k : ℕ) → ones (without s k) + bit s k ≡ ones s
unfolding without
ones_without s zero =
    let half : (s - s % 2 * 2 ^ 0) / 2 ≡ s / 2 = omega arith in
    omega (arith, ones_step s, ones_step (s - s % 2 * 2 ^ 0), ap ones half)
ones_without s (suc k) =
    omega (arith, ones_step s, ones_step (without s (suc k)), ap ones (without_suc s k).0, (without_suc s k).1, ones_without (s / 2) k)

-- a set with no task is the word 0
pub ones_none : (n s : ℕ) → s < 2 ^ n → ones s ≡ 0 → s ≡ 0
ones_none zero s h e = omega arith
ones_none (suc n) s h e =
    let low = ones_step s in
    omega (arith, ones_none n (s / 2) (omega (arith, pow-suc 2 n)) (omega arith))
