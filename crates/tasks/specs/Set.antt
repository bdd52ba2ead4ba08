-- Sets of tasks as 32-bit words.
--
--   bit s k         1 if task k is in the set s, else 0
--   without s k     s with task k taken out
--   first_set n     the set of the tasks below n, and of 32 tasks where n is above that
--   Within a b      every task of a is in b
use Rattle.std.specs.Prelude.{ℕ, zero, suc, ◌-◌, ◌*◌, ◌/◌, ◌%◌, ◌^◌, ◌≤◌, min}

abbrev pub bit : ℕ → ℕ → ℕ
bit s zero = s % 2
bit s (suc k) = bit (s / 2) k

unfoldable pub without : ℕ → ℕ → ℕ
without s k = s - bit s k * 2 ^ k

abbrev pub first_set : ℕ → ℕ
first_set n = 2 ^ min n 32 - 1

abbrev pub Within : ℕ → ℕ → Type 0
Within a b = (k : ℕ) → bit a k ≤ bit b k
