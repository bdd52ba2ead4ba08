-- What is written, and what writing leaves.
--
--   over line old           the bytes `old` with `line` in their first places and the rest as they were
--   Writes line old new a   writing `line` into a buffer that holds `old` answers a and leaves `new`: the length of the line,
--                           or, exactly if the buffer is shorter than the line, its length as a fault
--   fault_line r            the line that the refusal r prints
use Rattle.std.specs.Prelude.{◌≡◌, ℕ, ◌<◌, ◌≤◌, List, ◌++◌, length, drop, codes, decimal, Result, MatchResult}
use Rattle.files.specs.declared.fault.ByteFault.{ByteFault}
use Rattle.files.specs.declared.fault.ByteFault.TheVariants.{ShortBuffer}
use Rattle.tasks.specs.Faults.{layer_word}
use Rattle.tasks.specs.declared.fault.Refusal.{Refusal}

abbrev pub over : List ℕ → List ℕ → List ℕ
over line old = line ++ drop (length line) old

pub record Writes (line old new : List ℕ) (answer : Result ℕ ByteFault) : Type 0 where
  pub says : MatchResult answer (λ n. (n ≡ length line) × (length line ≤ length old)) (λ f. (f ≡ ShortBuffer (length old)) × (length old < length line))
  pub bytes : MatchResult answer (λ _. new ≡ over line old) (λ _. new ≡ old)

abbrev pub fault_line : Refusal → List ℕ
fault_line r = codes "refused " ++ decimal r.number ++ codes " " ++ layer_word r.layer ++ codes " " ++ decimal r.place ++ codes "\n"
