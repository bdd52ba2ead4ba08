-- Vectors in fixed memory.
--
--   elements v               the elements of the vector v, first to last
--   unused v                 what stands in the places that no element has taken
--   Appends n xs old new a   putting xs behind the elements of `old`, which has n places, answers a and leaves `new`: the places
--                            behind the elements keep what they held
use Rattle.std.specs.Prelude.{◌≡◌, ℕ, ◌+◌, ◌<◌, ◌≤◌, List, ◌++◌, length, take, drop, Result, MatchResult}
use Rattle.fixed.specs.declared.fixed_vec.FixedVec.{FixedVec}
use Rattle.fixed.specs.declared.fixed_vec.Full.{Full}

abbrev pub elements : {T : Type 0} {N : ℕ} → FixedVec T N → List T
elements v = take v.len v.places

abbrev pub unused : {T : Type 0} {N : ℕ} → FixedVec T N → List T
unused v = drop v.len v.places

abbrev pub Appends : {T : Type 0} {N : ℕ} → ℕ → List T → FixedVec T N → FixedVec T N → Result (Unit {0}) Full → Type 0
Appends n xs old new answer =
    MatchResult answer
    (λ _. (length (elements old) + length xs ≤ n) × (elements new ≡ elements old ++ xs) × (unused new ≡ drop (length xs) (unused old)))
    (λ _. (n < length (elements old) + length xs) × (new ≡ old))
