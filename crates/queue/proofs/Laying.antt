-- The memory after an element went in or out: the elements that are held now in front, and every place past them as it was.
-- Assumes nothing.
use Rattle.std.proofs.Common.{◌≡◌, ℕ, ◌+◌, ◌<◌, ◌≤◌, List, length, take, drop, set, insert, remove, refl, ◌∙◌, arith, rules}
use Rattle.std.specs.List.{copy_within}
use Rattle.std.proofs.lemmas.List.{places, same_lists, get_or-set_same, take_at}
use Rattle.std.proofs.lemmas.Bool.{cases_eq}
use Rattle.queue.specs.Sequences.{laid}

module _ {T : Type 0} (xs : List T) (count at : ℕ) where
  -- what stood from `at` on moved up by one place, and the new element went there
  pub opened : (new : T) → count < length xs → at ≤ count → set (copy_within xs at count (at + 1)) at new ≡ laid (insert (take count xs) at new) xs
  opened new room h = same_lists _ _ (search (rules, places)) (λ j d b. grind (arith, places, get_or-set_same, cases_eq j at))

  -- what stood behind `at` moved down by one place
  pub closed : count ≤ length xs → at < count → copy_within xs (at + 1) count at ≡ laid (remove (take count xs) at) xs
  closed room h = same_lists _ _ (search (rules, places)) (λ j d b. grind (arith, places))

  -- nothing is held there
  pub unchanged : count ≤ length xs → count ≤ at → xs ≡ laid (remove (take count xs) at) xs
  unchanged room h = same_lists _ _ (search (rules, places)) (λ j d b. grind (arith, places))

-- the elements, again by their number
pub laid_front : {T : Type 0} (es xs ys : List T) (n : ℕ) → ys ≡ laid es xs → n ≡ length es → take n ys ≡ es
laid_front es xs ys n e k = (λ i. take (k i) (e i)) ∙ take_at es (drop (length es) xs) (length es) refl
