-- What the first place at which a test passes says of the whole list. Assumes nothing.
use Rattle.std.proofs.Common.{◌≡◌, ℕ, ◌+◌, ◌<◌, ◌≤◌, Bool, true, false, cond, not, nat_lt, List, [], ◌∷◌, length, remove, Some, None, unwrap_or, position, refl, sym, ◌∙◌, arith}
use Rattle.std.specs.List.{position_or_len, list_any}
use Rattle.std.proofs.lemmas.Bool.{cases_Bool}
use Rattle.std.proofs.lemmas.Bool.Decides.{nat_tests}
use Rattle.std.proofs.lemmas.List.{places}
use Rattle.std.proofs.lemmas.List.Sums.{prefix_len-le-length}
use Rattle.std.proofs.lemmas.Option.{cond_some}

module _ {T : Type 0} (p : T → Bool) where
  pub first_within : (es : List T) → position_or_len p es ≤ length es
  first_within es = prefix_len-le-length (λ e. not (p e)) es

  -- the first place, or the end
  pub or_end : (es : List T) (n : ℕ) → length es ≡ n → unwrap_or (position p es) n ≡ position_or_len p es
  or_end es n e = grind (arith, prefix_len-le-length, nat_tests)

  pub found_within : (es : List T) → list_any p es ≡ nat_lt (position_or_len p es) (length es)
  found_within [] = refl
  found_within (x ∷ es) = grind (arith, found_within es, cases_Bool (p x), nat_tests)

  pub found_at : (es : List T) (k : ℕ) → Some k ≡ position p es → (list_any p es ≡ true) × (k < length es) × (k ≡ position_or_len p es)
  found_at es k e =
      let parts = cond_some (nat_lt (position_or_len p es) (length es)) (position_or_len p es) k (sym e) in
      (found_within es ∙ parts.0, grind (arith, parts.0, parts.1, nat_tests), sym parts.1)

  pub found_none : (es : List T) → None ≡ position p es → (list_any p es ≡ false) × (length es ≤ position_or_len p es)
  found_none es e = (grind (arith, found_within es, nat_tests), grind (arith, nat_tests))

  -- how many are left without the first that passes
  pub length_without : (es : List T) → length (remove es (position_or_len p es)) + cond (list_any p es) 1 0 ≡ length es
  length_without es = grind (arith, places, found_within es, first_within es, nat_tests)
