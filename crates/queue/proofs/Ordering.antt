-- A sorted sequence stays sorted when an element goes in at its place or out, and its elements are just the old ones with one more
-- or one fewer. Assumes nothing.
use Rattle.std.proofs.Common.{◌≡◌, ℕ, ◌+◌, ◌-◌, ◌<◌, ◌≤◌, Bool, true, false, List, ◌∷◌, length, get_or, insert, remove, IsPermutation, IsSorted, IsSortedBy, Ordering, Equal, is_lt, is_gt, is_eq, sym, arith}
use Rattle.std.specs.Cmp.{IsTotalOrder}
use Rattle.std.specs.List.{position_or_len}
use Rattle.std.proofs.lemmas.Bool.Decides.{nat_tests}
use Rattle.std.proofs.lemmas.List.{places}
use Rattle.std.proofs.lemmas.List.Sorted.{IsPermutation-remove, ranks_by, sorted_far}
use Rattle.std.proofs.lemmas.List.Sums.{fails_before_first, passes_at_first}
use Rattle.queue.specs.Sequences.{insertion, drop_one, holds}
use Rattle.queue.proofs.Searching.{first_within, found_within}

module _ {T : Type 0} (lt : T → T → Bool) (x : T) (es : List T) (i : ℕ) (h : i ≤ length es) where
  -- x is not below what stands before i, and what stands at i is not below x
  inserted_sorted : ((k : ℕ) (d : T) → k < i → lt x (get_or es k d) ≡ false) → ((d : T) → i < length es → lt (get_or es i d) x ≡ false) → IsSortedBy lt es → IsSortedBy lt (insert es i x)
  inserted_sorted before behind up k d low l = grind (arith, places, before k d, behind d, up k d, up (k - 1) d)

module _ {T : Type 0} {cmp : T → T → Ordering} (o : IsTotalOrder cmp) where
  pub insertion_sorted : (x : T) (es : List T) → IsSorted cmp es → IsSorted cmp (insertion cmp x es)
  insertion_sorted x es =
      let greater = λ (e : T). is_gt (cmp e x) in
      inserted_sorted (λ x y. is_lt (cmp x y)) x es (position_or_len greater es) (first_within greater es)
      (λ k d h. grind (arith, o.antisymm x (get_or es k d), fails_before_first greater es k d h))
      (λ d h. grind (arith, passes_at_first greater es d h))

  pub removal_sorted : (es : List T) (i : ℕ) → IsSorted cmp es → IsSorted cmp (remove es i)
  removal_sorted es i up k d low l = grind (arith, places, up k d, up (k + 1) d, sorted_far (λ x y. is_lt (cmp x y)) (ranks_by o (λ (x : T). x)) es up k (k + 2) d)

module _ {T : Type 0} {cmp : T → T → Ordering} (same : (x y : T) → cmp x y ≡ Equal → x ≡ y) where
  pub removal_shuffles : (x : T) (es : List T) → holds cmp x es ≡ true → IsPermutation es (x ∷ drop_one cmp x es)
  removal_shuffles x es h =
      let equal = λ (e : T). is_eq (cmp e x) in
      let at = position_or_len equal es in
      let within : at < length es = grind (arith, found_within equal es, nat_tests) in
      let tied : cmp (get_or es at x) x ≡ Equal = grind (arith, passes_at_first equal es x within) in
      IsPermutation-remove es at x within (sym (same (get_or es at x) x tied))
