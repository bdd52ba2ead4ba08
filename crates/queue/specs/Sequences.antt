-- Sequences of elements under an order `cmp`, and memory that holds them.
--
--   insertion cmp x es    es with x put before its first element that is greater than x, or at its end
--   drop_one cmp x es     es without its first element equal to x
--   holds cmp x es        one of es is equal to x
--   laid es xs            the memory xs with es in its first places, and the rest as it was
use Rattle.std.specs.Prelude.{Bool, List, ◌++◌, length, drop}
use Rattle.std.specs.List.{insert, remove, position_or_len, list_any}
use Rattle.std.specs.Ordering.{is_gt, is_eq}
use Rattle.std.specs.declared.cmp.Ordering.{Ordering}

abbrev pub insertion : {T : Type 0} → (T → T → Ordering) → T → List T → List T
insertion cmp x es = insert es (position_or_len (λ e. is_gt (cmp e x)) es) x

abbrev pub drop_one : {T : Type 0} → (T → T → Ordering) → T → List T → List T
drop_one cmp x es = remove es (position_or_len (λ e. is_eq (cmp e x)) es)

abbrev pub holds : {T : Type 0} → (T → T → Ordering) → T → List T → Bool
holds cmp x es = list_any (λ e. is_eq (cmp e x)) es

abbrev pub laid : {T : Type 0} → List T → List T → List T
laid es xs = es ++ drop (length es) xs
