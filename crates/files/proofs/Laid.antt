-- What is read of records that are laid out: their heads have no fault, and say what was laid out. Assumes nothing.
use Rattle.std.proofs.Common.{◌≡◌, ℕ, ◌+◌, ◌*◌, ◌/◌, ◌%◌, ◌-◌, ◌<◌, false, true, List, [], ◌∷◌, ◌++◌, length, drop, None, sym, refl, ap, ◌∙◌, arith, length-append, length-drop}
use Rattle.std.proofs.lemmas.List.{take_at, drop_at, drop-drop, append-nil}
use Rattle.std.specs.Int.{w16, to_be_bytes}
use Rattle.std.proofs.lemmas.Bool.{le-ltb, eq-eqb}
use Rattle.files.specs.Decoding.{end_fault}
use Rattle.files.specs.Format.{head_fault, kind_fits, length_fits, said, first}
use Rattle.files.specs.Layout.{laid, two_bytes}
use Rattle.files.specs.declared.record.FileKind.{FileKind}
use Rattle.files.proofs.Heads.{no_fault}

pub head_laid : (f : FileKind) (at k : ℕ) (b rest : List ℕ) → kind_fits f k ≡ true → length_fits k (length b) ≡ true → head_fault f at (laid k b ++ rest) ≡ None
head_laid f at k b rest kind fits = no_fault f at (laid k b ++ rest) (record {
  long = omega arith;
  mark = refl;
  kind = kind;
  fits = fits;
  whole = omega (arith, length-append b rest);
})

pub first_laid : (k : ℕ) (b rest : List ℕ) → first (laid k b ++ rest) ≡ said k b
first_laid k b rest = ap (said k) (take_at b rest (length b) refl)

-- what follows it
pub rest_of : (k : ℕ) (b rest bs : List ℕ) (at : ℕ) → drop at bs ≡ laid k b ++ rest → drop (at + (4 + length b)) bs ≡ rest
rest_of k b rest bs at e = sym (drop-drop (4 + length b) at bs) ∙ ap (drop (4 + length b)) e ∙ drop_at (laid k b) rest (4 + length b) (omega arith)

-- it has bytes of its own
pub bytes_left : (k : ℕ) (b rest bs : List ℕ) (at : ℕ) → drop at bs ≡ laid k b ++ rest → length bs - at ≡ 4 + length b + length rest
bytes_left k b rest bs at e = sym (length-drop at bs) ∙ ap length e ∙ omega (arith, length-append b rest)

-- a number in two bytes is that number
pub two_bytes_back : (n : ℕ) → n / 256 * 256 + n % 256 ≡ n
two_bytes_back n = omega arith

pub two_bytes_of : (n : ℕ) (bs : List ℕ) → n < 256 → bs ≡ to_be_bytes w16 n → bs ++ [] ≡ two_bytes n
two_bytes_of n bs h e =
    let high : n / 256 % 256 ≡ n / 256 = omega arith in
    append-nil bs ∙ e ∙ (λ i. high i ∷ n % 256 ∷ [])

pub end_good : (size at k : ℕ) → size ≡ at + 6 → end_fault false size at k k ≡ None
end_good size at k e = simp (eq-eqb k k refl, le-ltb (at + 6) size (omega arith))
