-- What the head of a record tells: no fault where each of its checks passed, and each check passed where there is no fault. Assumes nothing.
use Rattle.std.proofs.Common.{◌≡◌, ℕ, ◌+◌, ◌≤◌, Bool, true, false, cond, eqb, List, length, get_or, drop, Some, None, Option, sym, refl, ap, ◌∙◌, arith, length-drop}
use Rattle.std.proofs.lemmas.List.{length-take-le}
use Rattle.std.proofs.lemmas.Bool.{le-ltb, ltb-false, not-false, cond_both}
use Rattle.std.proofs.lemmas.Bool.Decides.{nat_tests}
use Rattle.files.specs.Format.{Said, head_fault, marked, kind_fits, length_fits, body, size, said, is_end}
use Rattle.files.specs.Reading.{left, Shown}
use Rattle.files.specs.declared.fault.ByteFault.{ByteFault}
use Rattle.files.specs.declared.reader.Reader.{Reader}
use Rattle.files.specs.declared.record.FileKind.{FileKind}

pub record Sound (f : FileKind) (bs : List ℕ) : Type 0 where
  pub long : 4 ≤ length bs
  pub mark : marked bs ≡ true
  pub kind : kind_fits f (get_or bs 2 0) ≡ true
  pub fits : length_fits (get_or bs 2 0) (get_or bs 3 0) ≡ true
  pub whole : size bs ≤ length bs

pub no_fault : (f : FileKind) (at : ℕ) (bs : List ℕ) → Sound f bs → head_fault f at bs ≡ None
no_fault f at bs s = simp (le-ltb (length bs) 4 s.long, s.mark, s.kind, s.fits, le-ltb (length bs) (4 + get_or bs 3 0) s.whole)

-- where the first of two checks finds nothing, nothing is left but the second
passed : (b : Bool) (x : ByteFault) (o : Option ByteFault) → cond b (Some x) o ≡ None → (b ≡ false) × (o ≡ None)
passed true x o e = cc
passed false x o e = (refl, e)

pub sound : (f : FileKind) (at : ℕ) (bs : List ℕ) → head_fault f at bs ≡ None → Sound f bs
sound f at bs e =
    let a = passed _ _ _ e in
    let b = passed _ _ _ a.1 in
    let c = passed _ _ _ b.1 in
    let d = passed _ _ _ c.1 in
    let g = passed _ _ _ d.1 in
    record {
      long = ltb-false _ _ a.0;
      mark = not-false _ b.0;
      kind = not-false _ c.0;
      fits = not-false _ d.0;
      whole = ltb-false _ _ g.0;
    }

pub length_body : (bs : List ℕ) → size bs ≤ length bs → length (body bs) ≡ get_or bs 3 0
length_body bs h = length-take-le (get_or bs 3 0) (drop 4 bs) (omega (arith, length-drop 4 bs))

-- a sound record ends within the file
pub within : (f : FileKind) (at : ℕ) (bs : List ℕ) → head_fault f at (drop at bs) ≡ None → at + size (drop at bs) ≤ length bs
within f at bs e = let s = sound f at (drop at bs) e in omega (arith, s.whole, s.long, length-drop at bs)

ends_is : (k : ℕ) (b : List ℕ) → is_end (said k b) ≡ eqb k 3
ends_is k b =
    cond_both (eqb k 1) _ _ (λ s. is_end s ≡ eqb k 3) (λ e. grind (arith, nat_tests))
    (λ _. cond_both (eqb k 2) _ _ (λ s. is_end s ≡ eqb k 3) (λ e. grind (arith, nat_tests))
    (λ _. cond_both (eqb k 3) _ _ (λ s. is_end s ≡ eqb k 3) (λ e. sym e) (λ e. sym e)))

-- the head of the record at which a reader stands, read without a fault
pub record Headed (r : Reader) (k : ℕ) (b : List ℕ) : Type 0 where
  pub fault : head_fault r.kind r.at (left r) ≡ None
  pub kind : k ≡ get_or (left r) 2 0
  pub body_is : b ≡ body (left r)

pub headed : (r : Reader) (k : ℕ) (b rest : List ℕ) → rest ≡ left r → (head_fault r.kind r.at rest ≡ None) × (k ≡ get_or rest 2 0) × (b ≡ body rest) → Headed r k b
headed r k b rest e h = record {
  fault = ap (head_fault r.kind r.at) (sym e) ∙ h.0;
  kind = h.1 ∙ ap (λ bs. get_or bs 2 0) e;
  body_is = h.2 ∙ ap body e;
}

length_headed : (r : Reader) (k : ℕ) (b : List ℕ) → Headed r k b → length b ≡ get_or (left r) 3 0
length_headed r k b h = ap length h.body_is ∙ length_body (left r) (sound r.kind r.at (left r) h.fault).whole

pub shows : (old new : Reader) (k : ℕ) (b : List ℕ) (s : Said) → old.ended ≡ false → Headed old k b → s ≡ said k b → new.at ≡ (old.at + 4) + length b → new.ended ≡ eqb k 3 → Shown old new old.at s
shows old new k b s unended h says moved ends = record {
  unended = unended;
  sound = h.fault;
  place = refl;
  says = says ∙ (λ i. said (h.kind i) (h.body_is i));
  moved = omega (arith, length_headed old k b h);
  ends = ends ∙ sym (ends_is k b) ∙ ap is_end (sym says);
}
