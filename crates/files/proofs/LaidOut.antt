-- A file that reads as rows is laid out as the format says, if they are rows that it may have. Of its bytes it takes that they are below 256.
use Rattle.std.proofs.Common.{◌≡◌, ℕ, zero, suc, ◌+◌, ◌/◌, ◌%◌, ◌<◌, ◌≤◌, Bool, true, false, cond, ltb, leb, List, [], ◌∷◌, ◌++◌, length, get_or, take, drop, Some, None, Ok, Err, Option, Result, sym, refl, ap, ◌∙◌, subst, ⊎_elim, arith, length-drop, length-take}
use Rattle.std.proofs.lemmas.List.{drop_all, drop-drop, take-append-drop, append_assoc, append-nil, length_push, get_or-take, get_or-drop, get_or_past}
use Rattle.std.proofs.lemmas.Bool.{leb-true, ltb-false, eqb-true, and_parts, or_parts, not-false, cases_lt, true≢false}
use Rattle.std.specs.List.{AllByRecursion}
use Rattle.files.specs.Decoding.{Rules, takes, end_fault, closes, goes_on, decoded_from, decoded_by}
use Rattle.files.specs.Format.{is_end, number, head_fault, kind_fits, length_fits, body, size, said, first}
use Rattle.files.specs.Layout.{laid, two_bytes, end_record, Item, row, note, items_bytes, items_rows, Short, FileOf, Accepts}
use Rattle.files.specs.declared.fault.ByteFault.{ByteFault}
use Rattle.files.specs.declared.fault.FileFault.{FileFault}
use Rattle.files.specs.declared.record.FileKind.{FileKind}
use Rattle.files.specs.declared.record.FileKind.TheVariants.{List as ListKind, Plan as PlanKind}
use Rattle.files.proofs.Heads.{Sound, sound, length_body}
use Rattle.files.proofs.Kept.{Bytes, RowAdded, Kept}
use Rattle.files.proofs.ReadsBack.{file_decodes}

bytes_drop : (n : ℕ) (bs : List ℕ) → Bytes bs → Bytes (drop n bs)
bytes_drop n bs h i = omega (arith, get_or-drop n bs i 0, h (n + i))

bytes_take : (n : ℕ) (bs : List ℕ) → Bytes bs → Bytes (take n bs)
bytes_take n bs h i =
    ⊎_elim (λ (l : i < n). omega (arith, get_or-take n bs i 0 l, h i))
    (λ (l : n ≤ i). omega (arith, get_or_past (take n bs) i 0 (omega (arith, length-take n bs))))
    (cases_lt i n)

-- a check that passed
pub passed : {F : Type 0} (b : Bool) (x : F) (o : Option F) → cond b (Some x) o ≡ None → (b ≡ false) × (o ≡ None)
passed true x o e = cc
passed false x o e = (refl, e)

-- a record without a fault is laid out as its kind and its body say
relaid : (f : FileKind) (xs : List ℕ) → Sound f xs → xs ≡ laid (get_or xs 2 0) (body xs) ++ drop (size xs) xs
relaid f [] s = absurd (omega (arith, s.long))
relaid f (a ∷ []) s = absurd (omega (arith, s.long))
relaid f (a ∷ b ∷ []) s = absurd (omega (arith, s.long))
relaid f (a ∷ b ∷ k ∷ []) s = absurd (omega (arith, s.long))
relaid f (a ∷ b ∷ k ∷ d ∷ ys) s =
    let n : 4 + d ≡ suc (suc (suc (suc d))) = omega arith in
    let mark = and_parts _ _ s.mark in
    let xs = a ∷ b ∷ k ∷ d ∷ ys in
    (λ i. eqb-true a 0xa7 mark.0 i ∷ eqb-true b 0x5e mark.1 i ∷ k ∷ sym (length_body xs s.whole) i ∷ (sym (take-append-drop d ys) ∙ ap (λ m. take d ys ++ drop m xs) (sym n)) i)

pub high_back : (h l : ℕ) → l < 256 → h ≡ number h l / 256
high_back h l s = omega arith

pub low_back : (h l : ℕ) → l < 256 → l ≡ number h l % 256
low_back h l s = omega arith

end_back : (b : List ℕ) → Bytes b → length b ≡ 2 → b ≡ two_bytes (number (get_or b 0 0) (get_or b 1 0))
end_back [] h l = absurd (omega arith)
end_back (c ∷ []) h l = absurd (omega arith)
end_back (c ∷ d ∷ []) h l = λ i. high_back c d (h 1) i ∷ low_back c d (h 1) i ∷ []
end_back (c ∷ d ∷ e ∷ xs) h l = absurd (omega arith)

-- the kinds that a file may have
kinds : (f : FileKind) (k : ℕ) → kind_fits f k ≡ true → (1 ≤ k) × (k ≤ 4)
kinds ListKind k e = let p = and_parts (leb 1 k) (leb k 3) e in (leb-true 1 k p.0, omega (arith, leb-true k 3 p.1))
kinds PlanKind k e = let p = and_parts (leb 2 k) (leb k 4) e in (omega (arith, leb-true 2 k p.0), leb-true k 4 p.1)

module _ {R F : Type 0} where
  end_ok : (o : Option ByteFault) (rs mid : List R) → closes {F = F} o rs ≡ Ok mid → (o ≡ None) × (rs ≡ mid)
  end_ok None rs mid e = (refl, cc)
  end_ok (Some f) rs mid e = cc

  ok_short : (b : Bool) (f : FileFault F) (t : Result (List R) (FileFault F)) (rs : List R) → cond b (Err f) t ≡ Ok rs → (b ≡ false) × (t ≡ Ok rs)
  ok_short true f t rs e = cc
  ok_short false f t rs e = (refl, e)

  -- how reading goes on from a record to rows: the record was the end, or what follows it gives them
  abbrev Follows : Bool → (List R → Result (List R) (FileFault F)) → List R → List R → Type 0
  Follows true more mid out = mid ≡ out
  Follows false more mid out = more mid ≡ Ok out

  on_ok : (o : Option ByteFault) (t : Result (List R) (FileFault F)) (e : Bool) (more : List R → Result (List R) (FileFault F)) (out : List R) → goes_on o t e more ≡ Ok out → (o ≡ None) × ((mid : List R) × (t ≡ Ok mid) × Follows e more mid out)
  on_ok (Some f) t e more out h = cc
  on_ok None (Err f) e more out h = cc
  on_ok None (Ok mid) true more out h = (refl, (mid, refl, cc))
  on_ok None (Ok mid) false more out h = (refl, (mid, refl, h))

module _ {R F : Type 0} {g : Rules R F} {f : ℕ → R → List ℕ} {K : List R → Type 0} (kept : Kept g f K) where
  -- what is left of a file, xs, adds rows to rs and ends with the count of all
  record Rest (xs : List ℕ) (rs out : List R) : Type 0 where
    items : List (Item R)
    fit : AllByRecursion Short items
    rows : rs ++ items_rows items ≡ out
    bytes : xs ≡ items_bytes f (length rs) items ++ end_record (length out)

  -- one record before what is left
  row_before : (k : ℕ) (b ys : List ℕ) (rs mid out : List R) → RowAdded f rs mid k b → Rest ys mid out → Rest (laid k b ++ ys) rs out
  row_before k b ys rs mid out a r =
      let number_is : length mid ≡ suc (length rs) = omega (arith, length_push rs a.row, ap length a.rows) in
      record {
        items = row a.row ∷ r.items;
        fit = (tt, r.fit);
        rows = sym (append_assoc rs (a.row ∷ []) (items_rows r.items)) ∙ ap (λ xs. xs ++ items_rows r.items) (sym a.rows) ∙ r.rows;
        bytes =
            (λ i. a.laid_out i ++ (r.bytes ∙ ap (λ k. items_bytes f k r.items ++ end_record (length out)) number_is) i)
            ∙ sym (append_assoc (f (length rs) a.row) (items_bytes f (suc (length rs)) r.items) (end_record (length out)));
      }

  note_before : (b ys : List ℕ) (rs out : List R) → length b ≤ 255 → Rest ys rs out → Rest (laid 2 b ++ ys) rs out
  note_before b ys rs out short r = record {
    items = note b ∷ r.items;
    fit = (short, r.fit);
    rows = r.rows;
    bytes = ap (λ xs. laid 2 b ++ xs) r.bytes ∙ sym (append_assoc (laid 2 b) (items_bytes f (length rs) r.items) (end_record (length out)));
  }

  end_last : (b ys : List ℕ) (rs : List R) → Bytes b → length b ≡ 2 → number (get_or b 0 0) (get_or b 1 0) ≡ length rs → ys ≡ [] → Rest (laid 3 b ++ ys) rs rs
  end_last b ys rs bytes two count none = record {
    items = [];
    fit = tt;
    rows = append-nil rs;
    bytes = (λ i. laid 3 ((end_back b bytes two ∙ ap two_bytes count) i) ++ none i) ∙ append-nil (end_record (length rs));
  }

  by_kind : (k : ℕ) (b ys : List ℕ) (size at : ℕ) (rs mid out : List R) (more : List R → Result (List R) (FileFault F)) → Bytes b → kind_fits g.kind k ≡ true → length_fits k (length b) ≡ true → takes g size at rs (said k b) ≡ Ok mid → Follows (is_end (said k b)) more mid out → (length b ≡ 2 → size ≤ at + 6 → ys ≡ []) → ((mid : List R) → more mid ≡ Ok out → Rest ys mid out) → Rest (laid k b ++ ys) rs out
  by_kind zero b ys size at rs mid out more bytes kind fits taken follows last rest = absurd (omega (arith, (kinds g.kind 0 kind).0))
  by_kind (suc zero) b ys size at rs mid out more bytes kind fits taken follows last rest =
      row_before 1 b ys rs mid out (kept.row_added rs mid 1 b at bytes kind fits taken) (rest mid follows)
  by_kind (suc (suc zero)) b ys size at rs mid out more bytes kind fits taken follows last rest =
      let same : rs ≡ mid = cc in
      note_before b ys rs out (leb-true (length b) 255 fits) (rest rs (ap more same ∙ follows))
  by_kind (suc (suc (suc zero))) b ys size at rs mid out more bytes kind fits taken follows last rest =
      let two = eqb-true (length b) 2 fits in
      let t = end_ok (end_fault (g.lacks rs) size at (length rs) (number (get_or b 0 0) (get_or b 1 0))) rs mid taken in
      let counted = passed _ _ _ t.0 in
      let over = passed _ _ _ counted.1 in
      let count = eqb-true _ _ (not-false _ (or_parts (g.lacks rs) _ counted.0).1) in
      subst (λ (o : List R). Rest (laid 3 b ++ ys) rs o) (t.1 ∙ follows) (end_last b ys rs bytes two count (last two (ltb-false _ _ over.0)))
  by_kind (suc (suc (suc (suc zero)))) b ys size at rs mid out more bytes kind fits taken follows last rest =
      row_before 4 b ys rs mid out (kept.row_added rs mid 4 b at bytes kind fits taken) (rest mid follows)
  by_kind (suc (suc (suc (suc (suc k))))) b ys size at rs mid out more bytes kind fits taken follows last rest =
      absurd (omega (arith, (kinds g.kind (suc (suc (suc (suc (suc k))))) kind).1))

  rest_laid : (n : ℕ) (bs : List ℕ) (at : ℕ) (rs out : List R) → Bytes bs → decoded_from g n bs at rs ≡ Ok out → Rest (drop at bs) rs out
  rest_laid zero bs at rs out bytes e = cc
  rest_laid (suc n) bs at rs out bytes e =
      let xs = drop at bs in
      let on = on_ok (head_fault g.kind at xs) (takes g (length bs) at rs (first xs)) (is_end (first xs)) (decoded_from g n bs (at + size xs)) out e in
      let s = sound g.kind at xs on.0 in
      let long = length_body xs s.whole in
      let here = by_kind (get_or xs 2 0) (body xs) (drop (size xs) xs) (length bs) at rs on.1.0 out (decoded_from g n bs (at + size xs))
      (bytes_take (get_or xs 3 0) (drop 4 xs) (bytes_drop 4 xs (bytes_drop at bs bytes)))
      s.kind
      (ap (length_fits (get_or xs 2 0)) long ∙ s.fits)
      on.1.1
      on.1.2
      (λ two end. drop_all (size xs) xs (omega (arith, length-drop at bs, long)))
      (λ mid e'. subst (λ (ys : List ℕ). Rest ys mid out) (sym (drop-drop (size xs) at bs)) (rest_laid n bs (at + size xs) mid out bytes e')) in
      subst (λ (ys : List ℕ). Rest ys rs out) (sym (relaid g.kind xs s)) here

  -- a file that reads as rows that it may have is a file of them
  decodes_file : (bs : List ℕ) (rs : List R) → Bytes bs → K rs → decoded_by g bs ≡ Ok rs → FileOf f K bs rs
  unfolding decoded_by
  decodes_file bs rs bytes keep e =
      let short = ok_short (ltb 8192 (length bs)) _ _ rs e in
      let r = rest_laid (length bs) bs 0 [] rs bytes short.1 in
      record {
        items = r.items;
        fit = r.fit;
        rows = r.rows;
        keep = keep;
        bytes = r.bytes;
        short = ltb-false 8192 (length bs) short.0;
      }

  pub accepted : (bs : List ℕ) (rs : List R) → Bytes bs → K rs → decoded_by g bs ≡ Ok rs → Accepts {F = FileFault F} (FileOf f K bs) rs (Ok tt)
  accepted bs rs bytes keep e = record {
    only_files = λ _. decodes_file bs rs bytes keep e;
    all_files = λ qs w. let same = file_decodes kept bs qs w in (refl, cc);
  }

  pub refused : (bs : List ℕ) (rs : List R) (x : FileFault F) → decoded_by g bs ≡ Err x → Accepts (FileOf f K bs) rs (Err x)
  refused bs rs x e = record {
    only_files = λ t. absurd (true≢false (sym t));
    all_files = λ qs w. absurd (let same = file_decodes kept bs qs w in cc);
  }
