-- A file reads as its rows: each record that is laid out is read as what was laid out, and its row has no fault. Assumes nothing.
use Rattle.std.proofs.Common.{◌≡◌, ℕ, suc, ◌+◌, ◌-◌, ◌≤◌, true, false, List, [], ◌∷◌, ◌++◌, length, drop, Ok, sym, refl, ap, ◌∙◌, subst, arith}
use Rattle.std.proofs.lemmas.List.{append_assoc, append-nil, length_push}
use Rattle.std.proofs.lemmas.Bool.{le-leb, le-ltb, cond-false}
use Rattle.std.specs.List.{AllByRecursion}
use Rattle.files.specs.Decoding.{Rules, closes, end_fault, takes, decoded_from, decoded_by}
use Rattle.files.specs.Format.{Said, is_end, head_fault, kind_fits, length_fits, size, said, first}
use Rattle.files.specs.Format as format
use Rattle.files.specs.Layout.{laid, two_bytes, end_record, Item, row, note, items_bytes, items_rows, Short, FileOf}
use Rattle.files.specs.declared.record.FileKind.{FileKind}
use Rattle.files.specs.declared.record.FileKind.TheVariants.{List as ListKind, Plan as PlanKind}
use Rattle.files.proofs.Decodes.{turn, last, spent}
use Rattle.files.proofs.Kept.{SaysRow, says_task, says_plan, Kept}
use Rattle.files.proofs.Laid.{head_laid, first_laid, two_bytes_back, end_good, rest_of, bytes_left}

-- every file may have notes and an end record
notes_fit : (k : FileKind) → kind_fits k 2 ≡ true
notes_fit ListKind = refl
notes_fit PlanKind = refl

end_fits : (k : FileKind) → kind_fits k 3 ≡ true
end_fits ListKind = refl
end_fits PlanKind = refl

not_last : (s : Said) → SaysRow s → is_end s ≡ false
not_last _ (says_task p c q n) = refl
not_last _ (says_plan k r h) = refl

module _ {R F : Type 0} {g : Rules R F} {f : ℕ → R → List ℕ} {K : List R → Type 0} (kept : Kept g f K) where
  row_takes : (s : Said) (size at : ℕ) (rs : List R) → SaysRow s → takes g size at rs s ≡ g.adds at rs s
  row_takes _ size at rs (says_task p c q n) = refl
  row_takes _ size at rs (says_plan k r h) = refl

  -- one record that is laid out where reading stands
  laid_read : (k : ℕ) (b rest : List ℕ) (n : ℕ) (bs : List ℕ) (at : ℕ) (rs new : List R) (s : Said) → drop at bs ≡ laid k b ++ rest → kind_fits g.kind k ≡ true → length_fits k (length b) ≡ true → s ≡ said k b → is_end s ≡ false → takes g (length bs) at rs s ≡ Ok new → decoded_from g (suc n) bs at rs ≡ decoded_from g n bs (at + (4 + length b)) new
  laid_read k b rest n bs at rs new s e kind fits says more taken =
      turn g n bs at rs new s
      (ap (head_fault g.kind at) e ∙ head_laid g.kind at k b rest kind fits)
      (says ∙ sym (first_laid k b rest) ∙ ap first (sym e))
      more
      taken
      ∙ ap (λ xs. decoded_from g n bs (at + size xs) new) e

  end_read : (n : ℕ) (bs : List ℕ) (at : ℕ) (rs : List R) → drop at bs ≡ end_record (length rs) → g.lacks rs ≡ false → decoded_from g (suc n) bs at rs ≡ Ok rs
  end_read n bs at rs e whole =
      let here = e ∙ sym (append-nil (end_record (length rs))) in
      let size_is : length bs ≡ at + 6 = omega (arith, bytes_left 3 (two_bytes (length rs)) [] bs at here) in
      last g n bs at rs (length rs)
      (ap (head_fault g.kind at) here ∙ head_laid g.kind at 3 (two_bytes (length rs)) [] (end_fits g.kind) refl)
      (ap format.end (sym (two_bytes_back (length rs))) ∙ sym (first_laid 3 (two_bytes (length rs)) []) ∙ ap first (sym here))
      ∙ ap (λ o. closes o rs) (ap (λ l. end_fault l (length bs) at (length rs) (length rs)) whole ∙ end_good (length bs) at (length rs) size_is)

  file_read : (is : List (Item R)) (n : ℕ) (bs : List ℕ) (at : ℕ) (rs : List R) → drop at bs ≡ items_bytes f (length rs) is ++ end_record (length rs + length (items_rows is)) → AllByRecursion Short is → K (rs ++ items_rows is) → length bs - at ≤ n → decoded_from g n bs at rs ≡ Ok (rs ++ items_rows is)
  file_read [] n bs at rs e fit keep enough =
      let here : drop at bs ≡ end_record (length rs) = e ∙ ap end_record (omega arith) in
      let m = spent n (omega (arith, enough, bytes_left 3 (two_bytes (length rs)) [] bs at (here ∙ sym (append-nil (end_record (length rs)))))) in
      ap (λ k. decoded_from g k bs at rs) m.1
      ∙ end_read m.0 bs at rs here (kept.complete rs (subst K (append-nil rs) keep))
      ∙ ap (λ xs. Ok xs) (sym (append-nil rs))
  file_read (row q ∷ is) n bs at rs e fit keep enough =
      let k = length rs in
      let r = kept.row_record rs (items_rows is) q at keep in
      let rest = items_bytes f (suc k) is ++ end_record (k + length (items_rows (row q ∷ is))) in
      let here : drop at bs ≡ laid r.kind r.body ++ rest =
      e ∙ append_assoc (f k q) (items_bytes f (suc k) is) _ ∙ ap (λ xs. xs ++ rest) r.laid_out in
      let long = bytes_left r.kind r.body rest bs at here in
      let m = spent n (omega arith) in
      let more = length_push rs q in
      let number : suc k ≡ length (rs ++ q ∷ []) = omega arith in
      let count : k + length (items_rows (row q ∷ is)) ≡ length (rs ++ q ∷ []) + length (items_rows is) = omega arith in
      let next : drop (at + (4 + length r.body)) bs ≡ items_bytes f (length (rs ++ q ∷ [])) is ++ end_record (length (rs ++ q ∷ []) + length (items_rows is)) =
      rest_of r.kind r.body rest bs at here ∙ (λ i. items_bytes f (number i) is ++ end_record (count i)) in
      ap (λ j. decoded_from g j bs at rs) m.1
      ∙ laid_read r.kind r.body rest m.0 bs at rs (rs ++ q ∷ []) (said r.kind r.body) here r.kind_ok r.length_ok refl (not_last _ r.says_row) (row_takes _ (length bs) at rs r.says_row ∙ r.added)
      ∙ file_read is m.0 bs (at + (4 + length r.body)) (rs ++ q ∷ []) next fit.1 (subst K (sym (append_assoc rs (q ∷ []) (items_rows is))) keep) (omega (arith, m.1))
      ∙ ap (λ xs. Ok xs) (append_assoc rs (q ∷ []) (items_rows is))
  file_read (note b ∷ is) n bs at rs e fit keep enough =
      let rest = items_bytes f (length rs) is ++ end_record (length rs + length (items_rows is)) in
      let here : drop at bs ≡ laid 2 b ++ rest = e ∙ append_assoc (laid 2 b) (items_bytes f (length rs) is) _ in
      let long = bytes_left 2 b rest bs at here in
      let m = spent n (omega arith) in
      ap (λ j. decoded_from g j bs at rs) m.1
      ∙ laid_read 2 b rest m.0 bs at rs rs (format.note b) here (notes_fit g.kind) (le-leb (length b) 255 fit.0) refl refl refl
      ∙ file_read is m.0 bs (at + (4 + length b)) rs (rest_of 2 b rest bs at here) fit.1 keep (omega (arith, m.1))

  pub file_decodes : (bs : List ℕ) (rs : List R) → FileOf f K bs rs → decoded_by g bs ≡ Ok rs
  unfolding decoded_by
  file_decodes bs rs w =
      cond-false _ _ _ (le-ltb 8192 (length bs) w.short)
      ∙ file_read w.items (length bs) bs 0 [] (w.bytes ∙ ap (λ n. items_bytes f 0 w.items ++ end_record n) (sym (ap length w.rows) ∙ omega arith)) w.fit (subst K (sym w.rows) w.keep) (omega arith)
      ∙ ap (λ xs. Ok xs) w.rows
