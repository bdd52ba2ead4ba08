-- Reading a file record by record gives what the definition says: what is left of the run gives the whole run. Assumes nothing.
use Rattle.std.proofs.Common.{◌≡◌, ℕ, zero, suc, ◌+◌, ◌-◌, ◌<◌, ◌≤◌, Bool, true, false, cond, ◌||◌, List, [], length, drop, Some, None, Ok, Err, Option, Result, sym, refl, ap, ◌∙◌, arith, length-drop}
use Rattle.std.proofs.lemmas.Option.{MatchOption-at_some}
use Rattle.std.proofs.lemmas.Bool.{lt-ltb, le-ltb, cond-true, cond-false, true≢false}
use Rattle.files.specs.Decoding.{Rules, closes, end_fault, takes, goes_on, decoded_from, decoded_by, Ends}
use Rattle.files.specs.Format.{Said, task, note, end, plan, view, is_end, head_fault, size, first}
use Rattle.files.specs.Reading.{left, Begins, Shown, Nexts}
use Rattle.files.specs.declared.fault.ByteFault.{ByteFault}
use Rattle.files.specs.declared.fault.ByteFault.TheVariants.{TooLong, CutOff}
use Rattle.files.specs.declared.fault.FileFault.{FileFault}
use Rattle.files.specs.declared.fault.FileFault.TheVariants.{Bytes}
use Rattle.files.specs.declared.reader.Reader.{Reader}
use Rattle.files.specs.declared.record.FileKind.{FileKind}
use Rattle.files.specs.declared.record.Record.{Record}
use Rattle.files.specs.declared.record.Record.TheVariants.{Task, Note, End, Plan}
use Rattle.files.proofs.Heads.{within}

-- a turn that is left can be spent
pub spent : (n : ℕ) → 0 < n → (m : ℕ) × (n ≡ suc m)
spent zero h = absurd (omega arith)
spent (suc m) h = (m, refl)

none_left : (k : FileKind) (bs : List ℕ) (at : ℕ) → length bs - at ≤ 0 → head_fault k at (drop at bs) ≡ Some (CutOff at)
none_left k bs at h = simp (lt-ltb (length (drop at bs)) 4 (omega (arith, length-drop at bs)))

-- what the reader answered, taken apart
pub shown_is : (old new : Reader) (o : Option (ℕ × Record)) (at : ℕ) (r : Record) → o ≡ Some (at, r) → Nexts old new (Ok o) → Shown old new at (view r)
shown_is old new o at r e h = MatchOption-at_some _ _ (at, r) e h.answered

-- a record that is neither a note nor the end record is not the last, and does what the rules say of it
pub not_end : (x : Record) → ((b : _) → x ≡ Note b → ⊥) → ((n : ℕ) → x ≡ End n → ⊥) → is_end (view x) ≡ false
not_end (Task r) n1 n2 = refl
not_end (Note b) n1 n2 = absurd (n1 b refl)
not_end (End n) n1 n2 = absurd (n2 n refl)
not_end (Plan k r) n1 n2 = refl

pub adds_only : {R F : Type 0} (g : Rules R F) (size at : ℕ) (rs : List R) (x : Record) → ((b : _) → x ≡ Note b → ⊥) → ((n : ℕ) → x ≡ End n → ⊥) → takes g size at rs (view x) ≡ g.adds at rs (view x)
adds_only g size at rs (Task r) n1 n2 = refl
adds_only g size at rs (Note b) n1 n2 = absurd (n1 b refl)
adds_only g size at rs (End n) n1 n2 = absurd (n2 n refl)
adds_only g size at rs (Plan k r) n1 n2 = refl

module _ {R F : Type 0} (g : Rules R F) where
  -- one record without a fault in its head
  read_on : (n : ℕ) (bs : List ℕ) (at : ℕ) (rs : List R) (s : Said) → head_fault g.kind at (drop at bs) ≡ None → s ≡ first (drop at bs) → decoded_from g (suc n) bs at rs ≡ goes_on None (takes g (length bs) at rs s) (is_end s) (decoded_from g n bs (at + size (drop at bs)))
  read_on n bs at rs s sound says =
      λ i. goes_on (sound i) (takes g (length bs) at rs (sym says i)) (is_end (sym says i)) (decoded_from g n bs (at + size (drop at bs)))

  -- one record that is taken, and is not the last
  pub turn : (n : ℕ) (bs : List ℕ) (at : ℕ) (rs new : List R) (s : Said) → head_fault g.kind at (drop at bs) ≡ None → s ≡ first (drop at bs) → is_end s ≡ false → takes g (length bs) at rs s ≡ Ok new → decoded_from g (suc n) bs at rs ≡ decoded_from g n bs (at + size (drop at bs)) new
  turn n bs at rs new s sound says more taken =
      read_on n bs at rs s sound says ∙ (λ i. goes_on None (taken i) (more i) (decoded_from g n bs (at + size (drop at bs))))

  -- the end record: what is read is what it leaves
  closed : (o : Option ByteFault) (rs : List R) (more : List R → Result (List R) (FileFault F)) → goes_on None (closes o rs) true more ≡ closes o rs
  closed None rs more = refl
  closed (Some f) rs more = refl

  pub last : (n : ℕ) (bs : List ℕ) (at : ℕ) (rs : List R) (k : ℕ) → head_fault g.kind at (drop at bs) ≡ None → end k ≡ first (drop at bs) → decoded_from g (suc n) bs at rs ≡ closes (end_fault (g.lacks rs) (length bs) at (length rs) k) rs
  last n bs at rs k sound says = read_on n bs at rs (end k) sound says ∙ closed (end_fault (g.lacks rs) (length bs) at (length rs) k) rs _

  -- a record whose head is wrong
  faulty : (n : ℕ) (bs : List ℕ) (at : ℕ) (rs : List R) (f : ByteFault) → length bs - at ≤ n → head_fault g.kind at (drop at bs) ≡ Some f → decoded_from g n bs at rs ≡ Err (Bytes f)
  faulty zero bs at rs f enough e = let z = none_left g.kind bs at enough in cc
  faulty (suc n) bs at rs f enough e =
      ap (λ o. goes_on o (takes g (length bs) at rs (first (drop at bs))) (is_end (first (drop at bs))) (decoded_from g n bs (at + size (drop at bs)))) e

  -- the run of a reader over the file bs, before its end record, with the rows so far
  pub record Going (bs : List ℕ) (r : Reader) (rs : List R) : Type 0 where
    pub file : r.bytes.now ≡ bs
    pub kind : r.kind ≡ g.kind
    pub unended : r.ended ≡ false
    pub turns : ℕ
    pub enough : length bs - r.at ≤ turns
    pub whole : decoded_from g turns bs r.at rs ≡ decoded_by g bs

  pub starts : (bs : List ℕ) (r : Reader) (k : FileKind) (rs : List R) → length bs ≤ 8192 → Begins r bs 0 k → k ≡ g.kind → rs ≡ [] → Going bs r rs
  unfolding decoded_by
  starts bs r k rs few b kind none = record {
    file = b.bytes;
    kind = b.kind ∙ kind;
    unended = b.unended;
    turns = length bs;
    enough = omega arith;
    whole = (λ i. decoded_from g (length bs) bs (b.place i) (none i)) ∙ sym (cond-false _ _ _ (le-ltb 8192 (length bs) few));
  }

  -- what the reader shows of its own bytes, it shows of the file
  head_of : (bs : List ℕ) (r : Reader) (rs : List R) (o : Option ByteFault) → Going bs r rs → head_fault r.kind r.at (left r) ≡ o → head_fault g.kind r.at (drop r.at bs) ≡ o
  head_of bs r rs o w e = (λ i. head_fault (sym w.kind i) r.at (drop r.at (sym w.file i))) ∙ e

  says_of : (bs : List ℕ) (r new : Reader) (rs : List R) (at : ℕ) (s : Said) → Going bs r rs → Shown r new at s → s ≡ first (drop r.at bs)
  says_of bs r new rs at s w h = h.says ∙ ap (λ xs. first (drop r.at xs)) w.file

  moved_of : (bs : List ℕ) (r new : Reader) (rs : List R) (at : ℕ) (s : Said) → Going bs r rs → Shown r new at s → new.at ≡ r.at + size (drop r.at bs)
  moved_of bs r new rs at s w h = h.moved ∙ ap (λ xs. r.at + size (drop r.at xs)) w.file

  pub place_within : (bs : List ℕ) (r new : Reader) (rs : List R) (at : ℕ) (s : Said) → Going bs r rs → Shown r new at s → (at ≡ r.at) × (at + 4 ≤ length bs) × (new.at ≤ length bs) × (r.at + 4 ≤ new.at)
  place_within bs r new rs at s w h =
      let inside = within g.kind r.at bs (head_of bs r rs None w h.sound) in
      let m = moved_of bs r new rs at s w h in
      (h.place, omega (arith, h.place), omega arith, omega arith)

  -- the turn of this record
  turn_of : (bs : List ℕ) (r new : Reader) (rs : List R) (at : ℕ) (s : Said) (w : Going bs r rs) → Shown r new at s → (n : ℕ) × (w.turns ≡ suc n)
  turn_of bs r new rs at s w h = let inside = place_within bs r new rs at s w h in spent w.turns (omega (arith, w.enough))

  pub going_on : (bs : List ℕ) (r new : Reader) (rs rs' : List R) (at : ℕ) (s : Said) → Going bs r rs → Shown r new at s → (new.bytes.now ≡ r.bytes.now) × (new.kind ≡ r.kind) → is_end s ≡ false → takes g (length bs) at rs s ≡ Ok rs' → Going bs new rs'
  going_on bs r new rs rs' at s w h same more taken =
      let inside = place_within bs r new rs at s w h in
      let n = turn_of bs r new rs at s w h in
      record {
        file = same.0 ∙ w.file;
        kind = same.1 ∙ w.kind;
        unended = h.ends ∙ more;
        turns = n.0;
        enough = omega (arith, w.enough, n.1);
        whole =
            ap (λ a. decoded_from g n.0 bs a rs') (moved_of bs r new rs at s w h)
            ∙ sym (turn n.0 bs r.at rs rs' s (head_of bs r rs None w h.sound) (says_of bs r new rs at s w h) more (ap (λ a. takes g (length bs) a rs s) (sym h.place) ∙ taken))
            ∙ ap (λ m. decoded_from g m bs r.at rs) (sym n.1)
            ∙ w.whole;
      }

  pub head_refused : (bs : List ℕ) (r : Reader) (rs : List R) (f : ByteFault) → Going bs r rs → head_fault r.kind r.at (left r) ≡ Some f → decoded_by g bs ≡ Err (Bytes f)
  head_refused bs r rs f w e = sym w.whole ∙ faulty w.turns bs r.at rs f w.enough (head_of bs r rs (Some f) w e)

  pub record_refused : (bs : List ℕ) (r new : Reader) (rs : List R) (at : ℕ) (s : Said) (f : FileFault F) → Going bs r rs → Shown r new at s → takes g (length bs) at rs s ≡ Err f → decoded_by g bs ≡ Err f
  record_refused bs r new rs at s f w h taken =
      let n = turn_of bs r new rs at s w h in
      sym w.whole
      ∙ ap (λ m. decoded_from g m bs r.at rs) n.1
      ∙ read_on n.0 bs r.at rs s (head_of bs r rs None w h.sound) (says_of bs r new rs at s w h)
      ∙ ap (λ t. goes_on None t (is_end s) (decoded_from g n.0 bs (r.at + size (drop r.at bs)))) (ap (λ a. takes g (length bs) a rs s) (sym h.place) ∙ taken)

  pub ended : (bs : List ℕ) (r new : Reader) (rs : List R) (at k : ℕ) → Going bs r rs → Shown r new at (end k) → Ends g bs rs at k
  ended bs r new rs at k w h =
      let n = turn_of bs r new rs at (end k) w h in
      sym w.whole
      ∙ ap (λ m. decoded_from g m bs r.at rs) n.1
      ∙ last n.0 bs r.at rs k (head_of bs r rs None w h.sound) (says_of bs r new rs at (end k) w h)
      ∙ ap (λ a. closes (end_fault (g.lacks rs) (length bs) a (length rs) k) rs) (sym h.place)

  pub too_long : (bs : List ℕ) → 8192 < length bs → decoded_by g bs ≡ Err (Bytes (TooLong (length bs)))
  unfolding decoded_by
  too_long bs h = cond-true _ _ _ (lt-ltb 8192 (length bs) h)

  -- what is left to decode: nothing once the end record was read
  abbrev pub left_over : Bool → ℕ → List ℕ → ℕ → List R → Result (List R) (FileFault F)
  left_over true n bs at rs = Ok rs
  left_over false n bs at rs = decoded_from g n bs at rs

  -- the run of a reader over the file bs, up to its end record or past it, with the rows so far; past it no row is missing
  pub record Gone (bs : List ℕ) (r : Reader) (rs : List R) : Type 0 where
    pub file : r.bytes.now ≡ bs
    pub kind : r.kind ≡ g.kind
    pub full : r.ended ≡ true → g.lacks rs ≡ false
    pub turns : ℕ
    pub enough : length bs - r.at ≤ turns
    pub whole : left_over r.ended turns bs r.at rs ≡ decoded_by g bs

  before_end : (bs : List ℕ) (r : Reader) (rs : List R) → Gone bs r rs → r.ended ≡ false → Going bs r rs
  before_end bs r rs w e = record {
    file = w.file;
    kind = w.kind;
    unended = e;
    turns = w.turns;
    enough = w.enough;
    whole = ap (λ b. left_over b w.turns bs r.at rs) (sym e) ∙ w.whole;
  }

  goes_on_open : (bs : List ℕ) (r : Reader) (rs : List R) → Going bs r rs → Gone bs r rs
  goes_on_open bs r rs w = record {
    file = w.file;
    kind = w.kind;
    full = λ e. absurd (true≢false (sym e ∙ w.unended));
    turns = w.turns;
    enough = w.enough;
    whole = ap (λ b. left_over b w.turns bs r.at rs) w.unended ∙ w.whole;
  }

  -- an end record is taken only after the last row, and leaves the rows
  none_lacks : (lacks wrong : Bool) (f : ByteFault) (o : Option ByteFault) (rs new : List R) → closes {F = F} (cond (lacks || wrong) (Some f) o) rs ≡ Ok new → lacks ≡ false
  none_lacks true wrong f o rs new e = cc
  none_lacks false wrong f o rs new e = refl

  rows_stay : (o : Option ByteFault) (rs new : List R) → closes {F = F} o rs ≡ Ok new → rs ≡ new
  rows_stay None rs new e = cc
  rows_stay (Some f) rs new e = cc

  -- one record that is taken, the end record too
  pub turn_goes_on : (bs : List ℕ) (r new : Reader) (rs rs' : List R) (at : ℕ) (s : Said) → Gone bs r rs → Shown r new at s → (new.bytes.now ≡ r.bytes.now) × (new.kind ≡ r.kind) → takes g (length bs) at rs s ≡ Ok rs' → Gone bs new rs'
  turn_goes_on bs r new rs rs' at (end k) w h same taken =
      let open_now = before_end bs r rs w h.unended in
      let inside = place_within bs r new rs at (end k) open_now h in
      let stay = rows_stay _ rs rs' taken in
      record {
        file = same.0 ∙ w.file;
        kind = same.1 ∙ w.kind;
        full = λ e. ap g.lacks (sym stay) ∙ none_lacks (g.lacks rs) _ _ _ rs rs' taken;
        turns = w.turns;
        enough = omega (arith, w.enough);
        whole = (λ i. left_over (h.ends i) w.turns bs new.at rs') ∙ sym (ended bs r new rs at k open_now h ∙ taken);
      }
  turn_goes_on bs r new rs rs' at (task p c q n) w h same taken =
      goes_on_open bs new rs' (going_on bs r new rs rs' at (task p c q n) (before_end bs r rs w h.unended) h same refl taken)
  turn_goes_on bs r new rs rs' at (note b) w h same taken =
      goes_on_open bs new rs' (going_on bs r new rs rs' at (note b) (before_end bs r rs w h.unended) h same refl taken)
  turn_goes_on bs r new rs rs' at (plan t r1 h1) w h same taken =
      goes_on_open bs new rs' (going_on bs r new rs rs' at (plan t r1 h1) (before_end bs r rs w h.unended) h same refl taken)
