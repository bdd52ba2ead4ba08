-- What a reader of records answers.
--
--   left r               the bytes that the reader r has yet to read
--   ReadsHead f at bs a  a is kind and body of the record that begins bs, or what is wrong with its head
--   Begins r bs at f     the reader r stands at the place `at` of the file bs of kind f, before its end record
--   Shown old new at s   the reader `old` shows the record s, which begins at the place `at`, and becomes `new`
--   Over old new         the end record was shown: the reader `old` has no record left, and stays as it is
--   Refuses old new f    what stands at the reader `old` has the fault f, and the reader stays as it is
--   Nexts old new a      asking `old` for the next record answers a and leaves `new`
use Rattle.std.specs.Prelude.{◌≡◌, ℕ, ◌+◌, true, false, List, drop, Some, None, Option, Result, MatchOption, MatchResult, slice_index}
use Rattle.std.specs.Borrow.{Bor}
use Rattle.files.specs.Format.{Said, view, is_end, kind_number, head_fault, body, size, first}
use Rattle.files.specs.declared.fault.ByteFault.{ByteFault}
use Rattle.files.specs.declared.reader.Reader.{Reader}
use Rattle.files.specs.declared.record.FileKind.{FileKind}
use Rattle.files.specs.declared.record.Kind.{Kind}
use Rattle.files.specs.declared.record.Record.{Record}

abbrev pub left : Reader → List ℕ
left r = drop r.at r.bytes.now

abbrev pub ReadsHead : FileKind → ℕ → List ℕ → Result (Kind × Bor (List ℕ)) ByteFault → Type 0
ReadsHead f at bs a =
    MatchResult a (λ h. (head_fault f at bs ≡ None) × (kind_number h.0 ≡ slice_index bs 2) × (h.1.now ≡ body bs)) (λ e. head_fault f at bs ≡ Some e)

pub record Begins (r : Reader) (bs : List ℕ) (at : ℕ) (f : FileKind) : Type 0 where
  pub bytes : r.bytes.now ≡ bs
  pub place : r.at ≡ at
  pub kind : r.kind ≡ f
  pub unended : r.ended ≡ false

pub record Shown (old new : Reader) (at : ℕ) (s : Said) : Type 0 where
  pub unended : old.ended ≡ false
  pub sound : head_fault old.kind old.at (left old) ≡ None
  pub place : at ≡ old.at
  pub says : s ≡ first (left old)
  pub moved : new.at ≡ old.at + size (left old)
  pub ends : new.ended ≡ is_end s

pub record Over (old new : Reader) : Type 0 where
  pub ended : old.ended ≡ true
  pub stays : new ≡ old

pub record Refuses (old new : Reader) (f : ByteFault) : Type 0 where
  pub unended : old.ended ≡ false
  pub fault : head_fault old.kind old.at (left old) ≡ Some f
  pub stays : new ≡ old

pub record Nexts (old new : Reader) (answer : Result (Option (ℕ × Record)) ByteFault) : Type 0 where
  pub file : (new.bytes.now ≡ old.bytes.now) × (new.kind ≡ old.kind)
  pub answered : MatchResult answer (λ o. MatchOption o (Over old new) (λ p. Shown old new p.0 (view p.1))) (λ f. Refuses old new f)
