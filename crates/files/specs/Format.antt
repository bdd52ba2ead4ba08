-- The records of a file, as its bytes say them. A file is a row of records: the mark A7 5E, a kind, the length of the body, the body.
--
--   Said                 what a record says: a task, a note, the end with its count, a row of a plan
--   view r               what the record r says
--   is_end s             it is the end record
--   number h l           the number with the high byte h and the low byte l
--   marked bs            bs begins with the mark
--   kind_number k        the number that stands for the kind k
--   Numbers n a          asking for the kind with the number n answers a: refused exactly if there is none
--   kind_fits f k        a file f may have a record of kind number k
--   length_fits k n      the body of a record of kind number k may have n bytes
--   head_fault f at bs   what is wrong with the record that begins bs, if anything is: bs is a file of kind f from the place `at` on
--   body bs, size bs     the body of the record that begins bs, and how many bytes the record takes
--   said k b             what a record of kind number k with the body b says
--   first bs             what the record that begins bs says
use Rattle.std.specs.Prelude.{◌≡◌, ℕ, ◌+◌, ◌*◌, Bool, true, false, cond, not, ◌&&◌, List, length, take, drop, Some, None, Option, Result, MatchResult, ◌==◌, nat_le, nat_lt, slice_index}
use Rattle.files.specs.declared.fault.ByteFault.{ByteFault}
use Rattle.files.specs.declared.fault.ByteFault.TheVariants.{CutOff, WrongMark, WrongKind, WrongLength}
use Rattle.files.specs.declared.record.FileKind.{FileKind}
use Rattle.files.specs.declared.record.FileKind.TheVariants.{List as ListFile, Plan as PlanFile}
use Rattle.files.specs.declared.record.Kind.{Kind}
use Rattle.files.specs.declared.record.Kind.TheVariants as kind
use Rattle.files.specs.declared.record.Record.{Record}
use Rattle.files.specs.declared.record.Record.TheVariants.{Task, Note, End, Plan}
use Rattle.files.specs.declared.record.UnknownKind.{UnknownKind}

pub data Said : Type 0 where
  task : (preference cost period : ℕ) (name : List ℕ) → Said
  note : List ℕ → Said
  end : ℕ → Said
  plan : (task rank hold : ℕ) → Said

abbrev pub view : Record → Said
view (Task r) = task r.preference r.cost r.period r.name.now
view (Note b) = note b.now
view (End n) = end n
view (Plan t r) = plan t r.rank r.hold

abbrev pub is_end : Said → Bool
is_end (task p c q n) = false
is_end (note b) = false
is_end (end n) = true
is_end (plan t r h) = false

abbrev pub number : ℕ → ℕ → ℕ
number h l = h * 256 + l

abbrev pub marked : List ℕ → Bool
marked bs = slice_index bs 0 == 0xa7 && slice_index bs 1 == 0x5e

abbrev pub kind_number : Kind → ℕ
kind_number kind.Task = 1
kind_number kind.Note = 2
kind_number kind.End = 3
kind_number kind.Plan = 4

abbrev pub Numbers : ℕ → Result Kind UnknownKind → Type 0
Numbers n a = MatchResult a (λ k. n ≡ kind_number k) (λ _. (nat_le 1 n && nat_le n 4) ≡ false)

abbrev pub kind_fits : FileKind → ℕ → Bool
kind_fits ListFile k = nat_le 1 k && nat_le k 3
kind_fits PlanFile k = nat_le 2 k && nat_le k 4

abbrev pub length_fits : ℕ → ℕ → Bool
length_fits k n =
    cond (k == 1) (nat_le 6 n && nat_le n 21)
    (cond (k == 2) (nat_le n 255)
    (cond (k == 3) (n == 2)
    (n == 4)))

abbrev pub head_fault : FileKind → ℕ → List ℕ → Option ByteFault
head_fault f at bs =
    cond (nat_lt (length bs) 4) (Some (CutOff at))
    (cond (not (marked bs)) (Some (WrongMark at))
    (cond (not (kind_fits f (slice_index bs 2))) (Some (WrongKind at))
    (cond (not (length_fits (slice_index bs 2) (slice_index bs 3))) (Some (WrongLength at))
    (cond (nat_lt (length bs) (4 + slice_index bs 3)) (Some (CutOff at)) None))))

abbrev pub body : List ℕ → List ℕ
body bs = take (slice_index bs 3) (drop 4 bs)

abbrev pub size : List ℕ → ℕ
size bs = 4 + slice_index bs 3

abbrev pub said : ℕ → List ℕ → Said
said k b =
    cond (k == 1) (task (slice_index b 0) (number (slice_index b 1) (slice_index b 2)) (number (slice_index b 3) (slice_index b 4)) (drop 5 b))
    (cond (k == 2) (note b)
    (cond (k == 3) (end (number (slice_index b 0) (slice_index b 1)))
    (plan (slice_index b 0) (slice_index b 1) (number (slice_index b 2) (slice_index b 3)))))

abbrev pub first : List ℕ → Said
first bs = said (slice_index bs 2) (body bs)
