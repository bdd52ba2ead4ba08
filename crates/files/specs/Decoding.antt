-- What the bytes of a file say, for any kind of rows. `ListFiles` and `PlanFiles` say it of tasks and of the rows of a plan.
--
--   Rules R F                  what the records of a file do to its rows, of type R, where a row may have a fault of type F: which kind of
--                              file it is, what a record adds or is refused with, and whether a row is missing
--   adds at rs s               the rows after the record s at the place `at`, no note and no end record, or what is wrong with it
--   unless o r rs              the rows rs with r behind them, unless there is a fault o of the row
--   end_fault lacks size at k n   what is wrong with an end record at the place `at` that counts n, after k rows, in a file of `size` bytes:
--                              a row is missing, the count is wrong, bytes follow
--   closes o rs                the rows rs, unless there is a fault o of the bytes
--   takes g size at rs s       the rows after the record s at the place `at`, where rs are the rows before it, or what is wrong with it
--   goes_on o t e more         a fault o, or the rows t that a record leaves: with them reading ends if e, and else goes on by `more`
--   decoded_from g n bs at rs  the rows of the file bs, read on from the place `at` with the rows rs before it, in at most n records
--   decoded_by g bs            the rows of the file bs, or what is wrong with it
--   Says t rs a                the answer a tells t: it is accepted with the rows rs, or refused with the fault
--   Ends g bs rs at n          the file bs has the rows rs, if its end record, at the place `at` and with the count n, has no fault
use Rattle.std.specs.Prelude.{◌≡◌, ℕ, zero, suc, ◌+◌, Bool, true, false, cond, not, ◌||◌, List, [], ◌∷◌, ◌++◌, length, drop, Some, None, Ok, Err, Option, Result, MatchResult, ◌==◌, nat_lt}
use Rattle.files.specs.Format.{Said, task, note, end, plan, is_end, head_fault, size, first}
use Rattle.files.specs.declared.fault.ByteFault.{ByteFault}
use Rattle.files.specs.declared.fault.ByteFault.TheVariants.{TooLong, CutOff, WrongCount, BytesAfterEnd}
use Rattle.files.specs.declared.fault.FileFault.{FileFault}
use Rattle.files.specs.declared.fault.FileFault.TheVariants.{Bytes, Row}
use Rattle.files.specs.declared.record.FileKind.{FileKind}

pub record Rules (R F : Type 0) : Type 0 where
  pub kind : FileKind
  pub adds : ℕ → List R → Said → Result (List R) (FileFault F)
  pub lacks : List R → Bool

abbrev pub end_fault : Bool → ℕ → ℕ → ℕ → ℕ → Option ByteFault
end_fault lacks size at k n =
    cond (lacks || not (n == k)) (Some (WrongCount at))
    (cond (nat_lt (at + 6) size) (Some (BytesAfterEnd (at + 6))) None)

module _ {R F : Type 0} where
  abbrev pub unless : Option F → R → List R → Result (List R) (FileFault F)
  unless None r rs = Ok (rs ++ r ∷ [])
  unless (Some f) r rs = Err (Row f)

  abbrev pub closes : Option ByteFault → List R → Result (List R) (FileFault F)
  closes None rs = Ok rs
  closes (Some f) rs = Err (Bytes f)

  abbrev pub takes : Rules R F → ℕ → ℕ → List R → Said → Result (List R) (FileFault F)
  takes g size at rs (task p c q n) = g.adds at rs (task p c q n)
  takes g size at rs (note b) = Ok rs
  takes g size at rs (end n) = closes (end_fault (g.lacks rs) size at (length rs) n) rs
  takes g size at rs (plan t r h) = g.adds at rs (plan t r h)

  -- the record has no fault, its rows were taken, and reading goes on unless it was the end record
  abbrev pub goes_on : Option ByteFault → Result (List R) (FileFault F) → Bool → (List R → Result (List R) (FileFault F)) → Result (List R) (FileFault F)
  goes_on (Some f) taken ends more = Err (Bytes f)
  goes_on None (Err f) ends more = Err f
  goes_on None (Ok rs) true more = Ok rs
  goes_on None (Ok rs) false more = more rs

  abbrev pub decoded_from : Rules R F → ℕ → List ℕ → ℕ → List R → Result (List R) (FileFault F)
  decoded_from g zero bs at rs = Err (Bytes (CutOff at))
  decoded_from g (suc n) bs at rs =
      goes_on (head_fault g.kind at (drop at bs)) (takes g (length bs) at rs (first (drop at bs))) (is_end (first (drop at bs)))
      (decoded_from g n bs (at + size (drop at bs)))

  unfoldable pub decoded_by : Rules R F → List ℕ → Result (List R) (FileFault F)
  decoded_by g bs = cond (nat_lt 8192 (length bs)) (Err (Bytes (TooLong (length bs)))) (decoded_from g (length bs) bs 0 [])

  abbrev pub Says : Result (List R) (FileFault F) → List R → Result (Unit {0}) (FileFault F) → Type 0
  Says t rs a = MatchResult a (λ _. t ≡ Ok rs) (λ f. t ≡ Err f)

  abbrev pub Ends : Rules R F → List ℕ → List R → ℕ → ℕ → Type 0
  Ends g bs rs at n = decoded_by g bs ≡ closes (end_fault (g.lacks rs) (length bs) at (length rs) n) rs
