-- How a file is laid out, byte by byte, for any kind of rows. `ListFiles` and `PlanFiles` say it of tasks and of the rows of a plan.
--
--   two_bytes n      the number n in two bytes, the high one first
--   laid k b         the record of kind number k with the body b: the mark A7 5E, the kind, the length of the body, the body
--   note_record b    a note
--   end_record n     the end record of a file with n rows
--   Item R           a row or a note
--   rows_bytes f k rs   the records of the rows rs, numbered on from k, where f k r is the record of the row r with the number k
--   items_bytes f k is  those of the items `is`, whose rows are numbered on from k
--   items_rows is    the rows among the items
--   encoded_by f rs  the file of the rows rs with no notes
--   Short i          a row, or a note that is not too long for its length to be one byte
--   FileOf f K bs rs   bs is a file of the rows rs, with notes among them or none, and K holds of the rows
--   Accepts I rs a   the answer a accepts exactly what is a file by I, whatever its rows; the rows rs are then those of the file
use Rattle.std.specs.Prelude.{◌≡◌, ℕ, suc, ◌/◌, ◌%◌, ◌≤◌, true, List, [], ◌∷◌, ◌++◌, length, is_ok, Result}
use Rattle.std.specs.List.{AllByRecursion}

abbrev pub two_bytes : ℕ → List ℕ
two_bytes n = n / 256 ∷ n % 256 ∷ []

abbrev pub laid : ℕ → List ℕ → List ℕ
laid k b = 0xa7 ∷ 0x5e ∷ k ∷ length b ∷ b

abbrev pub note_record : List ℕ → List ℕ
note_record b = laid 2 b

abbrev pub end_record : ℕ → List ℕ
end_record n = laid 3 (two_bytes n)

pub data Item (R : Type 0) : Type 0 where
  row : R → Item R
  note : List ℕ → Item R

module _ {R : Type 0} where
  abbrev pub rows_bytes : (ℕ → R → List ℕ) → ℕ → List R → List ℕ
  rows_bytes f k [] = []
  rows_bytes f k (r ∷ rs) = f k r ++ rows_bytes f (suc k) rs

  abbrev pub items_bytes : (ℕ → R → List ℕ) → ℕ → List (Item R) → List ℕ
  items_bytes f k [] = []
  items_bytes f k (row r ∷ is) = f k r ++ items_bytes f (suc k) is
  items_bytes f k (note b ∷ is) = note_record b ++ items_bytes f k is

  abbrev pub items_rows : List (Item R) → List R
  items_rows [] = []
  items_rows (row r ∷ is) = r ∷ items_rows is
  items_rows (note b ∷ is) = items_rows is

  abbrev pub encoded_by : (ℕ → R → List ℕ) → List R → List ℕ
  encoded_by f rs = rows_bytes f 0 rs ++ end_record (length rs)

  abbrev pub Short : Item R → Type 0
  Short (row r) = Unit {0}
  Short (note b) = length b ≤ 255

  pub record FileOf (f : ℕ → R → List ℕ) (K : List R → Type 0) (bs : List ℕ) (rs : List R) : Type 0 where
    pub items : List (Item R)
    pub fit : AllByRecursion Short items
    pub rows : items_rows items ≡ rs
    pub keep : K rs
    pub bytes : bs ≡ items_bytes f 0 items ++ end_record (length rs)
    pub short : length bs ≤ 8192

  pub record Accepts {F : Type 0} (I : List R → Type 0) (rs : List R) (answer : Result (Unit {0}) F) : Type 0 where
    pub only_files : is_ok answer ≡ true → I rs
    pub all_files : (qs : List R) → I qs → (is_ok answer ≡ true) × (rs ≡ qs)
