-- What the records of a kind of file must keep, for its files to be read as they are laid out: each row's record adds just that row, each
-- record that adds a row is that row's record, and rows that the file may have lack none. Assumes nothing.
use Rattle.std.proofs.Common.{◌≡◌, ℕ, ◌<◌, true, false, List, [], ◌∷◌, ◌++◌, length, get_or, Ok}
use Rattle.files.specs.Decoding.{Rules}
use Rattle.files.specs.Format.{task, plan, Said, kind_fits, length_fits, said}
use Rattle.files.specs.Layout.{laid}

-- every element is a byte
abbrev pub Bytes : List ℕ → Type 0
Bytes bs = (i : ℕ) → get_or bs i 0 < 256

-- the record says a row
pub data SaysRow : Said → Type 0 where
  says_task : (p c q : ℕ) (n : List ℕ) → SaysRow (task p c q n)
  says_plan : (k r h : ℕ) → SaysRow (plan k r h)

-- the record of the row r after the rows rs
pub record RowRecord {R F : Type 0} (g : Rules R F) (f : ℕ → R → List ℕ) (rs : List R) (r : R) (at : ℕ) : Type 0 where
  pub kind : ℕ
  pub body : List ℕ
  pub laid_out : f (length rs) r ≡ laid kind body
  pub kind_ok : kind_fits g.kind kind ≡ true
  pub length_ok : length_fits kind (length body) ≡ true
  pub says_row : SaysRow (said kind body)
  pub added : g.adds at rs (said kind body) ≡ Ok (rs ++ r ∷ [])

-- the row that the record of kind number k with the body b adds to the rows rs
pub record RowAdded {R : Type 0} (f : ℕ → R → List ℕ) (rs mid : List R) (k : ℕ) (b : List ℕ) : Type 0 where
  pub row : R
  pub rows : mid ≡ rs ++ row ∷ []
  pub laid_out : laid k b ≡ f (length rs) row

pub record Kept {R F : Type 0} (g : Rules R F) (f : ℕ → R → List ℕ) (K : List R → Type 0) : Type 0 where
  pub row_record : (rs qs : List R) (r : R) (at : ℕ) → K (rs ++ r ∷ qs) → RowRecord g f rs r at
  pub row_added : (rs mid : List R) (k : ℕ) (b : List ℕ) (at : ℕ) → Bytes b → kind_fits g.kind k ≡ true → length_fits k (length b) ≡ true → g.adds at rs (said k b) ≡ Ok mid → RowAdded f rs mid k b
  pub complete : (rs : List R) → K rs → g.lacks rs ≡ false
