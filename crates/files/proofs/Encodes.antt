-- What is written of a closed list and of a plan is a file of their rows, and so reads back. Assumes nothing.
use Rattle.std.proofs.Common.{◌≡◌, ℕ, suc, ◌+◌, ◌*◌, ◌<◌, ◌≤◌, List, [], ◌∷◌, ◌++◌, map, length, get_or, take, Ok, sym, refl, ap, ◌∙◌, arith, lit≤, length-append}
use Rattle.std.proofs.lemmas.List.{append_assoc, append-nil, length-map, take_more, take_all, length-take-le}
use Rattle.std.specs.List.{AllByRecursion}
use Rattle.files.specs.Layout.{end_record, row, rows_bytes, items_bytes, items_rows, encoded_by, Short, FileOf}
use Rattle.files.specs.ListFiles.{task_record, decoded, encoded}
use Rattle.files.specs.PlanFiles.{decoded_plan, row_record, encoded_plan}
use Rattle.files.proofs.ListRows.{row_keeps, is_list, list_kept}
use Rattle.files.proofs.PlanRows.{plan_keeps, plan_kept}
use Rattle.files.proofs.ReadsBack.{file_decodes}
use Rattle.tasks.proofs.Reading.{listed_few}
use Rattle.tasks.specs.List as tasks
use Rattle.tasks.specs.declared.list.TaskList.{TaskList}
use Rattle.tasks.specs.declared.task.Task.{Task}
use Rattle.planning.specs.Plans.{list_of, rows}
use Rattle.planning.specs.declared.plan.Plan.{Plan}

module _ {R : Type 0} (f : ℕ → R → List ℕ) where
  rows_fit : (rs : List R) → AllByRecursion Short (map row rs)
  rows_fit [] = tt
  rows_fit (r ∷ rs) = (tt, rows_fit rs)

  rows_among : (rs : List R) → items_rows (map row rs) ≡ rs
  rows_among [] = refl
  rows_among (r ∷ rs) = ap (λ xs. r ∷ xs) (rows_among rs)

  items_of : (k : ℕ) (rs : List R) → items_bytes f k (map row rs) ≡ rows_bytes f k rs
  items_of k [] = refl
  items_of k (r ∷ rs) = ap (λ xs. f k r ++ xs) (items_of (suc k) rs)

  -- one row more at the end
  rows_push : (k : ℕ) (rs : List R) (r : R) → rows_bytes f k (rs ++ r ∷ []) ≡ rows_bytes f k rs ++ f (k + length rs) r
  rows_push k [] r = append-nil (f k r) ∙ ap (λ j. f j r) (omega arith)
  rows_push k (x ∷ xs) r =
      let same : suc k + length xs ≡ k + suc (length xs) = omega arith in
      ap (λ ys. f k x ++ ys) (rows_push (suc k) xs r ∙ ap (λ j. rows_bytes f (suc k) xs ++ f j r) same)
      ∙ sym (append_assoc (f k x) (rows_bytes f (suc k) xs) (f (k + suc (length xs)) r))

  -- the records of rows that take at most n bytes each
  rows_short : (n k : ℕ) (rs : List R) → ((k : ℕ) (r : R) → length (f k r) ≤ n) → length (rows_bytes f k rs) ≤ n * length rs
  rows_short n k [] h = omega arith
  rows_short n k (r ∷ rs) h = omega (arith, length-append (f k r) (rows_bytes f (suc k) rs), rows_short n (suc k) rs h, h k r)

  is_file : (K : List R → Type 0) (rs : List R) → K rs → length (rows_bytes f 0 rs) ≤ 8000 → FileOf f K (encoded_by f rs) rs
  is_file K rs keep short = record {
    items = map row rs;
    fit = rows_fit rs;
    rows = rows_among rs;
    keep = keep;
    bytes = ap (λ bs. bs ++ end_record (length rs)) (sym (items_of 0 rs));
    short = omega (arith, length-append (rows_bytes f 0 rs) (end_record (length rs)));
  }

-- the records of the first i rows, put together
pub record Sofar {R : Type 0} (f : ℕ → R → List ℕ) (rs : List R) (i : ℕ) (w : List ℕ) : Type 0 where
  pub records : w ≡ rows_bytes f 0 (take i rs)
  pub short : length w ≤ 25 * i

pub sofar_more : {R : Type 0} (f : ℕ → R → List ℕ) (rs : List R) (i : ℕ) (r : R) (w w' : List ℕ) → i < length rs → r ≡ get_or rs i r → length (f i r) ≤ 25 → Sofar f rs i w → w' ≡ w ++ f i r → Sofar f rs (i + 1) w'
sofar_more f rs i r w w' h is few s e = record {
  records =
      let number : i ≡ 0 + length (take i rs) = omega (arith, length-take-le i rs (omega arith)) in
      e ∙ (λ j. s.records j ++ f (number j) r)
      ∙ sym (rows_push f 0 (take i rs) r)
      ∙ ap (rows_bytes f 0) (sym (take_more rs i r h ∙ ap (λ x. take i rs ++ x ∷ []) (sym is)));
  short = omega (arith, ap length e, length-append w (f i r), s.short);
}

pub sofar_all : {R : Type 0} (f : ℕ → R → List ℕ) (rs : List R) (i : ℕ) (w w' : List ℕ) → length rs ≤ i → Sofar f rs i w → w' ≡ w ++ end_record (length rs) → w' ≡ encoded_by f rs
sofar_all f rs i w w' h s e = e ∙ ap (λ xs. xs ++ end_record (length rs)) (s.records ∙ ap (rows_bytes f 0) (take_all i rs h))

-- rows seen as other rows are laid out alike
rows_seen : {R S : Type 0} (f : ℕ → S → List ℕ) (v : R → S) (k : ℕ) (rs : List R) → rows_bytes (λ j r. f j (v r)) k rs ≡ rows_bytes f k (map v rs)
rows_seen f v k [] = refl
rows_seen f v k (r ∷ rs) = ap (λ xs. f k (v r) ++ xs) (rows_seen f v (suc k) rs)

pub encoded_seen : {R S : Type 0} (f : ℕ → S → List ℕ) (v : R → S) (rs : List R) → encoded_by (λ j r. f j (v r)) rs ≡ encoded_by f (map v rs)
encoded_seen f v rs = λ i. rows_seen f v 0 rs i ++ end_record (sym (length-map rs v) i)

-- ---- lists

tasks_short : (ts : List Task) → length (rows_bytes (λ _ r. task_record r) 0 (tasks.rows ts)) ≤ 25 * length ts
tasks_short ts =
    omega (arith, ap length (rows_seen (λ _ r. task_record r) tasks.row 0 ts), rows_short (λ _ t. task_record (tasks.row t)) 25 0 ts (λ k t. omega (arith, (row_keeps t).name)))

pub list_reads_back : (l : TaskList) → decoded (encoded (tasks.rows (tasks.listed l))) ≡ Ok (tasks.rows (tasks.listed l))
list_reads_back l =
    let rs = tasks.rows (tasks.listed l) in
    file_decodes list_kept (encoded rs) rs (is_file (λ _ r. task_record r) _ rs (is_list l) (omega (arith, tasks_short (tasks.listed l), listed_few l)))

-- ---- plans

pub plan_reads_back : (p : Plan) → decoded_plan (list_of p) (encoded_plan (rows p)) ≡ Ok (rows p)
plan_reads_back p =
    let rs = rows p in
    let few = rows_short row_record 8 0 rs (λ k r. lit≤ tt) in
    file_decodes (plan_kept (list_of p)) (encoded_plan rs) rs (is_file row_record _ rs (plan_keeps p) (omega (arith, p.full, listed_few (list_of p))))
