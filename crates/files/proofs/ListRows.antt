-- The rows of a list file: what was laid out of a row that keeps the limits is read as it, a record that adds a row was laid out of it,
-- and the rows of a closed list keep the limits. Of its bytes it takes that they are below 256.
use Rattle.std.proofs.Common.{◌≡◌, ℕ, zero, suc, ◌<◌, ◌≤◌, true, List, [], ◌∷◌, ◌++◌, length, get_or, drop, Some, None, Ok, Option, refl, ap, ◌∙◌, arith, lit≤, length-append}
use Rattle.std.proofs.Common.{length-take}
use Rattle.std.proofs.lemmas.List.{length-map}
use Rattle.std.proofs.lemmas.Bool.{le-leb, lt-leb, le-ltb, ne_eqb, leb-true, and_parts, and_from}
use Rattle.std.specs.List.{AllByRecursion}
use Rattle.files.specs.Decoding.{unless}
use Rattle.files.specs.Format.{number, kind_fits, length_fits, said}
use Rattle.files.specs.Format as format
use Rattle.files.specs.Layout.{laid}
use Rattle.files.specs.ListFiles.{list_adds, list_rules, task_body, task_record, KeepsLimits, IsList}
use Rattle.files.specs.declared.record.FileKind.TheVariants.{List as ListKind}
use Rattle.files.proofs.Kept.{Bytes, says_task, RowRecord, RowAdded, Kept}
use Rattle.files.proofs.Laid.{two_bytes_back}
use Rattle.files.proofs.LaidOut.{high_back, low_back}
use Rattle.tasks.proofs.Reading.{listed_few}
use Rattle.tasks.specs.List.{Row, new_row, row, rows, listed, add_fault}
use Rattle.tasks.specs.Task.{preference_number}
use Rattle.tasks.specs.declared.fault.TaskFault.{TaskFault}
use Rattle.tasks.specs.declared.list.TaskList.{TaskList}
use Rattle.tasks.specs.declared.task.Preference.{Preference}
use Rattle.tasks.specs.declared.task.Preference.TheVariants.{Asap, Alap}
use Rattle.tasks.specs.declared.task.Task.{Task}

-- ---- the rows of a closed list

preference_small : (p : Preference) → preference_number p ≤ 1
preference_small Asap = lit≤ tt
preference_small Alap = lit≤ tt

pub row_keeps : (t : Task) → KeepsLimits (row t)
row_keeps t = record {
  preference = preference_small t.preference;
  some_cost = t.limits.0;
  cost = t.limits.1;
  period = t.limits.2;
  named = t.name.not_empty;
  name = omega (arith, length-take t.name.bytes.len t.name.bytes.places, t.name.bytes.room);
}

rows_keep : (ts : List Task) → AllByRecursion KeepsLimits (rows ts)
rows_keep [] = tt
rows_keep (t ∷ ts) = (row_keeps t, rows_keep ts)

pub is_list : (l : TaskList) → IsList (rows (listed l))
is_list l = record { few = omega (arith, length-map (listed l) row, listed_few l); limits = rows_keep (listed l) }

-- ---- one of the rows

-- a row that keeps the limits has no fault where there is room
no_fault : (k at : ℕ) (r : Row) → KeepsLimits r → k < 32 → add_fault k at r ≡ None
no_fault k at r h room =
    let some : r.cost ≡ 0 → ⊥ = λ e. omega (arith, h.some_cost) in
    simp (
      le-ltb 1 r.preference h.preference,
      ne_eqb r.cost 0 some,
      le-ltb r.period r.cost h.cost,
      le-ltb 60000 r.period h.period,
      lt-leb 32 k room,
      le-leb 1 (length r.name) h.named,
      le-leb (length r.name) 16 h.name,
    )

one_of : (rs qs : List Row) (r : Row) → AllByRecursion KeepsLimits (rs ++ r ∷ qs) → KeepsLimits r
one_of [] qs r h = h.0
one_of (x ∷ xs) qs r h = one_of xs qs r h.1

row_record : (rs qs : List Row) (r : Row) (at : ℕ) → IsList (rs ++ r ∷ qs) → RowRecord list_rules (λ _ r. task_record r) rs r at
row_record rs qs r at w =
    let h = one_of rs qs r w.limits in
    let says : said 1 (task_body r) ≡ format.task r.preference r.cost r.period r.name = λ i. format.task r.preference (two_bytes_back r.cost i) (two_bytes_back r.period i) r.name in
    record {
      kind = 1;
      body = task_body r;
      laid_out = refl;
      kind_ok = refl;
      length_ok = and_from _ _ (le-leb 6 (length (task_body r)) (omega (arith, h.named))) (le-leb (length (task_body r)) 21 (omega (arith, h.name)));
      says_row = says_task _ _ _ _;
      added =
          ap (list_adds at rs) says
          ∙ ap (λ o. unless o r rs) (no_fault (length rs) at r h (omega (arith, w.few, length-append rs (r ∷ qs))));
    }

-- the row that the body of a task record says
abbrev row_of : List ℕ → Row
row_of b = new_row (drop 5 b) (get_or b 0 0) (number (get_or b 1 0) (get_or b 2 0)) (number (get_or b 3 0) (get_or b 4 0))

task_back : (b : List ℕ) → Bytes b → 5 ≤ length b → b ≡ task_body (row_of b)
task_back [] h l = absurd (omega arith)
task_back (p ∷ []) h l = absurd (omega arith)
task_back (p ∷ c ∷ []) h l = absurd (omega arith)
task_back (p ∷ c ∷ d ∷ []) h l = absurd (omega arith)
task_back (p ∷ c ∷ d ∷ q ∷ []) h l = absurd (omega arith)
task_back (p ∷ c ∷ d ∷ q ∷ r ∷ name) h l =
    λ i. p ∷ high_back c d (h 2) i ∷ low_back c d (h 2) i ∷ high_back q r (h 4) i ∷ low_back q r (h 4) i ∷ name

added : (o : Option TaskFault) (r : Row) (rs mid : List Row) → unless o r rs ≡ Ok mid → mid ≡ rs ++ r ∷ []
added None r rs mid e = cc
added (Some f) r rs mid e = cc

row_added : (rs mid : List Row) (k : ℕ) (b : List ℕ) (at : ℕ) → Bytes b → kind_fits ListKind k ≡ true → length_fits k (length b) ≡ true → list_adds at rs (said k b) ≡ Ok mid → RowAdded (λ _ r. task_record r) rs mid k b
row_added rs mid zero b at bytes kind fits e = cc
row_added rs mid (suc zero) b at bytes kind fits e =
    let long = leb-true 6 (length b) (and_parts _ _ fits).0 in
    record {
      row = row_of b;
      rows = added (add_fault (length rs) at (row_of b)) (row_of b) rs mid e;
      laid_out = ap (laid 1) (task_back b bytes (omega arith));
    }
row_added rs mid (suc (suc zero)) b at bytes kind fits e = cc
row_added rs mid (suc (suc (suc zero))) b at bytes kind fits e = cc
row_added rs mid (suc (suc (suc (suc k)))) b at bytes kind fits e = absurd (omega (arith, leb-true (suc (suc (suc (suc k)))) 3 (and_parts _ _ kind).1))

pub list_kept : Kept list_rules (λ _ r. task_record r) IsList
list_kept = record { row_record = row_record; row_added = row_added; complete = λ rs w. refl }
