-- The rows of a plan file: what was laid out of a row of a plan is read as it, a record that adds a row was laid out of it, and the rows of
-- a plan keep the rules. Of its bytes it takes that they are below 256.
use Rattle.std.proofs.Common.{◌≡◌, ℕ, zero, suc, ◌<◌, true, false, cond, not, ◌||◌, List, [], ◌∷◌, ◌++◌, map, length, get_or, Some, None, Ok, Option, sym, refl, ap, ◌∙◌, arith, length-append}
use Rattle.std.proofs.lemmas.List.{length-map, map-append, get_or_at, get_or_append_left}
use Rattle.std.proofs.lemmas.Bool.{le-leb, lt-ltb, le-ltb, eq-eqb, ne_eqb, and_from, and_parts, leb-true, eqb-true, not-false, true≢false}
use Rattle.files.specs.Decoding.{unless}
use Rattle.files.specs.Format.{Said, number, kind_fits, length_fits, said}
use Rattle.files.specs.Format as format
use Rattle.files.specs.Layout.{laid}
use Rattle.files.specs.PlanFiles.{plan_adds, plan_rules, row_body, row_record}
use Rattle.files.specs.declared.record.FileKind.TheVariants.{Plan as PlanKind}
use Rattle.files.proofs.Kept.{Bytes, says_plan, RowRecord, RowAdded, Kept}
use Rattle.files.proofs.Laid.{two_bytes_back}
use Rattle.files.proofs.LaidOut.{passed, high_back, low_back}
use Rattle.tasks.specs.List.{listed, task_at}
use Rattle.tasks.specs.declared.list.TaskList.{TaskList}
use Rattle.tasks.specs.declared.task.Preference.{Preference}
use Rattle.tasks.specs.declared.task.Preference.TheVariants.{Asap, Alap}
use Rattle.planning.specs.Orders.{new_plan_row, ranks, KeepsRules}
use Rattle.planning.specs.Plans.{list_of, rows}
use Rattle.planning.specs.Rows.{prompt_fits, used_in, next_fits, rank_fits, hold_fits, plan_row_fault}
use Rattle.planning.specs.declared.fault.RowFault.{RowFault}
use Rattle.planning.specs.declared.fault.RowFault.TheVariants.{WrongTask, WrongRank, WrongHold}
use Rattle.planning.specs.declared.plan.Plan.{Plan}
use Rattle.planning.specs.declared.plan.Row.{Row}

pub plan_keeps : (p : Plan) → KeepsRules (list_of p) (rows p)
plan_keeps p = record { all = p.full; keep = p.made.keep }

-- ---- one of the rows

unused : (rs : List Row) (r : ℕ) → ((k : ℕ) → k < length rs → get_or (ranks rs) k 0 ≡ r → ⊥) → used_in rs r ≡ false
unused [] r h = refl
unused (x ∷ xs) r h = λ i. ne_eqb x.rank r (h 0 (omega arith)) i || unused xs r (λ k b e. h (suc k) (omega arith) e) i

prompt_row_fits : (q : Preference) (h : ℕ) → (q ≡ Asap → h ≡ 0) → prompt_fits q h ≡ true
prompt_row_fits Asap h f = eq-eqb h 0 (f refl)
prompt_row_fits Alap h f = refl

-- what the list of a number of each row says of the row after rs
here : (f : Row → ℕ) (rs : List Row) (q : Row) (qs : List Row) → get_or (map f (rs ++ q ∷ qs)) (length rs) 0 ≡ f q
here f rs q qs = ap (λ xs. get_or xs (length rs) 0) (map-append f rs (q ∷ qs)) ∙ get_or_at (map f rs) (f q) (map f qs) 0 (length rs) (length-map rs f)

before : (f : Row → ℕ) (rs qs : List Row) (k : ℕ) → k < length rs → get_or (map f (rs ++ qs)) k 0 ≡ get_or (map f rs) k 0
before f rs qs k h = ap (λ xs. get_or xs k 0) (map-append f rs qs) ∙ get_or_append_left (map f rs) (map f qs) 0 k (omega (arith, length-map rs f))

row_fits : (l : TaskList) (rs : List Row) (q : Row) (qs : List Row) (at : ℕ) → KeepsRules l (rs ++ q ∷ qs) → plan_row_fault l rs at (length rs) q.rank q.hold ≡ None
row_fits l rs q qs at g =
    let k = length rs in
    let some : k < length (rs ++ q ∷ qs) = omega (arith, length-append rs (q ∷ qs)) in
    let rank = here (λ r. r.rank) rs q qs in
    let hold = here (λ r. r.hold) rs q qs in
    let ranked = g.keep.ranked k some in
    let held = g.keep.held k some in
    let next : next_fits l rs k ≡ true = and_from _ _ (eq-eqb k k refl) (lt-ltb k (length (listed l)) (omega (arith, g.all))) in
    let free : used_in rs q.rank ≡ false = unused rs q.rank (λ j h e. let same = g.keep.apart j k (omega arith, some, before (λ r. r.rank) rs (q ∷ qs) j h ∙ e ∙ sym rank) in omega arith) in
    let fits : rank_fits l rs q.rank ≡ true =
    and_from _ _ (and_from _ _ (le-leb 1 q.rank (omega (arith, ranked.0))) (le-leb q.rank (length (listed l)) (omega (arith, ranked.1)))) (ap not free) in
    let holds_well : hold_fits l k q.hold ≡ true =
    and_from _ _ (lt-ltb q.hold (task_at l k).period (omega arith)) (prompt_row_fits (task_at l k).preference q.hold (λ e. sym hold ∙ g.keep.prompt k (some, e))) in
    λ i. cond (not (next i)) (Some (WrongTask at)) (cond (not (fits i)) (Some (WrongRank at)) (cond (not (holds_well i)) (Some (WrongHold at)) None))

-- ---- the record of a row

row_record_of : (l : TaskList) (rs qs : List Row) (r : Row) (at : ℕ) → KeepsRules l (rs ++ r ∷ qs) → RowRecord (plan_rules l) row_record rs r at
row_record_of l rs qs r at w =
    let says : said 4 (row_body (length rs) r) ≡ format.plan (length rs) r.rank r.hold = λ i. format.plan (length rs) r.rank (two_bytes_back r.hold i) in
    record {
      kind = 4;
      body = row_body (length rs) r;
      laid_out = refl;
      kind_ok = refl;
      length_ok = refl;
      says_row = says_plan _ _ _;
      added = ap (plan_adds l at rs) says ∙ ap (λ o. unless o r rs) (row_fits l rs r qs at w);
    }

-- the row that the body of a plan record says
abbrev row_of : List ℕ → Row
row_of b = new_plan_row (get_or b 1 0) (number (get_or b 2 0) (get_or b 3 0))

row_back : (b : List ℕ) → Bytes b → length b ≡ 4 → b ≡ row_body (get_or b 0 0) (row_of b)
row_back [] h l = absurd (omega arith)
row_back (k ∷ []) h l = absurd (omega arith)
row_back (k ∷ r ∷ []) h l = absurd (omega arith)
row_back (k ∷ r ∷ c ∷ []) h l = absurd (omega arith)
row_back (k ∷ r ∷ c ∷ d ∷ []) h l = λ i. k ∷ r ∷ high_back c d (h 3) i ∷ low_back c d (h 3) i ∷ []
row_back (k ∷ r ∷ c ∷ d ∷ e ∷ xs) h l = absurd (omega arith)

added : (o : Option RowFault) (r : Row) (rs mid : List Row) → unless o r rs ≡ Ok mid → (o ≡ None) × (mid ≡ rs ++ r ∷ [])
added None r rs mid e = (refl, cc)
added (Some f) r rs mid e = cc

row_added : (l : TaskList) (rs mid : List Row) (k : ℕ) (b : List ℕ) (at : ℕ) → Bytes b → kind_fits PlanKind k ≡ true → length_fits k (length b) ≡ true → plan_adds l at rs (said k b) ≡ Ok mid → RowAdded row_record rs mid k b
row_added l rs mid zero b at bytes kind fits e = absurd (true≢false (sym kind))
row_added l rs mid (suc zero) b at bytes kind fits e = cc
row_added l rs mid (suc (suc zero)) b at bytes kind fits e = cc
row_added l rs mid (suc (suc (suc zero))) b at bytes kind fits e = cc
row_added l rs mid (suc (suc (suc (suc zero)))) b at bytes kind fits e =
    let t = added (plan_row_fault l rs at (get_or b 0 0) (get_or b 1 0) (number (get_or b 2 0) (get_or b 3 0))) (row_of b) rs mid e in
    let next = and_parts _ _ (not-false _ (passed _ _ _ t.0).0) in
    record {
      row = row_of b;
      rows = t.1;
      laid_out = ap (laid 4) (row_back b bytes (eqb-true (length b) 4 fits) ∙ ap (λ k. row_body k (row_of b)) (eqb-true _ _ next.0));
    }
row_added l rs mid (suc (suc (suc (suc (suc k))))) b at bytes kind fits e = absurd (omega (arith, leb-true (suc (suc (suc (suc (suc k))))) 4 (and_parts _ _ kind).1))

pub plan_kept : (l : TaskList) → Kept (plan_rules l) row_record (KeepsRules l)
plan_kept l = record {
  row_record = row_record_of l;
  row_added = row_added l;
  complete = λ rs w. le-ltb (length rs) (length (listed l)) (omega (arith, w.all));
}
