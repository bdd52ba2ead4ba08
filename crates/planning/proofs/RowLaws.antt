-- One more row keeps what the rows of a plan keep. Assumes nothing.
use Rattle.std.proofs.Common.{◌≡◌, ℕ, zero, suc, ◌+◌, ◌<◌, ◌≤◌, Bool, true, false, not, ◌&&◌, eqb, ltb, leb, List, [], ◌∷◌, ◌++◌, map, length, get_or, Ok, Err, Result, sym, ap, ◌∙◌, subst, ⊎_elim, arith}
use Rattle.std.proofs.lemmas.List.{get_or_append_left, get_or_push, length-append, length-map, map_push}
use Rattle.std.proofs.lemmas.Bool.{cases_eq, and_parts, not-true, or_parts, leb-true, ltb-true, eqb-true, eqb-false}
use Rattle.fixed.specs.FixedVec.{elements, Appends}
use Rattle.fixed.specs.declared.fixed_vec.FixedVec.{FixedVec}
use Rattle.fixed.specs.declared.fixed_vec.Full.{Full}
use Rattle.tasks.proofs.Reading.{read_is}
use Rattle.tasks.specs.List.{listed, task_at}
use Rattle.tasks.specs.declared.list.TaskList.{TaskList}
use Rattle.tasks.specs.declared.task.Preference.{Preference}
use Rattle.tasks.specs.declared.task.Preference.TheVariants.{Asap, Alap}
use Rattle.tasks.specs.declared.task.Task.{Task}
use Rattle.analysis.specs.Demand.{deadline}
use Rattle.planning.specs.Orders.{ranks, Apart, RowsKeep}
use Rattle.planning.specs.Rows.{used_in, may_hold, rank_fits, prompt_fits, hold_fits}
use Rattle.planning.specs.declared.plan.Row.{Row}

-- ---- the ranks used so far

pub unused : (rs : List Row) (r k : ℕ) → used_in rs r ≡ false → k < length rs → get_or (ranks rs) k 0 ≡ r → ⊥
unused [] r k e h same = omega arith
unused (x ∷ rs) r zero e h same = eqb-false x.rank r (or_parts (eqb x.rank r) (used_in rs r) e).0 same
unused (x ∷ rs) r (suc k) e h same = unused rs r k (or_parts (eqb x.rank r) (used_in rs r) e).1 (omega arith) same

-- ---- one more at the end

-- what holds of each number of a list, and of one more, holds of each of the longer list
more : (P : ℕ → ℕ → Type 0) (xs : List ℕ) (x : ℕ) → ((k : ℕ) → k < length xs → P k (get_or xs k 0)) → P (length xs) x → (k : ℕ) → k < length xs + 1 → P k (get_or (xs ++ x ∷ []) k 0)
more P xs x all new k h =
    ⊎_elim
    (λ (last : k ≡ length xs). subst (λ j. P j (get_or (xs ++ x ∷ []) j 0)) (sym last) (subst (P (length xs)) (sym (get_or_push xs x 0 (length xs) (λ i. length xs))) new))
    (λ (before : k ≡ length xs → ⊥). subst (P k) (sym (get_or_append_left xs (x ∷ []) 0 k (omega arith))) (all k (omega arith)))
    (cases_eq k (length xs))

-- that, of a part of each row
module _ (part : Row → ℕ) (rs : List Row) (r : Row) where
  pub part_more : (P : ℕ → ℕ → Type 0) → ((k : ℕ) → k < length rs → P k (get_or (map part rs) k 0)) → P (length rs) (part r) → (k : ℕ) → k < length (rs ++ r ∷ []) → P k (get_or (map part (rs ++ r ∷ [])) k 0)
  part_more P all new k h =
      let size = length-map rs part in
      subst (λ xs. P k (get_or xs k 0)) (sym (map_push part rs r))
      (more P (map part rs) (part r) (λ j i. all j (omega (arith, size))) (subst (λ n. P n (part r)) (sym size) new) k (omega (arith, size, length-append rs (r ∷ []))))

pub apart_more : (rs : List Row) (r : Row) → Apart (length rs) (ranks rs) → used_in rs r.rank ≡ false → Apart (length (rs ++ r ∷ [])) (ranks (rs ++ r ∷ []))
apart_more rs r old free j k e =
    let n = length rs in
    let longer = length-append rs (r ∷ []) in
    let pushed = map_push (λ x. x.rank) rs r in
    let size = length-map rs (λ x. x.rank) in
    let before : (i : ℕ) → i < n → get_or (ranks (rs ++ r ∷ [])) i 0 ≡ get_or (ranks rs) i 0 =
    λ i h. ap (λ xs. get_or xs i 0) pushed ∙ get_or_append_left (ranks rs) (r.rank ∷ []) 0 i (omega (arith, size)) in
    let last : (i : ℕ) → i ≡ n → get_or (ranks (rs ++ r ∷ [])) i 0 ≡ r.rank =
    λ i s. ap (λ xs. get_or xs i 0) pushed ∙ get_or_push (ranks rs) r.rank 0 i (size ∙ sym s) in
    ⊎_elim
    (λ (a : j ≡ n). ⊎_elim
    (λ (b : k ≡ n). a ∙ sym b)
    (λ (b : k ≡ n → ⊥). let h : k < n = omega (arith, e.1, longer) in absurd (unused rs r.rank k free h (sym (before k h) ∙ sym e.2 ∙ last j a)))
    (cases_eq k n))
    (λ (a : j ≡ n → ⊥).
    let i : j < n = omega (arith, e.0, longer) in
    ⊎_elim
    (λ (b : k ≡ n). absurd (unused rs r.rank j free i (sym (before j i) ∙ e.2 ∙ last k b)))
    (λ (b : k ≡ n → ⊥). let h : k < n = omega (arith, e.1, longer) in old j k (i, h, sym (before j i) ∙ e.2 ∙ before k h))
    (cases_eq k n))
    (cases_eq j n)

-- ---- what the checks tell

prompt_zero : (q : Preference) (h : ℕ) → prompt_fits q h ≡ true → q ≡ Asap → h ≡ 0
prompt_zero Asap h e s = eqb-true h 0 e
prompt_zero Alap h e s = cc

pub keep_more : (l : TaskList) (rs : List Row) (r : Row) → RowsKeep l rs → length rs < length (listed l) → rank_fits l rs r.rank ≡ true → hold_fits l (length rs) r.hold ≡ true → RowsKeep l (rs ++ r ∷ [])
keep_more l rs r old room rank hold =
    let outer = and_parts (leb 1 r.rank && leb r.rank (length (listed l))) (not (used_in rs r.rank)) rank in
    let inner = and_parts (leb 1 r.rank) (leb r.rank (length (listed l))) outer.0 in
    let parts = and_parts (ltb r.hold (deadline l (task_at l (length rs)))) (prompt_fits (task_at l (length rs)).preference r.hold) hold in
    record {
      few = omega (arith, room, length-append rs (r ∷ []));
      ranked = part_more (λ x. x.rank) rs r (λ k v. (1 ≤ v) × (v ≤ length (listed l))) old.ranked (leb-true _ _ inner.0, leb-true _ _ inner.1);
      apart = apart_more rs r old.apart (not-true _ outer.1);
      held = part_more (λ x. x.hold) rs r (λ k v. v < deadline l (task_at l k)) old.held (ltb-true _ _ parts.0);
      prompt = λ k e. part_more (λ x. x.hold) rs r (λ k v. (task_at l k).preference ≡ Asap → v ≡ 0) (λ j i a. old.prompt j (i, a)) (prompt_zero (task_at l (length rs)).preference r.hold parts.1) k e.0 e.1;
    }

-- what is told of the task that is read of the list at a listed number
pub hold_read : (l : TaskList) (xs : List Task) (k h : ℕ) (x : Task) (b : Bool) → b ≡ may_hold x.preference (deadline l x) h → x ≡ get_or xs k x → xs ≡ listed l → k < length (listed l) → b ≡ hold_fits l k h
hold_read l xs k h x b e is same here = e ∙ ap (λ y. may_hold y.preference (deadline l y) h) (is ∙ read_is l xs k x same here)

-- ---- the vector of the rows

-- of fewer than 32 rows one more is taken
pub pushed : (old new : FixedVec Row 32) (a : Result (Unit {0}) Full) (r : Row) → Appends 32 (r ∷ []) old new a → length (elements old) < 32 → elements new ≡ elements old ++ r ∷ []
pushed old new (Ok x) r e h = e.1
pushed old new (Err f) r e h = absurd (omega (arith, e.0))
