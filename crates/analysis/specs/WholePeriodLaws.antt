-- The whole-period test keeps the laws of tests: its bound falls with the demand, and the demand in fewer ticks than the deadline is
-- no more than the demand over it. Assumes nothing.
use Rattle.std.specs.Prelude.{◌≡◌, ℕ, ◌<◌, ◌≤◌, true, false, Some, None, nat_le}
use Rattle.std.proofs.Common.{sym, ◌∙◌, ⊎_elim, arith}
use Rattle.std.proofs.lemmas.Bool.{cases_Bool, cond-true, cond-false, leb-true, le-leb, lt-leb}
use Rattle.tasks.specs.List.{task_at}
use Rattle.tasks.specs.Set.{Within}
use Rattle.tasks.specs.declared.list.TaskList.{TaskList}
use Rattle.analysis.specs.Demand.{deadline, demand}
use Rattle.analysis.specs.WholePeriod.{within, whole_period}
use Rattle.analysis.specs.DemandLaws.{demand_mono, demand_within}

pub within_is : (d limit : ℕ) → d ≤ limit → within d limit ≡ Some d
within_is d limit h = cond-true (nat_le d limit) (Some d) None (le-leb d limit h)

pub within_none : (d limit : ℕ) → limit < d → within d limit ≡ None
within_none d limit h = cond-false (nat_le d limit) (Some d) None (lt-leb d limit h)

within_some : (d limit b : ℕ) → within d limit ≡ Some b → (b ≡ d) × (d ≤ limit)
within_some d limit b e =
    ⊎_elim
    (λ (t : nat_le d limit ≡ true).
    let both : Some d ≡ Some b = sym (cond-true (nat_le d limit) (Some d) None t) ∙ e in
    let same : d ≡ b = cc in
    (sym same, leb-true d limit t))
    (λ (f : nat_le d limit ≡ false).
    let clash : None ≡ Some b = sym (cond-false (nat_le d limit) (Some d) None f) ∙ e in
    cc)
    (cases_Bool (nat_le d limit))

pub whole_fewer : (l : TaskList) (a S i b : ℕ) → Within a S → whole_period l S i ≡ Some b → (c : ℕ) × (whole_period l a i ≡ Some c) × (c ≤ b)
unfolding whole_period
whole_fewer l a S i b w e =
    let limit = deadline l (task_at l i) in
    let s = within_some (demand l S i limit) limit b e in
    let less = demand_within l a S i limit w in
    (demand l a i limit, within_is (demand l a i limit) limit (omega (arith, less, s.1)), omega (arith, less, s.0))

pub whole_sound : (l : TaskList) (S i b : ℕ) → whole_period l S i ≡ Some b → (b ≤ deadline l (task_at l i)) × (demand l S i b ≤ b)
unfolding whole_period
whole_sound l S i b e =
    let limit = deadline l (task_at l i) in
    let s = within_some (demand l S i limit) limit b e in
    let early : b ≤ limit = omega (arith, s.0, s.1) in
    (early, omega (arith, demand_mono l S i b limit early, s.0))
