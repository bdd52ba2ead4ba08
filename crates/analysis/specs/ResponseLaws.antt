-- The function `response` answers exactly what the words of `Response` say, and the exact test keeps the laws of tests.
-- Assumes nothing.
use Rattle.std.specs.Prelude.{◌≡◌, ℕ, ◌<◌, ◌≤◌, Some, None, Option, nat_le}
use Rattle.std.proofs.Common.{sym, ⊎_elim, arith}
use Rattle.std.proofs.lemmas.Bool.{cases_lt, le-leb, lt-leb, leb-true, leb-false}
use Rattle.tasks.specs.List.{task_at}
use Rattle.tasks.specs.Set.{Within}
use Rattle.tasks.specs.declared.list.TaskList.{TaskList}
use Rattle.analysis.specs.Demand.{deadline, demand}
use Rattle.analysis.specs.Response.{Response, Smallest, response}
use Rattle.analysis.specs.DemandLaws.{demand_mono, demand_within, demand_some}
use Rattle.analysis.specs.Least.{least_none, least_all, least_is, least_exists, least_some}

pub response_is : (l : TaskList) (S i r : ℕ) → Response l S i r → response l S i ≡ Some r
unfolding response
response_is l S i r h =
    least_is _ 1 _ r (record {
      low = h.positive;
      high = omega (arith, h.in_time);
      passes = le-leb _ _ h.met;
      first = λ t a b. lt-leb _ _ (h.smallest t a b);
    })

pub response_none : (l : TaskList) (S i : ℕ) → ((t : ℕ) → 1 ≤ t → t ≤ deadline l (task_at l i) → t < demand l S i t) → response l S i ≡ None
unfolding response
response_none l S i h = least_none _ 1 _ (λ t a b. lt-leb _ _ (h t a (omega arith)))

pub response_some : (l : TaskList) (S i r : ℕ) → response l S i ≡ Some r → Response l S i r
unfolding response
response_some l S i r e =
    let f = least_some (λ t. nat_le (demand l S i t) t) 1 (deadline l (task_at l i)) r e in
    record {
      positive = f.low;
      in_time = omega (arith, f.high);
      met = leb-true _ _ f.passes;
      smallest = λ t a b. leb-false _ _ (f.first t a b);
    }

-- where the demand is met in b ticks, b at most the deadline, there is a response, and it is at most b
pub response_exists : (l : TaskList) (S i b : ℕ) → b ≤ deadline l (task_at l i) → demand l S i b ≤ b → (r : ℕ) × Response l S i r × (r ≤ b)
unfolding response
response_exists l S i b h met =
    let some = least_exists (λ t. nat_le (demand l S i t) t) 1 (deadline l (task_at l i)) b (omega (arith, demand_some l S i b)) (omega arith) (le-leb _ _ met) in
    (some.0, response_some l S i some.0 some.1, some.2)

-- below fewer tasks there is a response too, and it is no greater
pub response_fewer : (l : TaskList) (a S i b : ℕ) → Within a S → response l S i ≡ Some b → (c : ℕ) × (response l a i ≡ Some c) × (c ≤ b)
unfolding response
response_fewer l a S i b w e =
    let h = response_some l S i b e in
    let r = response_exists l a i b h.in_time (omega (arith, demand_within l a S i b w, h.met)) in
    (r.0, response_is l a i r.0 r.1, r.2)

-- raised to the demand, nothing that meets its demand is passed over
pub raised : (l : TaskList) (S i t : ℕ) → ((s : ℕ) → 1 ≤ s → s < t → s < demand l S i s) → (s : ℕ) → 1 ≤ s → s < demand l S i t → s < demand l S i s
raised l S i t h s a b =
    ⊎_elim (λ (low : s < t). h s a low) (λ (high : t ≤ s). omega (arith, demand_mono l S i t s high)) (cases_lt s t)

-- the function finds the smallest
pub response_smallest : (l : TaskList) (S i : ℕ) (o : Option ℕ) → o ≡ response l S i → Smallest l S i o
unfolding response
response_smallest l S i None e = λ t a b. leb-false _ _ (least_all (λ t. nat_le (demand l S i t) t) 1 (deadline l (task_at l i)) (sym e) t a (omega arith))
response_smallest l S i (Some r) e = response_some l S i r (sym e)
