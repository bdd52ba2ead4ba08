-- Demand grows with the ticks and with the set: each job that begins in fewer ticks, or of a smaller set, is counted there too.
-- And the steps of a loop that adds it up task by task. Assumes nothing.
use Rattle.std.specs.Prelude.{◌≡◌, ℕ, suc, ◌+◌, ◌-◌, ◌*◌, ◌/◌, ◌%◌, ◌^◌, ◌<◌, ◌≤◌, min, List, [], ◌∷◌, length, drop, slice_index_or}
use Rattle.std.proofs.Common.{sym, ap, ◌∙◌, ⊎_elim, le_refl, add-le-add, add-mul, mul-le-mul_left, mul-le-mul_right, le-div_iff_mul-le, div-mul-le_self, arith}
use Rattle.std.proofs.lemmas.Nat.{div-add-mod', div-mul-add, mod_below, mul-le}
use Rattle.std.proofs.lemmas.List.{at_drop_more, at_drop_all}
use Rattle.std.proofs.lemmas.Bool.{cases_lt}
use Rattle.tasks.specs.List.{listed, task_at}
use Rattle.tasks.specs.Set.{Within}
use Rattle.tasks.specs.declared.list.TaskList.{TaskList}
use Rattle.tasks.specs.declared.task.Task.{Task}
use Rattle.analysis.specs.Demand.{charge, ceil, load, demand}

-- ---- periods begun

-- whole periods, and one more where something is left
pub ceil_is : (t p : ℕ) → 0 < p → t / p + min 1 (t % p) ≡ ceil t p
ceil_is t p h =
    let split = div-add-mod' t p in
    let below = mod_below t p h in
    ⊎_elim
    (λ (none : t % p < 1).
    let rest : t + (p - 1) ≡ t / p * p + (p - 1) = omega arith in
    let whole = div-mul-add (t / p) p (p - 1) (omega arith) in
    omega (arith, ap (λ n. n / p) rest, whole))
    (λ (some : 1 ≤ t % p).
    let next : (t / p + 1) * p ≡ t / p * p + p = omega (arith, add-mul (t / p) 1 p) in
    let rest : t + (p - 1) ≡ (t / p + 1) * p + (t % p - 1) = omega arith in
    let whole = div-mul-add (t / p + 1) p (t % p - 1) (omega arith) in
    omega (arith, ap (λ n. n / p) rest, whole))
    (cases_lt (t % p) 1)

pub ceil_mono : (t u p : ℕ) → 0 < p → t ≤ u → ceil t p ≤ ceil u p
ceil_mono t u p h le = (le-div_iff_mul-le h).1 (omega (arith, div-mul-le_self (t + (p - 1)) p))

pub ceil_le : (t p : ℕ) → 0 < p → ceil t p ≤ t
ceil_le t p h =
    omega (arith, ceil_is t p h, div-add-mod' t p, mul-le-mul_left (t / p) h)

-- ---- load and demand

pub load_mono : (l : TaskList) (xs : List Task) (S t u : ℕ) → t ≤ u → load l xs S t ≤ load l xs S u
unfolding load
load_mono l [] S t u h = le_refl 0
load_mono l (x ∷ xs) S t u h =
    add-le-add (mul-le-mul_left (S % 2) (mul-le-mul_left (charge l x) (ceil_mono t u x.period (omega (arith, x.limits)) h))) (load_mono l xs (S / 2) t u h)

pub load_within : (l : TaskList) (xs : List Task) (a S t : ℕ) → Within a S → load l xs a t ≤ load l xs S t
unfolding load
load_within l [] a S t h = le_refl 0
load_within l (x ∷ xs) a S t h =
    add-le-add (mul-le-mul_right (charge l x * ceil t x.period) (h 0)) (load_within l xs (a / 2) (S / 2) t (λ k. h (suc k)))

pub demand_mono : (l : TaskList) (S i t u : ℕ) → t ≤ u → demand l S i t ≤ demand l S i u
unfolding demand
demand_mono l S i t u h = omega (arith, load_mono l (listed l) S t u h)

pub demand_within : (l : TaskList) (a S i t : ℕ) → Within a S → demand l a i t ≤ demand l S i t
unfolding demand
demand_within l a S i t h = omega (arith, load_within l (listed l) a S t h)

-- the demand is never 0, for the task asks for a tick itself
pub demand_some : (l : TaskList) (S i t : ℕ) → 1 ≤ demand l S i t
unfolding demand
demand_some l S i t = omega (arith, (task_at l i).limits)

-- ---- adding it up

pub load_more : (l : TaskList) (xs : List Task) (k S t : ℕ) (x : Task) → k < length xs → x ≡ slice_index_or xs k x → load l (drop k xs) S t ≡ S % 2 * (charge l x * ceil t x.period) + load l (drop (k + 1) xs) (S / 2) t
unfolding load
load_more l xs k S t x h e =
    at_drop_more (λ ys. load l ys S t) xs k x h ∙ ap (λ y. load l (y ∷ drop (k + 1) xs) S t) (sym e)

pub load_all : (l : TaskList) (xs : List Task) (k S t : ℕ) → length xs ≤ k → load l (drop k xs) S t ≡ 0
unfolding load
load_all l xs k S t h = at_drop_all (λ ys. load l ys S t) xs k h

-- what the jobs of one task ask for fits 32 bits
pub jobs_small : (x : Task) (t : ℕ) → t < 2 ^ 16 → x.cost * ceil t x.period < 2 ^ 32
jobs_small x t h =
    omega (arith, mul-le x.cost (ceil t x.period) 60000 65535 (omega (arith, x.limits)) (omega (arith, ceil_le t x.period (omega (arith, x.limits)))))
