-- What a log counts, from its releases. A release makes a job, which is due a deadline later.
--
--   sum_below n f         f 0 + f 1 + .. + f (n - 1)
--   count_if b            1 if b, else 0
--   served_in k xs        the ticks among the entries xs that ran task k
--   finished_in k xs      a finish of task k is among the entries xs
--   up_to_tick d xs       of the entries xs, oldest first, those up to the d-th tick, and that tick
--   due_by p k xs         the due tick of a job of task k has come with the entries xs after its release, oldest first
--   kept_by p k xs        it has come, and by then the job had run its charge, or a finish of it was accepted
--   per_release f k xs l  how many releases of task k in l have f of what came after; xs is what came after l, oldest first
--   releases_of k l, due_of p k l, kept_of p k l    the jobs of task k that were released, came due, were kept
--   released_in p l, due_in p l, kept_in p l    the same of all listed tasks
--   missed_in p l         the jobs that came due and were not kept
--   idle_in l             the ticks that ran nothing
--   awaits p k l          a job of task k was released and its due tick has not come: 1 or 0
--   awaited p l           how many listed tasks have such a job
use Rattle.std.specs.Prelude.{ℕ, zero, suc, ◌+◌, ◌-◌, Bool, true, false, cond, ◌&&◌, ◌||◌, List, [], ◌∷◌, Some, None, ◌==◌, nat_le, nat_lt}
use Rattle.planning.specs.Logs.{Entry, released, finished, ran, Log, now, is_for, known, age}
use Rattle.planning.specs.Plans.{size, charge_of, deadline_of}
use Rattle.planning.specs.declared.plan.Plan.{Plan}

abbrev pub sum_below : ℕ → (ℕ → ℕ) → ℕ
sum_below zero f = 0
sum_below (suc n) f = f n + sum_below n f

abbrev pub count_if : Bool → ℕ
count_if b = cond b 1 0

abbrev pub served_in : ℕ → List Entry → ℕ
served_in k [] = 0
served_in k (released j ∷ xs) = served_in k xs
served_in k (finished j ∷ xs) = served_in k xs
served_in k (ran o ∷ xs) = count_if (is_for k o) + served_in k xs

abbrev pub finished_in : ℕ → List Entry → Bool
finished_in k [] = false
finished_in k (released j ∷ xs) = finished_in k xs
finished_in k (finished j ∷ xs) = j == k || finished_in k xs
finished_in k (ran o ∷ xs) = finished_in k xs

abbrev pub up_to_tick : ℕ → List Entry → List Entry
up_to_tick zero xs = []
up_to_tick (suc d) [] = []
up_to_tick (suc d) (released j ∷ xs) = released j ∷ up_to_tick (suc d) xs
up_to_tick (suc d) (finished j ∷ xs) = finished j ∷ up_to_tick (suc d) xs
up_to_tick (suc d) (ran o ∷ xs) = ran o ∷ up_to_tick d xs

abbrev pub due_by : Plan → ℕ → List Entry → Bool
due_by p k xs = nat_le (deadline_of p k) (now xs)

abbrev pub kept_by : Plan → ℕ → List Entry → Bool
kept_by p k xs =
    due_by p k xs
    && (nat_le (charge_of p k) (served_in k (up_to_tick (deadline_of p k) xs)) || finished_in k (up_to_tick (deadline_of p k) xs))

abbrev pub per_release : (List Entry → Bool) → ℕ → List Entry → Log → ℕ
per_release f k xs [] = 0
per_release f k xs (released j ∷ l) = count_if (j == k && f xs) + per_release f k (released j ∷ xs) l
per_release f k xs (finished j ∷ l) = per_release f k (finished j ∷ xs) l
per_release f k xs (ran o ∷ l) = per_release f k (ran o ∷ xs) l

abbrev pub releases_of : ℕ → Log → ℕ
releases_of k l = per_release (λ _. true) k [] l

abbrev pub due_of : Plan → ℕ → Log → ℕ
due_of p k l = per_release (due_by p k) k [] l

abbrev pub kept_of : Plan → ℕ → Log → ℕ
kept_of p k l = per_release (kept_by p k) k [] l

abbrev pub released_in : Plan → Log → ℕ
released_in p l = sum_below (size p) (λ k. releases_of k l)

abbrev pub due_in : Plan → Log → ℕ
due_in p l = sum_below (size p) (λ k. due_of p k l)

abbrev pub kept_in : Plan → Log → ℕ
kept_in p l = sum_below (size p) (λ k. kept_of p k l)

abbrev pub missed_in : Plan → Log → ℕ
missed_in p l = due_in p l - kept_in p l

abbrev pub idle_in : Log → ℕ
idle_in [] = 0
idle_in (released j ∷ l) = idle_in l
idle_in (finished j ∷ l) = idle_in l
idle_in (ran None ∷ l) = suc (idle_in l)
idle_in (ran (Some k) ∷ l) = idle_in l

abbrev pub awaits : Plan → ℕ → Log → ℕ
awaits p k l = count_if (known k l && nat_lt (age k l) (deadline_of p k))

abbrev pub awaited : Plan → Log → ℕ
awaited p l = sum_below (size p) (λ k. awaits p k l)
