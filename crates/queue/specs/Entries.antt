-- The orders of held and of ready jobs.
--
--   held_le x y      x is held until an earlier tick than y, or until the same and has at most its task number
--   ready_le x y     x has a greater rank than y, or the same and at most its task number
--   ready_cmp x y    how x and y compare by that: the greater rank first, and then by task
use Rattle.std.specs.Prelude.{Bool, ◌&&◌, ◌||◌, ◌==◌, nat_le, nat_lt}
use Rattle.std.specs.Ordering.{nat_cmp, on, flip_args, then_cmp}
use Rattle.std.specs.declared.cmp.Ordering.{Ordering}
use Rattle.queue.specs.declared.entries.Held.{Held}
use Rattle.queue.specs.declared.entries.Ready.{Ready}

abbrev pub held_le : Held → Held → Bool
held_le x y = nat_lt x.until y.until || (x.until == y.until && nat_le x.task y.task)

abbrev pub ready_le : Ready → Ready → Bool
ready_le x y = nat_lt y.rank x.rank || (x.rank == y.rank && nat_le x.task y.task)

abbrev pub ready_cmp : Ready → Ready → Ordering
ready_cmp = then_cmp (flip_args (on (λ r. r.rank) nat_cmp)) (on (λ r. r.task) nat_cmp)
