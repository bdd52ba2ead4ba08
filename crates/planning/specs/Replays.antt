-- The log of a run, computed.
--
--   pends_now p l k    whether after l a job of task k is ready and unfinished
--   higher p o k       of a task, if any, and task k the one of greater rank
--   pick_below p l n   of the tasks below n that pend, the one of greatest rank, if any pends
--   entry_for p l e    how the event e is noted after l, if it is accepted
--   noted o l          the log l with what is noted, if anything is
--   log_from p l es    the log after the events es, from the log l on
--   log_of p es        the log of the run of the events es
use Rattle.std.specs.Prelude.{ℕ, zero, suc, Bool, cond, not, ◌&&◌, ◌||◌, List, [], ◌∷◌, Some, None, Option, nat_le, nat_lt}
use Rattle.planning.specs.Logs.{Entry, released, finished, ran, Log, now, known, age, served, ended}
use Rattle.planning.specs.Plans.{size, rank_of, held_for, charge_of, deadline_of, period_of}
use Rattle.planning.specs.Runs.{clock_end}
use Rattle.planning.specs.declared.event.Event.{Event}
use Rattle.planning.specs.declared.event.Event.TheVariants.{Release, Finish, Tick}
use Rattle.planning.specs.declared.plan.Plan.{Plan}

unfoldable pub pends_now : Plan → Log → ℕ → Bool
pends_now p l k =
    nat_lt k (size p)
    && (known k l
    && (nat_le (held_for p k) (age k l)
    && (nat_lt (age k l) (deadline_of p k)
    && (not (ended k l)
    && nat_lt (served k l) (charge_of p k)))))

abbrev pub higher : Plan → Option ℕ → ℕ → Option ℕ
higher p None k = Some k
higher p (Some j) k = cond (nat_lt (rank_of p j) (rank_of p k)) (Some k) (Some j)

unfoldable pub pick_below : Plan → Log → ℕ → Option ℕ
pick_below p l zero = None
pick_below p l (suc k) = cond (pends_now p l k) (higher p (pick_below p l k) k) (pick_below p l k)

unfoldable pub entry_for : Plan → Log → Event → Option Entry
entry_for p l (Release k) = cond (nat_lt k (size p) && (not (known k l) || nat_le (period_of p k) (age k l))) (Some (released k)) None
entry_for p l (Finish k) = cond (pends_now p l k && nat_le 1 (served k l)) (Some (finished k)) None
entry_for p l Tick = cond (nat_lt (now l) clock_end) (Some (ran (pick_below p l (size p)))) None

abbrev pub noted : Option Entry → Log → Log
noted None l = l
noted (Some x) l = x ∷ l

abbrev pub log_from : Plan → Log → List Event → Log
log_from p l [] = l
log_from p l (e ∷ es) = log_from p (noted (entry_for p l e) l) es

abbrev pub log_of : Plan → List Event → Log
log_of p es = log_from p [] es
