-- The demanding pattern on a task: every task of at least its rank becomes ready at the same tick, and is released again as soon as
-- it may be. It is made by offering releases, at each tick, of all of these tasks; those that come too soon are refused.
--
--   longest_hold p n      the longest hold of the tasks below n
--   lead p                the tick at which all become ready: the longest hold of all
--   offered p i t k       task k has at least the rank of task i, and with a release at tick t its hold does not end before `lead`
--   offers_below p i t n  the releases that are offered at tick t, of the tasks below n
--   pattern_to p i t      the events of the first t ticks
--   pattern p i           the events up to the due tick of the first job of task i
--   longest_run           no such pattern has more ticks
--   Demanding p i         the pattern on task i ends with the due tick of its first job, long before the clock does; and if no job is missed in it, in some number
--                         of ticks, which after its hold is at most its deadline, the demand of task i is met
--   PatternsDemand        that holds of every listed task of every plan
use Rattle.std.specs.Prelude.{◌≡◌, ℕ, zero, suc, ◌+◌, ◌-◌, ◌<◌, ◌≤◌, max, Bool, cond, ◌&&◌, List, [], ◌∷◌, ◌++◌, nat_le}
use Rattle.analysis.specs.Demand.{demand}
use Rattle.planning.specs.Counts.{due_in, kept_in}
use Rattle.planning.specs.Logs.{now}
use Rattle.planning.specs.Plans.{list_of, size, rank_of, held_for, above, deadline_of}
use Rattle.planning.specs.Replays.{log_of}
use Rattle.planning.specs.declared.event.Event.{Event}
use Rattle.planning.specs.declared.event.Event.TheVariants.{Release, Tick}
use Rattle.planning.specs.declared.plan.Plan.{Plan}

abbrev pub longest_hold : Plan → ℕ → ℕ
longest_hold p zero = 0
longest_hold p (suc k) = max (held_for p k) (longest_hold p k)

unfoldable pub lead : Plan → ℕ
lead p = longest_hold p (size p)

abbrev pub offered : Plan → ℕ → ℕ → ℕ → Bool
offered p i t k = nat_le (rank_of p i) (rank_of p k) && nat_le (lead p) (t + held_for p k)

abbrev pub offers_below : Plan → ℕ → ℕ → ℕ → List Event
offers_below p i t zero = []
offers_below p i t (suc k) = offers_below p i t k ++ cond (offered p i t k) (Release k ∷ []) []

abbrev pub pattern_to : Plan → ℕ → ℕ → List Event
pattern_to p i zero = []
pattern_to p i (suc t) = pattern_to p i t ++ (offers_below p i t (size p) ++ Tick ∷ [])

abbrev pub pattern : Plan → ℕ → List Event
pattern p i = pattern_to p i (lead p + (deadline_of p i - held_for p i))

abbrev pub longest_run : ℕ
longest_run = 120000

pub record Met (p : Plan) (i : ℕ) : Type 0 where
  pub ticks : ℕ
  pub met : demand (list_of p) (above p i) i ticks ≤ ticks
  pub in_time : held_for p i + ticks ≤ deadline_of p i

pub record Demanding (p : Plan) (i : ℕ) : Type 0 where
  pub length_is : now (log_of p (pattern p i)) ≡ lead p + (deadline_of p i - held_for p i)
  pub ends_early : now (log_of p (pattern p i)) ≤ longest_run
  pub met_if_none_missed : kept_in p (log_of p (pattern p i)) ≡ due_in p (log_of p (pattern p i)) → Met p i

abbrev pub PatternsDemand : Type 0
PatternsDemand = (p : Plan) (i : ℕ) → i < size p → Demanding p i
