-- Runs of a plan p: which logs its lists of events lead to.
--
--   clock_end           the tick at which the clock ends
--   Pends p l k         after the log l a job of task k is ready and unfinished: it was released, its hold is over, its due tick
--                       has not come, it has work left, and no finish came
--   MayRelease p l k    task k is listed, and its last release, if any, is at least its period ago
--   MayFinish p l k     a job of task k pends that has run at least one tick
--   Picks p l o         o is the pending task of greatest rank, or none if none pends, whatever is held
--   Allowed p l x       x may be noted after l
--   Lawful p l          every entry of l was allowed after what stands before it
--   Notes e x           x is a note of the event e
--   Accepts p l e x     after l the event e is accepted, and noted as x
--   After p e l m       the event e leads from the log l to m: its note is added, or, where it is not accepted, nothing changes
--   Leads p l es m      the events es, in this order, lead from l to m
--   Run p es m          m is the log of the run of the events es, which begins with nothing
use Rattle.std.specs.Prelude.{◌≡◌, ℕ, ◌<◌, ◌≤◌, true, false, ◌⊎◌, List, [], ◌∷◌, Some, None, Option}
use Rattle.planning.specs.Logs.{Entry, released, finished, ran, Log, now, known, age, served, ended}
use Rattle.planning.specs.Plans.{size, rank_of, held_for, charge_of, deadline_of, period_of}
use Rattle.planning.specs.declared.event.Event.{Event}
use Rattle.planning.specs.declared.event.Event.TheVariants.{Release, Finish, Tick}
use Rattle.planning.specs.declared.plan.Plan.{Plan}

abbrev pub clock_end : ℕ
clock_end = 4000000000

pub record Pends (p : Plan) (l : Log) (k : ℕ) : Type 0 where
  pub listed : k < size p
  pub known : known k l ≡ true
  pub past_hold : held_for p k ≤ age k l
  pub before_due : age k l < deadline_of p k
  pub not_ended : ended k l ≡ false
  pub work_left : served k l < charge_of p k

abbrev pub MayRelease : Plan → Log → ℕ → Type 0
MayRelease p l k = (k < size p) × (known k l ≡ true → period_of p k ≤ age k l)

abbrev pub MayFinish : Plan → Log → ℕ → Type 0
MayFinish p l k = Pends p l k × (1 ≤ served k l)

abbrev pub Picks : Plan → Log → Option ℕ → Type 0
Picks p l None = (j : ℕ) → Pends p l j → ⊥
Picks p l (Some k) = Pends p l k × ((j : ℕ) → Pends p l j → rank_of p j ≤ rank_of p k)

abbrev pub Allowed : Plan → Log → Entry → Type 0
Allowed p l (released k) = MayRelease p l k
Allowed p l (finished k) = MayFinish p l k
Allowed p l (ran o) = (now l < clock_end) × Picks p l o

abbrev pub Lawful : Plan → Log → Type 0
Lawful p [] = Unit {0}
Lawful p (x ∷ l) = Allowed p l x × Lawful p l

abbrev pub Notes : Event → Entry → Type 0
Notes (Release k) x = x ≡ released k
Notes (Finish k) x = x ≡ finished k
Notes Tick x = (o : Option ℕ) × (x ≡ ran o)

abbrev pub Accepts : Plan → Log → Event → Entry → Type 0
Accepts p l e x = Notes e x × Allowed p l x

abbrev pub After : Plan → Event → Log → Log → Type 0
After p e l m = ((x : Entry) × Accepts p l e x × (m ≡ x ∷ l)) ⊎ (((x : Entry) → Accepts p l e x → ⊥) × (m ≡ l))

abbrev pub Leads : Plan → Log → List Event → Log → Type 0
Leads p l [] m = m ≡ l
Leads p l (e ∷ es) m = (k : Log) × After p e l k × Leads p k es m

abbrev pub Run : Plan → List Event → Log → Type 0
Run p es m = Leads p [] es m
