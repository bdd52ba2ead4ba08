-- What holds of every run of a plan.
--
--   RunsAreReplays      a log is that of a run of these events exactly if the computed one is the same
--   OneRun p es l       what holds of the log l of the run of the events es
--   RunsKeepBooks       that holds of every run
--   Done p k l          the last job of task k has run its charge, or a finish of it was accepted
--   InWindow p k r l    a job of task k that became ready r or more ticks ago, and whose due tick is not past, is done; so none pends
--   WindowsHold         if a task has the response r below the tasks of greater rank, that holds with r in every run
use Rattle.std.specs.Prelude.{◌≡◌, ℕ, suc, ◌+◌, ◌<◌, ◌≤◌, true, ◌⊎◌, ◌↔◌, List, [], ◌∷◌, ◌++◌}
use Rattle.analysis.specs.Response.{Response}
use Rattle.planning.specs.Counts.{releases_of, due_of, released_in, due_in, kept_in, awaited}
use Rattle.planning.specs.Logs.{Entry, Log, now, known, age, served, ended}
use Rattle.planning.specs.Plans.{list_of, size, held_for, above, charge_of, deadline_of}
use Rattle.planning.specs.Replays.{log_of}
use Rattle.planning.specs.Runs.{clock_end, Pends, Lawful, Accepts, Run}
use Rattle.planning.specs.declared.event.Event.{Event}
use Rattle.planning.specs.declared.plan.Plan.{Plan}

abbrev pub RunsAreReplays : Type 0
RunsAreReplays = (p : Plan) (es : List Event) (m : Log) → Run p es m ↔ (m ≡ log_of p es)

pub record OneRun (p : Plan) (es : List Event) (l : Log) : Type 0 where
  pub lawful : Lawful p l
  pub released_are_due_or_awaited : released_in p l ≡ due_in p l + awaited p l
  pub kept_are_due : kept_in p l ≤ due_in p l
  pub one_job_alive : (k : ℕ) → k < size p → releases_of k l ≤ suc (due_of p k l)
  pub clock_ends : now l ≤ clock_end
  pub refused_leaves_log : (e : Event) (m : Log) → ((x : Entry) → Accepts p l e x → ⊥) → Run p (es ++ e ∷ []) m → m ≡ l

abbrev pub RunsKeepBooks : Type 0
RunsKeepBooks = (p : Plan) (es : List Event) (l : Log) → Run p es l → OneRun p es l

abbrev pub Done : Plan → ℕ → Log → Type 0
Done p k l = (charge_of p k ≤ served k l) ⊎ (ended k l ≡ true)

pub record InWindow (p : Plan) (k r : ℕ) (l : Log) : Type 0 where
  pub done : known k l ≡ true → held_for p k + r ≤ age k l → age k l ≤ deadline_of p k → Done p k l
  pub none_pends : Pends p l k → age k l < held_for p k + r

abbrev pub WindowsHold : Type 0
WindowsHold = (p : Plan) (k r : ℕ) → k < size p → Response (list_of p) (above p k) k r → (es : List Event) (l : Log) → Run p es l → InWindow p k r l
