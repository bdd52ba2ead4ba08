-- Runs of plans that are written out, by the definitions alone.
--
--   who_ran l            who ran at each tick of the log l, the first tick first
--   releases_at p t n    releases of the tasks below n whose period divides t
--   each_period p t      the events of t ticks, with each task released at every multiple of its period
--   four_tasks           (1,5) ASAP, (3,10) ASAP, (1,5) ALAP, (1,10) ALAP, as (cost, period)
--   PlanWith rs hs       a plan of the four tasks with these ranks and holds
--   RunsSo rs hs who     that plan, run with a release at each period, runs so
--   missing              task 3 is released at tick 0, tasks 0, 1 and 2 at tick 3, tasks 0 and 2 at tick 8; ten ticks
--   CountsSo rs hs ..    what that plan counts after these events: released, due, kept, missed, idle; and who ran, also in two ticks more
--   too_soon             events of which some come too soon, or again
--   NotesSo rs hs l      l is what that plan accepts of these
--   FourTasksRun         the runs of two plans of the four tasks, what one of them refuses, and what a third misses
use Rattle.std.specs.Prelude.{◌≡◌, ℕ, zero, suc, ◌%◌, cond, List, [], ◌∷◌, ◌++◌, Some, None, codes, Option, ◌==◌}
use Rattle.tasks.specs.declared.list.TaskList.{TaskList}
use Rattle.tasks.specs.declared.task.Preference.TheVariants.{Asap, Alap}
use Rattle.planning.specs.Counts.{released_in, due_in, kept_in, missed_in, idle_in}
use Rattle.planning.specs.Logs.{released, finished, ran, Log}
use Rattle.planning.specs.Orders.{ranks as ranks_of, holds as holds_of}
use Rattle.planning.specs.Plans.{list_of, rows, size, period_of}
use Rattle.planning.specs.Replays.{log_of}
use Rattle.planning.specs.Worked.{task_of, list_with}
use Rattle.planning.specs.declared.event.Event.{Event}
use Rattle.planning.specs.declared.event.Event.TheVariants.{Release, Finish, Tick}
use Rattle.planning.specs.declared.plan.Plan.{Plan}

abbrev pub who_ran : Log → List (Option ℕ)
who_ran [] = []
who_ran (released k ∷ l) = who_ran l
who_ran (finished k ∷ l) = who_ran l
who_ran (ran o ∷ l) = who_ran l ++ o ∷ []

abbrev pub releases_at : Plan → ℕ → ℕ → List Event
releases_at p t zero = []
releases_at p t (suc k) = releases_at p t k ++ cond (t % period_of p k == 0) (Release k ∷ []) []

abbrev pub each_period : Plan → ℕ → List Event
each_period p zero = []
each_period p (suc t) = each_period p t ++ (releases_at p t (size p) ++ Tick ∷ [])

abbrev pub four_tasks : TaskList
four_tasks =
    list_with
    (task_of (codes "a") Asap 1 5 tt tt tt tt tt tt
    ∷ task_of (codes "b") Asap 3 10 tt tt tt tt tt tt
    ∷ task_of (codes "c") Alap 1 5 tt tt tt tt tt tt
    ∷ task_of (codes "d") Alap 1 10 tt tt tt tt tt tt
    ∷ []) tt tt

pub record PlanWith (rs hs : List ℕ) : Type 0 where
  pub plan : Plan
  pub list : list_of plan ≡ four_tasks
  pub ranks : ranks_of (rows plan) ≡ rs
  pub holds : holds_of (rows plan) ≡ hs

pub record RunsSo (rs hs : List ℕ) (who : List (Option ℕ)) : Type 0 where
  pub of : PlanWith rs hs
  pub runs : who_ran (log_of of.plan (each_period of.plan 10)) ≡ who

abbrev pub missing : List Event
missing =
    Release 3 ∷ Tick ∷ Tick ∷ Tick
    ∷ Release 0 ∷ Release 1 ∷ Release 2 ∷ Tick ∷ Tick ∷ Tick ∷ Tick ∷ Tick
    ∷ Release 0 ∷ Release 2 ∷ Tick ∷ Tick
    ∷ []

pub record CountsSo (rs hs : List ℕ) (released due kept missed idle : ℕ) (who : List (Option ℕ)) : Type 0 where
  pub of : PlanWith rs hs
  pub released_are : released_in of.plan (log_of of.plan missing) ≡ released
  pub due_are : due_in of.plan (log_of of.plan missing) ≡ due
  pub kept_are : kept_in of.plan (log_of of.plan missing) ≡ kept
  pub missed_are : missed_in of.plan (log_of of.plan missing) ≡ missed
  pub idle_are : idle_in (log_of of.plan missing) ≡ idle
  pub runs : who_ran (log_of of.plan (missing ++ Tick ∷ Tick ∷ [])) ≡ who

-- a finish of a task that was not released, of a job that has not run, and of one that has nothing left; of one that has run a tick,
-- and again; releases before the period is over, one tick before, and when it is; a task that is not listed
abbrev pub too_soon : List Event
too_soon =
    Finish 0 ∷ Release 0 ∷ Finish 0 ∷ Tick ∷ Finish 0
    ∷ Release 1 ∷ Tick ∷ Finish 1 ∷ Finish 1 ∷ Tick
    ∷ Release 0 ∷ Tick ∷ Release 0 ∷ Tick ∷ Release 0 ∷ Release 0 ∷ Release 4 ∷ Finish 4
    ∷ []

pub record NotesSo (rs hs : List ℕ) (l : Log) : Type 0 where
  pub of : PlanWith rs hs
  pub notes : log_of of.plan too_soon ≡ l

pub record FourTasksRun : Type 0 where
  pub held_by_hand : RunsSo (4 ∷ 2 ∷ 3 ∷ 1 ∷ []) (0 ∷ 0 ∷ 3 ∷ 2 ∷ []) (Some 0 ∷ Some 1 ∷ Some 1 ∷ Some 2 ∷ Some 1 ∷ Some 0 ∷ Some 3 ∷ None ∷ Some 2 ∷ None ∷ [])
  pub as_planned : RunsSo (4 ∷ 3 ∷ 2 ∷ 1 ∷ []) (0 ∷ 0 ∷ 0 ∷ 2 ∷ []) (Some 0 ∷ Some 1 ∷ Some 1 ∷ Some 1 ∷ Some 2 ∷ Some 0 ∷ Some 2 ∷ Some 3 ∷ None ∷ None ∷ [])
  pub refuses : NotesSo (4 ∷ 3 ∷ 2 ∷ 1 ∷ []) (0 ∷ 0 ∷ 0 ∷ 2 ∷ []) (released 0 ∷ ran None ∷ ran None ∷ ran None ∷ finished 1 ∷ ran (Some 1) ∷ released 1 ∷ ran (Some 0) ∷ released 0 ∷ [])
  pub held_too_long : CountsSo (4 ∷ 3 ∷ 2 ∷ 1 ∷ []) (0 ∷ 0 ∷ 0 ∷ 3 ∷ []) 6 3 2 1 3 (None ∷ None ∷ None ∷ Some 0 ∷ Some 1 ∷ Some 1 ∷ Some 1 ∷ Some 2 ∷ Some 0 ∷ Some 2 ∷ None ∷ None ∷ [])
