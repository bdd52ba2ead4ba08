-- The rounds of planning, at one list. `bound` is the meaning of the test there: a set and a task to a bound or none.
--
--   asks l p U k            a search for tasks of preference p puts the question about task k: it is in U and has that preference
--   candidate l k o         task k as a candidate, if the test has a bound for it
--   better old new          the better of two candidates: the one with the greater slack, and the old one in a tie
--   considered f c          what is found once one more question was answered with the candidate c
--   search_below b l p U k  what a search finds among the tasks below k, which it asks about in the order of their numbers
--   search b l p U          what a search finds among all tasks
--   round b l U             what a round finds: among the ALAP tasks, and only if there is no candidate among the ASAP tasks
--   hold_of l c             the hold of a task that is placed: its slack if it is ALAP, else 0
--   placed_in l d c r       the draft d with the candidate c placed at rank r
--   go_on b l n r d         the draft after at most n more rounds, the first of which places at rank r
--   begun l                 the draft before the first round: every listed task is unplaced
--   planned b l             the draft when planning ends
use Rattle.std.specs.Prelude.{ℕ, zero, suc, ◌+◌, ◌-◌, Bool, true, false, cond, ◌&&◌, length, replicate, is_some, Some, None, Option, ◌==◌, nat_lt, slice_set}
use Rattle.tasks.specs.List.{listed, task_at}
use Rattle.tasks.specs.Set.{bit, without, first_set}
use Rattle.tasks.specs.declared.list.TaskList.{TaskList}
use Rattle.tasks.specs.declared.task.Preference.{Preference}
use Rattle.tasks.specs.declared.task.Preference.TheVariants.{Asap, Alap}
use Rattle.analysis.specs.Demand.{deadline}
use Rattle.planning.specs.Orders.{new_plan_row, no_row}
use Rattle.planning.specs.declared.rounds.Candidate.{Candidate}
use Rattle.planning.specs.declared.rounds.Draft.{Draft}
use Rattle.planning.specs.declared.rounds.Found.{Found}

abbrev pub prefers : Preference → Preference → Bool
prefers Asap Asap = true
prefers Asap Alap = false
prefers Alap Asap = false
prefers Alap Alap = true

abbrev pub asks : TaskList → Preference → ℕ → ℕ → Bool
asks l p U k = bit U k == 1 && prefers p (task_at l k).preference

abbrev pub candidate : TaskList → ℕ → Option ℕ → Option Candidate
candidate l k None = None
candidate l k (Some b) = Some (record { task = k; bound = b; slack = deadline l (task_at l k) - b })

abbrev pub better : Option Candidate → Option Candidate → Option Candidate
better None new = new
better (Some old) None = Some old
better (Some old) (Some new) = cond (nat_lt old.slack new.slack) (Some new) (Some old)

abbrev pub considered : Found → Option Candidate → Found
considered f c = record { questions = f.questions + 1; best = better f.best c }

unfoldable pub search_below : (ℕ → ℕ → Option ℕ) → TaskList → Preference → ℕ → ℕ → Found
search_below bound l p U zero = record { questions = 0; best = None }
search_below bound l p U (suc k) =
    cond (asks l p U k)
    (considered (search_below bound l p U k) (candidate l k (bound (without U k) k)))
    (search_below bound l p U k)

abbrev pub search : (ℕ → ℕ → Option ℕ) → TaskList → Preference → ℕ → Found
search bound l p U = search_below bound l p U (length (listed l))

abbrev pub joined : Found → Found → Found
joined late soon = cond (is_some late.best) late (record { questions = late.questions + soon.questions; best = soon.best })

unfoldable pub round : (ℕ → ℕ → Option ℕ) → TaskList → ℕ → Found
round bound l U = joined (search bound l Alap U) (search bound l Asap U)

abbrev pub hold_by : Preference → ℕ → ℕ
hold_by Asap slack = 0
hold_by Alap slack = slack

abbrev pub hold_of : TaskList → Candidate → ℕ
hold_of l c = hold_by (task_at l c.task).preference c.slack

abbrev pub counted : Draft → ℕ → Draft
counted d q = record { unplaced = d.unplaced; questions = d.questions + q; rows = d.rows }

abbrev pub placed_in : TaskList → Draft → Candidate → ℕ → Draft
placed_in l d c r = record {
  unplaced = without d.unplaced c.task;
  questions = d.questions;
  rows = slice_set d.rows c.task (new_plan_row r (hold_of l c));
}

abbrev pub chosen_or : Option Candidate → Draft → (Candidate → Draft) → Draft
chosen_or None ended next = ended
chosen_or (Some c) ended next = next c

unfoldable pub go_on : (ℕ → ℕ → Option ℕ) → TaskList → ℕ → ℕ → Draft → Draft
go_on bound l zero r d = d
go_on bound l (suc n) r d =
    chosen_or (round bound l d.unplaced).best
    (counted d (round bound l d.unplaced).questions)
    (λ c. go_on bound l n (suc r) (placed_in l (counted d (round bound l d.unplaced).questions) c r))

abbrev pub begun : TaskList → Draft
begun l = record { unplaced = first_set (length (listed l)); questions = 0; rows = replicate 32 no_row }

unfoldable pub planned : (ℕ → ℕ → Option ℕ) → TaskList → Draft
planned bound l = go_on bound l (length (listed l)) 1 (begun l)
