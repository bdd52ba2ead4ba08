-- What a round chooses, in the words of the rules.
--
--   Eligible b l p U k x   task k of the set U has the preference p, and the test has the bound x for it below the rest of U
--   slack_of l k x         the slack of task k at the bound x
--   Best b l p U n c       of the eligible tasks below n, c has the greatest slack, and of several with that slack the least number
--   NoneFits b l p U n     no task below n is eligible
--   Chosen b l p U n o     o is the best of the eligible tasks below n, or none if there is none
--   asked_below l p U n    how many tasks below n are of U and have the preference p
--   RoundAsks b l U q      q questions are put: about every ALAP task of U, and if none of them is eligible about every ASAP task too
--   Stuck b U              no task of U has a bound below the others of U
--   RoundsByTheRules b l   for every set U, a round of the definition chooses and asks so
--   RoundChooses b l U o   o is the best of the eligible ALAP tasks; only if there is none, the best of the ASAP tasks; or none
use Rattle.std.specs.Prelude.{◌≡◌, ℕ, zero, suc, ◌+◌, ◌-◌, ◌<◌, ◌≤◌, cond, ◌⊎◌, length, Some, None, Option, ◌≢◌}
use Rattle.tasks.specs.List.{listed, task_at}
use Rattle.tasks.specs.Set.{bit, without}
use Rattle.tasks.specs.declared.list.TaskList.{TaskList}
use Rattle.tasks.specs.declared.task.Preference.{Preference}
use Rattle.tasks.specs.declared.task.Preference.TheVariants.{Asap, Alap}
use Rattle.analysis.specs.Demand.{deadline}
use Rattle.planning.specs.Rounds.{asks, round}
use Rattle.planning.specs.declared.rounds.Candidate.{Candidate}

pub record Eligible (bound : ℕ → ℕ → Option ℕ) (l : TaskList) (p : Preference) (U k x : ℕ) : Type 0 where
  pub in_set : bit U k ≡ 1
  pub prefers_so : (task_at l k).preference ≡ p
  pub bounded : bound (without U k) k ≡ Some x

abbrev pub slack_of : TaskList → ℕ → ℕ → ℕ
slack_of l k x = deadline l (task_at l k) - x

pub record Best (bound : ℕ → ℕ → Option ℕ) (l : TaskList) (p : Preference) (U n : ℕ) (c : Candidate) : Type 0 where
  pub eligible : Eligible bound l p U c.task c.bound
  pub below : c.task < n
  pub slack_is : c.slack ≡ slack_of l c.task c.bound
  pub greatest : (k x : ℕ) → k < n → Eligible bound l p U k x → slack_of l k x ≤ c.slack
  pub least : (k x : ℕ) → k < n → Eligible bound l p U k x → slack_of l k x ≡ c.slack → c.task ≤ k

abbrev pub NoneFits : (ℕ → ℕ → Option ℕ) → TaskList → Preference → ℕ → ℕ → Type 0
NoneFits bound l p U n = (k x : ℕ) → k < n → Eligible bound l p U k x → ⊥

abbrev pub Chosen : (ℕ → ℕ → Option ℕ) → TaskList → Preference → ℕ → ℕ → Option Candidate → Type 0
Chosen bound l p U n None = NoneFits bound l p U n
Chosen bound l p U n (Some c) = Best bound l p U n c

abbrev pub RoundChooses : (ℕ → ℕ → Option ℕ) → TaskList → ℕ → Option Candidate → Type 0
RoundChooses bound l U None = NoneFits bound l Alap U (length (listed l)) × NoneFits bound l Asap U (length (listed l))
RoundChooses bound l U (Some c) = Best bound l Alap U (length (listed l)) c ⊎ (NoneFits bound l Alap U (length (listed l)) × Best bound l Asap U (length (listed l)) c)

abbrev pub asked_below : TaskList → Preference → ℕ → ℕ → ℕ
asked_below l p U zero = 0
asked_below l p U (suc k) = asked_below l p U k + cond (asks l p U k) 1 0

pub record RoundAsks (bound : ℕ → ℕ → Option ℕ) (l : TaskList) (U q : ℕ) : Type 0 where
  pub alap_only : (k x : ℕ) → k < length (listed l) → Eligible bound l Alap U k x → q ≡ asked_below l Alap U (length (listed l))
  pub both : NoneFits bound l Alap U (length (listed l)) → q ≡ asked_below l Alap U (length (listed l)) + asked_below l Asap U (length (listed l))

abbrev pub RoundsByTheRules : (ℕ → ℕ → Option ℕ) → TaskList → Type 0
RoundsByTheRules bound l = (U : ℕ) → RoundChooses bound l U (round bound l U).best × RoundAsks bound l U (round bound l U).questions

abbrev pub Stuck : (ℕ → ℕ → Option ℕ) → ℕ → Type 0
Stuck bound U = (k x : ℕ) → bit U k ≡ 1 → bound (without U k) k ≢ Some x
