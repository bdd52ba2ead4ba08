-- What a question to a test is, and what it is answered.
--
--   Premises l S i       the question is well put: task i is listed, so is every task of S, and S lacks i
--   Answered l S i b r   r answers the question: the bound b where it is well put, and otherwise the fault with the task asked about
--   question_refusal f   number, layer and place of the fault f
use Rattle.std.specs.Prelude.{◌≡◌, ℕ, ◌<◌, length, Option, Result, MatchResult}
use Rattle.tasks.specs.Faults.{told}
use Rattle.tasks.specs.List.{listed}
use Rattle.tasks.specs.Set.{bit}
use Rattle.tasks.specs.declared.fault.Layer.TheVariants.{Plan}
use Rattle.tasks.specs.declared.fault.Refusal.{Refusal}
use Rattle.tasks.specs.declared.list.TaskList.{TaskList}
use Rattle.analysis.specs.declared.fault.QuestionFault.{QuestionFault}
use Rattle.analysis.specs.declared.fault.QuestionFault.TheVariants.{IllPut}

pub record Premises (l : TaskList) (S i : ℕ) : Type 0 where
  pub listed_task : i < length (listed l)
  pub listed_set : (k : ℕ) → bit S k ≡ 1 → k < length (listed l)
  pub apart : bit S i ≡ 0

abbrev pub Answered : TaskList → ℕ → ℕ → Option ℕ → Result (Option ℕ) QuestionFault → Type 0
Answered l S i b r = MatchResult r (λ o. Premises l S i × (o ≡ b)) (λ f. (Premises l S i → ⊥) × (f ≡ IllPut i))

abbrev pub question_refusal : QuestionFault → Refusal
question_refusal (IllPut p) = told Plan 17 p
