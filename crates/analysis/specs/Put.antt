-- Putting a question.
--
--   Asks q l S i         q is the question about task i below S
--   Put l S i r          r is that question, or the fault with the task asked about where it is not well put
use Rattle.std.specs.Prelude.{◌≡◌, ℕ, Result, MatchResult}
use Rattle.tasks.specs.declared.list.TaskList.{TaskList}
use Rattle.analysis.specs.Question.{Premises}
use Rattle.analysis.specs.declared.fault.QuestionFault.{QuestionFault}
use Rattle.analysis.specs.declared.fault.QuestionFault.TheVariants.{IllPut}
use Rattle.analysis.specs.declared.question.Question.{Question}

pub record Asks (q : Question) (l : TaskList) (S i : ℕ) : Type 0 where
  pub list : q.list.now ≡ l
  pub set : q.set ≡ S
  pub task : q.task ≡ i

abbrev pub Put : TaskList → ℕ → ℕ → Result Question QuestionFault → Type 0
Put l S i r = MatchResult r (λ q. Premises l S i × Asks q l S i) (λ f. (Premises l S i → ⊥) × (f ≡ IllPut i))
