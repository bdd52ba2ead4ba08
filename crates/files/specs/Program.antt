-- What the program `matplan` says for the bytes that it reads.
--
--   fault_refusal f        number, layer and place of the program's fault f
--   Verdict                what there is to say: the plan with the questions it took, or a refusal
--   verdict_text v         the bytes that are printed for v
--   outcome_of v n         the outcome where n bytes were printed for v
--   OfList l v             v is what planning the list l by the exact test comes to
--   OfBytes bs v           v is what the input bs comes to: its list's verdict if it reads as one, and else the fault found there
--   Plans bs p a           reading and planning bs answers a, and leaves the plan p
--   Prints bs old new a    the program's work on the input bs answers a, and turns the lent buffer `old` into `new`
use Rattle.std.specs.Prelude.{◌≡◌, ℕ, ◌<◌, ◌≤◌, List, length, Ok, Err, Result, MatchResult, ◌≢◌}
use Rattle.tasks.specs.List.{rows, listed}
use Rattle.tasks.specs.declared.fault.Refusal.{Refusal}
use Rattle.tasks.specs.declared.list.TaskList.{TaskList}
use Rattle.analysis.specs.Response.{response}
use Rattle.planning.specs.Faults.{plan_refusal}
use Rattle.planning.specs.Planning.{tally, Written}
use Rattle.planning.specs.declared.fault.PlanFault.TheVariants.{LeftOver}
use Rattle.planning.specs.declared.fault.Tally.{Tally}
use Rattle.planning.specs.declared.plan.Plan.{Plan}
use Rattle.files.specs.ListFiles.{decoded}
use Rattle.files.specs.Faults.{list_refusal}
use Rattle.files.specs.Printing.{fault_line, over}
use Rattle.files.specs.Report.{report}
use Rattle.files.specs.declared.fault.ByteFault.{ByteFault}
use Rattle.files.specs.declared.fault.ByteFault.TheVariants.{ShortBuffer}
use Rattle.files.specs.declared.program.Fault.{Fault}
use Rattle.files.specs.declared.program.Fault.TheVariants as fault
use Rattle.files.specs.declared.program.Outcome.{Outcome}
use Rattle.files.specs.declared.program.Outcome.TheVariants.{Planned, Refused}

abbrev pub fault_refusal : Fault → Refusal
fault_refusal (fault.List f) = list_refusal f
fault_refusal (fault.Plan f) = plan_refusal f

pub data Verdict : Type 0 where
  planned : Plan → ℕ → Verdict
  refused : Refusal → Verdict

abbrev pub verdict_text : Verdict → List ℕ
verdict_text (planned p q) = report p q
verdict_text (refused r) = fault_line r

abbrev pub outcome_of : Verdict → ℕ → Outcome
outcome_of (planned p q) n = Planned n
outcome_of (refused r) n = Refused n

abbrev pub OfList : TaskList → Verdict → Type 0
OfList l (planned p q) = ((tally (response l) l).left ≡ 0) × Written (response l) l p × (q ≡ (tally (response l) l).questions)
OfList l (refused r) = ((tally (response l) l).left ≢ 0) × (r ≡ plan_refusal (LeftOver (tally (response l) l)))

abbrev pub OfBytes : List ℕ → Verdict → Type 0
OfBytes bs v = MatchResult (decoded bs) (λ rs. (l : TaskList) × (rows (listed l) ≡ rs) × OfList l v) (λ f. v ≡ refused (list_refusal f))

abbrev pub verdict : Plan → Result Tally Fault → Verdict
verdict p (Ok t) = planned p t.questions
verdict p (Err f) = refused (fault_refusal f)

abbrev pub Plans : List ℕ → Plan → Result Tally Fault → Type 0
Plans bs p a = OfBytes bs (verdict p a)

pub record Prints (bs old new : List ℕ) (answer : Result Outcome ByteFault) : Type 0 where
  pub said : Verdict
  pub right : OfBytes bs said
  pub answers : MatchResult answer (λ o. (o ≡ outcome_of said (length (verdict_text said))) × (length (verdict_text said) ≤ length old)) (λ f. (f ≡ ShortBuffer (length old)) × (length old < length (verdict_text said)))
  pub bytes : MatchResult answer (λ _. new ≡ over (verdict_text said) old) (λ _. new ≡ old)
