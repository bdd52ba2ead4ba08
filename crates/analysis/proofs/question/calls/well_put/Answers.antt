use Rattle.std.proofs.Common.{ap, ◌∙◌, arith}
use Rattle.std.proofs.lemmas.Bool.Decides.{nat_tests}
use Rattle.std.proofs.lemmas.Bool.{false≢true}
use Rattle.tasks.specs.Set.{first_set}
use Rattle.tasks.proofs.SetLaws.{bit_le}
use Rattle.analysis.proofs.Premised.{premised, premises_word}
use Rattle.analysis.proofs.question.calls.well_put.Goals as goal

pub returns-then-task-count : goal.returns-then-task-count
returns-then-task-count c = (λ e. absurd (false≢true e), λ p. absurd (omega (arith, p.listed_task)))

pub returns-then-set-first_tasks : goal.returns-then-set-first_tasks
returns-then-set-first_tasks c =
    let first = c.first_tasks.ensures ∙ ap first_set c.len-count.ensures in
    (λ e. absurd (false≢true e), λ p. absurd (omega (arith, first, premises_word c.args.list.now c.args.set c.args.task (omega arith) p)))

pub returns : goal.returns
returns c =
    let first = c.first_tasks.ensures ∙ ap first_set c.len-count.ensures in (
      λ e. premised c.args.list.now c.args.set c.args.task (omega arith) (omega arith) (grind (arith, nat_tests, bit_le c.args.set c.args.task)),
      λ p. grind (arith, nat_tests, p.apart),
    )
