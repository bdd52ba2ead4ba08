use Rattle.std.proofs.Common.{◌≡◌, ◌++◌, length, codes, ap, ◌∙◌, subst, arith}
use Rattle.planning.specs.Plans.{size}
use Rattle.files.specs.Printing.{Writes}
use Rattle.files.specs.Report.{report}
use Rattle.files.specs.Text.{written}
use Rattle.files.proofs.Reports.{line_read, lines_none, lines_more, report_is}
use Rattle.files.proofs.report.print_plan.Goals as goal

pub loop-task-init : goal.loop-task-init
loop-task-init c = (
  c.push.ensures.bytes ∙ (ap (λ t. t ++ codes "task rank bound hold\n") c.new-text.ensures ∙ lines_none c.args.plan.now (codes "task rank bound hold\n")),
  omega (arith, c.push.ensures.longer, ap length c.new-text.ensures),
)

pub loop-task-preserved : goal.loop-task-preserved
loop-task-preserved c =
    let p = c.args.plan.now in
    let line = line_read p c.loop-task.task c.rows-row-items.result.now c.response.result c.rows-row-items.ensures c.loop-task-test.true c.response.ensures in (
      lines_more p c.loop-task.task (codes "task rank bound hold\n") (written c.loop-task.text) _ c.loop-task.invariant.0 (c.push_line.ensures.bytes ∙ ap (λ x. written c.loop-task.text ++ x) line),
      omega (arith, c.push_line.ensures.longer, c.loop-task.invariant.1),
    )

pub returns : goal.returns
returns c =
    let p = c.args.plan.now in
    let all : c.loop-task.task ≡ size p = omega (arith, c.loop-task-test.false, c.loop-task.auto.task-end, ap length c.rows-row-items.ensures, p.full) in
    let whole = report_is p c.loop-task.task c.from.result (written c.loop-task.text) (written c.push-2.new.self) (written c.push_number.new.text) all c.loop-task.invariant.0 c.push-2.ensures.bytes c.push_number.ensures.bytes in
    subst (λ t. Writes t c.args.out.now c.copy_to.new.out c.copy_to.result) (whole ∙ ap (report p) c.from.ensures) c.copy_to.ensures
