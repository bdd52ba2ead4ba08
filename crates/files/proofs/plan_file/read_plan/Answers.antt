use Rattle.std.proofs.Common.{subst}
use Rattle.std.proofs.lemmas.Result.{err_from_is_err_and}
use Rattle.planning.specs.Orders.{KeepsRules}
use Rattle.planning.specs.Plans.{rows}
use Rattle.files.proofs.LaidOut.{accepted, refused}
use Rattle.files.proofs.PlanRows.{plan_keeps, plan_kept}
use Rattle.tasks.specs.declared.list.TaskList.{TaskList}
use Rattle.files.proofs.plan_file.read_plan.Goals as goal

pub returns-clause-reads_files : goal.returns-clause-reads_files
returns-clause-reads_files c =
    let p = c.in_ok-place.field-0 in
    let e = c.in_ok-place.ensures in
    accepted (plan_kept c.args.list.now) c.args.bytes.now _ (λ i. (c.type_inv.bytes i).fits) (subst (λ (l : TaskList). KeepsRules l (rows p)) e.1 (plan_keeps p)) e.0

pub returns-in_err-place-clause-reads_files : goal.returns-in_err-place-clause-reads_files
returns-in_err-place-clause-reads_files c =
    let p = err_from_is_err_and c.from_residual.result c.from_residual.ensures.1 in
    rw (p.1, p.2) (refused (plan_kept c.args.list.now) c.args.bytes.now _ _ c.in_err-place.ensures)
