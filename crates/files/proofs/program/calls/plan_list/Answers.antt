use Rattle.std.proofs.Common.{Err, sym, ap, ◌∙◌, subst}
use mathlib.Core.Path as path
use Rattle.std.proofs.lemmas.Result.{err_from_is_err_and}
use Rattle.files.specs.Program.{Plans}
use Rattle.files.proofs.Verdicts.{of_plan, of_left}
use Rattle.files.proofs.program.calls.plan_list.Goals as goal

pub returns-in_err-plan_exact : goal.returns-in_err-plan_exact
returns-in_err-plan_exact c =
    let p = err_from_is_err_and c.from_residual-in_err-plan_exact.result c.from_residual-in_err-plan_exact.ensures.1 in
    let told = c.in_err-plan_exact.ensures in
    subst (Plans c.args.input.now c.plan_exact.new.place) (sym (p.1 ∙ ap Err p.2))
    (of_left c.args.input.now c.read_list.new.place _ c.in_ok-read_list.ensures.reads.says told.answer)

pub returns : goal.returns
returns c =
    let told = c.in_ok-plan_exact.ensures in
    of_plan c.args.input.now c.read_list.new.place _ _ c.in_ok-read_list.ensures.reads.says told.answer (told.written path.refl)
