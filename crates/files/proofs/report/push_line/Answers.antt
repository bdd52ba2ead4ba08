use Rattle.std.proofs.Common.{[], ◌∷◌, ◌++◌, decimal, ap, ◌∙◌}
use Rattle.files.specs.Text.{written}
use Rattle.files.proofs.Reports.{line_is}
use Rattle.files.proofs.report.push_line.Goals as goal

pub returns-clause-bytes : goal.returns-clause-bytes
returns-clause-bytes c =
    line_is c.args.task c.args.row.now c.args.bound (written c.args.text.now) _ _ _ _ c.push_number.ensures.bytes
    (c.push_number-2.ensures.bytes ∙ ap (λ n. written c.push_number.new.text ++ (decimal n ++ 32 ∷ [])) c.from.ensures)
    c.push_bound.ensures.bytes
    (c.push_number-3.ensures.bytes ∙ ap (λ n. written c.push_bound.new.text ++ (decimal n ++ 10 ∷ [])) c.from-2.ensures)
