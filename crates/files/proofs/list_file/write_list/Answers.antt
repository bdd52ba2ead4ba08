use Rattle.std.proofs.Common.{ℕ, List, ap, ◌∙◌, subst}
use Rattle.files.specs.ListFiles.{task_record, encoded}
use Rattle.files.specs.Printing.{Writes}
use Rattle.files.proofs.Encodes.{encoded_seen, list_reads_back}
use Rattle.tasks.specs.List.{row, rows}
use Rattle.files.proofs.list_file.write_list.Goals as goal

pub returns-clause-writes : goal.returns-clause-writes
returns-clause-writes c =
    subst (λ (line : List ℕ). Writes line c.args.buffer.now c.write_rows.new.buffer c.write_rows.result)
    (encoded_seen (λ _ r. task_record r) row c.tasks.result.now ∙ ap (λ ts. encoded (rows ts)) c.tasks.ensures)
    c.write_rows.ensures

pub returns-clause-reads_back : goal.returns-clause-reads_back
returns-clause-reads_back c = list_reads_back c.args.list.now
