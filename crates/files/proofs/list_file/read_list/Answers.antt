use Rattle.std.proofs.lemmas.Result.{err_from_is_err_and}
use Rattle.files.proofs.LaidOut.{accepted, refused}
use Rattle.files.proofs.ListRows.{is_list, list_kept}
use Rattle.files.proofs.list_file.read_list.Goals as goal

pub returns-clause-reads_files : goal.returns-clause-reads_files
returns-clause-reads_files c = accepted list_kept c.args.bytes.now _ (λ i. (c.type_inv.bytes i).fits) (is_list c.in_ok-place.field-0) c.in_ok-place.ensures

pub returns-in_err-place-clause-reads_files : goal.returns-in_err-place-clause-reads_files
returns-in_err-place-clause-reads_files c =
    let p = err_from_is_err_and c.from_residual.result c.from_residual.ensures.1 in
    rw (p.1, p.2) (refused list_kept c.args.bytes.now _ _ c.in_err-place.ensures)
