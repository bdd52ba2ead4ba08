use Rattle.files.specs.Text.{written}
use Rattle.files.proofs.Encodes.{Sofar}
use Rattle.files.proofs.lay.write_rows.Given as goal

abbrev pub invariant-loop-number : goal.invariant-loop-number
invariant-loop-number g l = Sofar g.R.Lay.record_of l.rows l.number (written l.text)
