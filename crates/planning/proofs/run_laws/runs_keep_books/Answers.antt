use Rattle.planning.proofs.Counting.{books}
use Rattle.planning.proofs.run_laws.runs_keep_books.Goals as goal

pub returns : goal.returns
returns c = books
