use Rattle.planning.proofs.Windows.{windows_hold}
use Rattle.planning.proofs.run_laws.windows_hold.Goals as goal

pub returns : goal.returns
returns c = windows_hold
