use Rattle.planning.proofs.Replaying.{runs_are_replays}
use Rattle.planning.proofs.run_laws.runs_are_replays.Goals as goal

pub returns : goal.returns
returns c = runs_are_replays
