use Rattle.planning.proofs.WorkedRuns.{four_tasks_run}
use Rattle.planning.proofs.worked.worked_runs.Goals as goal

pub returns : goal.returns
returns c = four_tasks_run
