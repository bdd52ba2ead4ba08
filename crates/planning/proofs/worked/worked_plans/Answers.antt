use Rattle.planning.proofs.WorkedPlans.{standing_planned}
use Rattle.planning.proofs.worked.worked_plans.Goals as goal

pub returns : goal.returns
returns c = standing_planned
