use Rattle.planning.proofs.Patterns.{patterns_demand}
use Rattle.planning.proofs.run_laws.patterns_demand.Goals as goal

pub returns : goal.returns
returns c = patterns_demand
