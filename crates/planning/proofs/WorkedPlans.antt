-- The standing list's plan, settled by computing the definitions. Assumes nothing.
use Rattle.std.proofs.Common.{refl}
use Rattle.tasks.specs.List.{task_at}
use Rattle.tasks.specs.Set.{without}
use Rattle.analysis.specs.Demand.{load, demand}
use Rattle.analysis.specs.Response.{response}
use Rattle.planning.specs.Rounds.{search_below, round, go_on, planned}
use Rattle.planning.specs.Worked.{Standing}

pub standing_planned : Standing
unfolding task_at without load demand response search_below round go_on planned
standing_planned = record { list = refl; ranks = refl; bounds = refl; holds = refl; questions = refl; left_over = refl }
