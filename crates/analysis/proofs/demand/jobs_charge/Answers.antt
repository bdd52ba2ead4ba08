use Rattle.std.proofs.Common.{◌≡◌, ◌*◌, ◌∙◌, arith}
use Rattle.analysis.specs.Demand.{ceil}
use Rattle.analysis.specs.DemandLaws.{ceil_is, jobs_small}
use Rattle.analysis.proofs.demand.jobs_charge.Goals as goal

pub returns : goal.returns
returns c =
    let x = c.args.task in
    let begun = c.from-2.ensures ∙ (c.div_ceil.ensures ∙ ceil_is c.args.ticks x.period (omega (arith, x.limits))) in
    let value : c.from.result * c.from-2.result ≡ x.cost * ceil c.args.ticks x.period = (λ i. c.from.ensures i * begun i) in
    record { value = value; small = omega (arith, value, jobs_small x c.args.ticks (omega arith)) }
