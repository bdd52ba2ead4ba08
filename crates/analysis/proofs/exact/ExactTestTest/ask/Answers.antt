use Rattle.std.proofs.Common.{◌∙◌}
use Rattle.analysis.specs.Response.{response}
use Rattle.analysis.specs.ResponseLaws.{response_smallest}
use Rattle.analysis.proofs.exact.ExactTestTest.ask.Goals as goal

pub returns-clause-smallest : goal.returns-clause-smallest
returns-clause-smallest c =
    let q = c.in_ok-new.ensures.1 in
    response_smallest _ _ _ _ (c.response.ensures ∙ (λ i. response (q.list i) (q.set i) (q.task i)))
