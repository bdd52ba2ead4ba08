use Rattle.std.proofs.Common.{sym, ap, arith}
use Rattle.analysis.specs.Demand.{deadline}
use Rattle.analysis.specs.ResponseLaws.{response_is, response_none, raised}
use Rattle.analysis.proofs.question.Question.response.Goals as goal

pub returns-then-asked-from : goal.returns-then-asked-from
returns-then-asked-from c =
    let q = c.args.self.now in
    let limit = ap (deadline q.list.now) c.asked-limit.ensures in
    sym (response_is q.list.now q.set q.task c.loop-limit.ticks (record {
      positive = c.loop-limit.invariant.0;
      in_time = omega (arith, limit, c.loop-limit.invariant.1);
      met = omega arith;
      smallest = c.loop-limit.invariant.2;
    }))

pub returns-then-asked-from-2 : goal.returns-then-asked-from-2
returns-then-asked-from-2 c =
    let q = c.args.self.now in
    let limit = ap (deadline q.list.now) c.asked-limit.ensures in
    let asked = c.demand-asked.ensures in
    sym (response_none q.list.now q.set q.task (λ t a b. raised q.list.now q.set q.task c.loop-limit.ticks c.loop-limit.invariant.2 t a (omega arith)))

pub loop-limit-preserved : goal.loop-limit-preserved
loop-limit-preserved c =
    let q = c.args.self.now in
    let asked = c.demand-asked.ensures in (
      omega arith,
      omega arith,
      λ t a b. raised q.list.now q.set q.task c.loop-limit.ticks c.loop-limit.invariant.2 t a (omega arith),
    )
