use Rattle.std.proofs.Common.{◌≡◌, ℕ, ◌+◌, ◌*◌, ◌/◌, ◌%◌, ◌^◌, div-one, drop, ap, ◌∙◌, arith}
use Rattle.std.proofs.lemmas.Nat.{shr-shr}
use Rattle.tasks.specs.List.{task_at}
use Rattle.analysis.specs.Demand.{charge, ceil, load, demand}
use Rattle.analysis.specs.DemandLaws.{load_more, load_all}
use Rattle.analysis.proofs.question.Question.demand.Goals as goal
use Rattle.analysis.proofs.question.Question.demand.Goals.{then-self-number-eq1, else-self-number-eq1}

pub loop-number-init : goal.loop-number-init
unfolding demand
loop-number-init c =
    let q = c.args.self.now in
    let own = c.from-sum.ensures ∙ ap (λ x. charge q.list.now x) c.asked.ensures in (
      (λ i. own i + load q.list.now (c.tasks-other-items.ensures i) (div-one q.set i) c.args.ticks),
      omega (arith, own, (task_at q.list.now q.task).limits),
    )

pub loop-number-preserved : goal.loop-number-preserved
loop-number-preserved c =
    let l = c.args.self.now.list.now in
    let s = c.args.self.now.set in
    let k = c.loop-number.number in
    let x = c.other-item.result in
    let jobs : ℕ = charge l x * ceil c.args.ticks x.period in
    let more = load_more l c.tasks-other-items.result.now k (s / 2 ^ k) c.args.ticks x c.loop-number-test.true c.other-item.is in
    let rest : s / 2 ^ k / 2 ≡ s / 2 ^ (k + 1) = shr-shr s k 1 in
    let next = ap (λ r. load l (drop (k + 1) c.tasks-other-items.result.now) r c.args.ticks) rest in
    elim c.if-self-number-eq1.branch [
      | then-self-number-eq1 w ↦ (omega (arith, w.sum-is, w.jobs_charge-sum.ensures, more, next, ap (λ b. b * jobs) w.if-self-number-eq1.true), omega (arith, w.sum-is, w.jobs_charge-sum.ensures.small))
      | else-self-number-eq1 w ↦
          let none : s / 2 ^ k % 2 ≡ 0 = omega (arith, w.if-self-number-eq1.false) in
          (omega (arith, w.sum-is, more, next, ap (λ b. b * jobs) none), omega (arith, w.sum-is))
    ]

pub returns : goal.returns
returns c = omega (arith, c.loop-number.invariant.0, load_all c.args.self.now.list.now c.tasks-other-items.result.now c.loop-number.number (c.args.self.now.set / 2 ^ c.loop-number.number) c.args.ticks c.loop-number-test.false)
