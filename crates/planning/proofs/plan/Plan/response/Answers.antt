use Rattle.std.proofs.Common.{ltb, sym, ap, ◌∙◌, subst}
use Rattle.std.proofs.lemmas.Bool.{cond-true, lt-ltb}
use Rattle.analysis.specs.Question.{Premises}
use Rattle.analysis.specs.Response.{response}
use Rattle.planning.specs.Orders.{ranks, above_in}
use Rattle.planning.specs.Plans.{rows, size, rank_of, above}
use Rattle.planning.proofs.Above.{above_premises}
use Rattle.planning.proofs.Judging.{looked_up}
use Rattle.planning.proofs.plan.Plan.response.Goals as goal

pub answer-requires : goal.answer-requires
unfolding above
answer-requires c =
    let p = c.args.self.now in
    let found = looked_up c.args.task (size p) c.in_ok-rank.rank (rank_of p c.args.task) c.in_ok-rank.ensures in
    let set = c.above.ensures ∙ ap (above_in (ranks (rows p))) found.1 in
    subst (λ l. Premises l c.above.result c.args.task) (sym c.list.ensures)
    (subst (λ s. Premises p.made.list s c.args.task) (sym set) (above_premises p c.args.task found.0))

pub returns : goal.returns
unfolding above
returns c =
    let p = c.args.self.now in
    let found = looked_up c.args.task (size p) c.in_ok-rank.rank (rank_of p c.args.task) c.in_ok-rank.ensures in
    let set = c.above.ensures ∙ ap (above_in (ranks (rows p))) found.1 in
    c.answer.ensures ∙ (λ i. response (c.list.ensures i) (set i) c.args.task) ∙ sym (cond-true (ltb c.args.task (size p)) _ _ (lt-ltb c.args.task (size p) found.0))
