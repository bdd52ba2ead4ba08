use Rattle.std.proofs.Common.{sym, subst}
use Rattle.tasks.proofs.Reading.{read_is}
use Rattle.analysis.specs.Question.{Premises}
use Rattle.planning.proofs.Searching.{candidate_is, premised_without}
use Rattle.planning.proofs.rounds.Round.ask_about.Goals as goal

pub answer-requires : goal.answer-requires
answer-requires g c =
    let r = c.args.self.now in
    subst (λ s. Premises r.list.now s c.args.task) (sym c.take_out.ensures) (premised_without r.list.now r.unplaced c.args.task r.only_listed c.requires)

pub returns : goal.returns
returns g c =
    let r = c.args.self.now in
    let l = r.list.now in
    let task = read_is l c.tasks.result.now c.args.task c.index-tasks-task.result c.tasks.ensures c.requires in
    candidate_is (g.T.Test.bound r.test.now l) l r.unplaced c.args.task c.in_ok-bound.bound c.saturating_sub.result c.take_out.result _
    c.take_out.ensures c.in_ok-bound.ensures task c.saturating_sub.ensures
