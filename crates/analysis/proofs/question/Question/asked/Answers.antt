use Rattle.std.proofs.Common.{◌∙◌}
use Rattle.tasks.proofs.Reading.{read_is}
use Rattle.analysis.proofs.question.Question.asked.Goals as goal

pub returns : goal.returns
returns c =
    let q = c.args.self.now in
    c.index-tasks-self.is ∙ read_is q.list.now c.tasks.result.now q.task _ c.tasks.ensures q.well_put.listed_task
