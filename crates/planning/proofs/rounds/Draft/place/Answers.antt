use Rattle.std.proofs.Common.{◌≡◌, set, ap, ◌∙◌}
use Rattle.tasks.proofs.Reading.{read_is}
use Rattle.planning.specs.Orders.{new_plan_row}
use Rattle.planning.specs.Rounds.{hold_by, hold_of}
use Rattle.planning.proofs.rounds.Draft.place.Goals as goal

pub returns : goal.returns
returns c =
    let d = c.args.self.now in
    let l = c.args.list.now in
    let chosen = c.args.chosen in
    let task = read_is l c.tasks.result.now chosen.task c.index-tasks-chosen.result c.tasks.ensures c.requires in
    let held : c.hold-hold.result ≡ hold_of l chosen = c.hold-hold.ensures ∙ ap (λ t. hold_by t.preference chosen.slack) task in
    (λ i. record { unplaced = c.take_out-self.ensures i; questions = d.questions; rows = set d.rows chosen.task (new_plan_row c.args.rank (held i)) })
