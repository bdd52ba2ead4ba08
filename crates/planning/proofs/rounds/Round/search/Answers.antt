use Rattle.std.proofs.Common.{◌<◌, true, false, length, sym, refl, ap, ◌∙◌, arith}
use Rattle.tasks.specs.List.{listed}
use Rattle.tasks.proofs.Reading.{read_is, listed_few}
use Rattle.planning.proofs.Searching.{search_none, search_asked, search_passed, found_few, asked_is}
use Rattle.planning.proofs.rounds.Round.search.Goals as goal
use Rattle.planning.proofs.rounds.Round.search.Goals.{then-has+then-eq, else-has, else-has-via-then-has+else-eq, else-has-via-else-has}

pub loop-task-init : goal.loop-task-init
loop-task-init g c = search_none (g.T.Test.bound c.args.self.now.test.now c.args.self.now.list.now) c.args.self.now.list.now c.args.self.now.unplaced c.args.preference

pub after-found-requires : goal.after-found-requires
after-found-requires g c =
    let r = c.args.self.now in
    let few = found_few (g.T.Test.bound r.test.now r.list.now) r.list.now r.unplaced c.args.preference c.loop-task.task c.loop-task.found c.loop-task.invariant in
    omega (arith, few, listed_few r.list.now, c.loop-task-test.true, ap length c.tasks-asked-items.ensures)

pub loop-task-preserved : goal.loop-task-preserved
loop-task-preserved g c =
    let r = c.args.self.now in
    let l = r.list.now in
    let bound = g.T.Test.bound r.test.now l in
    let k = c.loop-task.task in
    let here : k < length (listed l) = omega (arith, c.loop-task-test.true, ap length c.tasks-asked-items.ensures) in
    let task = c.asked-item.is ∙ read_is l c.tasks-asked-items.result.now k c.asked-item.result c.tasks-asked-items.ensures here in
    elim c.if-has.branch [
      | then-has+then-eq w ↦
          w.found-is ∙ search_asked bound l r.unplaced c.args.preference k c.loop-task.found w.after-found.result w.ask_about.result c.loop-task.invariant
          (sym (asked_is l c.args.preference r.unplaced k c.asked-item.result true true task w.if-has.ensures w.if-eq.ensures)) w.ask_about.ensures w.after-found.ensures
      | else-has w ↦
          w.found-is ∙ search_passed bound l r.unplaced c.args.preference k c.loop-task.found c.loop-task.invariant
          (elim w.else-has.branch [
            | else-has-via-then-has+else-eq v ↦ sym (asked_is l c.args.preference r.unplaced k c.asked-item.result true false task v.if-has.ensures v.if-eq.ensures)
            | else-has-via-else-has v ↦ sym (asked_is l c.args.preference r.unplaced k c.asked-item.result false _ task v.if-has.ensures refl)
          ])
    ]

pub returns-clause-few : goal.returns-clause-few
returns-clause-few g c =
    let r = c.args.self.now in
    let few = found_few (g.T.Test.bound r.test.now r.list.now) r.list.now r.unplaced c.args.preference c.loop-task.task c.loop-task.found c.loop-task.invariant in
    omega (arith, few, listed_few r.list.now, c.loop-task.auto.task-end, ap length c.tasks-asked-items.ensures)
