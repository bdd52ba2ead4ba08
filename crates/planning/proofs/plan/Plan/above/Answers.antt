use Rattle.std.proofs.Common.{◌≡◌, ◌<◌, ◌≤◌, length, get_or, sym, ap, ◌∙◌, arith}
use Rattle.std.proofs.lemmas.List.{get_or-map, take_all}
use Rattle.tasks.proofs.Reading.{listed_few}
use Rattle.planning.specs.Orders.{ranks, no_row, above_in}
use Rattle.planning.specs.Plans.{list_of, rows}
use Rattle.planning.proofs.Above.{above_fits, above_taken, above_passed, long}
use Rattle.planning.proofs.plan.Plan.above.Goals as goal
use Rattle.planning.proofs.plan.Plan.above.Goals.{then-row-rank, else-row-rank}

pub overflow_add-set : goal.overflow_add-set
overflow_add-set c =
    let p = c.args.self.now in
    let here : c.loop-task.task < length (ranks (rows p)) = omega (arith, long p, p.full, ap length c.rows-row-items.ensures, c.loop-task-test.true) in
    record { fits = above_fits (ranks (rows p)) c.args.rank c.loop-task.task c.loop-task.set here (omega (arith, long p, listed_few (list_of p))) c.loop-task.invariant }

pub loop-task-preserved : goal.loop-task-preserved
loop-task-preserved c =
    let p = c.args.self.now in
    let k = c.loop-task.task in
    let rs = ranks (rows p) in
    let row_here : k < length (rows p) = omega (arith, ap length c.rows-row-items.ensures, c.loop-task-test.true) in
    let here : k < length rs = omega (arith, row_here, long p, p.full) in
    let few : length rs ≤ 32 = omega (arith, long p, listed_few (list_of p)) in
    let item : (get_or c.rows-row-items.result.now k no_row).rank ≡ get_or rs k 0 = ap (λ xs. (get_or xs k no_row).rank) c.rows-row-items.ensures ∙ sym (get_or-map (λ r. r.rank) (rows p) k no_row 0 row_here) in
    elim c.if-row-rank.branch [
      | then-row-rank w ↦ w.set-is ∙ above_taken rs c.args.rank k c.loop-task.set here few c.loop-task.invariant (omega (arith, w.if-row-rank.true, item))
      | else-row-rank w ↦ w.set-is ∙ above_passed rs c.args.rank k c.loop-task.set here few c.loop-task.invariant (omega (arith, w.if-row-rank.false, item))
    ]

pub returns : goal.returns
returns c =
    let p = c.args.self.now in
    let end : length (ranks (rows p)) ≤ c.loop-task.task = omega (arith, long p, p.full, ap length c.rows-row-items.ensures, c.loop-task-test.false) in
    c.loop-task.invariant ∙ ap (λ rs. above_in rs c.args.rank) (take_all c.loop-task.task (ranks (rows p)) end)
