use Rattle.std.proofs.Common.{◌≡◌, ◌+◌, ◌-◌, ◌<◌, ◌≤◌, length, subst, arith}
use Rattle.tasks.specs.List.{listed}
use Rattle.planning.proofs.GoingOn.{Going, going_start, going_listed, going_fits, going_chosen, going_at, going_ended, going_all}
use Rattle.planning.proofs.rounds.calls.rounds.Goals as goal

pub loop-rank-init : goal.loop-rank-init
loop-rank-init g c = going_start _ c.args.list.now _ c.begin-draft.ensures

pub invariant_of-round : goal.invariant_of-round
invariant_of-round g c = record { only_listed = going_listed _ _ _ _ c.loop-rank.invariant }

pub overflow_add-draft : goal.overflow_add-draft
overflow_add-draft g c = record { fits = going_fits _ _ _ _ c.loop-rank.invariant _ c.found-found.ensures.value }

pub returns-in_default : goal.returns-in_default
returns-in_default g c =
    let here : c.loop-rank.rank - 1 < length (listed c.args.list.now) = omega (arith, c.loop-rank-test.true, c.loop-rank.auto.rank, c.len-rank-end.ensures) in
    let ended = going_ended (g.T.Test.bound c.args.test.now c.args.list.now) c.args.list.now (c.loop-rank.rank - 1) c.loop-rank.draft c.loop-rank.invariant c.found-found.result here c.found-found.ensures.value c.in_default.is in
    record { value = ended.value; drafted = ended.drafted; stuck = ended.stuck; few = ended.few }

pub place-requires : goal.place-requires
place-requires g c =
    let chosen = going_chosen _ _ _ _ c.loop-rank.invariant c.found-found.result c.in-Some.chosen c.found-found.ensures.value c.in-Some.is in
    going_listed _ _ _ _ c.loop-rank.invariant _ chosen.in_set

pub loop-rank-preserved : goal.loop-rank-preserved
loop-rank-preserved g c =
    let l = c.args.list.now in
    let bound = g.T.Test.bound c.args.test.now l in
    let r = c.loop-rank.rank in
    let here : r ≤ length (listed l) = omega (arith, c.loop-rank-test.true, c.len-rank-end.ensures) in
    let next = going_at bound l (r - 1) c.loop-rank.draft c.loop-rank.invariant r c.found-found.result c.in-Some.chosen c.place.new.self (omega (arith, c.loop-rank.auto.rank)) here c.found-found.ensures.value c.in-Some.is c.place.ensures in
    let same : r ≡ r + 1 - 1 = omega arith in
    subst (λ j. Going bound l j c.place.new.self) same next

pub returns-in-Some : goal.returns-in-Some
returns-in-Some g c =
    let l = c.args.list.now in
    let bound = g.T.Test.bound c.args.test.now l in
    let r = c.loop-rank.rank in
    let here : r ≤ length (listed l) = omega (arith, c.loop-rank-test.true, c.len-rank-end.ensures) in
    let next = going_at bound l (r - 1) c.loop-rank.draft c.loop-rank.invariant r c.found-found.result c.in-Some.chosen c.place.new.self (omega (arith, c.loop-rank.auto.rank)) here c.found-found.ensures.value c.in-Some.is c.place.ensures in
    let ended = going_all bound l r c.place.new.self next (omega (arith, c.len-rank-end.ensures)) in
    record { value = ended.value; drafted = ended.drafted; stuck = ended.stuck; few = ended.few }

pub returns : goal.returns
returns g c =
    let ended = going_all _ _ _ _ c.loop-rank.invariant (omega (arith, c.loop-rank-test.false, c.loop-rank.auto.rank, c.len-rank-end.ensures)) in
    record { value = ended.value; drafted = ended.drafted; stuck = ended.stuck; few = ended.few }
