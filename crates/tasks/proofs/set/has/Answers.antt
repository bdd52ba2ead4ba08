use Rattle.std.proofs.Common.{◌≡◌, arith}
use Rattle.std.proofs.lemmas.Bool.Decides.{nat_tests}
use Rattle.tasks.specs.Set.{bit}
use Rattle.tasks.proofs.SetLaws.{bit_is, bit_past}
use Rattle.tasks.proofs.set.has.Goals as goal

pub returns-then-task-lt32 : goal.returns-then-task-lt32
returns-then-task-lt32 c = let e = bit_is c.args.set c.args.task in grind (arith, nat_tests)

pub returns-else-task-lt32 : goal.returns-else-task-lt32
returns-else-task-lt32 c =
    let e : bit c.args.set c.args.task ≡ 0 = bit_past c.args.set c.args.task 32 (omega arith) (omega arith) in
    grind (arith, nat_tests)
