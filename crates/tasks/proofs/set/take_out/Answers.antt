use Rattle.std.proofs.Common.{◌≡◌, ◌-◌, sym, ap, ◌∙◌, arith}
use Rattle.std.proofs.lemmas.Bool.{eqb-true}
use Rattle.std.proofs.lemmas.Bool.Decides.{nat_tests}
use Rattle.tasks.specs.Set.{bit}
use Rattle.tasks.proofs.SetLaws.{bit_le, bit_within, weight_is, weight_le, without_some, without_none}
use Rattle.tasks.proofs.set.take_out.Goals as goal

in_set : (c : goal.Then-has) → bit c.args.set c.args.task ≡ 1
in_set c = eqb-true _ 1 (sym c.if-has.ensures)

pub overflow_cast-result : goal.overflow_cast-result
overflow_cast-result c = omega (arith, bit_within c.args.set c.args.task (omega arith) (in_set c))

pub overflow_shl-result : goal.overflow_shl-result
overflow_shl-result c = bit_within c.args.set c.args.task (omega arith) (in_set c)

pub overflow_sub-result : goal.overflow_sub-result
overflow_sub-result c = omega (arith, weight_is c.args.set c.args.task (omega arith) (in_set c), weight_le c.args.set c.args.task (in_set c))

pub returns-then-has : goal.returns-then-has
returns-then-has c =
    ap (λ w. c.args.set - w) (weight_is c.args.set c.args.task (omega arith) (in_set c)) ∙ sym (without_some c.args.set c.args.task (in_set c))

pub returns-else-has : goal.returns-else-has
returns-else-has c =
    let out : bit c.args.set c.args.task ≡ 0 = grind (arith, nat_tests, bit_le c.args.set c.args.task, c.if-has.ensures) in
    sym (without_none c.args.set c.args.task out)
