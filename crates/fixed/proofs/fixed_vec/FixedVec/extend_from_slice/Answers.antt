-- The elements that are copied in stand behind the others, and what is left behind them is as it was.
use Rattle.std.proofs.Common.{rules, sym, ◌∙◌, arith}
use Rattle.std.proofs.lemmas.List.{places, length-take-le, drop-drop}
use Rattle.std.proofs.lemmas.Grind.{common_steps}
use Rattle.std.proofs.lemmas.Slice.{overwrites}
use Rattle.fixed.proofs.fixed_vec.FixedVec.extend_from_slice.Goals as goal

pub returns : goal.returns
returns g c =
    let v = c.args.self.now in (
      omega (arith, length-take-le v.len v.places (omega (arith, v.room)), v.room),
      search (rules, places, common_steps),
      search (rules, overwrites) ∙ sym (drop-drop _ v.len v.places),
    )
