use Rattle.std.proofs.Common.{ℕ, List, ◌++◌, length, ap, ◌∙◌, subst, arith}
use Rattle.files.specs.Layout.{laid}
use Rattle.files.specs.Printing.{Writes}
use Rattle.files.specs.Text.{written}
use Rattle.files.proofs.Encodes.{sofar_more, sofar_all}
use Rattle.files.proofs.Laid.{two_bytes_of}
use Rattle.files.proofs.lay.write_rows.Goals as goal

pub loop-number-init : goal.loop-number-init
loop-number-init g c = record { records = c.new-text.ensures; short = omega (arith, ap length c.new-text.ensures) }

pub push-requires-clause-room : goal.push-requires-clause-room
push-requires-clause-room g c = omega (arith, c.loop-number.invariant.short, c.requires)

pub loop-number-preserved : goal.loop-number-preserved
loop-number-preserved g c =
    let r = c.index-rows-number.result in
    sofar_more g.R.Lay.record_of c.args.rows.now _ r _ _ c.loop-number-test.true c.index-rows-number.is (g.met.R.Lay.short c.loop-number.number r) c.loop-number.invariant c.push.ensures

pub push_record-requires-clause-room : goal.push_record-requires-clause-room
push_record-requires-clause-room g c = omega (arith, c.loop-number.invariant.short, c.loop-number.auto.number-end, c.requires)

pub returns : goal.returns
returns g c =
    let all = sofar_all g.R.Lay.record_of c.args.rows.now _ _ _ c.loop-number-test.false c.loop-number.invariant (c.push_record.ensures ∙ ap (λ b. written c.loop-number.text ++ laid 3 b) (two_bytes_of (length c.args.rows.now) c.to_be_bytes.result (omega (arith, c.requires)) c.to_be_bytes.ensures)) in
    subst (λ (line : List ℕ). Writes line c.args.buffer.now c.copy_to.new.out c.copy_to.result) all c.copy_to.ensures
