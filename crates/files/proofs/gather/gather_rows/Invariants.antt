use Rattle.std.proofs.Common.{◌-◌, length}
use Rattle.files.proofs.Decodes.{Going}
use Rattle.files.proofs.gather.gather_rows.Given as goal

abbrev pub invariant-loop-at : goal.invariant-loop-at
invariant-loop-at g l =
    let G = g.G.Gather in
    Going (G.rules l.initial.into) l.bytes l.reader (G.rows l.into) × G.same_but_rows l.initial.into l.into

abbrev pub decreases-loop-at : goal.decreases-loop-at
decreases-loop-at g l = length l.bytes - l.reader.at
