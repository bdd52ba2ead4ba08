use Rattle.std.proofs.Common.{sym}
use Rattle.planning.proofs.RoundsPlace.{found_places}
use Rattle.planning.proofs.Searching.{round_late, round_soon}
use Rattle.planning.proofs.rounds.Round.found.Goals as goal

pub returns-then-is_some : goal.returns-then-is_some
returns-then-is_some g c =
    let r = c.args.self.now in
    let value = round_late _ _ _ _ c.search-late.ensures.value (sym c.if-is_some.ensures) in
    record { value = value; places = found_places _ r.list.now _ _ value (g.met.T.Test.fewer r.test.now r.list.now) r.only_listed }

pub returns : goal.returns
returns g c =
    let r = c.args.self.now in
    let value = round_soon _ _ _ _ _ c.search-late.ensures.value c.search-soon.ensures.value (sym c.if-is_some.ensures) in
    record { value = value; places = found_places _ r.list.now _ _ value (g.met.T.Test.fewer r.test.now r.list.now) r.only_listed }
