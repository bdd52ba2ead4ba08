use Rattle.std.proofs.Common.{◌≡◌, ◌≤◌, length, take, set, insert, position, unwrap_or, is_gt, ap, ◌∙◌, arith, rules, tests}
use Rattle.std.specs.List.{position_or_len}
use Rattle.std.proofs.lemmas.Iterator.{YieldsList-from_slice}
use Rattle.std.proofs.lemmas.Iterator.Search.{position_from_yields_List}
use Rattle.std.proofs.lemmas.List.{length-take-le}
use Rattle.queue.specs.Sequences.{laid}
use Rattle.queue.proofs.Searching.{first_within, or_end}
use Rattle.queue.proofs.Laying.{opened}
use Rattle.queue.proofs.line.put_in.Goals as goal

pub returns : goal.returns
returns g c =
    let xs = c.args.places.now in
    let es = take c.args.count xs in
    let greater = λ (e : g.row.T.Denot). is_gt (g.T.Ordered.order e c.args.new) in
    let long : length es ≡ c.args.count = length-take-le c.args.count xs (omega arith) in
    let found : c.position.result ≡ position greater es = position_from_yields_List greater _ _ c.position.result c.position.ensures.ran (YieldsList-from_slice es c.iter.ensures.rest) (λ x b q k. search (rules, tests)) in
    let at : c.unwrap_or-at.result ≡ position_or_len greater es = c.unwrap_or-at.ensures ∙ ap (λ o. unwrap_or o c.args.count) found ∙ or_end greater es c.args.count long in
    let within : c.unwrap_or-at.result ≤ c.args.count = omega (arith, at, long, first_within greater es) in
    ap (λ ys. set ys c.unwrap_or-at.result c.args.new) c.copy_within.ensures.after ∙ opened xs c.args.count c.unwrap_or-at.result c.args.new c.requires within ∙ ap (λ i. laid (insert es i c.args.new) xs) at
