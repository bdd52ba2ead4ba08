-- The standing list.
--
--   standing     its rows: name, preference (0 ASAP, 1 ALAP), cost, period
use Rattle.std.specs.Prelude.{List, [], ◌∷◌, codes}
use Rattle.tasks.specs.List.{Row, new_row}

abbrev pub standing : List Row
standing =
    new_row (codes "antenna-a") 0 1 5
    ∷ new_row (codes "antenna-b") 0 1 5
    ∷ new_row (codes "pick") 0 2 20
    ∷ new_row (codes "beep") 0 1 50
    ∷ new_row (codes "card") 1 4 50
    ∷ new_row (codes "radio") 1 5 100
    ∷ new_row (codes "clock") 1 2 200
    ∷ new_row (codes "battery") 1 1 1000
    ∷ []
