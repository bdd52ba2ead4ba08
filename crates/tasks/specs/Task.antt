-- What a task's parts mean.
--
--   preference_of n       the preference that the number n stands for, if it stands for one
--   preference_number p   the number that stands for p
--   name_fits bs          bs can be a name: it has 1 to 16 bytes
--   name_of n             the bytes of the name n
use Rattle.std.specs.Prelude.{ℕ, zero, suc, Bool, ◌&&◌, List, length, Some, None, Option, nat_le}
use Rattle.fixed.specs.FixedVec.{elements}
use Rattle.tasks.specs.declared.task.Name.{Name}
use Rattle.tasks.specs.declared.task.Preference.{Preference}
use Rattle.tasks.specs.declared.task.Preference.TheVariants.{Asap, Alap}

abbrev pub preference_of : ℕ → Option Preference
preference_of zero = Some Asap
preference_of (suc zero) = Some Alap
preference_of (suc (suc n)) = None

abbrev pub preference_number : Preference → ℕ
preference_number Asap = 0
preference_number Alap = 1

abbrev pub name_fits : List ℕ → Bool
name_fits bs = nat_le 1 (length bs) && nat_le (length bs) 16

abbrev pub name_of : Name → List ℕ
name_of n = elements n.bytes
