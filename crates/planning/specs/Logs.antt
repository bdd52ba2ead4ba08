-- The log of a run: what was accepted, newest first. Whatever is said of a run is read off its log.
--
--   Entry          what a log notes: a release of a task, a finish of a task's job, or a tick with the task that it ran, if any
--   Log            entries, newest first
--   now l          the ticks in l
--   known k l      task k was released in l
--   age k l        the ticks since the last release of task k
--   served k l     how many of those ran task k
--   ended k l      a finish of task k came since its last release
use Rattle.std.specs.Prelude.{ℕ, suc, ◌+◌, Bool, false, cond, ◌||◌, List, [], ◌∷◌, Some, None, Option, ◌==◌}

pub data Entry : Type 0 where
  released : ℕ → Entry
  finished : ℕ → Entry
  ran : Option ℕ → Entry

abbrev pub Log : Type 0
Log = List Entry

abbrev pub now : Log → ℕ
now [] = 0
now (released j ∷ l) = now l
now (finished j ∷ l) = now l
now (ran o ∷ l) = suc (now l)

-- whether a tick that ran o ran task k
abbrev pub is_for : ℕ → Option ℕ → Bool
is_for k None = false
is_for k (Some j) = j == k

abbrev pub known : ℕ → Log → Bool
known k [] = false
known k (released j ∷ l) = j == k || known k l
known k (finished j ∷ l) = known k l
known k (ran o ∷ l) = known k l

abbrev pub age : ℕ → Log → ℕ
age k [] = 0
age k (released j ∷ l) = cond (j == k) 0 (age k l)
age k (finished j ∷ l) = age k l
age k (ran o ∷ l) = suc (age k l)

abbrev pub served : ℕ → Log → ℕ
served k [] = 0
served k (released j ∷ l) = cond (j == k) 0 (served k l)
served k (finished j ∷ l) = served k l
served k (ran o ∷ l) = cond (is_for k o) 1 0 + served k l

abbrev pub ended : ℕ → Log → Bool
ended k [] = false
ended k (released j ∷ l) = cond (j == k) false (ended k l)
ended k (finished j ∷ l) = j == k || ended k l
ended k (ran o ∷ l) = ended k l
