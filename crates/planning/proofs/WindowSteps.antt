-- One task in a window, at one event, over plain numbers and tests.
-- A window of w ticks has seen m jobs of a task become ready. Jobs of a task become ready at least a period apart, so with `a` ticks
-- since the last release m periods fit before the end of the window, and one more. What a job has left is what it asks for less what
-- it got, from the end of its hold up to its due tick. Assumes nothing.
use Rattle.std.proofs.Common.{◌≡◌, ℕ, suc, ◌+◌, ◌-◌, ◌*◌, ◌<◌, ◌≤◌, Bool, true, false, cond, not, ◌&&◌, ◌||◌, eqb, leb, mul-le-mul_right, arith}
use Rattle.std.proofs.lemmas.Bool.Decides.{nat_tests}
use Rattle.planning.specs.Counts.{count_if}

-- what a job has left: kn, en: its task was released, its job was ended; a, s: the ticks since, and those it got; h, d, c: hold, deadline, charge
abbrev pub left_by : (kn en : Bool) (a s h d c : ℕ) → ℕ
left_by kn en a s h d c = cond (kn && (leb h a && (leb a d && not en))) (c - s) 0

-- that, of a task of the level alone
abbrev pub level_by : (lev kn en : Bool) (a s h d c : ℕ) → ℕ
level_by lev kn en a s h d c = cond lev (left_by kn en a s h d c) 0

-- m jobs of a task of period q became ready in a window of w ticks
pub record Counted (lev kn : Bool) (a h q w m left : ℕ) : Type 0 where
  pub none : m ≡ 0 → left ≡ 0
  pub level : 1 ≤ m → lev ≡ true
  pub known : 1 ≤ m → kn ≡ true
  pub ready : 1 ≤ m → h ≤ a → m * q + a ≤ w + h + q
  pub held : 1 ≤ m → a < h → m * q + a ≤ w + h

-- a held job's hold ends with the next tick
abbrev pub newly : Bool → ℕ → ℕ → Bool
newly kn a h = kn && eqb (suc a) h

-- one more where b
abbrev pub more_if : Bool → ℕ → ℕ
more_if b m = cond b (m + 1) m

pub more_times : (b : Bool) (m q : ℕ) → more_if b m * q ≡ m * q + cond b q 0
more_times true m q = omega arith
more_times false m q = omega arith

-- ---- at a release or a finish: b says whether it is this task's

module _ (lev kn en b : Bool) (a s h d c q w m : ℕ) where
  pub release_counted : (b ≡ true → kn ≡ true → q ≤ a) → h < d → d ≤ q → Counted lev kn a h q w m (level_by lev kn en a s h d c) → Counted lev (b || kn) (cond b 0 a) h q w (more_if (b && (lev && eqb h 0)) m) (level_by lev (b || kn) (cond b false en) (cond b 0 a) (cond b 0 s) h d c)
  release_counted spaced x y old =
      let o1 = old.none in
      let o2 = old.level in
      let o3 = old.known in
      let o4 = old.ready in
      let o5 = old.held in
      let e = more_times (b && (lev && eqb h 0)) m q in
      record {
        none = grind (arith, nat_tests);
        level = grind (arith, nat_tests);
        known = grind (arith, nat_tests);
        ready = grind (arith, nat_tests);
        held = grind (arith, nat_tests);
      }

  pub release_gain : level_by lev (b || kn) (cond b false en) (cond b 0 a) (cond b 0 s) h d c + m * c ≤ level_by lev kn en a s h d c + more_if (b && (lev && eqb h 0)) m * c
  release_gain = let e = more_times (b && (lev && eqb h 0)) m c in grind (arith, nat_tests)

  pub finish_counted : Counted lev kn a h q w m (level_by lev kn en a s h d c) → Counted lev kn a h q w m (level_by lev kn (b || en) a s h d c)
  finish_counted old =
      let o1 = old.none in
      record { none = grind (arith, nat_tests); level = old.level; known = old.known; ready = old.ready; held = old.held }

  pub finish_less : level_by lev kn (b || en) a s h d c ≤ level_by lev kn en a s h d c
  finish_less = grind (arith, nat_tests)

-- ---- at a tick: x says whether it ran this task's job, which then was ready and unfinished

module _ (lev kn en x : Bool) (a s h d c : ℕ) where
  -- what is left after the tick, but for a job that it made ready
  abbrev pub carried : ℕ
  carried = cond (newly kn a h) 0 (level_by lev kn en (suc a) (count_if x + s) h d c)

  pub record Ran : Type 0 where
    pub level : x ≡ true → lev ≡ true
    pub known : x ≡ true → kn ≡ true
    pub past_hold : x ≡ true → h ≤ a
    pub before_due : x ≡ true → a < d
    pub not_ended : x ≡ true → en ≡ false
    pub work_left : x ≡ true → s < c

  pub tick_carries : Ran → carried + count_if x ≤ level_by lev kn en a s h d c
  tick_carries r =
      let r1 = r.level in
      let r2 = r.known in
      let r3 = r.past_hold in
      let r4 = r.before_due in
      let r5 = r.not_ended in
      let r6 = r.work_left in
      grind (arith, nat_tests)

  -- nothing is carried where the job is not ready and unfinished
  pub tick_carries_none : (lev ≡ true → kn ≡ true → h ≤ a → a < d → en ≡ false → s < c → ⊥) → carried ≡ 0
  tick_carries_none out = grind (arith, nat_tests)

  module _ (q w m : ℕ) where
    pub tick_counted : Counted lev kn a h q w m (level_by lev kn en a s h d c) → Counted lev kn (suc a) h q (suc w) (more_if (lev && newly kn a h) m) (level_by lev kn en (suc a) (count_if x + s) h d c)
    tick_counted old =
        let o1 = old.none in
        let o2 = old.level in
        let o3 = old.known in
        let o4 = old.ready in
        let o5 = old.held in
        let e = more_times (lev && newly kn a h) m q in
        record {
          none = grind (arith, nat_tests);
          level = grind (arith, nat_tests);
          known = grind (arith, nat_tests);
          ready = grind (arith, nat_tests);
          held = grind (arith, nat_tests);
        }

    pub tick_gain : level_by lev kn en (suc a) (count_if x + s) h d c + m * c ≤ carried + more_if (lev && newly kn a h) m * c
    tick_gain = let e = more_times (lev && newly kn a h) m c in grind (arith, nat_tests)

  -- a window begins with the tick
  module _ (q : ℕ) (rest : carried ≡ 0) where
    pub fresh_counted : Counted lev kn (suc a) h q 0 (count_if (lev && newly kn a h)) (level_by lev kn en (suc a) (count_if x + s) h d c)
    fresh_counted = record {
      none = grind (arith, nat_tests);
      level = grind (arith, nat_tests);
      known = grind (arith, nat_tests);
      ready = grind (arith, nat_tests);
      held = grind (arith, nat_tests);
    }

    pub fresh_gain : level_by lev kn en (suc a) (count_if x + s) h d c ≤ count_if (lev && newly kn a h) * c
    fresh_gain = let e = more_times (lev && newly kn a h) 0 c in grind (arith, nat_tests)

-- ---- what a window tells

-- a job with work left became ready in the window
pub became_ready : (lev kn en : Bool) (a s h d c q w m : ℕ) → lev ≡ true → kn ≡ true → h ≤ a → a ≤ d → en ≡ false → s < c → Counted lev kn a h q w m (level_by lev kn en a s h d c) → a ≤ w + h
became_ready lev kn en a s h d c q w m lv k ready due e left old =
    let o1 = old.none in
    let some : 1 ≤ m = grind (arith, nat_tests) in
    omega (arith, old.ready some ready, mul-le-mul_right q some)
