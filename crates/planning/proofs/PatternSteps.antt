-- One task in the demanding pattern, at one event, over plain numbers and tests.
-- t ticks have passed; at tick L all tasks of the level become ready. m jobs of a task became ready since: each task is released as soon
-- as it may be, so as many as can. Nothing is missed. Assumes nothing.
use Rattle.std.proofs.Common.{◌≡◌, ℕ, suc, ◌+◌, ◌-◌, ◌*◌, ◌<◌, ◌≤◌, Bool, true, false, cond, not, ◌&&◌, ◌||◌, eqb, leb, arith}
use Rattle.std.proofs.lemmas.Bool.Decides.{nat_tests}
use Rattle.planning.specs.Counts.{count_if}
use Rattle.planning.proofs.WindowSteps.{level_by, newly, more_if, more_times, Ran}

-- kn, en: the task was released, its job was ended; a, s: the ticks since, and those it got; h, d, c, q: hold, deadline, charge, period
pub record Paced (lev kn en : Bool) (a s h d c q t L m : ℕ) : Type 0 where
  pub outside : kn ≡ true → lev ≡ true
  pub waiting : lev ≡ true → kn ≡ false → t + h ≤ L
  pub not_early : kn ≡ true → a + L ≤ t + h
  pub young : kn ≡ true → a ≤ q
  pub not_ended : en ≡ false
  pub unserved : kn ≡ true → a < h → s ≡ 0
  pub in_time : kn ≡ true → d ≤ a → c ≤ s
  pub none : kn ≡ false → m ≡ 0
  pub ready : kn ≡ true → h ≤ a → t + h + q ≤ L + m * q + a
  pub held : kn ≡ true → a < h → t + h ≤ L + m * q + a

-- once its release was offered at this tick
pub record Offered (lev kn : Bool) (a h q t L : ℕ) : Type 0 where
  pub waiting : lev ≡ true → kn ≡ false → t + h < L
  pub young : kn ≡ true → a < q

module _ (lev kn en : Bool) (a s h d c q t L m : ℕ) (short : h < d) (spaced : d ≤ q) (old : Paced lev kn en a s h d c q t L m) where
  -- ---- at a release: b says whether it is this task's
  module _ (b : Bool) (may : b ≡ true → kn ≡ true → q ≤ a) (called : b ≡ true → lev ≡ true) (time : b ≡ true → L ≤ t + h) where
    pub release_paced : Paced lev (b || kn) (cond b false en) (cond b 0 a) (cond b 0 s) h d c q t L (more_if (b && eqb h 0) m)
    release_paced =
        let o1 = old.outside in
        let o2 = old.waiting in
        let o3 = old.not_early in
        let o4 = old.young in
        let o5 = old.not_ended in
        let o6 = old.unserved in
        let o7 = old.in_time in
        let o8 = old.none in
        let o9 = old.ready in
        let o10 = old.held in
        let e = more_times (b && eqb h 0) m q in
        record {
          outside = grind (arith, nat_tests);
          waiting = grind (arith, nat_tests);
          not_early = grind (arith, nat_tests);
          young = grind (arith, nat_tests);
          not_ended = grind (arith, nat_tests);
          unserved = grind (arith, nat_tests);
          in_time = grind (arith, nat_tests);
          none = grind (arith, nat_tests);
          ready = grind (arith, nat_tests);
          held = grind (arith, nat_tests);
        }

    pub release_paced_gain : more_if (b && eqb h 0) m * c + level_by lev kn en a s h d c ≤ level_by lev (b || kn) (cond b false en) (cond b 0 a) (cond b 0 s) h d c + m * c
    release_paced_gain =
        let o1 = old.outside in
        let o4 = old.young in
        let o7 = old.in_time in
        let e = more_times (b && eqb h 0) m c in
        grind (arith, nat_tests)

    pub release_offered : (b ≡ false → Offered lev kn a h q t L) → Offered lev (b || kn) (cond b 0 a) h q t L
    release_offered others =
        let w : b ≡ false → lev ≡ true → kn ≡ false → t + h < L = λ e. (others e).waiting in
        let y : b ≡ false → kn ≡ true → a < q = λ e. (others e).young in
        record { waiting = grind (arith, nat_tests); young = grind (arith, nat_tests) }

    -- while its first job is not due yet, a task is released once
    pub release_first : lev ≡ true → t + h < L + d → (kn ≡ true → t + h ≤ L + a) → (b || kn) ≡ true → t + h ≤ L + cond b 0 a
    release_first own early first =
        let o2 = old.waiting in
        let o3 = old.not_early in
        grind (arith, nat_tests)

    pub release_unfinished : 0 < c → (kn ≡ true → s < c) → (b || kn) ≡ true → cond b 0 s < c
    release_unfinished some unfinished = grind (arith, nat_tests)

  -- ---- a release that is not offered, or is refused
  pub not_offered : (lev && leb L (t + h)) ≡ false → Offered lev kn a h q t L
  not_offered e =
      let o1 = old.outside in
      let o3 = old.not_early in
      record { waiting = grind (arith, nat_tests); young = grind (arith, nat_tests) }

  pub refused_offered : (not kn || leb q a) ≡ false → Offered lev kn a h q t L
  refused_offered e = record { waiting = grind (arith, nat_tests); young = grind (arith, nat_tests) }

  -- ---- at a tick: x says whether it ran this task's job
  module _ (x : Bool) (run : Ran lev kn en x a s h d c) (offer : Offered lev kn a h q t L) (kept : kn ≡ true → suc a ≡ d → c ≤ count_if x + s) where
    pub tick_paced : Paced lev kn en (suc a) (count_if x + s) h d c q (suc t) L (more_if (newly kn a h) m)
    tick_paced =
        let o1 = old.outside in
        let o3 = old.not_early in
        let o6 = old.unserved in
        let o7 = old.in_time in
        let o8 = old.none in
        let o9 = old.ready in
        let o10 = old.held in
        let r3 = run.past_hold in
        let f1 = offer.waiting in
        let f2 = offer.young in
        let e = more_times (newly kn a h) m q in
        record {
          outside = o1;
          waiting = grind (arith, nat_tests);
          not_early = grind (arith, nat_tests);
          young = grind (arith, nat_tests);
          not_ended = old.not_ended;
          unserved = grind (arith, nat_tests);
          in_time = grind (arith, nat_tests);
          none = grind (arith, nat_tests);
          ready = grind (arith, nat_tests);
          held = grind (arith, nat_tests);
        }

    pub tick_paced_gain : more_if (newly kn a h) m * c + level_by lev kn en a s h d c ≤ level_by lev kn en (suc a) (count_if x + s) h d c + count_if x + m * c
    tick_paced_gain =
        let o1 = old.outside in
        let o5 = old.not_ended in
        let o6 = old.unserved in
        let o7 = old.in_time in
        let r2 = run.known in
        let r3 = run.past_hold in
        let e = more_times (newly kn a h) m c in
        grind (arith, nat_tests)

  -- ---- what the pace tells

  -- a job that is not ready and unfinished has nothing left
  pub idle_left : (kn ≡ true → h ≤ a → a < d → en ≡ false → s < c → ⊥) → level_by lev kn en a s h d c ≡ 0
  idle_left out =
      let o7 = old.in_time in
      grind (arith, nat_tests)

  -- since all became ready, as many jobs of a task of the level did as begin in the ticks up to the next one
  pub enough_jobs : Offered lev kn a h q t L → lev ≡ true → L ≤ t → suc (t - L) ≤ m * q
  enough_jobs offer own late =
      let o9 = old.ready in
      let o10 = old.held in
      let f1 = offer.waiting in
      let f2 = offer.young in
      grind (arith, nat_tests)
