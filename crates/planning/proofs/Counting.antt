-- What a lawful log counts, entry by entry, and the books of a run.
-- A job is judged at its due tick, by what came after its release up to there. One entry more changes nothing for a job that is due
-- already, nor for one that is not due then either. Releases of a task lie a period apart, so a deadline at least: of its jobs only the
-- last can still be awaited, and it alone comes due at the tick that makes its age the deadline. What came since its release is then
-- all that the log has served and finished of it. So no job is missed exactly if at every tick the jobs that come due are done.
-- Assumes nothing.
use Rattle.std.proofs.Common.{◌≡◌, ℕ, zero, suc, ◌+◌, ◌<◌, ◌≤◌, Bool, true, false, cond, ◌&&◌, ◌||◌, eqb, ltb, leb, List, [], ◌∷◌, ◌++◌, Decides, Option, sym, refl, ap, ◌∙◌, subst, ⊎_elim, arith}
use Rattle.std.proofs.lemmas.Bool.{cases_Bool, cases_lt, and_parts, eq-eqb, cond-true, cond-false, and_right, eqb-true, lt-ltb, le-ltb, le-leb, lt-leb, or_left, or_right, true≢false}
use Rattle.std.proofs.lemmas.Bool.Decides.{nat_tests, Decides-or}
use Rattle.planning.specs.Logs.{Entry, released, finished, ran, Log, now, known, age, served, ended}
use Rattle.planning.specs.Plans.{size, charge_of, deadline_of}
use Rattle.planning.specs.Counts.{count_if, served_in, finished_in, up_to_tick, due_by, kept_by, per_release, releases_of, due_of, kept_of, due_in, kept_in, awaits}
use Rattle.planning.specs.Runs.{clock_end, MayRelease, Lawful}
use Rattle.planning.specs.RunLaws.{RunsKeepBooks, Done}
use Rattle.planning.specs.declared.plan.Plan.{Plan}
use Rattle.planning.proofs.PlanLimits.{charge_some, charge_in_deadline, deadline_in_period}
use Rattle.planning.proofs.Replaying.{decides_leb, lawful_run, refused_leaves}
use Rattle.planning.proofs.Sums.{sum_same, sum_le, sum_add, sum_gain, sum_tight}

-- ---- entries, oldest first, with one more at the end

now_more : (xs : List Entry) (x : Entry) → now (xs ++ x ∷ []) ≡ now xs + now (x ∷ [])
now_more [] x = omega arith
now_more (released j ∷ xs) x = now_more xs x
now_more (finished j ∷ xs) x = now_more xs x
now_more (ran o ∷ xs) x = omega (arith, now_more xs x)

served_more : (k : ℕ) (xs : List Entry) (x : Entry) → served_in k (xs ++ x ∷ []) ≡ served_in k xs + served_in k (x ∷ [])
served_more k [] x = omega arith
served_more k (released j ∷ xs) x = served_more k xs x
served_more k (finished j ∷ xs) x = served_more k xs x
served_more k (ran o ∷ xs) x = omega (arith, served_more k xs x)

finished_more : (k : ℕ) (xs : List Entry) (o : Option ℕ) → finished_in k (xs ++ ran o ∷ []) ≡ finished_in k xs
finished_more k [] o = refl
finished_more k (released j ∷ xs) o = finished_more k xs o
finished_more k (finished j ∷ xs) o = ap (λ b. eqb j k || b) (finished_more k xs o)
finished_more k (ran i ∷ xs) o = finished_more k xs o

-- past the d-th tick nothing is added
up_to_past : (d : ℕ) (xs : List Entry) (x : Entry) → d ≤ now xs → up_to_tick d (xs ++ x ∷ []) ≡ up_to_tick d xs
up_to_past zero xs x h = refl
up_to_past (suc d) [] x h = absurd (omega arith)
up_to_past (suc d) (released j ∷ xs) x h = ap (λ ys. released j ∷ ys) (up_to_past (suc d) xs x h)
up_to_past (suc d) (finished j ∷ xs) x h = ap (λ ys. finished j ∷ ys) (up_to_past (suc d) xs x h)
up_to_past (suc d) (ran o ∷ xs) x h = ap (λ ys. ran o ∷ ys) (up_to_past d xs x (omega arith))

-- up to its last tick a list is whole
up_to_last : (xs : List Entry) (o : Option ℕ) → up_to_tick (suc (now xs)) (xs ++ ran o ∷ []) ≡ xs ++ ran o ∷ []
up_to_last [] o = refl
up_to_last (released j ∷ xs) o = ap (λ ys. released j ∷ ys) (up_to_last xs o)
up_to_last (finished j ∷ xs) o = ap (λ ys. finished j ∷ ys) (up_to_last xs o)
up_to_last (ran i ∷ xs) o = ap (λ ys. ran i ∷ ys) (up_to_last xs o)

-- ---- since the last release

-- what came after the last release of task k in l, oldest first; xs is what came after l
abbrev since : ℕ → List Entry → Log → List Entry
since k xs [] = xs
since k xs (released j ∷ l) = cond (eqb j k) xs (since k (released j ∷ xs) l)
since k xs (finished j ∷ l) = since k (finished j ∷ xs) l
since k xs (ran o ∷ l) = since k (ran o ∷ xs) l

now_since : (k : ℕ) (xs : List Entry) (l : Log) → now (since k xs l) ≡ now xs + age k l
now_since k xs [] = omega arith
now_since k xs (released j ∷ l) =
    ⊎_elim
    (λ (t : eqb j k ≡ true). omega (arith, ap now (cond-true (eqb j k) xs (since k (released j ∷ xs) l) t), cond-true {A = ℕ} (eqb j k) 0 (age k l) t))
    (λ (f : eqb j k ≡ false).
    omega (arith, ap now (cond-false (eqb j k) xs (since k (released j ∷ xs) l) f), cond-false {A = ℕ} (eqb j k) 0 (age k l) f, now_since k (released j ∷ xs) l))
    (cases_Bool (eqb j k))
now_since k xs (finished j ∷ l) = now_since k (finished j ∷ xs) l
now_since k xs (ran o ∷ l) = omega (arith, now_since k (ran o ∷ xs) l)

served_since : (k : ℕ) (xs : List Entry) (l : Log) → served_in k (since k xs l) ≡ served_in k xs + served k l
served_since k xs [] = omega arith
served_since k xs (released j ∷ l) =
    ⊎_elim
    (λ (t : eqb j k ≡ true).
    omega (arith, ap (served_in k) (cond-true (eqb j k) xs (since k (released j ∷ xs) l) t), cond-true {A = ℕ} (eqb j k) 0 (served k l) t))
    (λ (f : eqb j k ≡ false).
    omega (
      arith,
      ap (served_in k) (cond-false (eqb j k) xs (since k (released j ∷ xs) l) f),
      cond-false {A = ℕ} (eqb j k) 0 (served k l) f,
      served_since k (released j ∷ xs) l,
    ))
    (cases_Bool (eqb j k))
served_since k xs (finished j ∷ l) = served_since k (finished j ∷ xs) l
served_since k xs (ran o ∷ l) = omega (arith, served_since k (ran o ∷ xs) l)

swap_or : (a b c : Bool) → ((a || b) || c) ≡ (b || (a || c))
swap_or true true c = refl
swap_or true false c = refl
swap_or false b c = refl

or_none : (b : Bool) → (b || false) ≡ b
or_none true = refl
or_none false = refl

and_true : (b : Bool) → (b && true) ≡ b
and_true true = refl
and_true false = refl

finished_since : (k : ℕ) (xs : List Entry) (l : Log) → finished_in k (since k xs l) ≡ (finished_in k xs || ended k l)
finished_since k xs [] = sym (or_none (finished_in k xs))
finished_since k xs (released j ∷ l) =
    ⊎_elim
    (λ (t : eqb j k ≡ true).
    ap (finished_in k) (cond-true (eqb j k) xs (since k (released j ∷ xs) l) t)
    ∙ sym (or_none (finished_in k xs))
    ∙ ap (λ b. finished_in k xs || b) (sym (cond-true (eqb j k) false (ended k l) t)))
    (λ (f : eqb j k ≡ false).
    ap (finished_in k) (cond-false (eqb j k) xs (since k (released j ∷ xs) l) f)
    ∙ finished_since k (released j ∷ xs) l
    ∙ ap (λ b. finished_in k xs || b) (sym (cond-false (eqb j k) false (ended k l) f)))
    (cases_Bool (eqb j k))
finished_since k xs (finished j ∷ l) = finished_since k (finished j ∷ xs) l ∙ swap_or (eqb j k) (finished_in k xs) (ended k l)
finished_since k xs (ran o ∷ l) = finished_since k (ran o ∷ xs) l

-- ---- one entry more

-- f judges a job of task k at its due tick: never before it, and past it no more
record Judges (p : Plan) (k : ℕ) (f : List Entry → Bool) : Type 0 where
  before : (xs : List Entry) → now xs < deadline_of p k → f xs ≡ false
  past : (xs : List Entry) (x : Entry) → deadline_of p k ≤ now xs → f (xs ++ x ∷ []) ≡ f xs

same_count : (b u v : Bool) → (b ≡ true → u ≡ v) → count_if (b && u) ≡ count_if (b && v)
same_count true u v h = ap count_if (h refl)
same_count false u v h = refl

-- the older one of two releases is due at the younger one
older_due : (p : Plan) (j k : ℕ) (l : Log) → MayRelease p l j → eqb j k ≡ true → known k l ≡ true → deadline_of p k ≤ age k l
older_due p j k l may t e =
    let here : MayRelease p l k = subst (MayRelease p l) (eqb-true j k t) may in
    omega (arith, here.1 e, deadline_in_period p k)

module _ (p : Plan) (k : ℕ) (f : List Entry → Bool) (judges : Judges p k f) where
  -- where every job in l is due, nothing changes
  settled : (xs : List Entry) (x : Entry) (l : Log) → Lawful p l → (known k l ≡ true → deadline_of p k ≤ now xs + age k l) → per_release f k (xs ++ x ∷ []) l ≡ per_release f k xs l
  settled xs x [] w h = refl
  settled xs x (released j ∷ l) w h =
      omega (
        arith,
        same_count (eqb j k) (f (xs ++ x ∷ [])) (f xs)
            (λ t. judges.past xs x (omega (arith, h (or_left (eqb j k) (known k l) t), cond-true {A = ℕ} (eqb j k) 0 (age k l) t))),
        settled (released j ∷ xs) x l w.1
            (λ e.
            ⊎_elim
            (λ (t : eqb j k ≡ true). omega (arith, older_due p j k l w.0 t e))
            (λ (o : eqb j k ≡ false). omega (arith, h (or_right (eqb j k) (known k l) e), cond-false {A = ℕ} (eqb j k) 0 (age k l) o))
            (cases_Bool (eqb j k))),
      )
  settled xs x (finished j ∷ l) w h = settled (finished j ∷ xs) x l w.1 h
  settled xs x (ran o ∷ l) w h = settled (ran o ∷ xs) x l w.1 (λ e. omega (arith, h e))

  -- where the last job in l is awaited, it alone can change
  last_changes : (xs : List Entry) (x : Entry) (l : Log) → Lawful p l → known k l ≡ true → now xs + age k l < deadline_of p k → per_release f k (xs ++ x ∷ []) l ≡ per_release f k xs l + count_if (f (since k xs l ++ x ∷ []))
  last_changes xs x [] w e a = absurd (true≢false (sym e))
  last_changes xs x (released j ∷ l) w e a =
      ⊎_elim
      (λ (t : eqb j k ≡ true).
      omega (
        arith,
        ap (λ b. count_if (b && f (xs ++ x ∷ []))) t,
        ap (λ b. count_if (b && f xs)) t,
        ap count_if (judges.before xs (omega (arith, a, cond-true {A = ℕ} (eqb j k) 0 (age k l) t))),
        ap (λ ys. count_if (f (ys ++ x ∷ []))) (cond-true (eqb j k) xs (since k (released j ∷ xs) l) t),
        settled (released j ∷ xs) x l w.1 (λ e. omega (arith, older_due p j k l w.0 t e)),
      ))
      (λ (o : eqb j k ≡ false).
      let e' : known k l ≡ true = ap (λ b. b || known k l) (sym o) ∙ e in
      omega (
        arith,
        ap (λ b. count_if (b && f (xs ++ x ∷ []))) o,
        ap (λ b. count_if (b && f xs)) o,
        ap (λ ys. count_if (f (ys ++ x ∷ []))) (cond-false (eqb j k) xs (since k (released j ∷ xs) l) o),
        last_changes (released j ∷ xs) x l w.1 e' (omega (arith, a, cond-false {A = ℕ} (eqb j k) 0 (age k l) o)),
      ))
      (cases_Bool (eqb j k))
  last_changes xs x (finished j ∷ l) w e a = last_changes (finished j ∷ xs) x l w.1 e a
  last_changes xs x (ran o ∷ l) w e a = last_changes (ran o ∷ xs) x l w.1 e (omega (arith, a))

  -- so one entry more can change the count by the last job, if it is awaited
  one_entry_more : (x : Entry) (l : Log) → Lawful p l → per_release f k (x ∷ []) l ≡ per_release f k [] l + count_if (known k l && (ltb (age k l) (deadline_of p k) && f (since k [] l ++ x ∷ [])))
  one_entry_more x l w =
      ⊎_elim
      (λ (e : known k l ≡ true).
      ⊎_elim
      (λ (a : age k l < deadline_of p k).
      omega (
        arith,
        ap (λ b. count_if (b && (ltb (age k l) (deadline_of p k) && f (since k [] l ++ x ∷ [])))) e,
        ap (λ b. count_if (b && f (since k [] l ++ x ∷ []))) (lt-ltb (age k l) (deadline_of p k) a),
        last_changes [] x l w e (omega arith),
      ))
      (λ (a : deadline_of p k ≤ age k l).
      omega (
        arith,
        ap (λ b. count_if (b && (ltb (age k l) (deadline_of p k) && f (since k [] l ++ x ∷ [])))) e,
        ap (λ b. count_if (b && f (since k [] l ++ x ∷ []))) (le-ltb (age k l) (deadline_of p k) a),
        settled [] x l w (λ _. omega arith),
      ))
      (cases_lt (age k l) (deadline_of p k)))
      (λ (e : known k l ≡ false).
      omega (
        arith,
        ap (λ b. count_if (b && (ltb (age k l) (deadline_of p k) && f (since k [] l ++ x ∷ [])))) e,
        settled [] x l w (λ t. absurd (true≢false (sym t ∙ e))),
      ))
      (cases_Bool (known k l))

  -- an entry that is no tick judges no job
  judged_at_note : (x : Entry) (l : Log) → now (x ∷ []) ≡ 0 → Lawful p l → per_release f k (x ∷ []) l ≡ per_release f k [] l
  judged_at_note x l still w =
      omega (
        arith,
        one_entry_more x l w,
        none_judged (known k l) (f (since k [] l ++ x ∷ [])) (age k l) (deadline_of p k)
            (λ a. judges.before (since k [] l ++ x ∷ []) (omega (arith, now_more (since k [] l) x, now_since k [] l))),
      )
    where
      none_judged : (b u : Bool) (a d : ℕ) → (a < d → u ≡ false) → count_if (b && (ltb a d && u)) ≡ 0
      none_judged b u a d h = grind (arith, nat_tests)

  judged_at_release : (j : ℕ) (l : Log) → Lawful p l → per_release f k [] (released j ∷ l) ≡ per_release f k [] l
  judged_at_release j l w =
      omega (
        arith,
        judged_at_note (released j) l refl w,
        ap count_if (and_right (eqb j k) (f []) (judges.before [] (omega (arith, charge_some p k, charge_in_deadline p k)))),
      )

  -- a tick judges the job whose due tick it is
  judged_at_tick : (o : Option ℕ) (l : Log) (g : Bool) → Lawful p l → (suc (age k l) ≡ deadline_of p k → f (since k [] l ++ ran o ∷ []) ≡ g) → per_release f k [] (ran o ∷ l) ≡ per_release f k [] l + count_if (known k l && (eqb (suc (age k l)) (deadline_of p k) && g))
  judged_at_tick o l g w h =
      omega (
        arith,
        one_entry_more (ran o) l w,
        one_judged (known k l) (f (since k [] l ++ ran o ∷ [])) g (age k l) (deadline_of p k)
            (λ a. judges.before (since k [] l ++ ran o ∷ []) (omega (arith, now_more (since k [] l) (ran o), now_since k [] l)))
            h,
      )
    where
      one_judged : (b u v : Bool) (a d : ℕ) → (suc a < d → u ≡ false) → (suc a ≡ d → u ≡ v) → count_if (b && (ltb a d && u)) ≡ count_if (b && (eqb (suc a) d && v))
      one_judged b u v a d h i = grind (arith, nat_tests)

-- ---- the steps of the counts

due_judges : (p : Plan) (k : ℕ) → Judges p k (due_by p k)
due_judges p k = record {
  before = λ xs h. lt-leb (deadline_of p k) (now xs) h;
  past = λ xs x h.
      le-leb (deadline_of p k) (now (xs ++ x ∷ [])) (omega (arith, now_more xs x)) ∙ sym (le-leb (deadline_of p k) (now xs) h);
}

-- a job is kept if it is due, and what came up to its due tick did it
abbrev done_in : Plan → ℕ → Bool → List Entry → Bool
done_in p k due ys = due && (leb (charge_of p k) (served_in k ys) || finished_in k ys)

kept_judges : (p : Plan) (k : ℕ) → Judges p k (kept_by p k)
kept_judges p k = record {
  before = λ xs h. ap (λ b. done_in p k b (up_to_tick (deadline_of p k) xs)) ((due_judges p k).before xs h);
  past = λ xs x h. (λ i. done_in p k ((due_judges p k).past xs x h i) (up_to_past (deadline_of p k) xs x h i));
}

module _ (p : Plan) (k : ℕ) where
  -- the job of task k that comes due with this tick, if any does, is done
  abbrev done_by : Option ℕ → Log → Bool
  done_by o l = leb (charge_of p k) (served k (ran o ∷ l)) || ended k l

  pub due_at_release : (j : ℕ) (l : Log) → Lawful p l → due_of p k (released j ∷ l) ≡ due_of p k l
  due_at_release j l w = judged_at_release p k (due_by p k) (due_judges p k) j l w

  pub kept_at_release : (j : ℕ) (l : Log) → Lawful p l → kept_of p k (released j ∷ l) ≡ kept_of p k l
  kept_at_release j l w = judged_at_release p k (kept_by p k) (kept_judges p k) j l w

  pub due_at_finish : (j : ℕ) (l : Log) → Lawful p l → due_of p k (finished j ∷ l) ≡ due_of p k l
  due_at_finish j l w = judged_at_note p k (due_by p k) (due_judges p k) (finished j) l refl w

  pub kept_at_finish : (j : ℕ) (l : Log) → Lawful p l → kept_of p k (finished j ∷ l) ≡ kept_of p k l
  kept_at_finish j l w = judged_at_note p k (kept_by p k) (kept_judges p k) (finished j) l refl w

  due_then : (o : Option ℕ) (l : Log) → suc (age k l) ≡ deadline_of p k → due_by p k (since k [] l ++ ran o ∷ []) ≡ true
  due_then o l e =
      le-leb (deadline_of p k) (now (since k [] l ++ ran o ∷ [])) (omega (arith, now_more (since k [] l) (ran o), now_since k [] l))

  kept_then : (o : Option ℕ) (l : Log) → suc (age k l) ≡ deadline_of p k → kept_by p k (since k [] l ++ ran o ∷ []) ≡ done_by o l
  kept_then o l e =
      let xs = since k [] l in
      let due : deadline_of p k ≡ suc (now xs) = omega (arith, now_since k [] l) in
      let whole = ap (λ d. up_to_tick d (xs ++ ran o ∷ [])) due ∙ up_to_last xs o in
      let all_served : served_in k (xs ++ ran o ∷ []) ≡ served k (ran o ∷ l) = omega (arith, served_more k xs (ran o), served_since k [] l) in
      let all_ended : finished_in k (xs ++ ran o ∷ []) ≡ ended k l = finished_more k xs o ∙ finished_since k [] l in
      (λ i. done_in p k (due_then o l e i) (whole i)) ∙ (λ i. leb (charge_of p k) (all_served i) || all_ended i)

  pub due_at_tick : (o : Option ℕ) (l : Log) → Lawful p l → due_of p k (ran o ∷ l) ≡ due_of p k l + count_if (known k l && eqb (suc (age k l)) (deadline_of p k))
  due_at_tick o l w =
      judged_at_tick p k (due_by p k) (due_judges p k) o l true w (due_then o l)
      ∙ ap (λ b. due_of p k l + count_if (known k l && b)) (and_true (eqb (suc (age k l)) (deadline_of p k)))

  pub kept_at_tick : (o : Option ℕ) (l : Log) → Lawful p l → kept_of p k (ran o ∷ l) ≡ kept_of p k l + count_if (known k l && (eqb (suc (age k l)) (deadline_of p k) && (leb (charge_of p k) (served k (ran o ∷ l)) || ended k l)))
  kept_at_tick o l w = judged_at_tick p k (kept_by p k) (kept_judges p k) o l (done_by o l) w (kept_then o l)

-- releases count whatever came after them
any_after : (k : ℕ) (xs ys : List Entry) (l : Log) → per_release (λ _. true) k xs l ≡ per_release (λ _. true) k ys l
any_after k xs ys [] = refl
any_after k xs ys (released j ∷ l) = omega (arith, any_after k (released j ∷ xs) (released j ∷ ys) l)
any_after k xs ys (finished j ∷ l) = any_after k (finished j ∷ xs) (finished j ∷ ys) l
any_after k xs ys (ran o ∷ l) = any_after k (ran o ∷ xs) (ran o ∷ ys) l

pub releases_at_release : (k j : ℕ) (l : Log) → releases_of k (released j ∷ l) ≡ releases_of k l + count_if (eqb j k)
releases_at_release k j l = omega (arith, any_after k (released j ∷ []) [] l, ap count_if (and_true (eqb j k)))

pub releases_at_finish : (k j : ℕ) (l : Log) → releases_of k (finished j ∷ l) ≡ releases_of k l
releases_at_finish k j l = any_after k (finished j ∷ []) [] l

pub releases_at_tick : (k : ℕ) (o : Option ℕ) (l : Log) → releases_of k (ran o ∷ l) ≡ releases_of k l
releases_at_tick k o l = any_after k (ran o ∷ []) [] l

-- ---- what is kept is due

fewer : (k : ℕ) (f g : List Entry → Bool) → ((xs : List Entry) → f xs ≡ true → g xs ≡ true) → (xs : List Entry) (l : Log) → per_release f k xs l ≤ per_release g k xs l
fewer k f g h xs [] = omega arith
fewer k f g h xs (released j ∷ l) = omega (arith, one (eqb j k) (f xs) (g xs) (h xs), fewer k f g h (released j ∷ xs) l)
  where
    one : (b u v : Bool) → (u ≡ true → v ≡ true) → count_if (b && u) ≤ count_if (b && v)
    one b u v h = grind (arith, nat_tests)
fewer k f g h xs (finished j ∷ l) = fewer k f g h (finished j ∷ xs) l
fewer k f g h xs (ran o ∷ l) = fewer k f g h (ran o ∷ xs) l

pub kept_le_due : (p : Plan) (k : ℕ) (l : Log) → kept_of p k l ≤ due_of p k l
kept_le_due p k l = fewer k (kept_by p k) (due_by p k) (λ xs e. (and_parts (due_by p k xs) _ e).0) [] l

-- what was missed stays missed
missed_stays : (p : Plan) (k : ℕ) (x : Entry) (l : Log) → Lawful p l → due_of p k l + kept_of p k (x ∷ l) ≤ kept_of p k l + due_of p k (x ∷ l)
missed_stays p k (released j) l w = omega (arith, due_at_release p k j l w, kept_at_release p k j l w)
missed_stays p k (finished j) l w = omega (arith, due_at_finish p k j l w, kept_at_finish p k j l w)
missed_stays p k (ran o) l w =
    omega (arith, due_at_tick p k o l w, kept_at_tick p k o l w, at_most (known k l) (eqb (suc (age k l)) (deadline_of p k)) (done_by p k o l))
  where
    at_most : (a b c : Bool) → count_if (a && (b && c)) ≤ count_if (a && b)
    at_most a b c = grind (arith, nat_tests)

pub kept_in_due : (p : Plan) (l : Log) → kept_in p l ≤ due_in p l
kept_in_due p l = sum_le (size p) (λ k. kept_of p k l) (λ k. due_of p k l) (λ k _. kept_le_due p k l)

pub no_miss_earlier : (p : Plan) (x : Entry) (l : Log) → Lawful p (x ∷ l) → kept_in p (x ∷ l) ≡ due_in p (x ∷ l) → kept_in p l ≡ due_in p l
no_miss_earlier p x l w e =
    omega (
      arith,
      kept_in_due p l,
      sum_gain (size p) (λ k. due_of p k l) (λ k. kept_of p k (x ∷ l)) (λ k. kept_of p k l) (λ k. due_of p k (x ∷ l)) (λ k _. missed_stays p k x l w.1),
    )

-- with no miss, each task's jobs are kept
each_kept : (p : Plan) (l : Log) → kept_in p l ≡ due_in p l → (k : ℕ) → k < size p → kept_of p k l ≡ due_of p k l
each_kept p l e k h = sum_tight (size p) (λ k. kept_of p k l) (λ k. due_of p k l) (λ k _. kept_le_due p k l) e k h

done_decides : (p : Plan) (k : ℕ) (o : Option ℕ) (l : Log) → Decides (done_by p k o l) (Done p k (ran o ∷ l))
done_decides p k o l = Decides-or _ _ (decides_leb (charge_of p k) (served k (ran o ∷ l))) (λ e. e, λ e. e)

pub no_miss_done : (p : Plan) (o : Option ℕ) (l : Log) (k : ℕ) → Lawful p (ran o ∷ l) → kept_in p (ran o ∷ l) ≡ due_in p (ran o ∷ l) → k < size p → known k l ≡ true → suc (age k l) ≡ deadline_of p k → Done p k (ran o ∷ l)
no_miss_done p o l k w e h t d =
    (done_decides p k o l).0
    (counted (known k l) (eqb (suc (age k l)) (deadline_of p k)) (done_by p k o l) (due_of p k l) t (eq-eqb _ _ d)
    (omega (
      arith,
      each_kept p (ran o ∷ l) e k h,
      each_kept p l (no_miss_earlier p (ran o) l w e) k h,
      due_at_tick p k o l w.1,
      kept_at_tick p k o l w.1,
    )))
  where
    counted : (a b c : Bool) (n : ℕ) → a ≡ true → b ≡ true → n + count_if (a && (b && c)) ≡ n + count_if (a && b) → c ≡ true
    counted a b c n e f h = grind (arith, nat_tests)

-- at every tick of the log each job that came due then was done
abbrev pub Timely : Plan → Log → Type 0
Timely p [] = Unit {0}
Timely p (released j ∷ l) = Timely p l
Timely p (finished j ∷ l) = Timely p l
Timely p (ran o ∷ l) = ((k : ℕ) → k < size p → known k l ≡ true → suc (age k l) ≡ deadline_of p k → Done p k (ran o ∷ l)) × Timely p l

task_kept : (p : Plan) (k : ℕ) → k < size p → (l : Log) → Lawful p l → Timely p l → kept_of p k l ≡ due_of p k l
task_kept p k h [] w t = refl
task_kept p k h (released j ∷ l) w t =
    omega (arith, kept_at_release p k j l w.1, due_at_release p k j l w.1, task_kept p k h l w.1 t)
task_kept p k h (finished j ∷ l) w t =
    omega (arith, kept_at_finish p k j l w.1, due_at_finish p k j l w.1, task_kept p k h l w.1 t)
task_kept p k h (ran o ∷ l) w t =
    omega (
      arith,
      kept_at_tick p k o l w.1,
      due_at_tick p k o l w.1,
      task_kept p k h l w.1 t.1,
      same (known k l) (suc (age k l)) (deadline_of p k) (done_by p k o l) (λ e d. (done_decides p k o l).1 (t.0 k h e d)),
    )
  where
    same : (a : Bool) (m n : ℕ) (c : Bool) → (a ≡ true → m ≡ n → c ≡ true) → count_if (a && (eqb m n && c)) ≡ count_if (a && eqb m n)
    same a m n c h = grind (arith, nat_tests)

pub all_kept : (p : Plan) (l : Log) → Lawful p l → Timely p l → kept_in p l ≡ due_in p l
all_kept p l w t = sum_same (size p) (λ k. kept_of p k l) (λ k. due_of p k l) (λ k h. task_kept p k h l w t)

-- ---- the books of a run

pub task_books : (p : Plan) (k : ℕ) (l : Log) → Lawful p l → releases_of k l ≡ due_of p k l + awaits p k l
task_books p k [] w = refl
task_books p k (released j ∷ l) w =
    omega (
      arith,
      releases_at_release k j l,
      due_at_release p k j l w.1,
      task_books p k l w.1,
      anew (eqb j k) (known k l) (age k l) (deadline_of p k) (omega (arith, charge_some p k, charge_in_deadline p k)) (older_due p j k l w.0),
    )
  where
    anew : (b a : Bool) (n d : ℕ) → 0 < d → (b ≡ true → a ≡ true → d ≤ n) → count_if ((b || a) && ltb (cond b 0 n) d) ≡ count_if (a && ltb n d) + count_if b
    anew b a n d h i = grind (arith, nat_tests)
task_books p k (finished j ∷ l) w =
    omega (arith, releases_at_finish k j l, due_at_finish p k j l w.1, task_books p k l w.1)
task_books p k (ran o ∷ l) w =
    omega (arith, releases_at_tick k o l, due_at_tick p k o l w.1, task_books p k l w.1, passes (known k l) (age k l) (deadline_of p k))
  where
    passes : (a : Bool) (n d : ℕ) → count_if (a && ltb n d) ≡ count_if (a && eqb (suc n) d) + count_if (a && ltb (suc n) d)
    passes a n d = grind (arith, nat_tests)

pub clock_ends : (p : Plan) (l : Log) → Lawful p l → now l ≤ clock_end
clock_ends p [] w = omega arith
clock_ends p (released j ∷ l) w = clock_ends p l w.1
clock_ends p (finished j ∷ l) w = clock_ends p l w.1
clock_ends p (ran o ∷ l) w = w.0.0

one_at_most : (b : Bool) → count_if b ≤ 1
one_at_most true = omega arith
one_at_most false = omega arith

pub books : RunsKeepBooks
books p es l run =
    let w : Lawful p l = lawful_run p es l run in
    record {
      lawful = w;
      released_are_due_or_awaited =
          sum_same (size p) (λ k. releases_of k l) (λ k. due_of p k l + awaits p k l) (λ k _. task_books p k l w)
          ∙ sum_add (size p) (λ k. due_of p k l) (λ k. awaits p k l);
      kept_are_due = kept_in_due p l;
      one_job_alive = λ k _. omega (arith, task_books p k l w, one_at_most (known k l && ltb (age k l) (deadline_of p k)));
      clock_ends = clock_ends p l w;
      refused_leaves_log = refused_leaves p es l run;
    }
