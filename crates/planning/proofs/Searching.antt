-- What a search and a round find: a best candidate is a task of the set with the test's own bound, and the questions of both searches
-- are as many as the set has tasks, since every task has one of the two preferences. Assumes nothing.
use Rattle.std.proofs.Common.{◌≡◌, ℕ, zero, suc, ◌+◌, ◌-◌, ◌<◌, ◌≤◌, Bool, true, false, cond, ◌&&◌, eqb, ltb, ◌⊎◌, length, is_some, Some, None, Option, sym, refl, ap, ◌∙◌, subst, inl, inr, ⊎_elim, add-one, arith}
use denote.Enum.Bare.{sameb}
use Rattle.std.proofs.lemmas.Bool.{cases_Bool, cases_eq, cond-true, cond-false, and_parts, eqb-true, cases_cond}
use Rattle.std.proofs.lemmas.Bool.Decides.{nat_tests}
use Rattle.tasks.specs.List.{listed, task_at}
use Rattle.tasks.specs.Set.{bit, without}
use Rattle.tasks.specs.declared.list.TaskList.{TaskList}
use Rattle.tasks.specs.contracts.task.Preference.{the_type}
use Rattle.tasks.specs.declared.task.Preference.{Preference}
use Rattle.tasks.specs.declared.task.Preference.TheVariants.{Asap, Alap}
use Rattle.tasks.specs.declared.task.Task.{Task}
use Rattle.tasks.proofs.SetLaws.{bit_le, bit_without_same, bit_without_other}
use Rattle.tasks.proofs.SetSizes.{size_below, size_le}
use Rattle.analysis.specs.Demand.{deadline}
use Rattle.analysis.specs.Question.{Premises}
use Rattle.planning.specs.Rounds.{prefers, asks, candidate, better, considered, search_below, search, round}
use Rattle.planning.specs.declared.rounds.Candidate.{Candidate}
use Rattle.planning.specs.declared.rounds.Found.{Found}

-- c is a task of U, with the bound that the test has for it below the others
pub record Chosen (bound : ℕ → ℕ → Option ℕ) (l : TaskList) (U : ℕ) (c : Candidate) : Type 0 where
  pub in_set : bit U c.task ≡ 1
  pub bounded : bound (without U c.task) c.task ≡ Some c.bound
  pub slack_is : c.slack ≡ deadline l (task_at l c.task) - c.bound

better_some : (old new : Option Candidate) (c : Candidate) → better old new ≡ Some c → (old ≡ Some c) ⊎ (new ≡ Some c)
better_some None new c e = inr e
better_some (Some old) None c e = inl e
better_some (Some old) (Some new) c e = ⊎_elim (λ a. inr (sym a)) (λ a. inl (sym a)) (cases_cond (ltb old.slack new.slack) (Some new) (Some old) (Some c) (sym e))

candidate_some : (bound : ℕ → ℕ → Option ℕ) (l : TaskList) (U k : ℕ) (o : Option ℕ) (c : Candidate) → bit U k ≡ 1 → bound (without U k) k ≡ o → candidate l k o ≡ Some c → Chosen bound l U c
candidate_some bound l U k None c i b e = cc
candidate_some bound l U k (Some x) c i b e =
    let made : Candidate = record { task = k; bound = x; slack = deadline l (task_at l k) - x } in
    let same : made ≡ c = cc in
    subst (Chosen bound l U) same (record { in_set = i; bounded = b; slack_is = refl })

-- one question more where it is put
pub one_more : (b : Bool) (f : Found) (c : Option Candidate) → (cond b (considered f c) f).questions ≡ f.questions + cond b 1 0
one_more true f c = refl
one_more false f c = omega arith

module _ (bound : ℕ → ℕ → Option ℕ) (l : TaskList) (U : ℕ) where
  pub search_chosen : (p : Preference) (k : ℕ) (c : Candidate) → (search_below bound l p U k).best ≡ Some c → Chosen bound l U c
  unfolding search_below
  search_chosen p zero c e = cc
  search_chosen p (suc k) c e =
      ⊎_elim
      (λ (asked : asks l p U k ≡ true).
      let now = ap (λ f. f.best) (sym (cond-true (asks l p U k) (considered (search_below bound l p U k) (candidate l k (bound (without U k) k))) (search_below bound l p U k) asked)) ∙ e in
      ⊎_elim (search_chosen p k c) (candidate_some bound l U k _ c (eqb-true (bit U k) 1 (and_parts _ _ asked).0) refl) (better_some _ _ c now))
      (λ (passed : asks l p U k ≡ false).
      search_chosen p k c (ap (λ f. f.best) (sym (cond-false (asks l p U k) (considered (search_below bound l p U k) (candidate l k (bound (without U k) k))) (search_below bound l p U k) passed)) ∙ e))
      (cases_Bool (asks l p U k))

  -- every task of the set is asked about by one of the two searches
  one_asks : (b : ℕ) (q : Preference) → b ≤ 1 → cond (eqb b 1 && prefers Alap q) 1 0 + cond (eqb b 1 && prefers Asap q) 1 0 ≡ b
  one_asks b Asap h = grind (arith, nat_tests)
  one_asks b Alap h = grind (arith, nat_tests)

  pub search_questions : (k : ℕ) → (search_below bound l Alap U k).questions + (search_below bound l Asap U k).questions ≡ size_below U k
  unfolding search_below
  search_questions zero = refl
  search_questions (suc k) =
      omega (
        arith,
        search_questions k,
        one_asks (bit U k) (task_at l k).preference (bit_le U k),
        one_more (asks l Alap U k) (search_below bound l Alap U k) (candidate l k (bound (without U k) k)),
        one_more (asks l Asap U k) (search_below bound l Asap U k) (candidate l k (bound (without U k) k)),
      )

  search_few : (p : Preference) (k : ℕ) → (search_below bound l p U k).questions ≤ k
  search_few Alap k = omega (arith, search_questions k, size_le U k)
  search_few Asap k = omega (arith, search_questions k, size_le U k)

  pub found_few : (p : Preference) (k : ℕ) (f : Found) → f ≡ search_below bound l p U k → f.questions ≤ k
  found_few p k f e = omega (arith, ap (λ g. g.questions) e, search_few p k)

  pub round_chosen : (c : Candidate) → (round bound l U).best ≡ Some c → Chosen bound l U c
  unfolding round
  round_chosen c e =
      ⊎_elim
      (λ (late : is_some (search bound l Alap U).best ≡ true).
      search_chosen Alap (length (listed l)) c (ap (λ f. f.best) (sym (cond-true _ (search bound l Alap U) _ late)) ∙ e))
      (λ (none : is_some (search bound l Alap U).best ≡ false).
      search_chosen Asap (length (listed l)) c (ap (λ f. f.best) (sym (cond-false _ (search bound l Alap U) _ none)) ∙ e))
      (cases_Bool (is_some (search bound l Alap U).best))

  -- a round puts at most one question about each task of the set
  pub round_questions : (round bound l U).questions ≤ size_below U (length (listed l))
  unfolding round
  round_questions =
      let all = search_questions (length (listed l)) in
      ⊎_elim
      (λ (late : is_some (search bound l Alap U).best ≡ true).
      omega (arith, ap (λ f. f.questions) (cond-true _ (search bound l Alap U) (record { questions = (search bound l Alap U).questions + (search bound l Asap U).questions; best = (search bound l Asap U).best }) late)))
      (λ (none : is_some (search bound l Alap U).best ≡ false).
      omega (arith, ap (λ f. f.questions) (cond-false _ (search bound l Alap U) (record { questions = (search bound l Alap U).questions + (search bound l Asap U).questions; best = (search bound l Asap U).best }) none)))
      (cases_Bool (is_some (search bound l Alap U).best))

  -- ---- the steps of the code

  pub search_none : (p : Preference) → record { questions = 0; best = None } ≡ search_below bound l p U 0
  unfolding search_below
  search_none p = refl

  pub search_asked : (p : Preference) (k : ℕ) (f new : Found) (c : Option Candidate) → f ≡ search_below bound l p U k → asks l p U k ≡ true → c ≡ candidate l k (bound (without U k) k) → new ≡ considered f c → new ≡ search_below bound l p U (k + 1)
  unfolding search_below
  search_asked p k f new c e a h n =
      n ∙ (λ i. considered (e i) (h i)) ∙ sym (cond-true (asks l p U k) _ _ a) ∙ ap (search_below bound l p U) (sym (add-one k))

  pub search_passed : (p : Preference) (k : ℕ) (f : Found) → f ≡ search_below bound l p U k → asks l p U k ≡ false → f ≡ search_below bound l p U (k + 1)
  unfolding search_below
  search_passed p k f e a = e ∙ sym (cond-false (asks l p U k) _ _ a) ∙ ap (search_below bound l p U) (sym (add-one k))

  pub round_late : (f : Found) → f ≡ search bound l Alap U → is_some f.best ≡ true → f ≡ round bound l U
  unfolding round
  round_late f e t = e ∙ sym (cond-true _ _ _ (ap (λ g. is_some g.best) (sym e) ∙ t))

  pub round_soon : (f g : Found) → f ≡ search bound l Alap U → g ≡ search bound l Asap U → is_some f.best ≡ false → record { questions = f.questions + g.questions; best = g.best } ≡ round bound l U
  unfolding round
  round_soon f g e h t =
      (λ i. record { questions = (e i).questions + (h i).questions; best = (h i).best })
      ∙ sym (cond-false _ _ _ (ap (λ g. is_some g.best) (sym e) ∙ t))

-- the question about a task of a listed set, below the others, is well put
pub premised_without : (l : TaskList) (U k : ℕ) → ((j : ℕ) → bit U j ≡ 1 → j < length (listed l)) → k < length (listed l) → Premises l (without U k) k
premised_without l U k all h = record {
  listed_task = h;
  listed_set = λ j e.
      ⊎_elim
      (λ (same : j ≡ k). absurd (omega (arith, e, ap (λ m. bit (without U k) m) same, bit_without_same U k)))
      (λ (other : j ≡ k → ⊥). all j (sym (bit_without_other U k j other) ∙ e))
      (cases_eq j k);
  apart = bit_without_same U k;
}

-- the candidate that the code makes of the answer b to the question about task k, whose deadline leaves the slack s
pub candidate_is : (bound : ℕ → ℕ → Option ℕ) (l : TaskList) (U k b s set : ℕ) (x : Task) → set ≡ without U k → Some b ≡ bound set k → x ≡ task_at l k → s ≡ deadline l x - b → Some (record { task = k; bound = b; slack = s }) ≡ candidate l k (bound (without U k) k)
candidate_is bound l U k b s set x below e read h =
    (λ i. Some (record { task = k; bound = b; slack = (h ∙ ap (λ t. deadline l t - b) read) i })) ∙ ap (candidate l k) (e ∙ ap (λ u. bound u k) below)

-- what `==` on preferences tells
prefers_is : (q p : Preference) → sameb the_type q p ≡ prefers p q
prefers_is Asap Asap = refl
prefers_is Asap Alap = refl
prefers_is Alap Asap = refl
prefers_is Alap Alap = refl

-- what the code asks before it puts a question
pub asked_is : (l : TaskList) (p : Preference) (U k : ℕ) (x : Task) (h b : Bool) → x ≡ task_at l k → h ≡ eqb (bit U k) 1 → b ≡ sameb the_type x.preference p → (h && b) ≡ asks l p U k
asked_is l p U k x h b read e same = (λ i. e i && (same ∙ prefers_is x.preference p ∙ ap (λ t. prefers p t.preference) read) i)
