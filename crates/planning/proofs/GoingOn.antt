-- The rounds one by one: what is left of planning gives the whole, and the draft so far is sound. Assumes nothing.
use Rattle.std.proofs.Common.{◌≡◌, ℕ, suc, ◌+◌, ◌-◌, ◌*◌, ◌^◌, ◌<◌, ◌≤◌, length, Some, None, Option, sym, ap, ◌∙◌, subst, arith}
use lib.Count.{ones}
use Rattle.std.proofs.lemmas.Nat.{mul-le}
use Rattle.tasks.specs.List.{listed}
use Rattle.tasks.specs.declared.list.TaskList.{TaskList}
use Rattle.planning.specs.Rounds.{round, counted, placed_in, chosen_or, go_on, begun, planned}
use Rattle.planning.specs.declared.rounds.Candidate.{Candidate}
use Rattle.planning.specs.declared.rounds.Draft.{Draft}
use Rattle.planning.specs.declared.rounds.Found.{Found}
use Rattle.tasks.specs.Set.{bit}
use Rattle.tasks.proofs.Reading.{listed_few}
use Rattle.tasks.proofs.SetLaws.{bits_below, bit_zero}
use Rattle.tasks.proofs.SetSizes.{size_ones, ones_none}
use Rattle.planning.specs.Choices.{RoundChooses, Stuck}
use Rattle.planning.specs.Drafts.{Drafted, FewAsked}
use Rattle.planning.proofs.Choosing.{round_chooses, chose_nobody}
use Rattle.planning.proofs.Placing.{drafted_start, few_start, drafted_step, few_step, few_ended}
use Rattle.planning.proofs.Searching.{Chosen, round_chosen, round_questions}

module _ (bound : ℕ → ℕ → Option ℕ) (l : TaskList) where
  -- with m tasks placed, the rounds that are left lead to where planning ends
  abbrev pub Left : ℕ → Draft → Type 0
  Left m d = go_on bound l (length (listed l) - m) (m + 1) d ≡ planned bound l

  pub left_start : Left 0 (begun l)
  unfolding planned
  left_start = ap (λ n. go_on bound l n 1 (begun l)) (omega arith)

  more : (m : ℕ) → m < length (listed l) → length (listed l) - m ≡ suc (length (listed l) - (m + 1))
  more m h = omega arith

  pub left_placed : (m : ℕ) (d : Draft) (f : Found) (c : Candidate) → m < length (listed l) → f ≡ round bound l d.unplaced → f.best ≡ Some c → Left m d → Left (m + 1) (placed_in l (counted d f.questions) c (m + 1))
  unfolding go_on
  left_placed m d f c h e b left =
      let n = length (listed l) - (m + 1) in
      let best : (round bound l d.unplaced).best ≡ Some c = ap (λ g. g.best) (sym e) ∙ b in
      let step : go_on bound l (suc n) (m + 1) d ≡ go_on bound l n (suc (m + 1)) (placed_in l (counted d (round bound l d.unplaced).questions) c (m + 1)) =
      ap (λ o. chosen_or o (counted d (round bound l d.unplaced).questions) (λ x. go_on bound l n (suc (m + 1)) (placed_in l (counted d (round bound l d.unplaced).questions) x (m + 1)))) best in
      let rank : m + 1 + 1 ≡ suc (m + 1) = omega arith in
      (λ i. go_on bound l n (rank i) (placed_in l (counted d (e i).questions) c (m + 1)))
      ∙ sym step ∙ ap (λ k. go_on bound l k (m + 1) d) (sym (more m h)) ∙ left

  pub left_ended : (m : ℕ) (d : Draft) (f : Found) → m < length (listed l) → f ≡ round bound l d.unplaced → f.best ≡ None → Left m d → counted d f.questions ≡ planned bound l
  unfolding go_on
  left_ended m d f h e b left =
      let n = length (listed l) - (m + 1) in
      let best : (round bound l d.unplaced).best ≡ None = ap (λ g. g.best) (sym e) ∙ b in
      let step : go_on bound l (suc n) (m + 1) d ≡ counted d (round bound l d.unplaced).questions =
      ap (λ o. chosen_or o (counted d (round bound l d.unplaced).questions) (λ x. go_on bound l n (suc (m + 1)) (placed_in l (counted d (round bound l d.unplaced).questions) x (m + 1)))) best in
      ap (λ g. counted d g.questions) e ∙ sym step ∙ ap (λ k. go_on bound l k (m + 1) d) (sym (more m h)) ∙ left

  pub left_all : (m : ℕ) (d : Draft) → length (listed l) ≤ m → Left m d → d ≡ planned bound l
  unfolding go_on
  left_all m d h left =
      let none : length (listed l) - m ≡ 0 = omega arith in
      ap (λ k. go_on bound l k (m + 1) d) (sym none) ∙ left

  -- ---- the invariant of the loop over the rounds, with m tasks placed

  pub record Going (m : ℕ) (d : Draft) : Type 0 where
    pub left : Left m d
    pub sound : Drafted bound l m d
    pub few : FewAsked l d

  -- where planning ends
  pub record Ended (d : Draft) : Type 0 where
    pub value : d ≡ planned bound l
    pub drafted : (m : ℕ) × Drafted bound l m d
    pub few : 2 * d.questions ≤ length (listed l) * (length (listed l) + 1)
    pub stuck : Stuck bound d.unplaced

  pub going_start : (d : Draft) → d ≡ begun l → Going 0 d
  going_start d e = subst (Going 0) (sym e) (record { left = left_start; sound = drafted_start bound l; few = few_start bound l })

  module _ (m : ℕ) (d : Draft) (going : Going m d) where
    pub going_listed : (k : ℕ) → bit d.unplaced k ≡ 1 → k < length (listed l)
    going_listed k e = bits_below d.unplaced k (length (listed l)) going.sound.word e

    questions_le : (f : Found) → f ≡ round bound l d.unplaced → f.questions ≤ ones d.unplaced
    questions_le f e =
        omega (arith, ap (λ g. g.questions) e, round_questions bound l d.unplaced, size_ones (length (listed l)) d.unplaced going.sound.word)

    limit : length (listed l) * (length (listed l) + 1) ≤ 32 * 33
    limit = mul-le (length (listed l)) (length (listed l) + 1) 32 33 (listed_few l) (omega (arith, listed_few l))

    pub going_fits : (f : Found) → f ≡ round bound l d.unplaced → d.questions + f.questions < 2 ^ 32
    going_fits f e = omega (arith, limit, few_ended l d f.questions (questions_le f e) going.few)

    pub going_chosen : (f : Found) (c : Candidate) → f ≡ round bound l d.unplaced → f.best ≡ Some c → Chosen bound l d.unplaced c
    going_chosen f c e b = round_chosen bound l d.unplaced c (ap (λ g. g.best) (sym e) ∙ b)

    pub going_placed : (f : Found) (c : Candidate) → m < length (listed l) → f ≡ round bound l d.unplaced → f.best ≡ Some c → Going (m + 1) (placed_in l (counted d f.questions) c (m + 1))
    going_placed f c h e b =
        let chosen = going_chosen f c e b in
        record {
          left = left_placed m d f c h e b going.left;
          sound = drafted_step bound l m d c f.questions going.sound chosen;
          few = few_step bound l m d c f.questions going.sound chosen (questions_le f e) going.few;
        }

    -- the same, after the round that places at the rank r
    pub going_at : (r : ℕ) (f : Found) (c : Candidate) (new : Draft) → r ≡ m + 1 → r ≤ length (listed l) → f ≡ round bound l d.unplaced → f.best ≡ Some c → new ≡ placed_in l (counted d f.questions) c r → Going r new
    going_at r f c new s h e b is =
        subst (Going r) (sym is) (subst (λ j. Going j (placed_in l (counted d f.questions) c j)) (sym s) (going_placed f c (omega (arith, s)) e b))

    -- a round without a candidate alters only the count of the questions
    counted_sound : (q : ℕ) → Drafted bound l m (counted d q)
    counted_sound q =
        let s = going.sound in
        record {
          sized = s.sized;
          word = s.word;
          long = s.long;
          ranked = s.ranked;
          apart = s.apart;
          well = λ k h e. let w = s.well k h e in record { below = w.below; limit = w.limit; asked = w.asked; bounded = w.bounded; covers = w.covers; held = w.held };
        }

    pub going_ended : (f : Found) → m < length (listed l) → f ≡ round bound l d.unplaced → f.best ≡ None → Ended (counted d f.questions)
    going_ended f h e b = record {
      value = left_ended m d f h e b going.left;
      drafted = (m, counted_sound f.questions);
      few = few_ended l d f.questions (questions_le f e) going.few;
      stuck = chose_nobody bound l d.unplaced going_listed (subst (RoundChooses bound l d.unplaced) (ap (λ g. g.best) (sym e) ∙ b) (round_chooses bound l d.unplaced));
    }

    pub going_all : length (listed l) ≤ m → Ended d
    going_all h = record {
      value = left_all m d h going.left;
      drafted = (m, going.sound);
      few = omega (arith, going.few);
      stuck = λ k x i b.
          let none : d.unplaced ≡ 0 = ones_none (length (listed l)) d.unplaced going.sound.word (omega (arith, going.sound.sized)) in
          omega (arith, i, ap (λ s. bit s k) none, bit_zero k);
    }
