-- The set of the tasks above a rank, bit by bit, and the step of the loop that makes it. Assumes nothing.
use Rattle.std.proofs.Common.{◌≡◌, ℕ, zero, suc, ◌+◌, ◌*◌, ◌/◌, ◌%◌, ◌^◌, ◌<◌, ◌≤◌, Bool, true, false, cond, ltb, List, [], ◌∷◌, ◌++◌, length, get_or, take, sym, ap, ◌∙◌, pow-suc, mul_assoc, one-mul, zero-mul, mod-eq_of_lt, add-one, subst, arith, pow_mono}
use Rattle.std.proofs.lemmas.List.{length-take, length-take-le, take_more, length-map, take_all, get_or-take}
use Rattle.std.proofs.lemmas.Nat.{pow_pos}
use Rattle.std.proofs.lemmas.Bool.{le-ltb, lt-ltb}
use Rattle.tasks.specs.List.{listed}
use Rattle.tasks.specs.Set.{bit}
use Rattle.tasks.specs.declared.list.TaskList.{TaskList}
use Rattle.tasks.proofs.SetLaws.{bits_below, bit_zero}
use Rattle.analysis.specs.Question.{Premises}
use Rattle.planning.specs.Orders.{ranks, above_in}
use Rattle.planning.specs.Plans.{list_of, rows, size, rank_of, above}
use Rattle.planning.specs.declared.plan.Plan.{Plan}

pub flag_le : (b : Bool) → cond b 1 0 ≤ 1
flag_le true = omega arith
flag_le false = omega arith

pub above_word : (xs : List ℕ) (r : ℕ) → above_in xs r < 2 ^ length xs
above_word [] r = omega arith
above_word (x ∷ xs) r = omega (arith, above_word xs r, flag_le (ltb r x), pow-suc 2 (length xs))

pub bit_above : (xs : List ℕ) (r j : ℕ) → bit (above_in xs r) j ≡ cond (ltb r (get_or xs j 0)) 1 0
bit_above [] r j = bit_zero j ∙ ap (λ b. cond b 1 0) (sym (le-ltb r 0 (omega arith)))
bit_above (x ∷ xs) r zero = omega (arith, flag_le (ltb r x))
bit_above (x ∷ xs) r (suc j) =
    let half : (cond (ltb r x) 1 0 + 2 * above_in xs r) / 2 ≡ above_in xs r = omega (arith, flag_le (ltb r x)) in
    ap (λ s. bit s j) half ∙ bit_above xs r j

-- one task more at the end
pub above_more : (xs : List ℕ) (x r : ℕ) → above_in (xs ++ x ∷ []) r ≡ above_in xs r + cond (ltb r x) 1 0 * 2 ^ length xs
above_more [] x r = omega arith
above_more (y ∷ xs) x r =
    let power = ap (λ p. cond (ltb r x) 1 0 * p) (pow-suc 2 (length xs)) in
    omega (arith, above_more xs x r, power, mul_assoc (cond (ltb r x) 1 0) (2 ^ length xs) 2, mul_assoc (cond (ltb r x) 1 0) 2 (2 ^ length xs))

-- the set of the first k of at most 32 tasks, and the next one as a power of two
module _ (xs : List ℕ) (r k set : ℕ) (here : k < length xs) (few : length xs ≤ 32) (so_far : set ≡ above_in (take k xs) r) where
  power : 1 * 2 ^ k % 4294967296 ≡ 2 ^ k
  power =
      let short : k + 1 ≤ 32 = omega (arith, here, few) in
      let below : 2 ^ k < 4294967296 = omega (arith, pow_mono short, pow-suc 2 k, ap (λ j. 2 ^ j) (add-one k), pow_pos k) in
      omega (arith, mod-eq_of_lt below)

  count : length (take k xs) ≡ k
  count = length-take-le k xs (omega (arith, here))

  next : above_in (take (k + 1) xs) r ≡ above_in (take k xs) r + cond (ltb r (get_or xs k 0)) 1 0 * 2 ^ k
  next = ap (λ ys. above_in ys r) (take_more xs k 0 here) ∙ above_more (take k xs) (get_or xs k 0) r ∙ ap (λ n. above_in (take k xs) r + cond (ltb r (get_or xs k 0)) 1 0 * 2 ^ n) count

  pub above_fits : set + 1 * 2 ^ k % 4294967296 < 2 ^ 32
  above_fits =
      let short : k + 1 ≤ 32 = omega (arith, here, few) in
      omega (arith, so_far, power, above_word (take k xs) r, ap (λ n. 2 ^ n) count, pow_mono short, pow-suc 2 k, ap (λ j. 2 ^ j) (add-one k))

  pub above_taken : r < get_or xs k 0 → set + 1 * 2 ^ k % 4294967296 ≡ above_in (take (k + 1) xs) r
  above_taken more = omega (arith, so_far, power, next, ap (λ b. cond b 1 0 * 2 ^ k) (lt-ltb r (get_or xs k 0) more), one-mul (2 ^ k))

  pub above_passed : get_or xs k 0 ≤ r → set ≡ above_in (take (k + 1) xs) r
  above_passed less = omega (arith, so_far, next, ap (λ b. cond b 1 0 * 2 ^ k) (le-ltb r (get_or xs k 0) less), zero-mul (2 ^ k))

-- ---- the ranks of n tasks, and the tasks of rank above r

module _ (n : ℕ) (rs : List ℕ) (r : ℕ) where
  -- bit j: a task below n of rank above r
  pub rank_bit : (j : ℕ) → j < n → bit (above_in (take n rs) r) j ≡ cond (ltb r (get_or rs j 0)) 1 0
  rank_bit j h = bit_above (take n rs) r j ∙ ap (λ x. cond (ltb r x) 1 0) (get_or-take n rs j 0 h)

  pub rank_more : (j : ℕ) → j < n → r < get_or rs j 0 → bit (above_in (take n rs) r) j ≡ 1
  rank_more j h more = rank_bit j h ∙ ap (λ b. cond b 1 0) (lt-ltb r (get_or rs j 0) more)

  pub rank_less : (j : ℕ) → j < n → get_or rs j 0 ≤ r → bit (above_in (take n rs) r) j ≡ 0
  rank_less j h less = rank_bit j h ∙ ap (λ b. cond b 1 0) (le-ltb r (get_or rs j 0) less)

  pub rank_below : above_in (take n rs) r < 2 ^ n
  rank_below =
      let few : length (take n rs) ≤ n = omega (arith, length-take n rs) in
      omega (arith, above_word (take n rs) r, pow_mono few)

-- the question about a task below the tasks of greater rank is well put
pub rank_premises : (l : TaskList) (rs : List ℕ) (k : ℕ) → k < length (listed l) → Premises l (above_in (take (length (listed l)) rs) (get_or rs k 0)) k
rank_premises l rs k h =
    let n = length (listed l) in
    let own = get_or rs k 0 in
    record {
      listed_task = h;
      listed_set = λ j e. bits_below (above_in (take n rs) own) j n (rank_below n rs own) e;
      apart = rank_less n rs own k h (omega arith);
    }

-- ---- the same of a plan

module _ (p : Plan) where
  pub long : length (ranks (rows p)) ≡ size p
  long = length-map (rows p) (λ r. r.rank) ∙ p.full

  all : take (size p) (ranks (rows p)) ≡ ranks (rows p)
  all = take_all (size p) (ranks (rows p)) (omega (arith, long))

  -- bit j of the tasks above k: a task of greater rank
  pub above_bit : (k j : ℕ) → bit (above p k) j ≡ cond (ltb (rank_of p k) (rank_of p j)) 1 0
  unfolding above
  above_bit k j = bit_above (ranks (rows p)) (rank_of p k) j

  pub above_below : (k : ℕ) → above p k < 2 ^ size p
  unfolding above
  above_below k = subst (λ n. above_in (ranks (rows p)) (rank_of p k) < 2 ^ n) long (above_word (ranks (rows p)) (rank_of p k))

  pub above_premises : (k : ℕ) → k < size p → Premises (list_of p) (above p k) k
  unfolding above
  above_premises k h = subst (λ rs. Premises (list_of p) (above_in rs (rank_of p k)) k) all (rank_premises (list_of p) (ranks (rows p)) k h)
