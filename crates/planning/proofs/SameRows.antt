-- Lists with the same rows get the same plan by the exact test: everything that planning reads of a list is in its rows.
-- Assumes nothing.
use Rattle.std.proofs.Common.{◌≡◌, ℕ, zero, suc, ◌+◌, ◌-◌, ◌*◌, ◌/◌, ◌%◌, cond, ◌&&◌, eqb, leb, List, [], ◌∷◌, map, length, get_or, set, replicate, Some, None, Option, sym, refl, ap, ◌∙◌, arith}
use Rattle.std.proofs.lemmas.List.{length-map}
use Rattle.tasks.specs.List.{row, rows, listed, task_at, filler}
use Rattle.tasks.specs.Set.{bit, without, first_set}
use Rattle.tasks.specs.Task.{preference_number}
use Rattle.tasks.specs.declared.list.TaskList.{TaskList}
use Rattle.tasks.specs.declared.task.Preference.{Preference}
use Rattle.tasks.specs.declared.task.Preference.TheVariants.{Asap, Alap}
use Rattle.tasks.specs.declared.task.Task.{Task}
use Rattle.analysis.specs.Demand.{ceil, load, demand}
use Rattle.analysis.specs.Response.{least, response}
use Rattle.planning.specs.Orders.{new_plan_row, no_row}
use Rattle.planning.specs.Rounds.{prefers, candidate, considered, search_below, search, joined, round, hold_by, counted, placed_in, chosen_or, go_on, begun, planned}
use Rattle.planning.specs.declared.rounds.Candidate.{Candidate}
use Rattle.planning.specs.declared.rounds.Draft.{Draft}

same_number : (p q : Preference) → preference_number p ≡ preference_number q → p ≡ q
same_number Asap Asap e = refl
same_number Asap Alap e = absurd (omega arith)
same_number Alap Asap e = absurd (omega arith)
same_number Alap Alap e = refl

row_at : (xs : List Task) (k : ℕ) → row (get_or xs k filler) ≡ get_or (map row xs) k (row filler)
row_at [] k = refl
row_at (x ∷ xs) zero = refl
row_at (x ∷ xs) (suc k) = row_at xs k

module _ (l m : TaskList) (same : rows (listed l) ≡ rows (listed m)) where
  size : length (listed l) ≡ length (listed m)
  size = sym (length-map (listed l) row) ∙ ap length same ∙ length-map (listed m) row

  at : (k : ℕ) → row (task_at l k) ≡ row (task_at m k)
  unfolding task_at
  at k = row_at (listed l) k ∙ ap (λ rs. get_or rs k (row filler)) same ∙ sym (row_at (listed m) k)

  preference : (k : ℕ) → (task_at l k).preference ≡ (task_at m k).preference
  preference k = same_number _ _ (ap (λ r. r.preference) (at k))

  -- ---- demand and response

  load_same : (xs ys : List Task) (S t : ℕ) → rows xs ≡ rows ys → load l xs S t ≡ load m ys S t
  unfolding load
  load_same [] [] S t e = refl
  load_same [] (y ∷ ys) S t e = cc
  load_same (x ∷ xs) [] S t e = cc
  load_same (x ∷ xs) (y ∷ ys) S t e =
      let first : row x ≡ row y = cc in
      let rest : rows xs ≡ rows ys = cc in
      (λ i. S % 2 * ((first i).cost * ceil t (first i).period) + load_same xs ys (S / 2) t rest i)

  demand_same : (S i t : ℕ) → demand l S i t ≡ demand m S i t
  unfolding demand
  demand_same S k t = (λ i. (at k i).cost + load_same (listed l) (listed m) S t same i)

  pub response_same : response l ≡ response m
  unfolding response
  response_same = (λ i S k. least (λ t. leb (demand_same S k t i) t) 1 (at k i).period)

  -- ---- rounds

  module _ (bound : ℕ → ℕ → Option ℕ) where
    candidate_same : (k : ℕ) (o : Option ℕ) → candidate l k o ≡ candidate m k o
    candidate_same k None = refl
    candidate_same k (Some b) = (λ i. Some (record { task = k; bound = b; slack = (at k i).period - b }))

    search_same : (p : Preference) (U k : ℕ) → search_below bound l p U k ≡ search_below bound m p U k
    unfolding search_below
    search_same p U zero = refl
    search_same p U (suc k) =
        (λ i. cond (eqb (bit U k) 1 && prefers p (preference k i))
        (considered (search_same p U k i) (candidate_same k (bound (without U k) k) i))
        (search_same p U k i))

    round_same : (U : ℕ) → round bound l U ≡ round bound m U
    unfolding round
    round_same U =
        let late : search bound l Alap U ≡ search bound m Alap U = search_same Alap U (length (listed l)) ∙ ap (search_below bound m Alap U) size in
        let soon : search bound l Asap U ≡ search bound m Asap U = search_same Asap U (length (listed l)) ∙ ap (search_below bound m Asap U) size in
        (λ i. joined (late i) (soon i))

    placed_same : (d : Draft) (c : Candidate) (r : ℕ) → placed_in l d c r ≡ placed_in m d c r
    placed_same d c r =
        (λ i. record { unplaced = without d.unplaced c.task; questions = d.questions; rows = set d.rows c.task (new_plan_row r (hold_by (preference c.task i) c.slack)) })

    go_on_same : (n r : ℕ) (d : Draft) → go_on bound l n r d ≡ go_on bound m n r d
    unfolding go_on
    go_on_same zero r d = refl
    go_on_same (suc n) r d =
        let next : (f : ℕ) (c : Candidate) → go_on bound l n (suc r) (placed_in l (counted d f) c r) ≡ go_on bound m n (suc r) (placed_in m (counted d f) c r) =
        λ f c. go_on_same n (suc r) (placed_in l (counted d f) c r) ∙ ap (go_on bound m n (suc r)) (placed_same (counted d f) c r) in
        let q = (round bound l d.unplaced).questions in
        let o = (round bound l d.unplaced).best in
        let whole : chosen_or o (counted d q) (λ c. go_on bound l n (suc r) (placed_in l (counted d q) c r)) ≡ chosen_or o (counted d q) (λ c. go_on bound m n (suc r) (placed_in m (counted d q) c r)) =
        (λ i. chosen_or o (counted d q) (λ c. next q c i)) in
        whole
        ∙ (λ i. chosen_or (round_same d.unplaced i).best (counted d (round_same d.unplaced i).questions) (λ c. go_on bound m n (suc r) (placed_in m (counted d (round_same d.unplaced i).questions) c r)))

    planned_by : planned bound l ≡ planned bound m
    unfolding planned
    planned_by =
        go_on_same (length (listed l)) 1 (begun l)
        ∙ (λ i. go_on bound m (size i) 1 (record { unplaced = first_set (size i); questions = 0; rows = replicate 32 no_row }))

  pub planned_same : planned (response l) l ≡ planned (response m) m
  planned_same = planned_by (response l) ∙ ap (λ b. planned b m) response_same
