-- The limits that every plan keeps, in the words that runs use: of each task its charge, deadline, period and hold, and that no two
-- listed tasks have one rank. Assumes nothing.
use Rattle.std.proofs.Common.{◌≡◌, ℕ, ◌<◌, ◌≤◌, length, arith}
use Rattle.tasks.specs.List.{task_at}
use Rattle.planning.specs.Plans.{list_of, rows, size, rank_of, held_for, charge_of, deadline_of, period_of}
use Rattle.planning.specs.declared.plan.Plan.{Plan}

module _ (p : Plan) where
  has_row : (k : ℕ) → k < size p → k < length (rows p)
  has_row k h = omega (arith, p.full)

  pub charge_some : (k : ℕ) → 1 ≤ charge_of p k
  charge_some k = omega (arith, (task_at (list_of p) k).limits)

  pub charge_in_deadline : (k : ℕ) → charge_of p k ≤ deadline_of p k
  charge_in_deadline k = omega (arith, (task_at (list_of p) k).limits)

  pub deadline_in_period : (k : ℕ) → deadline_of p k ≤ period_of p k
  deadline_in_period k = omega arith

  pub period_short : (k : ℕ) → period_of p k ≤ 60000
  period_short k = omega (arith, (task_at (list_of p) k).limits)

  pub hold_in_deadline : (k : ℕ) → k < size p → held_for p k < deadline_of p k
  hold_in_deadline k h = p.made.keep.held k (has_row k h)

  pub ranks_apart : (j k : ℕ) → j < size p → k < size p → rank_of p j ≡ rank_of p k → j ≡ k
  ranks_apart j k h i e = p.made.keep.apart j k (has_row j h, has_row k i, e)
