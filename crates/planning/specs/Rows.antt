-- Plans made row by row.
--
--   used_in rs r                  one of the rows rs has the rank r
--   next_fits l rs k              k is the number of the row after rs, and is listed
--   rank_fits l rs r              r is from 1 to the number of tasks, and none of the rows rs has it
--   may_hold p d h                h is below the deadline d, and 0 if the preference p is ASAP
--   hold_fits l k h               the same of task k
--   plan_row_fault l rs at k r h  what is wrong with the row (k, r, h) after the rows rs, if anything is; the fault names the place `at`
--   RowTaken at k r p q a         taking the row r of task k turns the open plan p into q and answers a; what stands behind the rows
--                                 stays as it was
--   Closed p o                    closing p gives o: none while rows are missing, and else the plan that p is
use Rattle.std.specs.Prelude.{◌≡◌, ℕ, ◌<◌, Bool, true, false, cond, not, ◌&&◌, List, [], ◌∷◌, ◌++◌, length, drop, is_ok, Some, None, Option, Result, MatchOption, MatchResult, ◌==◌, nat_le, nat_lt}
use Rattle.std.specs.List.{list_any}
use Rattle.fixed.specs.FixedVec.{unused}
use Rattle.tasks.specs.List.{listed, task_at}
use Rattle.tasks.specs.declared.list.TaskList.{TaskList}
use Rattle.tasks.specs.declared.task.Preference.{Preference}
use Rattle.tasks.specs.declared.task.Preference.TheVariants.{Asap, Alap}
use Rattle.analysis.specs.Demand.{deadline}
use Rattle.planning.specs.Plans.{open_rows}
use Rattle.planning.specs.declared.fault.RowFault.{RowFault}
use Rattle.planning.specs.declared.fault.RowFault.TheVariants.{WrongTask, WrongRank, WrongHold}
use Rattle.planning.specs.declared.plan.OpenPlan.{OpenPlan}
use Rattle.planning.specs.declared.plan.Plan.{Plan}
use Rattle.planning.specs.declared.plan.Row.{Row}

abbrev pub used_in : List Row → ℕ → Bool
used_in rs r = list_any (λ x. x.rank == r) rs

abbrev pub next_fits : TaskList → List Row → ℕ → Bool
next_fits l rs k = k == length rs && nat_lt k (length (listed l))

abbrev pub rank_fits : TaskList → List Row → ℕ → Bool
rank_fits l rs r = nat_le 1 r && nat_le r (length (listed l)) && not (used_in rs r)

abbrev pub prompt_fits : Preference → ℕ → Bool
prompt_fits Asap h = h == 0
prompt_fits Alap h = true

abbrev pub may_hold : Preference → ℕ → ℕ → Bool
may_hold p d h = nat_lt h d && prompt_fits p h

abbrev pub hold_fits : TaskList → ℕ → ℕ → Bool
hold_fits l k h = may_hold (task_at l k).preference (deadline l (task_at l k)) h

abbrev pub plan_row_fault : TaskList → List Row → ℕ → ℕ → ℕ → ℕ → Option RowFault
plan_row_fault l rs at k r h =
    cond (not (next_fits l rs k)) (Some (WrongTask at))
    (cond (not (rank_fits l rs r)) (Some (WrongRank at))
    (cond (not (hold_fits l k h)) (Some (WrongHold at)) None))

pub record RowTaken (at k : ℕ) (r : Row) (p q : OpenPlan) (answer : Result (Unit {0}) RowFault) : Type 0 where
  pub says : MatchResult answer (λ _. plan_row_fault p.list (open_rows p) at k r.rank r.hold ≡ None) (λ f. plan_row_fault p.list (open_rows p) at k r.rank r.hold ≡ Some f)
  pub list : q.list ≡ p.list
  pub rows : open_rows q ≡ cond (is_ok answer) (open_rows p ++ r ∷ []) (open_rows p)
  pub behind : is_ok answer ≡ true → unused q.rows ≡ drop 1 (unused p.rows)
  pub untouched : is_ok answer ≡ false → q ≡ p

abbrev pub Closed : OpenPlan → Option Plan → Type 0
Closed p o = MatchOption o (length (open_rows p) < length (listed p.list)) (λ q. (length (open_rows p) ≡ length (listed p.list)) × (q.made ≡ p))
