-- The printed report of a plan.
--
--   bound_text o      a bound in decimal digits, or `-` where there is none
--   line_of k r o     the line of task k with the row r and the bound o: its number, rank, bound and hold
--   report_line p k   the line of task k; its bound is the response below the tasks of greater rank
--   lines_below p k   the lines of the tasks below k
--   report p q        the whole report of the plan p, made with q questions: a header, a line a task in task order, the questions
use Rattle.std.specs.Prelude.{ℕ, zero, suc, List, [], ◌++◌, Some, None, codes, decimal, Option}
use Rattle.analysis.specs.Response.{response}
use Rattle.planning.specs.Orders.{new_plan_row}
use Rattle.planning.specs.Plans.{list_of, size, rank_of, held_for, above}
use Rattle.planning.specs.declared.plan.Plan.{Plan}
use Rattle.planning.specs.declared.plan.Row.{Row}

abbrev pub bound_text : Option ℕ → List ℕ
bound_text None = codes "-"
bound_text (Some b) = decimal b

unfoldable pub line_of : ℕ → Row → Option ℕ → List ℕ
line_of k r o =
    decimal k ++ codes " "
    ++ (decimal r.rank ++ codes " ")
    ++ (bound_text o ++ codes " ")
    ++ (decimal r.hold ++ codes "\n")

abbrev pub report_line : Plan → ℕ → List ℕ
report_line p k = line_of k (new_plan_row (rank_of p k) (held_for p k)) (response (list_of p) (above p k) k)

unfoldable pub lines_below : Plan → ℕ → List ℕ
lines_below p zero = []
lines_below p (suc k) = lines_below p k ++ report_line p k

unfoldable pub report : Plan → ℕ → List ℕ
report p q = codes "task rank bound hold\n" ++ lines_below p (size p) ++ codes "tests " ++ (decimal q ++ codes "\n")
