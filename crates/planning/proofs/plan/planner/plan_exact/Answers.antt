use Rattle.planning.proofs.SameRows.{planned_same}
use Rattle.planning.proofs.plan.planner.plan_exact.Goals as goal

pub returns : goal.returns
returns c =
    let told = c.plan.ensures in
    record {
      answer = told.answer;
      rounds_by_the_rules = told.rounds_by_the_rules;
      written = told.written;
      untouched = told.untouched;
      judged_yes = told.judged_yes;
      left_over_have_no_bound = told.left_over_have_no_bound;
      few_questions = told.few_questions;
      rows_decide = λ m e. planned_same m c.args.list.now e;
      placed_and_left_are_all = told.placed_and_left_are_all;
    }
