use Rattle.std.proofs.Common.{length, take, sym, refl, ap, ◌∙◌, subst}
use Rattle.std.proofs.lemmas.Bool.{true≢false, false≢true}
use Rattle.tasks.specs.List.{listed}
use Rattle.planning.specs.Orders.{RowsKeep}
use Rattle.planning.proofs.Choosing.{rounds_by_the_rules}
use Rattle.planning.proofs.Finishing.{finished_count, finished_keep, finished_fits, answer_ok, answer_left, tally_few, tally_whole, tally_stuck}
use Rattle.planning.proofs.plan.planner.plan.Goals as goal

pub invariant_of-made : goal.invariant_of-made
invariant_of-made g c =
    let l = c.args.list.now in
    let law = g.met.T.Test.sound c.args.test.now l in
    let drafted = c.rounds-draft.ensures.drafted in
    let keep = finished_keep (g.T.Test.bound c.args.test.now l) l drafted.0 c.rounds-draft.result drafted.1 c.if-left-ne0.false law in
    record { keep = subst (RowsKeep l) (sym (c.first_of.ensures.elements ∙ ap (λ n. take n c.rounds-draft.result.rows) c.len-2.ensures)) keep }

pub invariant_of-place : goal.invariant_of-place
invariant_of-place g c =
    let l = c.args.list.now in
    let drafted = c.rounds-draft.ensures.drafted in
    let count = finished_count (g.T.Test.bound c.args.test.now l) l drafted.0 c.rounds-draft.result drafted.1 c.if-left-ne0.false in
    record { full = ap length (c.first_of.ensures.elements ∙ ap (λ n. take n c.rounds-draft.result.rows) c.len-2.ensures) ∙ count }

pub returns-then-left-ne0 : goal.returns-then-left-ne0
returns-then-left-ne0 g c =
    let l = c.args.list.now in
    let bound = g.T.Test.bound c.args.test.now l in
    let d = c.rounds-draft.result in
    let ended = c.rounds-draft.ensures in
    record {
      answer = answer_left bound l d ended.value c.len.result c.len.ensures c.if-left-ne0.true;
      rounds_by_the_rules = rounds_by_the_rules bound l;
      written = λ e. absurd (false≢true e);
      untouched = λ _. refl;
      judged_yes = λ e. absurd (false≢true e);
      left_over_have_no_bound = tally_stuck bound l d ended.value ended.stuck;
      few_questions = tally_few bound l d ended.value ended.few;
      placed_and_left_are_all = tally_whole bound l d ended.value ended.drafted.0 ended.drafted.1;
    }

pub returns : goal.returns
returns g c =
    let l = c.args.list.now in
    let bound = g.T.Test.bound c.args.test.now l in
    let d = c.rounds-draft.result in
    let law = g.met.T.Test.sound c.args.test.now l in
    let ended = c.rounds-draft.ensures in
    record {
      answer = answer_ok bound l d ended.value c.len.result c.len.ensures c.if-left-ne0.false;
      rounds_by_the_rules = rounds_by_the_rules bound l;
      written = λ _. record { list = refl; rows = (c.first_of.ensures.elements ∙ ap (λ n. take n c.rounds-draft.result.rows) c.len-2.ensures) ∙ ap (λ x. take (length (listed l)) x.rows) ended.value; places = c.first_of.ensures.places ∙ ap (λ x. x.rows) ended.value };
      untouched = λ e. absurd (true≢false e);
      judged_yes = λ _. finished_fits bound _ ended.drafted.0 d ended.drafted.1 law (c.first_of.ensures.elements ∙ ap (λ n. take n c.rounds-draft.result.rows) c.len-2.ensures) c.if-left-ne0.false;
      left_over_have_no_bound = tally_stuck bound l d ended.value ended.stuck;
      few_questions = tally_few bound l d ended.value ended.few;
      placed_and_left_are_all = tally_whole bound l d ended.value ended.drafted.0 ended.drafted.1;
    }
