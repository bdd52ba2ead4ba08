-- What the program's input comes to, from what reading and planning answered. Assumes nothing.
use Rattle.std.proofs.Common.{◌≡◌, ℕ, true, false, eqb, List, Ok, Err, Result, sym, refl, ap, ◌∙◌, subst, ⊎_elim, MatchResult}
use Rattle.std.proofs.lemmas.Bool.{cases_Bool, cond-true, cond-false, eqb-true, eqb-false}
use Rattle.tasks.specs.List.{rows, listed}
use Rattle.tasks.specs.declared.list.TaskList.{TaskList}
use Rattle.analysis.specs.Response.{response}
use Rattle.planning.specs.Faults.{plan_refusal}
use Rattle.planning.specs.Planning.{tally, answered, Written}
use Rattle.planning.specs.declared.fault.PlanFault.{PlanFault}
use Rattle.planning.specs.declared.fault.PlanFault.TheVariants.{LeftOver}
use Rattle.planning.specs.declared.fault.Tally.{Tally}
use Rattle.planning.specs.declared.plan.Plan.{Plan}
use Rattle.files.specs.ListFiles.{decoded}
use Rattle.files.specs.Faults.{list_refusal}
use Rattle.files.specs.Program.{Verdict, planned, refused, OfList, OfBytes}

-- an answer with a tally says that nothing is left over; a fault, that something is
answered_ok : (t u : Tally) → Ok t ≡ answered u → (u.left ≡ 0) × (t ≡ u)
answered_ok t u e =
    ⊎_elim
    (λ (none : eqb u.left 0 ≡ true).
    let both : Ok t ≡ Ok u = e ∙ cond-true (eqb u.left 0) (Ok u) (Err (LeftOver u)) none in
    let same : t ≡ u = cc in
    (eqb-true u.left 0 none, same))
    (λ (some : eqb u.left 0 ≡ false).
    let clash : Ok t ≡ Err (LeftOver u) = e ∙ cond-false (eqb u.left 0) (Ok u) (Err (LeftOver u)) some in
    cc)
    (cases_Bool (eqb u.left 0))

answered_err : (f : PlanFault) (u : Tally) → Err f ≡ answered u → (u.left ≡ 0 → ⊥) × (f ≡ LeftOver u)
answered_err f u e =
    ⊎_elim
    (λ (none : eqb u.left 0 ≡ true).
    let clash : Err f ≡ Ok u = e ∙ cond-true (eqb u.left 0) (Ok u) (Err (LeftOver u)) none in
    cc)
    (λ (some : eqb u.left 0 ≡ false).
    let both : ◌≡◌ {A = Result Tally PlanFault} (Err f) (Err (LeftOver u)) = e ∙ cond-false (eqb u.left 0) (Ok u) (Err (LeftOver u)) some in
    let same : f ≡ LeftOver u = cc in
    (eqb-false u.left 0 some, same))
    (cases_Bool (eqb u.left 0))

of_list : (bs : List ℕ) (l : TaskList) (v : Verdict) → decoded bs ≡ Ok (rows (listed l)) → OfList l v → OfBytes bs v
of_list bs l v e h = subst (λ d. MatchResult d (λ rs. (k : TaskList) × (rows (listed k) ≡ rs) × OfList k v) (λ f. v ≡ refused (list_refusal f))) (sym e) (l, refl, h)

pub of_plan : (bs : List ℕ) (l : TaskList) (p : Plan) (t : Tally) → decoded bs ≡ Ok (rows (listed l)) → Ok t ≡ answered (tally (response l) l) → Written (response l) l p → OfBytes bs (planned p t.questions)
of_plan bs l p t e a w =
    let s = answered_ok t (tally (response l) l) a in
    of_list bs l (planned p t.questions) e (s.0, w, ap (λ u. u.questions) s.1)

pub of_left : (bs : List ℕ) (l : TaskList) (f : PlanFault) → decoded bs ≡ Ok (rows (listed l)) → Err f ≡ answered (tally (response l) l) → OfBytes bs (refused (plan_refusal f))
of_left bs l f e a =
    let s = answered_err f (tally (response l) l) a in
    of_list bs l (refused (plan_refusal f)) e (s.0, ap plan_refusal s.1)
