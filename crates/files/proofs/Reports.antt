-- The report put together part by part is the report of the plan. Assumes nothing.
use Rattle.std.proofs.Common.{◌≡◌, ℕ, ◌+◌, ◌<◌, cond, ltb, List, [], ◌∷◌, ◌++◌, length, get_or, None, codes, decimal, Option, sym, ap, ◌∙◌, append_assoc, append-nil, add-one, arith}
use Rattle.std.proofs.lemmas.Bool.{cond-true, lt-ltb}
use Rattle.std.proofs.lemmas.List.{get_or-map}
use Rattle.analysis.specs.Response.{response}
use Rattle.planning.specs.Orders.{new_plan_row, no_row}
use Rattle.planning.specs.Plans.{list_of, rows, size, above}
use Rattle.planning.specs.declared.plan.Plan.{Plan}
use Rattle.planning.specs.declared.plan.Row.{Row}
use Rattle.files.specs.Report.{bound_text, line_of, report_line, lines_below, report}

pub line_is : (k : ℕ) (r : Row) (o : Option ℕ) (t t₁ t₂ t₃ t₄ : List ℕ) → t₁ ≡ t ++ (decimal k ++ 32 ∷ []) → t₂ ≡ t₁ ++ (decimal r.rank ++ 32 ∷ []) → t₃ ≡ t₂ ++ (bound_text o ++ 32 ∷ []) → t₄ ≡ t₃ ++ (decimal r.hold ++ 10 ∷ []) → t₄ ≡ t ++ line_of k r o
unfolding line_of
line_is k r o t t₁ t₂ t₃ t₄ e₁ e₂ e₃ e₄ =
    e₄ ∙ ap (λ x. x ++ (decimal r.hold ++ 10 ∷ [])) (e₃ ∙ ap (λ x. x ++ (bound_text o ++ 32 ∷ [])) (e₂ ∙ ap (λ x. x ++ (decimal r.rank ++ 32 ∷ [])) e₁)) ∙ simp append_assoc

-- what a plan says of the task of its row number k
pub line_read : (p : Plan) (k : ℕ) (rs : List Row) (o : Option ℕ) → rs ≡ rows p → k < length rs → o ≡ cond (ltb k (size p)) (response (list_of p) (above p k) k) None → line_of k (get_or rs k no_row) o ≡ report_line p k
line_read p k rs o e h b =
    let within : k < length (rows p) = omega (arith, ap length e) in
    let rank = get_or-map (λ x. x.rank) (rows p) k no_row 0 within in
    let hold = get_or-map (λ x. x.hold) (rows p) k no_row 0 within in
    ap (λ xs. line_of k (get_or xs k no_row) o) e
    ∙ (λ i. line_of k (new_plan_row (sym rank i) (sym hold i)) ((b ∙ cond-true _ _ _ (lt-ltb k (size p) (omega (arith, p.full)))) i))

pub lines_none : (p : Plan) (head : List ℕ) → head ≡ head ++ lines_below p 0
unfolding lines_below
lines_none p head = sym (append-nil head)

pub lines_more : (p : Plan) (k : ℕ) (head t t₁ : List ℕ) → t ≡ head ++ lines_below p k → t₁ ≡ t ++ report_line p k → t₁ ≡ head ++ lines_below p (k + 1)
unfolding lines_below
lines_more p k head t t₁ e f =
    f ∙ ap (λ x. x ++ report_line p k) e ∙ append_assoc head (lines_below p k) (report_line p k) ∙ ap (λ n. head ++ lines_below p n) (sym (add-one k))

pub report_is : (p : Plan) (k q : ℕ) (t t₁ t₂ : List ℕ) → k ≡ size p → t ≡ codes "task rank bound hold\n" ++ lines_below p k → t₁ ≡ t ++ codes "tests " → t₂ ≡ t₁ ++ (decimal q ++ 10 ∷ []) → t₂ ≡ report p q
unfolding report
report_is p k q t t₁ t₂ n e e₁ e₂ =
    e₂ ∙ ap (λ x. x ++ (decimal q ++ 10 ∷ [])) (e₁ ∙ ap (λ x. x ++ codes "tests ") (e ∙ ap (λ j. codes "task rank bound hold\n" ++ lines_below p j) n))
