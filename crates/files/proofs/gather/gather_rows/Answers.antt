use Rattle.std.proofs.Common.{◌≡◌, length, ap, ◌∙◌, sym, subst, arith}
use Rattle.std.proofs.lemmas.Result.{err_from_is_err_and}
use Rattle.files.specs.Decoding.{takes}
use Rattle.files.specs.Format.{is_end, view}
use Rattle.files.specs.Reading.{Shown}
use Rattle.files.specs.declared.record.Record.{Record}
use Rattle.files.proofs.Decodes.{starts, going_on, place_within, head_refused, record_refused, ended, shown_is, not_end, adds_only}
use Rattle.files.proofs.gather.gather_rows.Goals as goal
use Rattle.files.proofs.gather.gather_rows.Goals.{In-Some, In_default-record}

-- the record of this turn
shown : (g : _) (c : goal.In-Some g) → Shown c.loop-at.reader c.next.new.self c.in-Some.at (view c.in-Some.record)
shown g c = shown_is c.loop-at.reader c.next.new.self c.in_ok-at.field-0 c.in-Some.at c.in-Some.record c.in-Some.is c.in_ok-at.ensures

pub loop-at-init : goal.loop-at-init
loop-at-init g c =
    let r = g.G.Gather.rules c.args.into.now in
    (starts r c.args.bytes.now c.new-reader.result c.kind.result _ c.requires.short c.new-reader.ensures c.kind.ensures c.requires.none, g.met.G.Gather.same c.args.into.now)

pub returns-in_err-at-clause-ends : goal.returns-in_err-at-clause-ends
returns-in_err-at-clause-ends g c =
    let p = err_from_is_err_and c.from_residual.result c.from_residual.ensures.1 in
    let h = c.in_err-at.ensures.answered in
    rw (p.1, p.2) (head_refused (g.G.Gather.rules c.args.into.now) c.args.bytes.now c.loop-at.reader _ c.in_err-at.field-0.0 c.loop-at.invariant.0 h.fault)

pub loop-at-preserved-in-Note : goal.loop-at-preserved-in-Note
loop-at-preserved-in-Note g c =
    let r = g.G.Gather.rules c.args.into.now in
    let rs = g.G.Gather.rows c.loop-at.into in
    let h = shown g (goal.at.loop-at-preserved-in-Note g c).In-Some in
    let note = c.in-Note.is in (
      going_on r _ _ _ rs rs _ _ c.loop-at.invariant.0 h c.in_ok-at.ensures.file (ap (λ x. is_end (view x)) note) (ap (λ x. takes r (length c.args.bytes.now) c.in-Some.at rs (view x)) note),
      c.loop-at.invariant.1,
    )

pub returns-in-End-clause-ends : goal.returns-in-End-clause-ends
returns-in-End-clause-ends g c =
    let r = g.G.Gather.rules c.args.into.now in
    let h = shown g (goal.at.returns-in-End-clause-ends g c).In-Some in
    let w = place_within r _ _ _ _ _ _ c.loop-at.invariant.0 h in (
      omega arith,
      ended r _ c.loop-at.reader c.next.new.self _ c.in-Some.at c.in-End.count c.loop-at.invariant.0 (subst (λ (x : Record). Shown c.loop-at.reader c.next.new.self c.in-Some.at (view x)) c.in-End.is h),
    )

-- what it does, by the rules at the start
taking : (g : _) (c : goal.In_default-record g) → takes (g.G.Gather.rules c.args.into.now) (length c.args.bytes.now) c.in-Some.at (g.G.Gather.rows c.loop-at.into) (view c.in-Some.record) ≡ (g.G.Gather.rules c.loop-at.into).adds c.in-Some.at (g.G.Gather.rows c.loop-at.into) (view c.in-Some.record)
taking g c =
    adds_only (g.G.Gather.rules c.args.into.now) (length c.args.bytes.now) c.in-Some.at _ c.in-Some.record c.in_default-record.not-Note c.in_default-record.not-End
    ∙ ap (λ r. r.adds c.in-Some.at (g.G.Gather.rows c.loop-at.into) (view c.in-Some.record)) (sym (g.met.G.Gather.same_rules c.args.into.now c.loop-at.into c.loop-at.invariant.1))

pub loop-at-preserved : goal.loop-at-preserved
loop-at-preserved g c =
    let r = g.G.Gather.rules c.args.into.now in
    let h = shown g (goal.at.loop-at-preserved g c).In-Some in
    let more = not_end c.in-Some.record c.in_default-record.not-Note c.in_default-record.not-End in
    let taken = taking g (goal.at.loop-at-preserved g c).In_default-record ∙ c.in_ok-add_record-in_default-record.ensures.says in (
      going_on r _ _ _ _ _ _ _ c.loop-at.invariant.0 h c.in_ok-at.ensures.file more taken,
      g.met.G.Gather.same_on c.args.into.now c.loop-at.into c.add_record.new.self c.loop-at.invariant.1 c.add_record.ensures.same,
    )

pub returns-in_err-add_record-in_default-record-clause-ends : goal.returns-in_err-add_record-in_default-record-clause-ends
returns-in_err-add_record-in_default-record-clause-ends g c =
    let p = err_from_is_err_and c.from_residual-in_err-add_record-in_default-record.result c.from_residual-in_err-add_record-in_default-record.ensures.1 in
    let at = goal.at.returns-in_err-add_record-in_default-record-clause-ends g c in
    let taken = taking g at.In_default-record ∙ c.in_err-add_record-in_default-record.ensures.says in
    rw (p.1, p.2) (record_refused (g.G.Gather.rules c.args.into.now) _ _ _ _ _ _ _ c.loop-at.invariant.0 (shown g at.In-Some) taken)
