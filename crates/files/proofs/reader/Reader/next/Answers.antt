use Rattle.std.proofs.Common.{◌≡◌, eqb, refl, ◌∙◌}
use denote.Enum.Bare.{sameb}
use Rattle.files.specs.Format.{kind_number}
use Rattle.files.specs.contracts.record.Kind.{the_type}
use Rattle.files.specs.declared.record.Kind.{Kind}
use Rattle.files.specs.declared.record.Kind.TheVariants.{Task, Note, End, Plan}
use Rattle.files.proofs.Heads.{headed, shows}
use Rattle.files.proofs.reader.Reader.next.Goals as goal

is_last : (k : Kind) → sameb the_type k End ≡ eqb (kind_number k) 3
is_last Task = refl
is_last Note = refl
is_last End = refl
is_last Plan = refl

pub returns : goal.returns
returns c =
    let kind = c.in_ok-kind.kind in
    let read = headed c.args.self.now (kind_number kind) c.in_ok-kind.body.now c.rest_from.result.now c.rest_from.ensures.rest c.in_ok-kind.ensures in
    record {
      file = (refl, refl);
      answered =
          shows c.args.self.now _ (kind_number kind) c.in_ok-kind.body.now _ c.if-self.false read c.with_body.ensures refl (c.eq-self.ensures ∙ is_last kind);
    }
