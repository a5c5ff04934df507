use Rattle.std.proofs.Common.{◌∙◌, ℤ, ap, inl, inr, subst, sym}
use Rattle.fan_types.proofs.Numbers.{kept, kept_number, same_status}
use Rattle.fan_calls.specs.declared.status.Status.TheVariants as status
use Rattle.fan_types.proofs.Accepting.{are_refused, none_refused, refused}
use Rattle.fan_types.specs.Checks.{AcceptsOnlyDer}
use Rattle.fan_types.proofs.checking.check.Goals as goal

pub returns-clause-found : goal.returns-clause-found
returns-clause-found g c =
    let m = g.T.AsnType.meaning in
    let eq = g.T.PartialEq.eq in
    subst (λ (n : ℤ). AcceptsOnlyDer m eq c.args.octets.now n) (sym (ap kept c.number-in-Err.ensures ∙ kept_number c.put_refusal.result))
    (refused m eq c.in-Ok.own c.args.octets.now c.in-Ok.ensures.items c.in-Err.error c.in-Err.ensures.read c.put_refusal.result c.put_refusal.ensures.others)

pub returns-clause-refused : goal.returns-clause-refused
returns-clause-refused g c = λ told.
    let same = same_status c.put_refusal.result in
    are_refused g.T.AsnType.meaning g.T.PartialEq.eq c.in-Ok.own c.args.octets.now c.in-Ok.ensures.items c.in-Err.error g.T.Decode.refusals status.Fault
    c.in-Err.ensures.departs (elim told [
      | inl fault ↦ c.put_refusal.ensures.fault (same status.Fault c.number-in-Err.result c.number-in-Err.ensures fault)
      | inr room ↦ c.put_refusal.ensures.room (same status.Room c.number-in-Err.result c.number-in-Err.ensures room)
    ])

pub returns-clause-deep : goal.returns-clause-deep
returns-clause-deep g c = λ deep.
    are_refused g.T.AsnType.meaning g.T.PartialEq.eq c.in-Ok.own c.args.octets.now c.in-Ok.ensures.items c.in-Err.error g.T.Decode.refusals status.Deep
    c.in-Err.ensures.departs
    (c.put_refusal.ensures.deep (same_status c.put_refusal.result status.Deep c.number-in-Err.result c.number-in-Err.ensures deep))

pub returns-in-Ok-check_der-clause-admitted : goal.returns-in-Ok-check_der-clause-admitted
returns-in-Ok-check_der-clause-admitted g c = λ told.
    none_refused g.T.AsnType.meaning g.T.PartialEq.eq c.in-Ok.own c.args.octets.now c.in-Ok.ensures.items g.T.Decode.refusals c.in-Ok-check_der._value
    c.in-Ok-check_der.ensures.answered
