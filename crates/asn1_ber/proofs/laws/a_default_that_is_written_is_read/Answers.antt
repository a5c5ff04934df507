use Rattle.std.proofs.Common.{◌≡◌, Bool, true, Option, None, Some}
use Rattle.std.proofs.lemmas.Result.{err_from_is_err_and}
use Rattle.std.specs.Option.{option_eq}
use Rattle.asn1_slots.specs.Slots.{holds_or_default}
use Rattle.asn1_ber.proofs.laws.a_default_that_is_written_is_read.Goals as goal

-- a slot that has what a value has, has it whatever the default is
holds : {W : Type 0} (eq : W → W → Bool) (default_value w : W) (slot : Option W) → option_eq eq slot (Some w) ≡ true → holds_or_default eq default_value slot w ≡ true
holds eq default_value w None same = cc
holds eq default_value w (Some x) same = same

pub returns : goal.returns
returns g c = λ v rest outer can of_type valid apart at.
    let a = c.in_ok-optional.ensures.read.reads (Some v) rest outer can of_type valid apart at in
    record { answer = c.or_default.ensures.equal v (holds g.T.PartialEq.eq c.args.default_value v c.optional.new.slot a.answer); at = a.at; within_depth_left = a.within_depth_left }

pub returns-in_err-optional : goal.returns-in_err-optional
returns-in_err-optional g c = λ v rest outer can of_type valid apart at.
    let p = err_from_is_err_and c.from_residual.result c.from_residual.ensures.1 in
    rw (p.1, p.2) (c.in_err-optional.ensures.read.reads (Some v) rest outer can of_type valid apart at)
