use Rattle.std.proofs.Common.{◌≡◌, ◌∙◌, Bool, Err, List, Ok, ap, sym}
use Rattle.std.specs.Cmp.{bool_eq_equiv}
use Rattle.std.specs.Cmp.Lexicographic.{lists_equiv}
use Rattle.std.specs.Prelude.{IfOk, Result}
use Rattle.asn1_laws.proofs.ReadingSteps.{in_other_words, same_is_equal}
use Rattle.asn1_laws.proofs.ReadingWhole.{was_read_as}
use Rattle.asn1_laws.specs.Reading.{Reader}
use Rattle.asn1_laws.specs.ReadingExactly.{HasReadSpelling, HasReadValue}
use Rattle.asn1_laws.specs.declared.decode_error.DecodeError.{DecodeError}
use Rattle.asn1_model.specs.ConstraintSets.{ConstraintSet, constraint_set}
use Rattle.asn1_model.specs.Kinds.{named_bit_string}
use Rattle.asn1_model.specs.Records.{bits}
use Rattle.asn1_strings.proofs.TrailingZeros.{ends, nothing_left_out}
use Rattle.asn1_tags.specs.declared.tags.Tag.{Tag}
use Rattle.asn1_values.specs.Bits.{without_trailing_zeros}
use Rattle.asn1_dec.proofs.impls.strings.NamedBitStringDecode.decode_with_tag_and_constraints.Goals as goal

pub returns-clause-read : goal.returns-clause-read
returns-clause-read g c = λ v n rest outer tagged of_type valid follow.
    in_other_words g.D.Decoder.reader _ _ _ _ _ c.decode_string.result (λ w is. same_is_equal (lists_equiv bool_eq_equiv) w v is) (c.decode_string.ensures.read v _ rest outer of_type)

-- bits, and 0 bits behind them, are read as these
spelled : {D : Type 0} (R : Reader D) (old new : D) (t : Tag) (c : ConstraintSet) (result : Result (List Bool) DecodeError) →
    IfOk result (λ w. HasReadSpelling R old new t c bits (λ list. without_trailing_zeros list ≡ w)) → IfOk result (HasReadValue R old new named_bit_string t c)
spelled R old new t c (Ok w) (list, is, was) =
    was_read_as R old new _ (named_bit_string.IsReadAs w t c)
    (λ rs are. (list, sym (nothing_left_out (without_trailing_zeros list) (ends list)) ∙ ap without_trailing_zeros is, are)) was
spelled R old new t c (Err e) read = tt

pub returns-clause-only : goal.returns-clause-only
returns-clause-only g c =
    spelled g.D.Decoder.reader c.args.decoder.now c.decode_string.new.self c.args.tag (constraint_set c.args.constraints.now) c.decode_string.result c.decode_string.ensures.only
