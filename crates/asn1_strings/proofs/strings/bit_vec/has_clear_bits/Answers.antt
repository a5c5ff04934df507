use Rattle.std.proofs.Common.{◌≡◌, ◌∙◌, ◌-◌, ◌++◌, [], false, subst, sym, take, arith}
use Rattle.std.proofs.lemmas.Bool.Decides.{Decides-eqb}
use Rattle.std.specs.Prelude.{replicate}
use Rattle.asn1_strings.proofs.OneBits.{same_octet}
use Rattle.asn1_strings.specs.Bits.{bits_of_octet}
use Rattle.asn1_strings.proofs.strings.bit_vec.has_clear_bits.Goals as goal

pub returns : goal.returns
returns c = (
  λ yes. subst (λ o. bits_of_octet o ≡ take (8 - c.args.unused) (bits_of_octet c.args.octet) ++ replicate c.args.unused false) ((Decides-eqb c.cleared.result c.args.octet).0 yes) c.cleared.ensures.bits,
  λ zeros. (Decides-eqb c.cleared.result c.args.octet).1 ((same_octet c.cleared.result c.args.octet [] [] (omega arith) (omega arith) (c.cleared.ensures.bits ∙ sym zeros)).0),
)
