-- A content without its labels has the bytes of the content.
use Rattle.std.proofs.Common.{◌≡◌, refl, subst}
use Rattle.asn1_buffers.specs.Unlabelled.{unlabelled}
use Rattle.asn1_items.specs.Contents.{LooksLike}
use Rattle.asn1_model.specs.Records.{Content, null, boolean, number, discriminant, arcs, bits, units}

looks_like_labelled : (x : Content) → LooksLike (unlabelled x) x
looks_like_labelled null = record { kind = refl; bytes = λ own is. is }
looks_like_labelled (boolean b) = record { kind = refl; bytes = λ own is. is }
looks_like_labelled (number z) = record { kind = refl; bytes = λ own is. is }
looks_like_labelled (discriminant labels z) = record { kind = refl; bytes = λ own is. is }
looks_like_labelled (arcs list) = record { kind = refl; bytes = λ own is. is }
looks_like_labelled (bits list) = record { kind = refl; bytes = λ own is. is }
looks_like_labelled (units kind list) = record { kind = refl; bytes = λ own is. is }

pub looks_like : (x y : Content) → unlabelled x ≡ y → LooksLike y x
looks_like x y is = subst (λ z. LooksLike z x) is (looks_like_labelled x)
