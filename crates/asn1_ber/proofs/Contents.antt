-- Contents octets of contents in elements of BER, by the kind of content and the form of the element.
use Rattle.std.proofs.Common.{◌≡◌, ◌≢◌, ◌∙◌, ℕ, Bool, true, false, List, [], ◌∷◌, ◌++◌, Ok, Err, ap, refl, sym, subst, inl, inr}
use Rattle.std.proofs.lemmas.List.{append_cancel_right}
use Rattle.std.specs.Prelude.{IfOk, Result, replicate}
use Rattle.asn1_ber.specs.Bytes.{AreBitsInPieces, AreUnitsInPieces, HasBer, HasConstructed, HasPrimitive}
use Rattle.asn1_ber.specs.Form.{AreOnlyOf, IsStringKind, ber_form}
use Rattle.asn1_ber_items.specs.LooseContents.{AreLooseBits, AreSameBits, IsTruthValue}
use Rattle.asn1_ber_items.specs.Pieces.{AreOctetPieces, ArePiecesOfBits}
use Rattle.asn1_der_items.proofs.OneElement.{element_alone, element_of}
use Rattle.asn1_der_items.specs.Contents.{HasContents}
use Rattle.asn1_der_items.specs.Elements.{Element, IsElement}
use Rattle.asn1_der_items.specs.Series.{IsAlone}
use Rattle.asn1_elements.proofs.ParsedElements.{one_element}
use Rattle.asn1_elements.specs.ElementForms.{Carries, octets_of}
use Rattle.asn1_elements.specs.declared.contents.Contents.{Contents}
use Rattle.asn1_elements.specs.declared.parsed_element.ParsedElement.{ParsedElement}
use Rattle.asn1_items.specs.Bits.{AreBits, bits_of_octets}
use Rattle.asn1_items.specs.Kinds.{content_kind, string_kind}
use Rattle.asn1_items.specs.declared.kinds.ContentKind.{ContentKind}
use Rattle.asn1_items.specs.declared.kinds.ContentKind.TheVariants as kind
use Rattle.asn1_model.specs.ConstraintSets.{ConstraintSet}
use Rattle.asn1_model.specs.Records.{Content, Name, StringKind, scalar, null, boolean, number, discriminant, arcs, bits, units, octet, utf8, visible, general, graphic, ia5, printable, numeric, teletex, bmp}
use Rattle.asn1_types.specs.declared.any_string.StringKind.TheVariants as string
use Rattle.asn1_tags.specs.declared.tags.Tag.{Tag}

module _ (t : Tag) (c : ConstraintSet) (n : Name) (x : Content) (e : Element) (own octets : List ℕ) (alone : IsAlone e own) (same : octets ≡ e.contents) where
  -- of a content in a constructed element
  pub constructed_has : e.constructed ≡ true → HasBer (scalar t c n x) own → HasConstructed x octets
  constructed_has form (inl p) =
      let is = one_element e (element_of t false p.contents) own alone (element_alone t false p.contents own p.element) in
      let wrong : true ≡ false = sym form ∙ ap (λ (f : Element). f.constructed) is in
      cc
  constructed_has form (inr p) =
      let is = one_element e (element_of t true p.contents) own alone (element_alone t true p.contents own p.element) in
      subst (HasConstructed x) (sym (same ∙ ap (λ (f : Element). f.contents) is)) p.are

  -- of a content in a primitive element
  pub primitive_has : e.constructed ≡ false → HasBer (scalar t c n x) own → HasPrimitive x octets
  primitive_has form (inl p) =
      let is = one_element e (element_of t false p.contents) own alone (element_alone t false p.contents own p.element) in
      subst (HasPrimitive x) (sym (same ∙ ap (λ (f : Element). f.contents) is)) p.are
  primitive_has form (inr p) =
      let is = one_element e (element_of t true p.contents) own alone (element_alone t true p.contents own p.element) in
      let wrong : false ≡ true = sym form ∙ ap (λ (f : Element). f.constructed) is in
      cc

-- A content of the kind of truth values is one.
pub record IsTruth (x : Content) (octets : List ℕ) : Type 0 where
  pub value : Bool
  pub is : x ≡ boolean value
  pub has : IsTruthValue value octets

pub truth : (x : Content) (octets : List ℕ) → content_kind x ≡ kind.Boolean → HasPrimitive x octets → IsTruth x octets
truth (boolean b) octets own p = record { value = b; is = refl; has = p }
truth null octets own p = cc
truth (number z) octets own p = cc
truth (discriminant labels z) octets own p = cc
truth (arcs list) octets own p = cc
truth (bits list) octets own p = cc
truth (units k list) octets own p = cc

-- no string of units is a bit string
not_bits : (k : StringKind) → string_kind k ≡ string.Bits → ⊥
not_bits octet e = cc
not_bits utf8 e = cc
not_bits visible e = cc
not_bits general e = cc
not_bits graphic e = cc
not_bits ia5 e = cc
not_bits printable e = cc
not_bits numeric e = cc
not_bits teletex e = cc
not_bits bmp e = cc

-- A content of the kind of bit strings is one: primitive, and constructed.
pub record IsBits (HasOctets : List Bool → Type 0) (x : Content) : Type 0 where
  pub list : List Bool
  pub is : x ≡ bits list
  pub has : HasOctets list

pub loose_bits : (x : Content) (octets : List ℕ) → content_kind x ≡ kind.String string.Bits → HasPrimitive x octets → IsBits (λ list. AreLooseBits list octets) x
loose_bits (bits list) octets own p = record { list = list; is = refl; has = p }
loose_bits (boolean b) octets own p = cc
loose_bits null octets own p = cc
loose_bits (number z) octets own p = cc
loose_bits (discriminant labels z) octets own p = cc
loose_bits (arcs list) octets own p = cc
loose_bits (units k list) octets own p = let same : string_kind k ≡ string.Bits = cc in absurd (not_bits k same)

-- Other contents have the octets of DER in a primitive element.
pub others : (x : Content) (octets : List ℕ) → content_kind x ≢ kind.Boolean → content_kind x ≢ kind.String string.Bits → HasPrimitive x octets → HasContents x octets
others (boolean b) octets no_truth no_bits p = absurd (no_truth refl)
others (bits list) octets no_truth no_bits p = absurd (no_bits refl)
others null octets no_truth no_bits p = p
others (number z) octets no_truth no_bits p = p
others (discriminant labels z) octets no_truth no_bits p = p
others (arcs list) octets no_truth no_bits p = p
others (units k list) octets no_truth no_bits p = p

pub bits_in_pieces : (x : Content) (pieces : List ℕ) → content_kind x ≡ kind.String string.Bits → HasConstructed x pieces → IsBits (λ list. AreBitsInPieces list pieces) x
bits_in_pieces (bits list) pieces own p = record { list = list; is = refl; has = p }
bits_in_pieces (boolean b) pieces own p = cc
bits_in_pieces null pieces own p = cc
bits_in_pieces (number z) pieces own p = cc
bits_in_pieces (discriminant labels z) pieces own p = cc
bits_in_pieces (arcs list) pieces own p = cc
bits_in_pieces (units k list) pieces own p = let same : string_kind k ≡ string.Bits = cc in absurd (not_bits k same)

-- A string of another kind has units.
pub record IsUnits (x : Content) (pieces : List ℕ) : Type 0 where
  pub kind : StringKind
  pub list : List ℕ
  pub is : x ≡ units kind list
  pub has : AreUnitsInPieces kind list pieces

pub units_in_pieces : (x : Content) (pieces : List ℕ) → content_kind x ≢ kind.String string.Bits → HasConstructed x pieces → IsUnits x pieces
units_in_pieces (units k list) pieces no_bits p = record { kind = k; list = list; is = refl; has = p }
units_in_pieces (bits list) pieces no_bits p = absurd (no_bits refl)
units_in_pieces (boolean b) pieces no_bits p = absurd p
units_in_pieces null pieces no_bits p = absurd p
units_in_pieces (number z) pieces no_bits p = absurd p
units_in_pieces (discriminant labels z) pieces no_bits p = absurd p
units_in_pieces (arcs list) pieces no_bits p = absurd p

-- The other way round: octets of DER that were made of some others are of those contents alone that have the others.
one_list : (list other : List Bool) (octets : List ℕ) → AreBits list octets → AreBits other octets → list ≡ other
one_list list other octets p q =
    let same : p.unused ∷ p.octets ≡ q.unused ∷ q.octets = sym p.are ∙ q.are in
    let unused : p.unused ≡ q.unused = cc in
    let rest : p.octets ≡ q.octets = cc in
    append_cancel_right list other (replicate q.unused false) (ap (λ n. list ++ replicate n false) (sym unused) ∙ sym p.same ∙ ap bits_of_octets rest ∙ q.same)

one_truth : (b value : Bool) (octets : List ℕ) → HasContents (boolean b) octets → HasContents (boolean value) octets → value ≡ b
one_truth true true octets p q = refl
one_truth false false octets p q = refl
one_truth true false octets p q = let first : octets ≡ 255 ∷ [] = p in let second : octets ≡ 0 ∷ [] = q in cc
one_truth false true octets p q = let first : octets ≡ 0 ∷ [] = p in let second : octets ≡ 255 ∷ [] = q in cc

pub truth_only : (value : Bool) (octets : List ℕ) (contents : Contents) → IsTruthValue value octets → HasContents (boolean value) (octets_of contents) → AreOnlyOf HasPrimitive kind.Boolean octets contents
truth_only value octets contents is made (boolean b) own has = subst (λ v. IsTruthValue v octets) (one_truth b value (octets_of contents) has made) is
truth_only value octets contents is made null own has = cc
truth_only value octets contents is made (number z) own has = cc
truth_only value octets contents is made (discriminant labels z) own has = cc
truth_only value octets contents is made (arcs list) own has = cc
truth_only value octets contents is made (bits list) own has = cc
truth_only value octets contents is made (units k list) own has = cc

pub bits_only : (octets : List ℕ) (contents : Contents) → AreSameBits octets (octets_of contents) → AreOnlyOf HasPrimitive (kind.String string.Bits) octets contents
bits_only octets contents same (bits list) own has = subst (λ b. AreLooseBits b octets) (one_list same.bits list (octets_of contents) same.is_strict has) same.is_loose
bits_only octets contents same (boolean b) own has = cc
bits_only octets contents same null own has = cc
bits_only octets contents same (number z) own has = cc
bits_only octets contents same (discriminant labels z) own has = cc
bits_only octets contents same (arcs list) own has = cc
bits_only octets contents same (units k list) own has = let e : string_kind k ≡ string.Bits = cc in absurd (not_bits k e)

pub others_only : (own_kind : ContentKind) (octets : List ℕ) (contents : Contents) → own_kind ≢ kind.Boolean → own_kind ≢ kind.String string.Bits → octets_of contents ≡ octets → AreOnlyOf HasPrimitive own_kind octets contents
others_only own_kind octets contents no_truth no_bits same (boolean b) own has = absurd (no_truth (sym own))
others_only own_kind octets contents no_truth no_bits same (bits list) own has = absurd (no_bits (sym own))
others_only own_kind octets contents no_truth no_bits same null own has = subst (HasContents null) same has
others_only own_kind octets contents no_truth no_bits same (number z) own has = subst (HasContents (number z)) same has
others_only own_kind octets contents no_truth no_bits same (discriminant labels z) own has = subst (HasContents (discriminant labels z)) same has
others_only own_kind octets contents no_truth no_bits same (arcs list) own has = subst (HasContents (arcs list)) same has
others_only own_kind octets contents no_truth no_bits same (units k list) own has = subst (HasContents (units k list)) same has

pub bit_pieces_only : (pieces whole : List ℕ) (contents : Contents) → ArePiecesOfBits pieces whole → AreSameBits whole (octets_of contents) → AreOnlyOf HasConstructed (kind.String string.Bits) pieces contents
bit_pieces_only pieces whole contents are same (bits list) own has = record { whole = whole; are_pieces = are; are_bits = subst (λ b. AreLooseBits b whole) (one_list same.bits list (octets_of contents) same.is_strict has) same.is_loose }
bit_pieces_only pieces whole contents are same (boolean b) own has = cc
bit_pieces_only pieces whole contents are same null own has = cc
bit_pieces_only pieces whole contents are same (number z) own has = cc
bit_pieces_only pieces whole contents are same (discriminant labels z) own has = cc
bit_pieces_only pieces whole contents are same (arcs list) own has = cc
bit_pieces_only pieces whole contents are same (units k list) own has = let e : string_kind k ≡ string.Bits = cc in absurd (not_bits k e)

pub octet_pieces_only : (own_kind : ContentKind) (pieces : List ℕ) (contents : Contents) → own_kind ≢ kind.String string.Bits → IsStringKind own_kind → AreOctetPieces pieces (octets_of contents) → AreOnlyOf HasConstructed own_kind pieces contents
octet_pieces_only own_kind pieces contents no_bits is_string are (units k list) own has = record { whole = octets_of contents; are_pieces = are; are_units = has }
octet_pieces_only own_kind pieces contents no_bits is_string are (bits list) own has = absurd (no_bits (sym own))
octet_pieces_only own_kind pieces contents no_bits is_string are (boolean b) own has = absurd (subst IsStringKind (sym own) is_string)
octet_pieces_only own_kind pieces contents no_bits is_string are null own has = absurd (subst IsStringKind (sym own) is_string)
octet_pieces_only own_kind pieces contents no_bits is_string are (number z) own has = absurd (subst IsStringKind (sym own) is_string)
octet_pieces_only own_kind pieces contents no_bits is_string are (discriminant labels z) own has = absurd (subst IsStringKind (sym own) is_string)
octet_pieces_only own_kind pieces contents no_bits is_string are (arcs list) own has = absurd (subst IsStringKind (sym own) is_string)

-- the octets of the element are those of the content in BER
module _ (own_kind : ContentKind) (parsed : ParsedElement) where
  pub carried_primitive : (contents : Contents) → parsed.constructed ≡ false → AreOnlyOf HasPrimitive own_kind parsed.contents.now contents → Carries ber_form own_kind parsed (octets_of contents)
  carried_primitive contents form only t c n x own kind element has =
      inl (record { contents = parsed.contents.now; are = only x kind has; element = subst (λ b. IsElement t b parsed.contents.now own) form element })

  pub carried_constructed : (contents : Contents) → parsed.constructed ≡ true → AreOnlyOf HasConstructed own_kind parsed.contents.now contents → Carries ber_form own_kind parsed (octets_of contents)
  carried_constructed contents form only t c n x own kind element has =
      inr (record { contents = parsed.contents.now; are = only x kind has; element = subst (λ b. IsElement t b parsed.contents.now own) form element })

  pub with_contents : (E : Type 0) (P : Contents → Type 0) (result : Result Contents E) → ((made : Contents) → P made → Carries ber_form own_kind parsed (octets_of made)) → IfOk result P → IfOk result (λ made. Carries ber_form own_kind parsed (octets_of made))
  with_contents E P (Ok made) by is = by made is
  with_contents E P (Err e) by is = tt
