-- The report of the values of extensions, by the types that RFC 5280 has for their kinds.
use Rattle.std.specs.Bool.{beq}
use Rattle.std.specs.Cmp.Lexicographic.{pointwise}
use Rattle.std.specs.List.{AllZip}
use Rattle.std.specs.Prelude.{◌≡◌, ℕ, Bool, ◌==◌, List, [], ◌∷◌, None, Option, Some, Vec, if◌then◌else◌, nat_eq}
use Rattle.std.specs.declared.alloc.Global.{Global}
use Rattle.asn1_certificate_reader.specs.GeneralNames.{AreGeneralNamesOf}
use Rattle.asn1_certificate_reader.specs.Inside.{AreReadAs}
use Rattle.asn1_certificate_reader.specs.Objects.{IsObjectOf}
use Rattle.asn1_certificate_reader.specs.Options.{AreBothOrNone}
use Rattle.asn1_certificate_reader.specs.Scalars.{IsOctetNumberOf}
use Rattle.asn1_certificate_reader.specs.Strings.{octet_string}
use Rattle.asn1_certificate_reader.specs.declared.extensions.ValueKind.{ValueKind}
use Rattle.asn1_certificate_reader.specs.declared.extensions.ValueKind.TheVariants as kind
use Rattle.asn1_certificate_text.specs.declared.extension.AuthorityKey.{AuthorityKey}
use Rattle.asn1_certificate_text.specs.declared.extension.ExtensionValue.{ExtensionValue}
use Rattle.asn1_certificate_text.specs.declared.extension.ExtensionValue.TheVariants as own
use Rattle.asn1_certificate_text.specs.declared.general_name.ShownGeneralName.{ShownGeneralName}
use Rattle.asn1_model.specs.ConstraintSets.{unconstrained}
use Rattle.asn1_model.specs.Kinds.{list_type, named_bit_string, object_identifier}
use Rattle.asn1_model.specs.Meaning.{Meaning}
use Rattle.asn1_rules.specs.Rules.{Format}
use Rattle.asn1_x509_extensions.specs.contracts.authority_key_identifier.AuthorityKeyIdentifierAsnType.TheImpl.{ghosts as authority_keys}
use Rattle.asn1_x509_extensions.specs.contracts.authority_key_identifier.AuthorityKeyIdentifierPartialEq.TheImpl.{ghosts as authority_key_equality}
use Rattle.asn1_x509_extensions.specs.contracts.basic_constraints.BasicConstraintsAsnType.TheImpl.{ghosts as basic_constraints}
use Rattle.asn1_x509_extensions.specs.contracts.basic_constraints.BasicConstraintsPartialEq.TheImpl.{ghosts as basic_constraints_equality}
use Rattle.asn1_x509_extensions.specs.contracts.general_name.GeneralNameAsnType.TheImpl.{ghosts as general_names}
use Rattle.asn1_x509_extensions.specs.contracts.general_name.GeneralNamePartialEq.TheImpl.{ghosts as general_name_equality}
use Rattle.asn1_x509_extensions.specs.declared.authority_key_identifier.AuthorityKeyIdentifier.{AuthorityKeyIdentifier}
use Rattle.asn1_x509_extensions.specs.declared.basic_constraints.BasicConstraints.{BasicConstraints}
use Rattle.asn1_x509_extensions.specs.declared.general_name.GeneralName.{GeneralName}

-- the kind of the values of id-ce-.., by its last arc (RFC 5280, 4.2.1)
abbrev pub kind_by_last_arc : ℕ → ValueKind
kind_by_last_arc arc =
    if arc == 14 then kind.KeyIdentifier
    else (if arc == 15 then kind.Usages
    else (if arc == 17 then kind.Names
    else (if arc == 18 then kind.Names
    else (if arc == 19 then kind.Authority
    else (if arc == 35 then kind.AuthorityKey
    else (if arc == 37 then kind.Purposes
    else kind.Unknown))))))

-- the kind of the values of an extension: id-ce is 2.5.29, and what is under no such arcs has no type here
abbrev pub kind_of : List ℕ → ValueKind
kind_of (a ∷ b ∷ c ∷ d ∷ []) =
    if a == 2 then (if b == 5 then (if c == 29 then kind_by_last_arc d else kind.Unknown) else kind.Unknown) else kind.Unknown
kind_of _ = kind.Unknown

-- it is these octets, of a value that is not of the type of its kind
abbrev pub IsOtherType : List ℕ → ExtensionValue → Type 0
IsOtherType octets (own.OtherType shown) = shown.items ≡ octets
IsOtherType octets _ = ⊥

-- it is these octets, of a kind without a type here
abbrev pub AreOctets : List ℕ → ExtensionValue → Type 0
AreOctets octets (own.Octets shown) = shown.items ≡ octets
AreOctets octets _ = ⊥

-- it is these octets, the identifier of a key
abbrev pub IsKeyIdentifier : List ℕ → ExtensionValue → Type 0
IsKeyIdentifier octets (own.KeyIdentifier shown) = shown.items ≡ octets
IsKeyIdentifier octets _ = ⊥

-- it is these bits, the usages of a key
abbrev pub AreUsages : List Bool → ExtensionValue → Type 0
AreUsages usages (own.Usages shown) = shown.items ≡ usages
AreUsages usages _ = ⊥

-- it is these constraints of an authority: whether it is one, and the path length
abbrev pub IsAuthority : BasicConstraints → ExtensionValue → Type 0
IsAuthority constraints (own.Authority shown) =
    (shown.is_authority ≡ constraints.ca) × (shown.path_length ≡ constraints.path_len_constraint)
IsAuthority constraints _ = ⊥

-- it is these objects, the purposes of a key, in their order
abbrev pub ArePurposes : List (List ℕ) → ExtensionValue → Type 0
ArePurposes purposes (own.Purposes shown) = AllZip IsObjectOf purposes shown.items
ArePurposes purposes _ = ⊥

-- a SEQUENCE OF such values, by the list (X.680, 26)
abbrev pub sequence_of : {V : Type 0} → Meaning V → Meaning (Vec V Global)
sequence_of m = list_type (λ v. v.items) unconstrained m

-- two lists are equal, one by one
abbrev pub equal_lists : {V : Type 0} → (V → V → Bool) → Vec V Global → Vec V Global → Bool
equal_lists eq a b = pointwise eq a.items b.items

-- octets that were read as this value are shown by it, and octets that were read as none as they are
abbrev pub IsShownByRead : {V : Type 0} → (V → ExtensionValue → Type 0) → List ℕ → Option V → ExtensionValue → Type 0
IsShownByRead IsShown octets (Some value) shown = IsShown value shown
IsShownByRead IsShown octets None shown = IsOtherType octets shown

module _ (F : Format (Vec ℕ Global)) where
  -- The report of these octets by a type: that of the value that they are read as, or else the octets.
  pub record IsShownAs {V : Type 0} (m : Meaning V) (eq : V → V → Bool) (IsShown : V → ExtensionValue → Type 0)
      (octets : List ℕ) (shown : ExtensionValue) : Type 0 where
    pub value : Option V
    pub are_read_as : AreReadAs F m eq octets value
    pub is_shown : IsShownByRead IsShown octets value shown

  -- it is these names
  abbrev pub AreNames : List GeneralName → ExtensionValue → Type 0
  AreNames names (own.Names shown) = AreGeneralNamesOf F names shown.items
  AreNames names _ = ⊥

  -- the names of the issuer of the certificate of an authority; if they are absent, there are none
  abbrev pub AreIssuers : Option (Vec GeneralName Global) → List ShownGeneralName → Type 0
  AreIssuers (Some names) shown = AreGeneralNamesOf F names.items shown
  AreIssuers None shown = shown ≡ []

  -- The key of an authority, by its identifier, and by the serial number and the issuer of its certificate, if the extension has them.
  pub record IsKeyOfAuthority (key : AuthorityKeyIdentifier) (shown : AuthorityKey) : Type 0 where
    pub identifier : AreBothOrNone (λ octets (copy : Vec ℕ Global). copy.items ≡ octets) key.key_identifier shown.identifier
    pub serial_number : AreBothOrNone IsOctetNumberOf key.authority_cert_serial_number shown.serial_number
    pub issuer : AreIssuers key.authority_cert_issuer shown.issuer.items

  -- it is that key
  abbrev pub IsAuthorityKey : AuthorityKeyIdentifier → ExtensionValue → Type 0
  IsAuthorityKey key (own.AuthorityKey shown) = IsKeyOfAuthority key shown
  IsAuthorityKey key _ = ⊥

  -- The report of these octets, which are a value of this kind (RFC 5280, 4.2.1): a key identifier (4.2.1.2), a key usage (4.2.1.3),
  -- further names (4.2.1.6 and 4.2.1.7), basic constraints (4.2.1.9), the key of an authority (4.2.1.1) or an extended key usage
  -- (4.2.1.12).
  abbrev pub IsValueOfKind : ValueKind → List ℕ → ExtensionValue → Type 0
  IsValueOfKind kind.KeyIdentifier = IsShownAs octet_string (pointwise nat_eq) IsKeyIdentifier
  IsValueOfKind kind.Usages = IsShownAs named_bit_string (pointwise beq) AreUsages
  IsValueOfKind kind.Names = IsShownAs (sequence_of general_names.meaning) (equal_lists general_name_equality.eq) (λ names. AreNames names.items)
  IsValueOfKind kind.Authority = IsShownAs basic_constraints.meaning basic_constraints_equality.eq IsAuthority
  IsValueOfKind kind.AuthorityKey = IsShownAs authority_keys.meaning authority_key_equality.eq IsAuthorityKey
  IsValueOfKind kind.Purposes = IsShownAs (sequence_of object_identifier) (equal_lists (pointwise nat_eq)) (λ purposes. ArePurposes purposes.items)
  IsValueOfKind kind.Unknown = AreOctets
