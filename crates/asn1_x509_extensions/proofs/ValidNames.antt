-- The valid names, by the open types in them.
use Rattle.std.proofs.Common.{ℕ, Bool, List}
use Rattle.std.specs.Global.{Vec}
use Rattle.std.specs.Prelude.{◌↔◌, All, IfSome, None, Option, Some, slice_index_or}
use Rattle.asn1_x509.specs.contracts.directory_string.DirectoryStringAsnType.TheImpl.{ghosts as text_type}
use Rattle.asn1_x509.specs.declared.directory_string.DirectoryString.{DirectoryString}
use Rattle.asn1_x509.specs.declared.directory_string.DirectoryString.TheVariants.{TeletexString, PrintableString, UniversalString, Utf8String, BmpString}
use Rattle.asn1_x509.specs.declared.name.Name.TheVariants.{RdnSequence}
use Rattle.asn1_x509_extensions.specs.OpenNames.{GeneralNameIsAccepted}
use Rattle.asn1_x509_extensions.specs.contracts.authority_key_identifier.AuthorityKeyIdentifierAsnType.TheImpl.{ghosts as key_type}
use Rattle.asn1_x509_extensions.specs.contracts.general_name.GeneralNameAsnType.TheImpl.{ghosts as name_type}
use Rattle.asn1_x509_extensions.specs.declared.authority_key_identifier.AuthorityKeyIdentifier.{AuthorityKeyIdentifier}
use Rattle.asn1_x509_extensions.specs.declared.general_name.GeneralName.{GeneralName}
use Rattle.asn1_x509_extensions.specs.declared.general_name.GeneralName.TheVariants.{OtherName, Rfc822Name, DnsName, X400Address, DirectoryName, EdiPartyName, UniformResourceIdentifier, IpAddress, RegisteredId}

-- what may be absent is valid where each value of its type is
if_some : {X : Type 0} (P : X → Type 0) → ((x : X) → P x) → (o : Option X) → IfSome o P
if_some P each None = tt
if_some P each (Some x) = each x

text_valid : (accepts : List ℕ → Bool) (text : DirectoryString) → text_type.meaning.IsValid accepts text
text_valid accepts (TeletexString teletex) = tt
text_valid accepts (PrintableString printable) = tt
text_valid accepts (UniversalString universal) = tt
text_valid accepts (Utf8String utf8) = tt
text_valid accepts (BmpString bmp) = tt

-- a name, by its kind
name_valid : (accepts : List ℕ → Bool) (n : GeneralName) →
    name_type.meaning.IsValid accepts n ↔ GeneralNameIsAccepted accepts n
name_valid accepts (OtherName other) = (λ valid. valid.1.0, λ taken. (tt, (taken, tt)))
name_valid accepts (Rfc822Name mailbox) = (λ _. tt, λ _. tt)
name_valid accepts (DnsName host) = (λ _. tt, λ _. tt)
name_valid accepts (X400Address address) = (λ valid. valid, λ taken. taken)
name_valid accepts (DirectoryName (RdnSequence rdns)) = (
  λ valid k rdn inside j attribute within. (valid k rdn inside j attribute within).1.0,
  λ taken k rdn inside j attribute within. (tt, (taken k rdn inside j attribute within, tt)),
)
name_valid accepts (EdiPartyName party) =
    (λ _. tt, λ _. (if_some _ (text_valid accepts) party.name_assigner, (text_valid accepts party.party_name, tt)))
name_valid accepts (UniformResourceIdentifier uri) = (λ _. tt, λ _. tt)
name_valid accepts (IpAddress octets) = (λ _. tt, λ _. tt)
name_valid accepts (RegisteredId identifier) = (λ _. tt, λ _. tt)

-- the names of an issuer, where there are any
some_names_valid : (accepts : List ℕ → Bool) (names : Option (Vec GeneralName)) →
    IfSome names (λ list. All (name_type.meaning.IsValid accepts) list.items) ↔
    IfSome names (λ list. All (GeneralNameIsAccepted accepts) list.items)
some_names_valid accepts None = (λ _. tt, λ _. tt)
some_names_valid accepts (Some list) = (
  λ valid k name inside. (name_valid accepts (slice_index_or list.items k name)).0 (valid k name inside),
  λ taken k name inside. (name_valid accepts (slice_index_or list.items k name)).1 (taken k name inside),
)

-- and the key of an authority by these
pub key_valid : (accepts : List ℕ → Bool) (key : AuthorityKeyIdentifier) → key_type.meaning.IsValid accepts key ↔
    IfSome key.authority_cert_issuer (λ names. All (GeneralNameIsAccepted accepts) names.items)
key_valid accepts key = (
  λ valid. (some_names_valid accepts key.authority_cert_issuer).0 valid.1.0,
  λ taken. (
    if_some _ (λ _. tt) key.key_identifier,
    (
      (some_names_valid accepts key.authority_cert_issuer).1 taken,
      (if_some _ (λ _. tt) key.authority_cert_serial_number, tt),
    ),
  ),
)
