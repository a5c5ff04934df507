-- The report of names of the nine kinds (RFC 5280, 4.2.1.6).
use Rattle.std.specs.List.{AllZip}
use Rattle.std.specs.Prelude.{◌≡◌, ℕ, List, Vec, length}
use Rattle.std.specs.Str.{chars}
use Rattle.std.specs.declared.alloc.Global.{Global}
use Rattle.asn1_certificate_reader.specs.Characters.{directory_characters}
use Rattle.asn1_certificate_reader.specs.Names.{IsNameOf}
use Rattle.asn1_certificate_reader.specs.Objects.{IsObjectOf}
use Rattle.asn1_certificate_reader.specs.Options.{AreBothOrNone}
use Rattle.asn1_certificate_text.specs.declared.general_name.ShownGeneralName.{ShownGeneralName}
use Rattle.asn1_certificate_text.specs.declared.general_name.ShownGeneralName.TheVariants as own
use Rattle.asn1_rules.specs.Rules.{Format}
use Rattle.asn1_x509.specs.declared.directory_string.DirectoryString.{DirectoryString}
use Rattle.asn1_x509_extensions.specs.declared.general_name.GeneralName.{GeneralName}
use Rattle.asn1_x509_extensions.specs.declared.general_name.GeneralName.TheVariants as given

-- they are the characters of this text
abbrev pub AreCharactersOf : DirectoryString → Vec ℕ Global → Type 0
AreCharactersOf text characters = characters.items ≡ directory_characters text

module _ (F : Format (Vec ℕ Global)) where
  -- A name of the same kind: texts by their characters, a name of the directory by its parts, objects by their names, an address by
  -- its octets, a name of a kind of its own by the octets of its value, and an X.400 address by how many components it has.
  abbrev pub IsGeneralNameOf : GeneralName → ShownGeneralName → Type 0
  IsGeneralNameOf (given.OtherName name) (own.Other kind octets) = IsObjectOf name.type_id kind × (octets.items ≡ name.value)
  IsGeneralNameOf (given.Rfc822Name mailbox) (own.Mail characters) = characters.items ≡ chars mailbox
  IsGeneralNameOf (given.DnsName host) (own.Host characters) = characters.items ≡ chars host
  IsGeneralNameOf (given.X400Address components) (own.X400 count) = count ≡ length components.items
  IsGeneralNameOf (given.DirectoryName name) (own.Directory shown) = IsNameOf F name shown
  IsGeneralNameOf (given.EdiPartyName party) (own.Party characters assigner) =
      AreCharactersOf party.party_name characters × AreBothOrNone AreCharactersOf party.name_assigner assigner
  IsGeneralNameOf (given.UniformResourceIdentifier uri) (own.Uri characters) = characters.items ≡ chars uri
  IsGeneralNameOf (given.IpAddress octets) (own.Address shown) = shown.items ≡ octets
  IsGeneralNameOf (given.RegisteredId arcs) (own.Registered object) = IsObjectOf arcs object
  IsGeneralNameOf _ _ = ⊥

  -- one for each, in their order
  abbrev pub AreGeneralNamesOf : List GeneralName → List ShownGeneralName → Type 0
  AreGeneralNamesOf names shown = AllZip IsGeneralNameOf names shown
