-- The open types in names of the nine kinds (RFC 5280, 4.2.1.6): the value of a name of another kind, the components of an X.400
-- address, and the attributes of a name of the directory.
use Rattle.std.specs.Prelude.{ℕ, ⊤, Bool, IsTrue, List, All}
use Rattle.asn1_x509.specs.OpenValues.{NameIsAccepted}
use Rattle.asn1_x509_extensions.specs.declared.general_name.GeneralName.{GeneralName}
use Rattle.asn1_x509_extensions.specs.declared.general_name.GeneralName.TheVariants.{OtherName, Rfc822Name, DnsName, X400Address, DirectoryName, EdiPartyName, UniformResourceIdentifier, IpAddress, RegisteredId}

-- a codec accepts each of these as one value
abbrev pub GeneralNameIsAccepted : (List ℕ → Bool) → GeneralName → Type 0
GeneralNameIsAccepted accepts (OtherName other) = IsTrue (accepts other.value)
GeneralNameIsAccepted accepts (Rfc822Name mailbox) = ⊤
GeneralNameIsAccepted accepts (DnsName host) = ⊤
GeneralNameIsAccepted accepts (X400Address address) = All (λ component. IsTrue (accepts component)) address.items
GeneralNameIsAccepted accepts (DirectoryName name) = NameIsAccepted accepts name
GeneralNameIsAccepted accepts (EdiPartyName party) = ⊤
GeneralNameIsAccepted accepts (UniformResourceIdentifier uri) = ⊤
GeneralNameIsAccepted accepts (IpAddress octets) = ⊤
GeneralNameIsAccepted accepts (RegisteredId identifier) = ⊤
