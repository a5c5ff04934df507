-- Names of the nine kinds.
use Rattle.std.specs.Prelude.{ℕ, List, [], ◌++◌, None, Option, Some, Vec, codes}
use Rattle.std.specs.Fmt.{decimal}
use Rattle.std.specs.declared.alloc.Global.{Global}
use Rattle.std.specs.List.{flat_map}
use Rattle.asn1_certificate_text.specs.Addresses.{address_text}
use Rattle.asn1_certificate_text.specs.Escapes.{visible}
use Rattle.asn1_certificate_text.specs.Octets.{octets_text}
use Rattle.asn1_certificate_text.specs.declared.general_name.ShownGeneralName.{ShownGeneralName}
use Rattle.asn1_certificate_text.specs.declared.general_name.ShownGeneralName.TheVariants.{Other, Mail, Host, X400, Directory, Party, Uri, Address, Registered}
use Rattle.asn1_certificate_text.specs.Names.{name_text}
use Rattle.asn1_certificate_text.specs.Objects.{object_text}

-- the assigner of a name, if the certificate has one
abbrev pub assigner_text : Option (Vec ℕ Global) → List ℕ
assigner_text (Some assigner) = codes ", named by " ++ flat_map visible assigner.items
assigner_text None = []

-- the name of its kind, and then the name
abbrev pub general_name_text : ShownGeneralName → List ℕ
general_name_text (Other kind octets) = codes "other name " ++ (object_text kind ++ (codes ", " ++ octets_text octets.items))
general_name_text (Mail mailbox) = codes "mail address " ++ flat_map visible mailbox.items
general_name_text (Host host) = codes "DNS name " ++ flat_map visible host.items
general_name_text (X400 count) = codes "X.400 address, its components: " ++ decimal count
general_name_text (Directory name) = codes "directory name " ++ name_text name
general_name_text (Party party assigner) =
    (codes "EDI party " ++ flat_map visible party.items) ++ assigner_text assigner
general_name_text (Uri uri) = codes "URI " ++ flat_map visible uri.items
general_name_text (Address octets) = codes "IP address " ++ address_text octets.items
general_name_text (Registered object) = codes "registered identifier " ++ object_text object
