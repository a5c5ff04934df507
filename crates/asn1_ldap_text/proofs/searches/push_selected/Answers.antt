use Rattle.std.proofs.Common.{codes}
use Rattle.std.specs.List.{flat_map}
use Rattle.std.specs.String.{string_bytes}
use Rattle.asn1_ldap_text.specs.Searches.{after_blank}
use Rattle.asn1_ldap_text.proofs.Appending.{further}
use Rattle.asn1_ldap_text.proofs.searches.push_selected.Goals as goal

pub returns : goal.returns
returns c =
    further _ (string_bytes c.args.text.now) (codes ", attributes") (flat_map after_blank c.args.selection.now) _ _
    c.in_ok-push_str.ensures.bytes c.push_words.ensures
