use Rattle.std.proofs.Common.{◌++◌, codes}
use Rattle.std.specs.String.{string_bytes}
use Rattle.asn1_ldap_text.specs.Searches.{scope_text}
use Rattle.asn1_ldap_text.specs.Strings.{named}
use Rattle.asn1_ldap_text.proofs.Appending.{further}
use Rattle.asn1_ldap_text.proofs.searches.push_base.Goals as goal

pub returns : goal.returns
returns c =
    let r = c.args.request.now in
    let base = named (codes "search request: base ") r.base_object in
    further _ (string_bytes c.args.text.now) base (codes ", scope " ++ scope_text r.scope) _ _
    (rw c.as_slice.ensures.units at c.in_ok-push_named.ensures)
    (further _ (string_bytes c.push_named.new.text) (codes ", scope ") (scope_text r.scope) _ _ c.in_ok-push_str.ensures.bytes c.push_item.ensures)
