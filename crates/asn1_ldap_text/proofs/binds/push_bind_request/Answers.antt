use Rattle.std.proofs.Common.{◌++◌, codes}
use Rattle.std.specs.String.{string_bytes}
use Rattle.asn1_ldap_text.specs.Binds.{authentication_text, version_text}
use Rattle.asn1_ldap_text.specs.Strings.{named}
use Rattle.asn1_ldap_text.proofs.Appending.{further}
use Rattle.asn1_ldap_text.proofs.binds.push_bind_request.Goals as goal

pub returns : goal.returns
returns c =
    let r = c.args.request.now in
    let name = named (codes ", name ") r.name in
    further _ (string_bytes c.args.text.now) (version_text r) (name ++ authentication_text r.authentication) _ _ c.in_ok-push_version.ensures
    (further _ (string_bytes c.push_version.new.text) name (authentication_text r.authentication) _ _
    (rw c.as_slice.ensures.units at c.in_ok-push_named.ensures) c.push_authentication.ensures)
