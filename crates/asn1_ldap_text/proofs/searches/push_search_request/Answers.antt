use Rattle.std.proofs.Common.{◌++◌}
use Rattle.std.specs.String.{string_bytes}
use Rattle.asn1_ldap_text.specs.Searches.{base_text, limits_text, search_filter_text, selection_text}
use Rattle.asn1_ldap_text.proofs.Appending.{further}
use Rattle.asn1_ldap_text.proofs.searches.push_search_request.Goals as goal

pub returns : goal.returns
returns c =
    let r = c.args.request.now in
    let filter = search_filter_text r.filter in
    let selection = selection_text r.attributes.items in
    further _ (string_bytes c.args.text.now) (base_text r) (limits_text r ++ (filter ++ selection)) _ _ c.in_ok-push_base.ensures
    (further _ (string_bytes c.push_base.new.text) (limits_text r) (filter ++ selection) _ _ c.in_ok-push_limits.ensures
    (further _ (string_bytes c.push_limits.new.text) filter selection _ _ c.in_ok-push_search_filter.ensures
    (rw c.as_slice.ensures.value at c.push_selection.ensures)))
