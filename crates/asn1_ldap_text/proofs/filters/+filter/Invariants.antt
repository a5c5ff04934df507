use Rattle.std.proofs.Common.{◌≡◌, ◌++◌, take}
use Rattle.std.specs.List.{flat_map}
use Rattle.std.specs.String.{string_bytes}
use Rattle.asn1_ldap_text.specs.Filters.{filter_text}
use Rattle.asn1_ldap_text.proofs.filters.+filter.Given as goal

abbrev pub invariant-push_set-loop-filter : goal.invariant-push_set-loop-filter
invariant-push_set-loop-filter l =
    string_bytes l.text ≡ string_bytes l.initial.text ++ flat_map filter_text (take l.filter-index l.filters)
