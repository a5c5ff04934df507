use Rattle.std.proofs.Common.{◌++◌, ◌∙◌, ap, subst, sym}
use Rattle.std.specs.List.{AllPass}
use Rattle.asn1_ldap_text.specs.Escapes.{is_printable}
use Rattle.asn1_ldap_text.specs.Filters.{filter_text}
use Rattle.asn1_ldap_text.proofs.PrintableFilters.{filter_passes}
use Rattle.asn1_ldap_text.proofs.filters.filter_text.Goals as goal

pub returns-clause-visible : goal.returns-clause-visible
returns-clause-visible c =
    let filter = c.args.filter.now in
    subst (AllPass is_printable) (sym (c.in_ok-push_filter.ensures ∙ ap (λ l. l ++ filter_text filter) c.new-text.ensures.bytes)) (filter_passes filter)
