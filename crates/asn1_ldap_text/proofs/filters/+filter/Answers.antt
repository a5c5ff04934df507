use Rattle.std.proofs.Common.{sym}
use Rattle.asn1_ldap_text.proofs.FilterTexts.{filter_text_is}
use Rattle.asn1_ldap_text.proofs.filters.+filter.Goals as goal

pub push_filter-returns-in-And : goal.push_filter-returns-in-And
push_filter-returns-in-And t c =
    rw (filter_text_is c.args.filter.now, sym c.get.ensures, c.in-And.is) (rw c.elements.ensures at c.push_set.ensures)

pub push_filter-returns-in-Or : goal.push_filter-returns-in-Or
push_filter-returns-in-Or t c =
    rw (filter_text_is c.args.filter.now, sym c.get.ensures, c.in-Or.is) (rw c.elements-in-Or.ensures at c.push_set-in-Or.ensures)
