use Rattle.asn1_ldap.specs.FilterMeaning.{each_is_valid}
use Rattle.asn1_ldap.proofs.filter.each_filter_is_valid.Goals as goal

pub returns : goal.returns
returns c = each_is_valid
