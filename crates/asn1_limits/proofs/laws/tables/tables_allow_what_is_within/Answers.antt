use Rattle.asn1_limits.proofs.laws.tables.tables_allow_what_is_within.Goals as goal

pub returns-clause-allowed : goal.returns-clause-allowed
returns-clause-allowed g c = g.met.L.TableAdmits.allows g.T.AsnType.meaning.constraints c.args.value.now c.get-value.ensures.within

pub returns-clause-root : goal.returns-clause-root
returns-clause-root g c = g.met.L.TableAdmits.has_root g.T.AsnType.meaning.constraints c.args.value.now
