use Rattle.std.proofs.Common.{sym}
use Rattle.asn1_resolver.proofs.MeantDefinitions.{finds_import, finds_own, finds_qualified}
use Rattle.asn1_resolver.proofs.references.search.Goals as goal

pub returns-in-Some-clause-meant : goal.returns-in-Some-clause-meant
returns-in-Some-clause-meant c =
    (finds_qualified c.args.imported.now c.args.used.now c.in-Some.module c.args.list.now _ c.in-Some.is c.index_in.ensures).found

pub returns-in-Some-clause-undefined : goal.returns-in-Some-clause-undefined
returns-in-Some-clause-undefined c =
    (finds_qualified c.args.imported.now c.args.used.now c.in-Some.module c.args.list.now _ c.in-Some.is c.index_in.ensures).none

pub returns-in-Some-index_in-clause-meant : goal.returns-in-Some-index_in-clause-meant
returns-in-Some-index_in-clause-meant c =
    (finds_own c.args.imported.now c.args.used.now c.args.list.now c.in-Some-index_in.index c.in-None.is (sym c.in-Some-index_in.ensures)).found

pub returns-in-None-index_in-clause-meant : goal.returns-in-None-index_in-clause-meant
returns-in-None-index_in-clause-meant c =
    (finds_import c.args.imported.now c.args.used.now c.args.list.now _ c.in-None.is (sym c.in-None-index_in.ensures) c.index_of_import.ensures).found

pub returns-in-None-index_in-clause-undefined : goal.returns-in-None-index_in-clause-undefined
returns-in-None-index_in-clause-undefined c =
    (finds_import c.args.imported.now c.args.used.now c.args.list.now _ c.in-None.is (sym c.in-None-index_in.ensures) c.index_of_import.ensures).none
