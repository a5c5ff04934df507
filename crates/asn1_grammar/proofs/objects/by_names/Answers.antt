use Rattle.asn1_grammar.proofs.objects.by_names.Goals as goal

pub returns-in_err-add_setting-in-Some : goal.returns-in_err-add_setting-in-Some
returns-in_err-add_setting-in-Some c = record { distinct = λ before. c.add_setting.ensures.distinct (c.loop.invariant before) }

pub returns-then-not-accept_symbol : goal.returns-then-not-accept_symbol
returns-then-not-accept_symbol c = record { distinct = λ before. c.add_setting.ensures.distinct (c.loop.invariant before) }

pub loop-preserved : goal.loop-preserved
loop-preserved c = λ before. c.add_setting.ensures.distinct (c.loop.invariant before)
