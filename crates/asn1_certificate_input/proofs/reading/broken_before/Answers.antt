use Rattle.asn1_certificate_input.proofs.reading.broken_before.Goals as goal

pub returns-in-Some-Broken-clause-broken : goal.returns-in-Some-Broken-clause-broken
returns-in-Some-Broken-clause-broken c = rw c.in-Some-Broken.field-0-is at c.in-Some-Broken.ensures.found

pub returns-in-Some-Broken-clause-of_reading : goal.returns-in-Some-Broken-clause-of_reading
returns-in-Some-Broken-clause-of_reading c = rw c.in-Some-Broken.field-0-is at c.in-Some-Broken.ensures.asked
