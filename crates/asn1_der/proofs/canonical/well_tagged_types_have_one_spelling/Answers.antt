use Rattle.asn1_der.proofs.canonical.well_tagged_types_have_one_spelling.Goals as goal

pub returns : goal.returns
returns g c = λ alike sets well output v octets carried.
    let m = g.T.AsnType.meaning in
    c.what_is_written_is_the_only_spelling.ensures (alike m.tag m.constraints m.name well.1) output v octets (sets m.tag m.constraints m.name well.1 v) carried
