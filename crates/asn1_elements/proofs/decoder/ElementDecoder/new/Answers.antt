use Rattle.asn1_elements.proofs.ReadExactly.{carries}
use Rattle.asn1_elements.proofs.RemainingElements.{is_form}
use Rattle.asn1_items.proofs.DecodeStates.{begins}
use Rattle.asn1_elements.proofs.decoder.ElementDecoder.new.Goals as goal

pub returns-clause-before : goal.returns-clause-before
returns-clause-before g c = λ exactly rs have same.
    let begun = c.new.ensures in
    begins (is_form g.met.F.ElementForm.lawful) (λ d. d.state) _ c.args.bytes.now exactly rs begun.no_failure begun.inside begun.outside have same

pub returns-clause-only : goal.returns-clause-only
returns-clause-only g c = λ rs at. carries g.F.ElementForm.form _ c.args.bytes.now rs c.new.ensures.inside at
