-- Whether a type of components is a SEQUENCE or a SET.
use Rattle.asn1_components.specs.Components as components
use Rattle.asn1_components.specs.Components.{is_sequence, is_set}
use Rattle.asn1_enc.specs.declared.constructed.Kind.{Kind}
use Rattle.asn1_enc.specs.declared.constructed.Kind.TheVariants.{Sequence, Set}

-- the kind, as a list of components says it
abbrev pub kind_of : Kind → components.Kind
kind_of Sequence = is_sequence
kind_of Set = is_set
