-- Contents without the labels of a type.
use Rattle.asn1_model.specs.Records.{Content, null, boolean, number, discriminant, arcs, bits, units}
use Rattle.asn1_model.specs.RecordTables.{no_table}

-- the content as a buffer is given it: without the labels of an ENUMERATED type
abbrev pub unlabelled : Content → Content
unlabelled null = null
unlabelled (boolean b) = boolean b
unlabelled (number z) = number z
unlabelled (discriminant labels z) = discriminant no_table z
unlabelled (arcs list) = arcs list
unlabelled (bits list) = bits list
unlabelled (units kind list) = units kind list
