-- Objects and their names.
use Rattle.std.specs.Prelude.{ℕ, List}
use Rattle.std.specs.Option.{option_map_or}
use Rattle.asn1_values.specs.Dotted.{dotted}
use Rattle.asn1_certificate_text.specs.declared.object.Object.{Object}

-- the name of an object, or its arcs with a dot between each two
abbrev pub object_text : Object → List ℕ
object_text o = option_map_or (λ name. name.now) o.name (dotted o.identifier)
