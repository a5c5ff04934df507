-- Settings of fields.
use Rattle.std.specs.Prelude.{◌≢◌, List}
use Rattle.std.specs.List.{AllPairs}
use Rattle.asn1_grammar.specs.declared.objects.Setting.{Setting}

-- no two are of one field
abbrev pub AreDistinct : List Setting → Type 0
AreDistinct settings = AllPairs (λ one other. one.field ≢ other.field) settings
