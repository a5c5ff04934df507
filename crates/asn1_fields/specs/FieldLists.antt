-- The fields of a table as a list, and the fields that its iterators have left.
use Rattle.std.specs.Prelude.{ℕ, List, filter, map}
use Rattle.std.specs.Slice.Iter.{iter_rest}
use Rattle.asn1_fields.specs.FieldViews.{may_be_absent}
use Rattle.asn1_fields.specs.declared.field.Field.{Field}
use Rattle.asn1_fields.specs.declared.iterators.FieldIter.{FieldIter}
use Rattle.asn1_fields.specs.declared.iterators.IdentifierIter.{IdentifierIter}
use Rattle.asn1_fields.specs.declared.iterators.OptionalFieldIter.{OptionalFieldIter}
use Rattle.asn1_fields.specs.declared.fields.Fields.{Fields}

-- the fields of a table, in order
abbrev pub fields_of : {N : ℕ} → Fields N → List Field
fields_of table = table.fields.now

-- the fields that may be absent, in order
abbrev pub optional_fields : List Field → List Field
optional_fields fs = filter (λ f. may_be_absent f.presence) fs

-- the names of the fields, in order
abbrev pub names_of : List Field → List (List ℕ)
names_of fs = map (λ f. f.name.now) fs

-- the fields left in an iterator over all fields
abbrev pub fields_left : FieldIter → List Field
fields_left it = iter_rest it.left

-- the fields left in an iterator over those that may be absent
abbrev pub optional_left : OptionalFieldIter → List Field
optional_left it = optional_fields (iter_rest it.left)

-- the names left in an iterator over the names
abbrev pub names_left : IdentifierIter → List (List ℕ)
names_left it = names_of (iter_rest it.left)
