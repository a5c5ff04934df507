-- The format of the tag form, and its law.
use Rattle.std.specs.Prelude.{ℕ, Vec}
use Rattle.std.specs.declared.alloc.Global.{Global}
use Rattle.asn1_bench.specs.Format.{item_format, item_format_is_lawful}
use Rattle.asn1_rules.specs.Rules.{Format, IsLawful}
use Rattle.asn1_tagform.specs.Next.{no_marks}
use Rattle.asn1_tagform.specs.declared.next_item.NextItem.{NextItem}

-- Bytes carry the records whose items they are, without presence marks. Records are rejected that are too long, and an open
-- type is one item.
abbrev pub tag_format : Format (Vec ℕ Global)
tag_format = item_format NextItem no_marks

-- it keeps to the law
pub tag_form_is_lawful : IsLawful tag_format
tag_form_is_lawful = item_format_is_lawful NextItem no_marks
