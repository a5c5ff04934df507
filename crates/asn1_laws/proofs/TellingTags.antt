-- For codecs and types that know tags: a tag tells of itself, and a tag that a type with one tag can begin with is that one.
use Rattle.std.proofs.Common.{◌≡◌, List, [], ◌∷◌, sym}
use Rattle.asn1_components.specs.ComponentTypes.{ComponentType}
use Rattle.asn1_laws.specs.Reading.{TellsComponent, TellsTree}
use Rattle.asn1_model.proofs.TagSets.{lies_has}
use Rattle.asn1_model.specs.OneRecord.{alone_in}
use Rattle.asn1_model.specs.Tags.{Has, Tags, only, tree_tags}
use Rattle.asn1_tags.specs.Trees.{Trees, more, none}
use Rattle.asn1_tags.specs.declared.tags.Tag.{Tag}

selects_each : (trees : Trees) (own : Tags) (t : Tag) → Has own t → TellsTree trees own t
selects_each none own t has = tt
selects_each (more tree trees) own t has = (λ lies. lies_has own (tree_tags tree) lies t has, selects_each trees own t has)

-- of the records with which a list begins
pub selects_itself : {V : Type 0} (cs : List (ComponentType V)) (own : Tags) (t : Tag) → Has own t → TellsComponent cs own t
selects_itself [] own t has = tt
selects_itself (c ∷ cs) own t has = (selects_each (more c.tree c.parts) own t has, selects_itself cs own t has)

-- the tag of an alternative with one tag
pub its_tag : {t u : Tag} → Has (only t) u → u ≡ t
its_tag {t} {u} has = sym (alone_in t u has)
