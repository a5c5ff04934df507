-- The table in which a `Shape` looks for its alternative.
use Rattle.std.proofs.Common.{◌<◌, ℕ, zero, suc, List, arith, refl}
use Rattle.asn1_components.specs.Alternatives.{all_of, trees_of}
use Rattle.asn1_tags.specs.TagTables.{EntryFits, TableFits}
use Rattle.asn1_tags.specs.Trees.{leaves_of}
use Rattle.asn1_tags.specs.declared.tags.Tag.{Tag}
use Rattle.asn1_samples.specs.contracts.shape.ShapeChoice.TheImpl.{ghosts as shape}
use Rattle.asn1_samples.specs.declared.shape.TheConstants.{LEAVES}

abbrev tags : List Tag
tags = leaves_of (trees_of (all_of shape.alternatives))

each_fits : (index : ℕ) → index < 4 → EntryFits tags LEAVES.now index
each_fits zero low = record { has_tag = refl; ascends = tt }
each_fits (suc zero) low = record { has_tag = refl; ascends = refl }
each_fits (suc (suc zero)) low = record { has_tag = refl; ascends = refl }
each_fits (suc (suc (suc zero))) low = record { has_tag = refl; ascends = refl }
each_fits (suc (suc (suc (suc more)))) low = absurd (omega (arith, low))

pub table_fits : TableFits tags LEAVES.now
table_fits = record { same_length = refl; each_fits = each_fits }
