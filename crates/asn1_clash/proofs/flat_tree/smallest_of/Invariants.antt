use Rattle.std.proofs.Common.{◌≡◌, fold, take}
use Rattle.asn1_tags.specs.Tags.{lesser}
use Rattle.asn1_clash.proofs.flat_tree.smallest_of.Given as goal

abbrev pub invariant-loop-tag : goal.invariant-loop-tag
invariant-loop-tag l = l.smallest ≡ fold lesser l.fn.first (take l.tag-index l.others)
