use Rattle.std.proofs.Common.{◌≡◌, take}
use Rattle.std.specs.List.{flat_map}
use Rattle.std.specs.String.{string_bytes}
use Rattle.asn1_compilation.specs.Listing.{entry_of}
use Rattle.asn1_compilation.proofs.listing.listing_of.Given as goal

abbrev pub invariant-loop-file : goal.invariant-loop-file
invariant-loop-file l = string_bytes l.text ≡ flat_map entry_of (take l.file-index l.files)
