use Rattle.std.proofs.Common.{◌≡◌, refl}
use Rattle.asn1_x509.specs.declared.name.Name.{Name}
use Rattle.asn1_x509.specs.declared.name.Name.TheVariants.{RdnSequence}
use Rattle.asn1_x509.proofs.name.NameEncodeChoice.encode_alternative.Goals as goal

-- a value is of the only alternative
only : (v : Name) → (x : _) × (v ≡ RdnSequence x)
only (RdnSequence x) = (x, refl)

pub returns : goal.returns
returns g c = let x = only c.args.self.now in rw x.1 (rw x.1 at c.encode.ensures)
