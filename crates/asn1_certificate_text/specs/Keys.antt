-- Public keys, and the algorithms of signatures.
use Rattle.std.specs.Prelude.{ℕ, ℤ, List, [], ◌++◌, None, Option, Some, codes}
use Rattle.std.specs.Fmt.{decimal}
use Rattle.asn1_values.specs.Text.{integer_text}
use Rattle.asn1_certificate_text.specs.declared.key.AlgorithmDifference.{AlgorithmDifference}
use Rattle.asn1_certificate_text.specs.declared.key.AlgorithmDifference.TheVariants.{Algorithm, Parameters}
use Rattle.asn1_certificate_text.specs.declared.key.KeySize.{KeySize}
use Rattle.asn1_certificate_text.specs.declared.key.KeySize.TheVariants.{Modulus, Curve, Fixed, UnnamedCurve, Kept}
use Rattle.asn1_certificate_text.specs.declared.key.ShownKey.{ShownKey}
use Rattle.asn1_certificate_text.specs.declared.key.Signature.{Signature}
use Rattle.asn1_certificate_text.specs.Objects.{object_text}

-- a key of RSA
abbrev pub modulus_text : ℕ → ℤ → List ℕ
modulus_text bits exponent = (decimal bits ++ codes " bits, exponent ") ++ integer_text exponent

-- the size of a key
abbrev pub size_text : KeySize → List ℕ
size_text (Modulus bits exponent) = modulus_text bits exponent
size_text (Curve name bits) = name.now ++ (codes ", " ++ (decimal bits ++ codes " bits"))
size_text (Fixed bits) = decimal bits ++ codes " bits"
size_text (UnnamedCurve curve) = codes "curve " ++ object_text curve
size_text (Kept bits) = codes "kept in " ++ (decimal bits ++ codes " bits")

-- a key
abbrev pub key_text : ShownKey → List ℕ
key_text k = object_text k.algorithm ++ (codes ", " ++ size_text k.size)

-- how an algorithm differs
abbrev pub difference_text : AlgorithmDifference → List ℕ
difference_text Parameters = codes "with other parameters"
difference_text (Algorithm other) = object_text other

-- how the algorithm inside the signed part differs, if it does
abbrev pub inside_text : Option AlgorithmDifference → List ℕ
inside_text (Some difference) = codes ", but inside " ++ difference_text difference
inside_text None = []

-- the algorithm of a signature
abbrev pub signature_text : Signature → List ℕ
signature_text s = object_text s.algorithm ++ inside_text s.inside
