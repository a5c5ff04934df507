-- The report of public keys.
use Rattle.std.specs.Cmp.Lexicographic.{pointwise}
use Rattle.std.specs.Prelude.{◌≡◌, ◌≢◌, ◌⊎◌, ◌<◌, ◌<ℤ◌, ℕ, pos, ◌%◌, All, Bool, Contains, List, [], ◌∷◌, MatchOption, None, Option, Some, Vec, length, nat_eq, unsigned_abs}
use Rattle.std.specs.declared.alloc.Global.{Global}
use Rattle.asn1_certificate_reader.specs.Inside.{AreReadAs}
use Rattle.asn1_certificate_reader.specs.Objects.{IsObjectOf}
use Rattle.asn1_certificate_text.specs.declared.key.KeySize.{KeySize}
use Rattle.asn1_certificate_text.specs.declared.key.KeySize.TheVariants.{Modulus, Curve, Fixed, UnnamedCurve, Kept}
use Rattle.asn1_certificate_text.specs.declared.key.ShownKey.{ShownKey}
use Rattle.asn1_certificate_text.specs.Bits.{IsBitLength}
use Rattle.asn1_certificate_text.specs.Registry.{NamesCurve, curve_sizes, known_curves}
use Rattle.asn1_items.specs.Bits.{bits_of_octets}
use Rattle.asn1_model.specs.Kinds.{object_identifier}
use Rattle.asn1_rules.specs.Rules.{Format}
use Rattle.asn1_x509.specs.contracts.rsa_public_key.RsaPublicKeyAsnType.TheImpl.{ghosts as rsa_keys}
use Rattle.asn1_x509.specs.contracts.rsa_public_key.RsaPublicKeyPartialEq.TheImpl.{ghosts as rsa_equality}
use Rattle.asn1_x509.specs.declared.rsa_public_key.RsaPublicKey.{RsaPublicKey}
use Rattle.asn1_x509.specs.declared.subject_public_key_info.SubjectPublicKeyInfo.{SubjectPublicKeyInfo}

-- the arcs of rsaEncryption (RFC 3279, 2.3.1)
abbrev pub rsa : List ℕ
rsa = 1 ∷ 2 ∷ 840 ∷ 113549 ∷ 1 ∷ 1 ∷ 1 ∷ []

-- the arcs of id-ecPublicKey (RFC 5480, 2.1.1)
abbrev pub elliptic : List ℕ
elliptic = 1 ∷ 2 ∷ 840 ∷ 10045 ∷ 2 ∷ 1 ∷ []

-- the number of bits of a key of any other algorithm
abbrev pub IsKeptIn : ℕ → KeySize → Type 0
IsKeptIn count (Kept shown) = shown ≡ count
IsKeptIn count _ = ⊥

-- the number of bits of the modulus of this key, and the exponent; or this number of bits of the key, if the modulus is negative
abbrev pub IsModulusOf : ℕ → RsaPublicKey → KeySize → Type 0
IsModulusOf count key (Modulus bits exponent) =
    ¬ (key.modulus <ℤ pos 0) × IsBitLength (unsigned_abs key.modulus) bits × (exponent ≡ key.public_exponent)
IsModulusOf count key (Kept shown) = (key.modulus <ℤ pos 0) × (shown ≡ count)
IsModulusOf count key _ = ⊥

-- the name of the curve of these arcs and the size of a key on it, or the object if the curve has no name here
abbrev pub IsSizeOnCurve : List ℕ → KeySize → Type 0
IsSizeOnCurve arcs (Curve name bits) = NamesCurve curve_sizes arcs name.now bits
IsSizeOnCurve arcs (UnnamedCurve curve) = (¬ Contains known_curves arcs) × IsObjectOf arcs curve
IsSizeOnCurve arcs _ = ⊥

-- A row of the table of curves has these arcs, as an algorithm that has one curve alone has one (RFC 8410, 3), and this many bits.
pub record HasOneCurve (arcs : List ℕ) (bits : ℕ) : Type 0 where
  pub name : List ℕ
  pub listed : NamesCurve curve_sizes arcs name bits

-- the size of a row of the table of curves with the arcs of this algorithm, or else the number of bits
abbrev pub IsSizeByAlgorithm : List ℕ → ℕ → KeySize → Type 0
IsSizeByAlgorithm arcs count (Fixed bits) = HasOneCurve arcs bits
IsSizeByAlgorithm arcs count (Kept shown) = (¬ Contains known_curves arcs) × (shown ≡ count)
IsSizeByAlgorithm arcs count _ = ⊥

-- bits that were read as this key of RSA are shown by it, and other bits by their number
abbrev pub IsSizeOfRead : List Bool → Option RsaPublicKey → KeySize → Type 0
IsSizeOfRead bits (Some key) size = IsModulusOf (length bits) key size
IsSizeOfRead bits None size = IsKeptIn (length bits) size

-- parameters that were read as this curve are shown by it, and other keys by their number of bits
abbrev pub IsSizeByCurve : ℕ → Option (List ℕ) → KeySize → Type 0
IsSizeByCurve count (Some arcs) size = IsSizeOnCurve arcs size
IsSizeByCurve count None size = IsKeptIn count size

module _ (F : Format (Vec ℕ Global)) where
  -- The octets of these bits were read as this key of RSA, or as none.
  pub record AreOctetsReadAs (bits : List Bool) (key : Option RsaPublicKey) : Type 0 where
    pub octets : List ℕ
    pub are_octets : All (λ octet. octet < 256) octets
    pub are : bits_of_octets octets ≡ bits
    pub are_read_as : AreReadAs F rsa_keys.meaning rsa_equality.eq octets key

  -- the same, and bits that are no whole octets were read as none
  abbrev pub AreBitsReadAs : List Bool → Option RsaPublicKey → Type 0
  AreBitsReadAs bits key = AreOctetsReadAs bits key ⊎ ((length bits % 8 ≢ 0) × (key ≡ None))

  -- The report of a key of RSA with these bits (RFC 3279, 2.3.1).
  pub record IsSizeOfRsa (bits : List Bool) (size : KeySize) : Type 0 where
    pub key : Option RsaPublicKey
    pub are_read_as : AreBitsReadAs bits key
    pub is_shown : IsSizeOfRead bits key size

  -- the parameters, if there are any, were read as the object of these arcs, or as none
  abbrev pub IsCurveIn : Option (List ℕ) → Option (List ℕ) → Type 0
  IsCurveIn parameters curve = MatchOption parameters (curve ≡ None)
      (λ octets. AreReadAs F object_identifier (pointwise nat_eq) octets curve)

  -- The report of a key on the curve that its parameters name (RFC 5480, 2.1.1).
  pub record IsSizeByParameters (key : SubjectPublicKeyInfo) (size : KeySize) : Type 0 where
    pub curve : Option (List ℕ)
    pub is_in : IsCurveIn key.algorithm.parameters curve
    pub is_shown : IsSizeByCurve (length key.subject_public_key) curve size

  -- The report of the size of a key, by its algorithm.
  pub record IsSizeOf (key : SubjectPublicKeyInfo) (size : KeySize) : Type 0 where
    pub of_rsa : key.algorithm.algorithm ≡ rsa → IsSizeOfRsa key.subject_public_key size
    pub on_curve : key.algorithm.algorithm ≡ elliptic → IsSizeByParameters key size
    pub of_another : key.algorithm.algorithm ≢ rsa → key.algorithm.algorithm ≢ elliptic →
        IsSizeByAlgorithm key.algorithm.algorithm (length key.subject_public_key) size

  -- The report of a public key (RFC 5280, 4.1.2.7).
  pub record IsKeyOf (key : SubjectPublicKeyInfo) (shown : ShownKey) : Type 0 where
    pub algorithm : IsObjectOf key.algorithm.algorithm shown.algorithm
    pub size : IsSizeOf key shown.size
