-- Fronts that are the very bytes that writing their values makes.
use Rattle.std.specs.Prelude.{◌≡◌, ◌⊎◌, ℕ, ◌≤◌, Err, List, Ok, Vec, codes, min, take}
use Rattle.std.specs.declared.alloc.Global.{Global}
use Rattle.asn1_laws.specs.DecodeErrors.{custom, reason}
use Rattle.asn1_laws.specs.declared.decode_error.DecodeError.{DecodeError}
use Rattle.asn1_laws.specs.declared.decode_error.DecodeError.TheVariants as reading
use Rattle.asn1_laws.specs.declared.encode_error.EncodeError.{EncodeError}
use Rattle.asn1_laws.specs.declared.encode_error.EncodeError.TheVariants as writing
use Rattle.asn1_model.specs.Meaning.{Meaning, own_records}
use Rattle.asn1_model.specs.Records.{highest}
use Rattle.asn1_rules.specs.CanonicalReading.{AreOctets, HasOneSpelling, IsFirstDifference, IsSpelled, IsWrittenAs}
use Rattle.asn1_rules.specs.Fronts.{Fronts, ReadsFront}
use Rattle.asn1_rules.specs.Rules.{Format, IsNotWritten}
use Rattle.asn1_rules.specs.declared.canonical_reader.CanonicalReader.{CanonicalReader}

-- an error of writing, as a reader answers it that writes what it has read
abbrev pub as_error_of_reading : EncodeError → DecodeError
as_error_of_reading writing.Memory = reading.Memory
as_error_of_reading writing.Depth = reading.Depth
as_error_of_reading writing.Failed = reading.Failed
as_error_of_reading (writing.Custom text) = reading.Custom text

module _ {F V : Type 0} (inner : Fronts F V) (format : Format (Vec ℕ Global)) (m : Meaning V) where
  -- The first n bytes are those of the value to the inner reader, and the value's only spelling among octets.
  pub record IsCanonicalFront (reader : F) (bytes : List ℕ) (v : V) (n : ℕ) : Type 0 where
    pub front : inner.front reader bytes v n
    pub spelled : IsSpelled format m v (take n bytes)
    pub only_spelling : AreOctets (take n bytes) → HasOneSpelling format m inner.same v (take n bytes)
    pub as_deep : inner.height v ≤ highest (own_records m v)

  -- The fronts of a canonical reader: a cut is one of the inner reader, and its bytes are those that writing some value makes. Bytes are
  -- read as a value if they are to the inner reader, and writing this value makes them.
  abbrev pub canonical_fronts : {R : Type 0} → Fronts (CanonicalReader F R) V
  canonical_fronts = record {
    cut = λ reader bytes n. inner.cut reader.reader bytes n × ((w : V) × IsSpelled format m w (take n bytes));
    front = λ reader bytes v n. IsCanonicalFront reader.reader bytes v n;
    read_as = λ reader own w. inner.read_as reader.reader own w × IsSpelled format m w own;
    same = inner.same;
    height = λ v. highest (own_records m v);
    depth = λ reader. min (inner.depth reader.reader) reader.depth;
  }

  module _ (reader : F) (depth : ℕ) (input : List ℕ) (e : DecodeError) where
    -- A value that the inner reader may answer of the input is not written, as it may.
    pub record FrontIsNotWritten : Type 0 where
      pub answer : V × ℕ
      pub may_be_read : ReadsFront inner reader input (Ok answer)
      pub refusal : EncodeError
      pub not_written : IsNotWritten format (own_records m answer.0) depth refusal
      pub is : e ≡ as_error_of_reading refusal

    -- A value that the inner reader may answer of the input is written as other bytes than its front.
    pub record FrontIsWrittenOtherwise : Type 0 where
      pub answer : V × ℕ
      pub bytes : List ℕ
      pub at : ℕ
      pub may_be_read : ReadsFront inner reader input (Ok answer)
      pub written : IsWrittenAs format m depth answer.0 bytes
      pub first : IsFirstDifference (take answer.1 input) bytes at
      pub is : reason e ≡ custom (codes "not canonical")

    -- Why no value was answered: the inner reader may answer this error; or the value that it answered was not written, or was
    -- written as other bytes.
    abbrev pub FrontDepartsAs : Type 0
    FrontDepartsAs = ReadsFront inner reader input (Err e) ⊎ FrontIsNotWritten ⊎ FrontIsWrittenOtherwise

  -- Each output of octets that carries the own records of a valid value is the only spelling of that value.
  abbrev pub HasOneSpellingEach : Type 0
  HasOneSpellingEach =
      (output : Vec ℕ Global) (v : V) → AreOctets output.items → m.IsOfType v → m.IsValid format.accepts v → format.carries output (own_records m v) →
      HasOneSpelling format m inner.same v output.items
