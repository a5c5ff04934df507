-- Single bytes as values.
use Rattle.std.proofs.Common.{◌≡◌, ◌∙◌, ℕ, List, [], ◌∷◌, ◌++◌, Some, sym, ap}
use Rattle.std.specs.Prelude.{◌↔◌, slice_get}
use Rattle.asn1_bench.specs.Bytes.{byte_cut, byte_front, byte_fronts}
use Rattle.asn1_bench.specs.declared.byte_reader.ByteReader.{ByteReader}
use Rattle.asn1_rules.specs.Fronts.{IsSteady}

-- the value is the first byte
pub byte_front_is_first : (bytes : List ℕ) (v n : ℕ) → byte_front bytes v n ↔ ((n ≡ 1) × (slice_get bytes 0 ≡ Some v))
byte_front_is_first [] v n = ((λ front. absurd front), (λ is. let wrong = is.1 in cc))
byte_front_is_first (b ∷ bytes) v n = ((λ front. (front.0, ap Some (sym front.1))), (λ is. (is.0, let same = is.1 in cc)))

cut_remains : (bytes behind : List ℕ) (n : ℕ) → byte_cut bytes n → byte_cut (bytes ++ behind) n
cut_remains [] behind n cut = absurd cut
cut_remains (b ∷ bytes) behind n cut = cut

front_remains : (bytes behind : List ℕ) (v n : ℕ) → byte_front bytes v n → byte_front (bytes ++ behind) v n
front_remains [] behind v n front = absurd front
front_remains (b ∷ bytes) behind v n front = front

one_cut : (bytes : List ℕ) (m n : ℕ) → byte_cut bytes m → byte_cut bytes n → m ≡ n
one_cut [] m n a b = absurd a
one_cut (byte ∷ bytes) m n a b = a ∙ sym b

-- trailing bytes change nothing
pub bytes_steady : (reader : ByteReader) → IsSteady byte_fronts reader
bytes_steady reader = record {
  cut_remains = λ bytes behind n cut. cut_remains bytes behind n cut;
  front_remains = λ bytes behind v n front. front_remains bytes behind v n front;
  one_cut = λ bytes m n a b. one_cut bytes m n a b;
}
