-- Octets over bytes, and bits over bits.
use Rattle.std.proofs.Common.{◌≡◌, ℕ, ◌+◌, ◌*◌, ◌/◌, ◌<◌, Bool, List, [], ◌∷◌, ◌++◌, length, length-drop, get_or, set, take, drop, refl, sym, ap, ◌∙◌, arith, append_assoc, append-nil}
use Rattle.std.proofs.lemmas.List.{length-set, take-append-drop, take_all, take_more, take_more_set}
use Rattle.std.proofs.Math.Seq.{take-append_seam, take-length}
use Rattle.asn1_items.specs.Bits.{AreOctetsOf, bits_of_octet, bits_of_octets}
use Rattle.asn1_items.proofs.Octets.{BitsAppended, flat-more, unused_of}

-- From an index on, the first octets of these bits are written: this many.
pub record OctetsSoFar (bits : List Bool) (start : ℕ) (old new : List ℕ) (count : ℕ) : Type 0 where
  pub octets : List ℕ
  pub are : take (start + count) new ≡ take start old ++ octets
  pub same : bits_of_octets octets ≡ take (count * 8) bits
  pub long : length new ≡ length old

pub none_yet : (bits : List Bool) (start : ℕ) (old : List ℕ) → OctetsSoFar bits start old old 0
none_yet bits start old = record { octets = []; are = (let e : start + 0 ≡ start = omega arith in ap (λ n. take n old) e) ∙ sym (append-nil (take start old)); same = refl; long = refl }

pub one_octet_more : (bits : List Bool) (start count o : ℕ) (old new : List ℕ) → start + count < length new → take (count * 8 + 8) bits ≡ take (count * 8) bits ++ bits_of_octet o →
    OctetsSoFar bits start old new count → OctetsSoFar bits start old (set new (start + count) o) (count + 1)
one_octet_more bits start count o old new below eight m = record {
  octets = m.octets ++ o ∷ [];
  are = (let e : start + (count + 1) ≡ start + count + 1 = omega arith in ap (λ n. take n (set new (start + count) o)) e) ∙ take_more_set new (start + count) o below ∙ ap (λ l. l ++ o ∷ []) m.are ∙ append_assoc (take start old) m.octets (o ∷ []);
  same = flat-more m.octets o ∙ ap (λ l. l ++ bits_of_octet o) m.same ∙ sym eight ∙ (let e : count * 8 + 8 ≡ (count + 1) * 8 = omega arith in ap (λ n. take n bits) e);
  long = length-set new (start + count) o ∙ m.long;
}

pub all_octets : (bits : List Bool) (start : ℕ) (old new : List ℕ) (count : ℕ) → start + length bits / 8 ≡ length old → count ≡ length bits / 8 → OctetsSoFar bits start old new count → AreOctetsOf bits start old new
all_octets bits start old new count long is m = record {
  octets = m.octets;
  are = sym (take-length new) ∙ ap (λ n. take n new) (m.long ∙ sym long ∙ ap (λ n. start + n) (sym is)) ∙ m.are;
  same = m.same ∙ ap (λ n. take (n * 8) bits) is;
}

-- the bits of one octet more
pub bits_of_one_more : (octets : List ℕ) (count : ℕ) (old new : List Bool) → count < length octets → take (count * 8) old ≡ bits_of_octets (take count octets) → take (count * 8 + 8) new ≡ take (count * 8) old ++ bits_of_octet (get_or octets count 0) →
    take ((count + 1) * 8) new ≡ bits_of_octets (take (count + 1) octets)
bits_of_one_more octets count old new below so_far eight =
    (let e : (count + 1) * 8 ≡ count * 8 + 8 = omega arith in ap (λ n. take n new) e) ∙ eight ∙ ap (λ l. l ++ bits_of_octet (get_or octets count 0)) so_far ∙ sym (flat-more (take count octets) (get_or octets count 0)) ∙ ap (λ l. bits_of_octets l) (sym (take_more octets count 0 below))

-- Octets were written after what was there, where the vector was filled up with zeros, and the bits that are no whole octet are left.
pub appended : (bits : List Bool) (before reserved pushed zeros behind written slack : List ℕ) (start count : ℕ) → reserved ≡ before → pushed ≡ reserved ++ unused_of bits ∷ [] → start ≡ length pushed → behind ≡ take (start + length bits / 8) pushed ++ zeros →
    count ≡ length written → AreOctetsOf bits start behind written → BitsAppended bits before (take count (written ++ slack)) (drop (length bits / 8 * 8) bits)
appended bits before reserved pushed zeros behind written slack start count same pushed_is is behind_is long m =
    let front : take start behind ≡ before ++ unused_of bits ∷ [] =
    ap (take start) (behind_is ∙ ap (λ l. l ++ zeros) (take_all (start + length bits / 8) pushed (omega (arith, is))))
    ∙ ap (λ n. take n (pushed ++ zeros)) is ∙ take-append_seam pushed zeros ∙ pushed_is ∙ ap (λ l. l ++ unused_of bits ∷ []) same in
    record {
      octets = m.octets;
      bytes_are = ap (λ n. take n (written ++ slack)) long ∙ take-append_seam written slack ∙ m.are ∙ ap (λ l. l ++ m.octets) front ∙ append_assoc before (unused_of bits ∷ []) m.octets;
      bits_are = sym (take-append-drop (length bits / 8 * 8) bits) ∙ ap (λ l. l ++ drop (length bits / 8 * 8) bits) (sym m.same);
      same_rest = omega (arith, length-drop (length bits / 8 * 8) bits);
    }
