-- Octets and the bits in them.
use Rattle.std.proofs.Common.{◌≡◌, ◌∙◌, ℕ, suc, ◌+◌, ◌*◌, ◌-◌, ◌/◌, ◌%◌, ◌<◌, ◌≤◌, false, List, [], ◌∷◌, ◌++◌, Some, length, length-append, take, drop, append_assoc, refl, sym, ap, subst, arith}
use Rattle.std.specs.Prelude.{replicate, slice_get}
use Rattle.std.proofs.lemmas.List.{get_or-take, length-replicate, length-set, length-take-le, take-append-drop, take-append-le, take-take}
use Rattle.std.proofs.lemmas.List.Concat.{flat_map-append, get_or-flat_map}
use Rattle.std.proofs.lemmas.Option.{slice_get-get_or}
use Rattle.std.proofs.Math.ListN.{get_or, set}
use Rattle.std.proofs.Math.Seq.{drop-append_seam, take-append-add, take-append_seam, take-length, take-suc, take-suc-set}
use Rattle.asn1_strings.specs.Bits.{AreOfBits, bits_but, bits_of_octet, bits_of_octets}

-- there are eight in each
pub bits_long : (octets : List ℕ) → length (bits_of_octets octets) ≡ length octets * 8
bits_long [] = refl
bits_long (o ∷ octets) = omega (arith, bits_long octets)

-- those of one octet more
one_more : (front : List ℕ) (o : ℕ) → bits_of_octets (front ++ o ∷ []) ≡ bits_of_octets front ++ bits_of_octet o
one_more front o = flat_map-append (λ p. bits_of_octet p) front (o ∷ [])

-- of the last octet some are left out
but_last : (front : List ℕ) (o unused : ℕ) → unused < 8 → bits_but unused (front ++ o ∷ []) ≡ bits_of_octets front ++ take (8 - unused) (bits_of_octet o)
but_last front o unused low =
    let long : length (front ++ o ∷ []) * 8 - unused ≡ length (bits_of_octets front) + (8 - unused) = omega (arith, length-append front (o ∷ []), bits_long front, low) in
    ap (λ n. take n (bits_of_octets (front ++ o ∷ []))) long ∙
    ap (take (length (bits_of_octets front) + (8 - unused))) (one_more front o) ∙
    take-append-add (bits_of_octets front) (bits_of_octet o) (8 - unused)

-- an octet whose last bits became 0 has the others
others_kept : (o c unused : ℕ) → bits_of_octet c ≡ take (8 - unused) (bits_of_octet o) ++ replicate unused false → take (8 - unused) (bits_of_octet c) ≡ take (8 - unused) (bits_of_octet o)
others_kept o c unused is =
    let long : length (take (8 - unused) (bits_of_octet o)) ≡ 8 - unused = length-take-le (8 - unused) (bits_of_octet o) (omega arith) in
    ap (take (8 - unused)) is ∙
    ap (λ n. take n (take (8 - unused) (bits_of_octet o) ++ replicate unused false)) (sym long) ∙
    take-append_seam (take (8 - unused) (bits_of_octet o)) (replicate unused false)

-- the bits that are left
pub view_long : (octets : List ℕ) (unused : ℕ) → length (bits_but unused octets) ≡ length octets * 8 - unused
view_long octets unused = length-take-le (length octets * 8 - unused) (bits_of_octets octets) (omega (arith, bits_long octets))

-- there are no more unused bits than bits
pub unused_within : (octets : List ℕ) (unused : ℕ) → AreOfBits octets unused → unused ≤ length octets * 8
unused_within octets unused are =
    omega (arith, bits_long octets, ap length are.zeros, length-append (bits_but unused octets) (replicate unused false), length-replicate unused false, view_long octets unused)

-- the last bits of the last octet became 0
pub record AreCleared (unused : ℕ) (old new : List ℕ) : Type 0 where
  pub kept : bits_but unused new ≡ bits_but unused old
  pub zeros : bits_of_octets new ≡ bits_but unused new ++ replicate unused false

last_cleared : (front : List ℕ) (o c unused : ℕ) → unused < 8 → bits_of_octet c ≡ take (8 - unused) (bits_of_octet o) ++ replicate unused false →
    AreCleared unused (front ++ o ∷ []) (front ++ c ∷ [])
last_cleared front o c unused low is =
    let others = others_kept o c unused is in
    record {
      kept = but_last front c unused low ∙ ap (λ l. bits_of_octets front ++ l) others ∙ sym (but_last front o unused low);
      zeros = one_more front c ∙ ap (λ l. bits_of_octets front ++ l) is ∙
          sym (append_assoc (bits_of_octets front) (take (8 - unused) (bits_of_octet o)) (replicate unused false)) ∙
          ap (λ l. l ++ replicate unused false) (sym (but_last front c unused low ∙ ap (λ l. bits_of_octets front ++ l) others));
    }

pub set_last : (octets : List ℕ) (n c unused : ℕ) → suc n ≡ length octets → unused < 8 → bits_of_octet c ≡ take (8 - unused) (bits_of_octet (get_or octets n 0)) ++ replicate unused false →
    AreCleared unused octets (set octets n c)
set_last octets n c unused end low is =
    let within : n < length octets = omega (arith, end) in
    let old : take n octets ++ get_or octets n 0 ∷ [] ≡ octets = sym (take-suc octets n 0 within) ∙ ap (λ k. take k octets) end ∙ take-length octets in
    let new : take n octets ++ c ∷ [] ≡ set octets n c =
    sym (take-suc-set octets n c within) ∙ ap (λ k. take k (set octets n c)) (end ∙ sym (length-set octets n c)) ∙ take-length (set octets n c) in
    subst (λ l. AreCleared unused octets l) new (subst (λ l. AreCleared unused l (take n octets ++ c ∷ [])) old (last_cleared (take n octets) (get_or octets n 0) c unused low is))

-- octets end in 0 bits where the last of them does
abbrev before_last : List ℕ → ℕ → List ℕ
before_last octets n = take n octets ++ get_or octets n 0 ∷ []

parted : (octets : List ℕ) (n : ℕ) → suc n ≡ length octets → before_last octets n ≡ octets
parted octets n end = sym (take-suc octets n 0 (omega (arith, end))) ∙ ap (λ k. take k octets) end ∙ take-length octets

pub end_clear : (octets : List ℕ) (n unused : ℕ) → suc n ≡ length octets → unused < 8 →
    bits_of_octet (get_or octets n 0) ≡ take (8 - unused) (bits_of_octet (get_or octets n 0)) ++ replicate unused false →
    bits_of_octets octets ≡ bits_but unused octets ++ replicate unused false
end_clear octets n unused end low is =
    let front = take n octets in
    let o = get_or octets n 0 in
    subst (λ l. bits_of_octets l ≡ bits_but unused l ++ replicate unused false) (parted octets n end)
    (one_more front o ∙ ap (λ l. bits_of_octets front ++ l) is ∙
    sym (append_assoc (bits_of_octets front) (take (8 - unused) (bits_of_octet o)) (replicate unused false)) ∙
    ap (λ l. l ++ replicate unused false) (sym (but_last front o unused low)))

-- and only there
pub clear_at_end : (octets : List ℕ) (n unused : ℕ) → suc n ≡ length octets → unused < 8 →
    bits_of_octets octets ≡ bits_but unused octets ++ replicate unused false →
    bits_of_octet (get_or octets n 0) ≡ take (8 - unused) (bits_of_octet (get_or octets n 0)) ++ replicate unused false
clear_at_end octets n unused end low zeros =
    let front = take n octets in
    let o = get_or octets n 0 in
    let own = subst (λ l. bits_of_octets l ≡ bits_but unused l ++ replicate unused false) (sym (parted octets n end)) zeros in
    sym (drop-append_seam (bits_of_octets front) (bits_of_octet o)) ∙
    ap (drop (length (bits_of_octets front)))
    (sym (one_more front o) ∙ own ∙ ap (λ l. l ++ replicate unused false) (but_last front o unused low) ∙
    append_assoc (bits_of_octets front) (take (8 - unused) (bits_of_octet o)) (replicate unused false)) ∙
    drop-append_seam (bits_of_octets front) (take (8 - unused) (bits_of_octet o) ++ replicate unused false)

-- a bit is that of its octet
pub bit_is : (octets : List ℕ) (unused k : ℕ) → k < length octets * 8 - unused → slice_get (bits_but unused octets) k ≡ Some (get_or (bits_of_octet (get_or octets (k / 8) 0)) (k % 8) false)
bit_is octets unused k low =
    let within : k / 8 < length octets = omega (arith, low) in
    let place : k % 8 < 8 = omega arith in
    let before : length (bits_of_octets (take (k / 8) octets)) ≡ k / 8 * 8 = bits_long (take (k / 8) octets) ∙ ap (λ n. n * 8) (length-take-le (k / 8) octets (omega (arith, within))) in
    let at : length (bits_of_octets (take (k / 8) octets)) + k % 8 ≡ k = omega (arith, before) in
    slice_get-get_or (bits_but unused octets) k false (omega (arith, view_long octets unused, low)) ∙
    ap Some (get_or-take (length octets * 8 - unused) (bits_of_octets octets) k false low ∙
    ap (λ n. get_or (bits_of_octets octets) n false) (sym at) ∙
    get_or-flat_map (λ o. bits_of_octet o) octets (k / 8) (k % 8) 0 false within place)

-- the first bits are those of the first octets
pub truncated : (octets : List ℕ) (m unused u count : ℕ) → m ≤ length octets → count + unused ≡ m * 8 → count ≤ length octets * 8 - u →
    bits_but unused (take m octets) ≡ take count (bits_but u octets)
truncated octets m unused u count within whole low =
    let as_many : length (take m octets) ≡ m = length-take-le m octets within in
    let first : length (take m octets) * 8 - unused ≡ count = omega (arith, as_many, whole) in
    let long : count ≤ length (bits_of_octets (take m octets)) = omega (arith, bits_long (take m octets), as_many, whole) in
    let all : bits_of_octets (take m octets) ++ bits_of_octets (drop m octets) ≡ bits_of_octets octets =
    sym (flat_map-append (λ o. bits_of_octet o) (take m octets) (drop m octets)) ∙ ap bits_of_octets (take-append-drop m octets) in
    ap (λ n. take n (bits_of_octets (take m octets))) first ∙
    sym (take-append-le count (bits_of_octets (take m octets)) (bits_of_octets (drop m octets)) long) ∙
    ap (take count) all ∙
    sym (take-take count (length octets * 8 - u) (bits_of_octets octets) low)
