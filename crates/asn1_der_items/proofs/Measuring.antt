-- Length octets are written in front of contents octets, the first over an octet that was left for it.
use Rattle.std.proofs.Common.{◌≡◌, ℕ, suc, ◌+◌, ◌-◌, ◌≤◌, ◌<◌, ◌^◌, Bool, List, [], ◌∷◌, ◌++◌, length, length-append, set, append_assoc, refl, sym, ap, ◌∙◌, arith, inl, inr}
use Rattle.std.proofs.lemmas.List.{set-append_right}
use Rattle.asn1_values.specs.Numbers.{IsMagnitude, magnitude}
use Rattle.asn1_items.specs.Numbers.{Appended}
use Rattle.asn1_der_items.specs.Elements.{IsBegun, IsElement}
use Rattle.asn1_der_items.specs.Lengths.{IsMeasured}
use Rattle.asn1_tags.specs.declared.tags.Tag.{Tag}

-- an octet was written over the one before an index
pub overwritten : (before contents xs : List ℕ) (room v start : ℕ) → xs ≡ before ++ room ∷ contents → start ≡ suc (length before) → set xs (start - 1) v ≡ before ++ v ∷ contents
overwritten before contents xs room v start is at =
    let first : start - 1 - length before ≡ 0 = omega (arith, at) in
    ap (λ l. set l (start - 1) v) is ∙ set-append_right before (room ∷ contents) (length before) (start - 1) v refl (omega (arith, at)) ∙ ap (λ k. before ++ set (room ∷ contents) k v) first

pub short : (before contents new : List ℕ) (v : ℕ) → new ≡ before ++ v ∷ contents → v ≡ length contents → v < 128 → Appended (IsMeasured contents) before new
short before contents new v is value below = record {
  added = v ∷ contents;
  is = record { size = v ∷ []; is_size = inl (record { are = ap (λ k. k ∷ []) value; below = omega (arith, value, below) }); are = refl };
  joined = is;
}

pub long : (before contents digits old mid new : List ℕ) (room v start : ℕ) → old ≡ before ++ room ∷ contents → start ≡ suc (length before) → mid ≡ set old (start - 1) v →
    ((front back : List ℕ) → mid ≡ front ++ back → start ≡ length front → new ≡ front ++ (digits ++ back)) → v ≡ length digits + 128 → magnitude digits ≡ length contents → IsMagnitude digits → 128 ≤ length contents → length contents < 2 ^ 64 →
    Appended (IsMeasured contents) before new
long before contents digits old mid new room v start is at first spliced count value shortest not_short fits =
    let placed : mid ≡ (before ++ v ∷ []) ++ contents = first ∙ overwritten before contents old room v start is at ∙ sym (append_assoc before (v ∷ []) contents) in
    record {
      added = v ∷ (digits ++ contents);
      is = record {
        size = v ∷ digits;
        is_size = inr (record { digits = digits; are = ap (λ k. k ∷ digits) count; value = value; shortest = shortest; not_short = not_short; fits = fits });
        are = refl;
      };
      joined = spliced (before ++ v ∷ []) contents placed (omega (arith, at, length-append before (v ∷ []))) ∙ append_assoc before (v ∷ []) (digits ++ contents);
    }

-- an element was begun in front of its contents octets
pub room_last : (before front contents identifier old : List ℕ) (room : ℕ) → front ≡ identifier ++ room ∷ [] → old ≡ (before ++ front) ++ contents → old ≡ (before ++ identifier) ++ room ∷ contents
room_last before front contents identifier old room begun is =
    is ∙ ap (λ l. (before ++ l) ++ contents) begun ∙ ap (λ l. l ++ contents) (sym (append_assoc before identifier (room ∷ []))) ∙ append_assoc (before ++ identifier) (room ∷ []) contents

pub starts_behind : (before front identifier : List ℕ) (room start : ℕ) → front ≡ identifier ++ room ∷ [] → start ≡ length (before ++ front) → start ≡ suc (length (before ++ identifier))
starts_behind before front identifier room start begun at =
    omega (arith, at, ap (λ l. length (before ++ l)) begun, ap length (append_assoc before identifier (room ∷ [])), length-append (before ++ identifier) (room ∷ []))

pub ended : (t : Tag) (constructed : Bool) (before front contents new : List ℕ) → (b : IsBegun t constructed front) → Appended (IsMeasured contents) (before ++ b.identifier) new → Appended (IsElement t constructed contents) before new
ended t constructed before front contents new b a = record {
  added = b.identifier ++ a.added;
  is = record { identifier = b.identifier; size = a.is.size; is_identifier = b.is_identifier; is_size = a.is.is_size; are = ap (λ l. b.identifier ++ l) a.is.are };
  joined = a.joined ∙ append_assoc before b.identifier a.added;
}
