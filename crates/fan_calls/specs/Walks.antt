-- The findings of a walk through elements of DER (X.690, 8.1.1), down to a depth.
use Rattle.std.specs.Prelude.{ℕ, List}
use Rattle.asn1_der_items.specs.Elements.{Element}
use Rattle.asn1_der_items.specs.Faults.{AreElementsDownTo, HoldsElements, IsFaultInside, IsFirstFault}
use Rattle.fan_calls.specs.Depths.{HoldsDeeper, NestsDeeper}
use Rattle.fan_calls.specs.declared.walk.Finding.{Finding}
use Rattle.fan_calls.specs.declared.walk.Finding.TheVariants.{Deeper, Elements, Fault}

-- the bytes are elements, and no octet lies deeper; or they are as far as the walk looks, and octets do; or this is the first fault
abbrev pub Finds : ℕ → List ℕ → Finding → Type 0
Finds depth bytes Elements = AreElementsDownTo depth bytes × ¬ NestsDeeper depth bytes
Finds depth bytes Deeper = AreElementsDownTo depth bytes × NestsDeeper depth bytes
Finds depth bytes (Fault position) = IsFirstFault depth bytes position

-- the same of what is inside an element
abbrev pub FindsInside : ℕ → Element → Finding → Type 0
FindsInside depth e Elements = HoldsElements depth e × ¬ HoldsDeeper depth e
FindsInside depth e Deeper = HoldsElements depth e × HoldsDeeper depth e
FindsInside depth e (Fault position) = IsFaultInside depth e position
