-- Elements of DER (X.690, 8.1) by numbers that C reads.
use Rattle.std.specs.Prelude.{◌≡◌, ◌+◌, ℕ, List, Some, length}
use Rattle.asn1_der_items.specs.Elements.{Element, element_at}
use Rattle.asn1_der_items.specs.Faults.{AreElementsDownTo}
use Rattle.asn1_tags.specs.Tags.{class_number}
use Rattle.fan_calls.specs.Depths.{NestsDeeper}
use Rattle.fanughespu.specs.declared.elements.FanElement.{FanElement}

-- The octets are elements, and so is what is inside those that are constructed, with at most this many constructed elements around it.
pub record AreElements (depth : ℕ) (octets : List ℕ) : Type 0 where
  pub elements : AreElementsDownTo depth octets
  pub all : ¬ NestsDeeper depth octets

-- An element begins the octets, with the class, number and form of these parts. Its contents octets are as many as they say, behind
-- as many octets as they say.
pub record BeginsWith (octets : List ℕ) (parts : FanElement) : Type 0 where
  pub element : Element
  pub at : element_at octets ≡ Some element
  pub class : class_number element.tag.class ≡ parts.class
  pub number : element.tag.value ≡ parts.number
  pub form : element.constructed ≡ parts.constructed
  pub size : length element.contents ≡ parts.size
  pub header : parts.header + (parts.size + length element.rest) ≡ length octets
