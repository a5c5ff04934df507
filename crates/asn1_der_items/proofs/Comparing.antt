-- What holds others is compared by what is inside.
use Rattle.std.proofs.Common.{ℕ, Bool, true, List, ◌++◌, subst}
use Rattle.std.specs.Int.Digits.{AllBelowBase}
use Rattle.asn1_tags.specs.declared.tags.Tag.{Tag}
use Rattle.asn1_der_items.specs.declared.content_order.ContentOrder.{ContentOrder}
use Rattle.asn1_der_items.specs.declared.content_order.ContentOrder.TheVariants.{AsDefined, ByTag, ByEncoding, Chosen}
use Rattle.asn1_der_items.specs.Bytes.{HoldsInOrder}
use Rattle.asn1_der_items.specs.Elements.{IsElement}
use Rattle.asn1_der_items.specs.Series.{HoldsContents}
use Rattle.asn1_der_items.proofs.OneContents.{below_later}

-- the contents octets are octets where the element is
pub contents_below : (t : Tag) (constructed : Bool) (contents own : List ℕ) → IsElement t constructed contents own → AllBelowBase 256 own → AllBelowBase 256 contents
contents_below t constructed contents own e below = below_later 256 e.size contents (below_later 256 e.identifier (e.size ++ contents) (subst (AllBelowBase 256) e.are below))

-- Bytes of two kinds are alike, as far as they are octets.
abbrev pub AreAlike : (List ℕ → List ℕ → Type 0) → (List ℕ → Type 0) → (List ℕ → Type 0) → Type 0
AreAlike Alike Is Too = (own other : List ℕ) → AllBelowBase 256 own → AllBelowBase 256 other → Is own → Too other → Alike own other

-- Elements are alike where their contents are.
abbrev pub GoesOut : (List ℕ → List ℕ → Type 0) → Type 0
GoesOut Alike =
    (t : Tag) (constructed : Bool) (own other first second : List ℕ) → IsElement t constructed first own → IsElement t constructed second other → Alike first second →
    Alike own other

module _ (Alike : List ℕ → List ℕ → Type 0) (out : GoesOut Alike) where
  pub alike_elements : (t : Tag) (constructed : Bool) (Are Too : List ℕ → Type 0) → AreAlike Alike Are Too →
      AreAlike Alike (HoldsContents Are t constructed) (HoldsContents Too t constructed)
  alike_elements t constructed Are Too alike own other below above a b =
      out t constructed own other a.contents b.contents a.element b.element
      (alike a.contents b.contents (contents_below t constructed a.contents own a.element below) (contents_below t constructed b.contents other b.element above) a.are b.are)

  pub alike_scopes : (f : ContentOrder) (t : Tag) (Is Too : List ℕ → Type 0) → AreAlike Alike Is Too → AreAlike Alike (HoldsInOrder f t Is) (HoldsInOrder f t Too)
  alike_scopes AsDefined t Is Too alike = alike_elements t true Is Too alike
  alike_scopes ByTag t Is Too alike = alike_elements t true _ _ (λ own other below above a b. alike own other below above a.0 b.0)
  alike_scopes ByEncoding t Is Too alike = alike_elements t true _ _ (λ own other below above a b. alike own other below above a.0 b.0)
  alike_scopes Chosen t Is Too alike = λ own other below above a b. alike own other below above a.0 b.0
