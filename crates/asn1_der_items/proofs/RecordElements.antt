-- A record that is no presence mark is one element, whose tag is one with which the record begins.
use Rattle.std.proofs.Common.{◌≡◌, ℕ, ◌≤◌, true, false, List, [], ◌∷◌, ◌++◌, refl, sym, ap, subst, ◌∙◌, arith, length}
use Rattle.asn1_der_items.specs.Bytes.{HasDer, HaveDer, HoldsInOrder, content_order_of}
use Rattle.asn1_der_items.specs.RecordElements.{IsElementOfRecord}
use Rattle.asn1_der_items.specs.declared.content_order.ContentOrder.{ContentOrder}
use Rattle.asn1_der_items.specs.declared.content_order.ContentOrder.TheVariants.{AsDefined, ByTag, ByEncoding, Chosen}
use Rattle.asn1_der_items.proofs.OneElement.{OneOf, element_alone, element_of, element_of_tag, one, one_of}
use Rattle.asn1_der_items.specs.Elements.{Element}
use Rattle.asn1_der_items.specs.Series.{IsAlone, IsElementOf, ends, is_whole, tag_found}
use Rattle.asn1_model.specs.Records as model
use Rattle.asn1_model.specs.Records.{Record, is_presence_mark, open_type, presence_mark, scalar, scope}
use Rattle.asn1_model.specs.Tags.{Has, record_tags, head_tag}
use Rattle.asn1_tags.specs.declared.tags.Tag.{Tag}

-- what holds records is one element of its tag
pub one_in_order : (form : ContentOrder) (t : Tag) (IsInside : List ℕ → Type 0) (own : List ℕ) → HoldsInOrder form t IsInside own → OneOf t own
one_in_order AsDefined t IsInside own p = record { element = element_of t true p.contents; alone = element_alone t true p.contents own p.element; tag = refl }
one_in_order ByTag t IsInside own p = record { element = element_of t true p.contents; alone = element_alone t true p.contents own p.element; tag = refl }
one_in_order ByEncoding t IsInside own p = record { element = element_of t true p.contents; alone = element_alone t true p.contents own p.element; tag = refl }
one_in_order Chosen t IsInside own p = one_of t own p.1

-- The element of a record, whose tag is one with which the record begins.
pub record HasElement (r : model.Record) (own : List ℕ) : Type 0 where
  pub element : Element
  pub alone : IsAlone element own
  pub has : Has (record_tags r) element.tag

pub record_element : (r : model.Record) (own : List ℕ) → is_presence_mark r ≡ false → HasDer r own → HasElement r own
record_element (model.scalar t c n x) own no_mark p = record {
  element = element_of t false p.contents;
  alone = element_alone t false p.contents own p.element;
  has = (0, omega arith, refl);
}
record_element (model.scope h rs) own no_mark p =
    let i = one_in_order (content_order_of h) (head_tag h) (HaveDer rs) own p in
    record { element = i.element; alone = i.alone; has = (0, omega arith, sym i.tag) }
record_element (model.open_type n bytes) own no_mark p =
    let o = one bytes p.1 in
    record { element = o.element; alone = subst (IsAlone o.element) (sym p.0) o.alone; has = tt }
record_element (model.presence_mark m) own no_mark p = cc

-- so its bytes are not nothing
alone_long : (e : Element) (own : List ℕ) → IsAlone e own → 1 ≤ length own
alone_long e [] is = let wrong = is.at in cc
alone_long e (o ∷ own) is = omega arith

pub record_long : (r : model.Record) (own : List ℕ) → is_presence_mark r ≡ false → HasDer r own → 1 ≤ length own
record_long r own no_mark p = let e = record_element r own no_mark p in alone_long e.element own e.alone

-- the law, by the two definitions that read the bytes
ends_it : (rest : List ℕ) → rest ≡ [] → ends rest ≡ true
ends_it [] e = refl
ends_it (byte ∷ rest) e = cc

pub is_element_of_record : (r : model.Record) (own : List ℕ) → is_presence_mark r ≡ false → HasDer r own → IsElementOfRecord r own
is_element_of_record r own no_mark p =
    let e = record_element r own no_mark p in
    record {
      one = ap is_whole e.alone.at ∙ ends_it e.element.rest e.alone.alone;
      tag = subst (Has (record_tags r)) (sym (ap tag_found e.alone.at)) e.has;
    }

-- so what holds records is one element of its tag
pub scope_is_one : (f : ContentOrder) (t : Tag) (IsInside : List ℕ → Type 0) (bytes : List ℕ) → HoldsInOrder f t IsInside bytes → IsElementOf t bytes
scope_is_one AsDefined t IsInside bytes d = element_of_tag t true d.contents bytes d.element
scope_is_one ByTag t IsInside bytes d = element_of_tag t true d.contents bytes d.element
scope_is_one ByEncoding t IsInside bytes d = element_of_tag t true d.contents bytes d.element
scope_is_one Chosen t IsInside bytes d = d.1

-- A presence mark has no bytes.
pub mark_bytes : (r : Record) (bytes : List ℕ) → is_presence_mark r ≡ true → HasDer r bytes → bytes ≡ []
mark_bytes (scalar t c n x) bytes mark d = cc
mark_bytes (scope h rs) bytes mark d = cc
mark_bytes (open_type n own) bytes mark d = cc
mark_bytes (presence_mark m) bytes mark d = d

-- parts of no bytes are none
pub no_first : (xs ys : List ℕ) → xs ++ ys ≡ [] → xs ≡ []
no_first [] ys e = refl
no_first (x ∷ xs) ys e = cc

pub no_later : (xs ys : List ℕ) → xs ++ ys ≡ [] → ys ≡ []
no_later [] ys e = e
no_later (x ∷ xs) ys e = cc
