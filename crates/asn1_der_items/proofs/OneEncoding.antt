-- A record, in one order inside sets, has no more than one DER.
use Rattle.std.proofs.Common.{◌≡◌, ℕ, Bool, false, List, ◌++◌, sym, ap, subst, ◌∙◌}
use Rattle.std.specs.Int.Digits.{AllBelowBase}
use Rattle.asn1_tags.specs.declared.tags.Tag.{Tag}
use Rattle.asn1_model.specs.Records.{Record, Records, scalar, scope, open_type, presence_mark, none, more}
use Rattle.asn1_model.specs.Tags.{head_tag}
use Rattle.asn1_der_items.specs.Bytes.{HasDer, HaveDer, content_order_of}
use Rattle.asn1_der_items.specs.Contents.{HasContents}
use Rattle.asn1_der_items.specs.Elements.{IsElement}
use Rattle.asn1_der_items.proofs.Comparing.{AreAlike, alike_elements, alike_scopes}
use Rattle.asn1_der_items.proofs.Encodings.{one_element}
use Rattle.asn1_der_items.proofs.OneContents.{below_first, below_later, one_contents}

pub same_contents : (t : Tag) (constructed : Bool) (own other first second : List ℕ) → IsElement t constructed first own → IsElement t constructed second other → first ≡ second → own ≡ other
same_contents t constructed own other first second a b same = one_element t constructed second own other (subst (λ l. IsElement t constructed l own) same a) b

-- what has one encoding in octets
abbrev IsOne : (List ℕ → Type 0) → Type 0
IsOne Is = AreAlike (λ own other. own ≡ other) Is Is

mutual
  pub one_der : (r : Record) → IsOne (HasDer r)
  one_der (scalar t c n x) = alike_elements (λ own other. own ≡ other) same_contents t false (HasContents x) (HasContents x) (one_contents x)
  one_der (scope h rs) = alike_scopes (λ own other. own ≡ other) same_contents (content_order_of h) (head_tag h) (HaveDer rs) (HaveDer rs) (one_ders rs)
  one_der (open_type n bytes) = λ own other below above a b. a.0 ∙ sym b.0
  one_der (presence_mark m) = λ own other below above a b. a ∙ sym b

  pub one_ders : (rs : Records) → IsOne (HaveDer rs)
  one_ders none = λ own other below above a b. a ∙ sym b
  one_ders (more r rs) = λ own other below above a b.
      let low = subst (AllBelowBase 256) a.are below in
      let high = subst (AllBelowBase 256) b.are above in
      a.are
      ∙ ap (λ l. l ++ a.others) (one_der r a.first b.first (below_first 256 a.first a.others low) (below_first 256 b.first b.others high) a.is_first b.is_first)
      ∙ ap (λ l. b.first ++ l) (one_ders rs a.others b.others (below_later 256 a.first a.others low) (below_later 256 b.first b.others high) a.are_others b.are_others)
      ∙ sym b.are
