-- The records that a buffer of DER has written, and those that it rejects.
use Rattle.std.specs.Prelude.{◌≡◌, ℕ, Bool, true, false, ◌&&◌, List, [], ◌∷◌, ◌++◌, length, refl, reverse}
use Rattle.std.proofs.Common.{inl, inr}
use Rattle.asn1_buffers.specs.Buffers.{BufferForm}
use Rattle.asn1_buffers.specs.Encoder.{buffer_writer, in_one_order}
use Rattle.asn1_buffers.specs.declared.encoder.BufferEncoder.{BufferEncoder}
use Rattle.asn1_laws.specs.Writing.{Writer, Written, outermost, in_scope, in_group}
use Rattle.asn1_laws.specs.WritingUpToOrder.{RejectsByParts}
use Rattle.asn1_der_items.specs.Bytes.{HasDer, HasNoDer, HaveDer, SomeHasNoDer, content_order_of}
use Rattle.asn1_der.specs.declared.buffer.DerBuffer.{DerBuffer}
use Rattle.asn1_der.specs.declared.frame.Frame.{Frame}
use Rattle.asn1_der_items.specs.Elements.{IsBegun}
use Rattle.asn1_der_items.specs.declared.content_order.ContentOrder.{ContentOrder}
use Rattle.asn1_der_items.specs.declared.content_order.ContentOrder.TheVariants.{AsDefined, ByTag, ByEncoding, Chosen}
use Rattle.asn1_items.specs.Items.{IsJoined}
use Rattle.asn1_model.specs.Orders.{SameRecord}
use Rattle.asn1_model.specs.Records as model
use Rattle.asn1_model.specs.Records.{Head, Record, held, holding, is_presence_mark, presence_marks_alone}
use Rattle.asn1_model.specs.Tags.{head_tag}
use Rattle.asn1_tags.specs.declared.tags.Tag.{Tag}

-- The front of a scope: the identifier octets of its element, and an octet in the place of its length; a CHOICE has none.
abbrev pub IsFront : ContentOrder → Tag → List ℕ → Type 0
IsFront AsDefined t front = IsBegun t true front
IsFront ByTag t front = IsBegun t true front
IsFront ByEncoding t front = IsBegun t true front
IsFront Chosen t front = front ≡ []

-- A scope that is open: what is outside, what it begins with, and what is inside.
pub record IsOpenScope (IsOutside : List ℕ → Type 0) (h : Head) (rs : List Record) (f : Frame) (bytes : List ℕ) : Type 0 where
  pub before : List ℕ
  pub front : List ℕ
  pub inside : List ℕ
  pub outside : IsOutside before
  pub begins : IsFront f.content_order f.tag front
  pub are : bytes ≡ (before ++ front) ++ inside
  pub starts : f.start ≡ length (before ++ front)
  pub tag : f.tag ≡ head_tag h
  pub content_order : f.content_order ≡ content_order_of h
  pub have_der : HaveDer (held rs) inside

-- The records that have been written, with the frames innermost first. An open group leaves no trace: its records follow those
-- outside it.
abbrev pub IsWrittenAsElements : Written → List Frame → List ℕ → Type 0
IsWrittenAsElements (outermost rs) [] bytes = HaveDer (held rs) bytes
IsWrittenAsElements (outermost rs) (f ∷ fs) bytes = ⊥
IsWrittenAsElements (in_scope h rs w) [] bytes = ⊥
IsWrittenAsElements (in_scope h rs w) (f ∷ fs) bytes = IsOpenScope (λ before. IsWrittenAsElements w fs before) h rs f bytes
IsWrittenAsElements (in_group table rs w) fs bytes = IsJoined (λ before. IsWrittenAsElements w fs before) (HaveDer (held rs)) bytes

-- The bytes are the DER of a record of this head, which holds these records, in some order where the order means nothing.
pub record IsHeld (h : Head) (rs : List Record) (bytes : List ℕ) : Type 0 where
  pub closed : Record
  pub same : SameRecord closed (holding h rs)
  pub has_der : HasDer closed bytes

-- Records have no DER where a part of them has none, or what one of them holds; presence marks always have.
none_after : (before rs : List Record) → SomeHasNoDer (held rs) → SomeHasNoDer (held (before ++ rs))
none_after [] rs t = t
none_after (b ∷ before) rs t = inr (none_after before rs t)

none_before : (rs after : List Record) → SomeHasNoDer (held rs) → SomeHasNoDer (held (rs ++ after))
none_before [] after t = absurd t
none_before (r ∷ rs) after (inl t) = inl t
none_before (r ∷ rs) after (inr t) = inr (none_before rs after t)

both_true : (a b : Bool) → (a && b) ≡ true → (a ≡ true) × (b ≡ true)
both_true true b e = (refl, e)
both_true false b e = cc

mark_has : (r : Record) → is_presence_mark r ≡ true → HasNoDer r → ⊥
mark_has (model.scalar t c n x) e none = cc
mark_has (model.scope h rs) e none = cc
mark_has (model.open_type n own) e none = cc
mark_has (model.presence_mark m) e none = none

marks_have : (rs : List Record) → presence_marks_alone rs ≡ true → SomeHasNoDer (held rs) → ⊥
marks_have [] e none = none
marks_have (r ∷ rs) e (inl none) = mark_has r ((both_true (is_presence_mark r) (presence_marks_alone rs) e).0) none
marks_have (r ∷ rs) e (inr none) = marks_have rs ((both_true (is_presence_mark r) (presence_marks_alone rs) e).1) none

-- The buffer in the order in which it is written, where sets have been sorted. It does not take records that have no DER.
abbrev pub written_der : BufferForm DerBuffer
written_der = record {
  wrote = λ b w. IsWrittenAsElements w (reverse b.outer.items) b.bytes.items;
  rejects = λ rs. SomeHasNoDer (held rs);
  have_bytes = λ rs bytes. HaveDer (held rs) bytes;
}

-- the encoder as types see it: the order inside sets means nothing
abbrev pub der_writer : Writer (BufferEncoder DerBuffer)
der_writer = buffer_writer written_der

-- Records are rejected where a part of them is, or what one of them holds; and presence marks alone never are.
pub rejects_by_parts : RejectsByParts (in_one_order written_der)
rejects_by_parts = record {
  part = λ before rs after none. none_after before (rs ++ after) (none_before rs after none);
  inner = λ h rs none. inl (inl none);
  marks = λ table rs alone none. absurd (marks_have rs alone none);
}
