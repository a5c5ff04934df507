-- The records that a buffer of items has written, and those that it rejects.
use Rattle.std.specs.Prelude.{◌≡◌, Bool, true, false, ◌&&◌, List, [], ◌∷◌, ◌++◌, refl}
use Rattle.std.proofs.Common.{inl, inr}
use Rattle.asn1_buffers.specs.Buffers.{BufferForm}
use Rattle.asn1_buffers.specs.Encoder.{buffer_writer, in_one_order}
use Rattle.asn1_buffers.specs.declared.encoder.BufferEncoder.{BufferEncoder}
use Rattle.asn1_laws.specs.WritingUpToOrder.{RejectsByParts}
use Rattle.asn1_laws.specs.Writing.{Writer}
use Rattle.asn1_items.specs.Buffers.{HasWritten}
use Rattle.asn1_items.specs.Items.{HaveBytes, IsTooLong, MarkBytes, SomeTooLong, written_with}
use Rattle.asn1_model.specs.Records as model
use Rattle.asn1_model.specs.Records.{held, is_presence_mark, presence_marks_alone}
use Rattle.asn1_bench.specs.declared.item_buffer.ItemBuffer.{ItemBuffer}

both_true : (a b : Bool) → (a && b) ≡ true → (a ≡ true) × (b ≡ true)
both_true true b e = (refl, e)
both_true false b e = cc

module _ (marks : MarkBytes) where
  -- Records are too long where a part of them is, or what one of them holds; presence marks never are.
  too_long_after : (before rs : List model.Record) → SomeTooLong (written_with marks) (held rs) → SomeTooLong (written_with marks) (held (before ++ rs))
  too_long_after [] rs t = t
  too_long_after (b ∷ before) rs t = inr (too_long_after before rs t)

  too_long_before : (rs after : List model.Record) → SomeTooLong (written_with marks) (held rs) → SomeTooLong (written_with marks) (held (rs ++ after))
  too_long_before [] after t = absurd t
  too_long_before (r ∷ rs) after (inl t) = inl t
  too_long_before (r ∷ rs) after (inr t) = inr (too_long_before rs after t)

  mark_not_long : (r : model.Record) → is_presence_mark r ≡ true → IsTooLong (written_with marks) r → ⊥
  mark_not_long (model.scalar t c n x) e l = cc
  mark_not_long (model.scope h rs) e l = cc
  mark_not_long (model.open_type n own) e l = cc
  mark_not_long (model.presence_mark m) e l = l

  marks_not_long : (rs : List model.Record) → presence_marks_alone rs ≡ true → SomeTooLong (written_with marks) (held rs) → ⊥
  marks_not_long [] e l = l
  marks_not_long (r ∷ rs) e (inl l) = mark_not_long r ((both_true (is_presence_mark r) (presence_marks_alone rs) e).0) l
  marks_not_long (r ∷ rs) e (inr l) = marks_not_long rs ((both_true (is_presence_mark r) (presence_marks_alone rs) e).1) l

module _ {P : Type 0} (marks : MarkBytes) where
  -- The buffer in the order in which it is written. It does not take records that are too long, at whatever depth.
  abbrev pub written_items : BufferForm (ItemBuffer P)
  written_items = record {
    wrote = λ b w. HasWritten marks w b.items;
    rejects = λ rs. SomeTooLong (written_with marks) (held rs);
    have_bytes = λ rs bytes. HaveBytes (written_with marks) (held rs) bytes;
  }

  -- the encoder as types see it: the order inside sets means nothing
  abbrev pub item_writer : Writer (BufferEncoder (ItemBuffer P))
  item_writer = buffer_writer written_items

  -- Records that are too long stay so with others before, after and around them; and presence marks alone are not too long.
  pub rejects_by_parts : RejectsByParts (in_one_order written_items)
  rejects_by_parts = record {
    part = λ before rs after t. too_long_after marks before (rs ++ after) (too_long_before marks rs after t);
    inner = λ h rs t. inl (inl t);
    marks = λ table rs alone t. absurd (marks_not_long marks rs alone t);
  }
