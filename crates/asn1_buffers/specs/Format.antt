-- The formats of codecs whose encoder writes in a buffer, and their law.
use Rattle.std.specs.Prelude.{ℕ, Bool, List, Vec}
use Rattle.std.specs.declared.alloc.Global.{Global}
use Rattle.asn1_buffers.specs.Buffers.{BufferForm}
use Rattle.asn1_buffers.specs.Encoder.{CarriesUpToOrder, buffer_writer, in_one_order}
use Rattle.asn1_laws.proofs.WritingUpToOrder.{lawful}
use Rattle.asn1_laws.specs.WritingUpToOrder.{RejectsByParts}
use Rattle.asn1_model.proofs.SameUpToOrder.{SameAll-trans}
use Rattle.asn1_rules.specs.Rules.{Format, IsLawful}

module _ {B : Type 0} (F : BufferForm B) where
  -- The format of a codec that writes in this form, and takes these byte strings as one value each of an open type.
  abbrev pub buffer_format : (List ℕ → Bool) → Format (Vec ℕ Global)
  buffer_format accepts = record {
    carries = λ output rs. CarriesUpToOrder F.have_bytes output.items rs;
    rejects = λ rs. (buffer_writer F).rejects rs;
    accepts = accepts;
  }

  -- it keeps to the law
  pub buffer_format_is_lawful : (accepts : List ℕ → Bool) → RejectsByParts (in_one_order F) → IsLawful (buffer_format accepts)
  buffer_format_is_lawful accepts by_parts =
      let writing = lawful (in_one_order F) by_parts in
      record {
        carries_in_any_order = λ output rs ss same carried. record { exactly = carried.exactly; have_bytes = carried.have_bytes; same = SameAll-trans carried.same same };
        rejects_in_any_order = writing.rejects_in_any_order;
        part = writing.part;
        inner = writing.inner;
      }
