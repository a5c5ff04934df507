-- The relations of a codec that ignores the order inside sets, by its relations on the exact records
-- that it wrote.
use Rattle.std.specs.Prelude.{◌≡◌, true, List, [], ◌∷◌, ◌++◌}
use Rattle.asn1_model.specs.Orders.{SameRecords}
use Rattle.asn1_model.specs.RecordTables.{Row, Table}
use Rattle.asn1_model.specs.Records.{Record, Head, group_absent, holding, presence_mark, presence_marks_alone}
use Rattle.asn1_laws.specs.Writing.{Writer, Written, SameWritten}

module _ {E : Type 0} (W : Writer E) where
  -- The laws of rejection, apart from order. Records are rejected where a part of them is, or what
  -- one of them holds. Presence marks alone are rejected only where an absent group is.
  pub record RejectsByParts : Type 0 where
    pub part : (before rs after : List Record) → W.rejects rs → W.rejects (before ++ (rs ++ after))
    pub inner : (h : Head) (rs : List Record) → W.rejects rs → W.rejects (holding h rs ∷ [])
    pub marks : (table : Table Row) (rs : List Record) → presence_marks_alone rs ≡ true → W.rejects rs →
        W.rejects (presence_mark (group_absent table) ∷ [])

  -- Something has been written that is the same up to the order inside sets (X.680, 27 and 28).
  pub record WroteUpToOrder (e : E) (w : Written) : Type 0 where
    pub exactly : Written
    pub wrote : W.wrote e exactly
    pub same : SameWritten exactly w

  -- Records are rejected that are the same up to the order inside sets.
  pub record RejectsUpToOrder (rs : List Record) : Type 0 where
    pub exactly : List Record
    pub rejects : W.rejects exactly
    pub same : SameRecords exactly rs

  -- The relations of W up to the order inside sets: records have been written, or are rejected, if W
  -- relates the same records.
  abbrev pub up_to_order : Writer E
  up_to_order = record {
    wrote = λ e w. WroteUpToOrder e w;
    failed = λ e. W.failed e;
    depth_left = λ e. W.depth_left e;
    rejects = λ rs. RejectsUpToOrder rs;
  }
