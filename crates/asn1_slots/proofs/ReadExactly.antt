-- Components that were read into slots, and nothing else.
use Rattle.std.proofs.Common.{◌≡◌, ℕ, zero, suc, ◌<◌, List, [], ◌∷◌, ◌++◌, Err, Ok, append_assoc, append-nil, arith, length, refl, subst, sym}
use Rattle.std.specs.Prelude.{IfOk, Result}
use Rattle.asn1_components.specs.ComponentLists.{AreReadInTurn}
use Rattle.asn1_components.specs.ComponentTypes.{ComponentType}
use Rattle.asn1_laws.proofs.ReadingExactly.{nothing_read}
use Rattle.asn1_laws.proofs.ReadingWhole.{both_were_read, these_were_read, was_read_as}
use Rattle.asn1_laws.specs.Reading.{Reader}
use Rattle.asn1_laws.specs.ReadingExactly.{WasRead}
use Rattle.asn1_laws.specs.declared.decode_error.DecodeError.{DecodeError}
use Rattle.asn1_model.specs.Records.{Record}
use Rattle.asn1_slots.specs.Slots.{AreKeptBefore, AreOf, AreReadBefore, AreSlotsOf, ReadsAt, Slot}

module _ {S V : Type 0} where
  none_are_read : (hs : List (Slot S V)) (s : S) → AreReadBefore hs zero s []
  none_are_read [] s = refl
  none_are_read (h ∷ hs) s = refl

  pub none_were_read : {D : Type 0} (R : Reader D) (d : D) (hs : List (Slot S V)) (s : S) → WasRead R d d (AreReadBefore hs zero s)
  none_were_read R d hs s = these_were_read R d d [] (AreReadBefore hs zero s) (none_are_read hs s) (nothing_read R d)

  -- slots that are kept are read as they were
  kept_are_read : (hs : List (Slot S V)) (index : ℕ) (before after : S) (rs : List Record) → AreKeptBefore hs index before after → AreReadBefore hs index before rs → AreReadBefore hs index after rs
  kept_are_read [] index before after rs kept are = are
  kept_are_read (h ∷ hs) zero before after rs kept are = are
  kept_are_read (h ∷ hs) (suc index) before after rs kept (first, later, one, others, is) =
      (first, later, subst (λ slot. h.IsReadAs slot first) (sym kept.0) one, kept_are_read hs index before after later kept.1 others, is)

  -- what is read as the slot at an index
  abbrev IsReadAt : List (Slot S V) → ℕ → S → List Record → Type 0
  IsReadAt [] index s rs = rs ≡ []
  IsReadAt (h ∷ hs) zero s rs = h.IsReadAs (h.content s) rs
  IsReadAt (h ∷ hs) (suc index) s rs = IsReadAt hs index s rs

  was_read_at : {D A : Type 0} (R : Reader D) (old new : D) (x : A) (hs : List (Slot S V)) (index : ℕ) (s : S) → index < length hs → ReadsAt R hs index old new s (Ok x) → WasRead R old new (IsReadAt hs index s)
  was_read_at R old new x [] index s low reads = absurd (omega (arith, low))
  was_read_at R old new x (h ∷ hs) zero s low reads = h.reads_exactly R old new (h.content s) x reads
  was_read_at R old new x (h ∷ hs) (suc index) s low reads = was_read_at R old new x hs index s (omega (arith, low)) reads

  one_more : (hs : List (Slot S V)) (index : ℕ) (s : S) (rs own : List Record) → index < length hs → AreReadBefore hs index s rs → IsReadAt hs index s own → AreReadBefore hs (suc index) s (rs ++ own)
  one_more [] index s rs own low are is = absurd (omega (arith, low))
  one_more (h ∷ hs) zero s rs own low none is = (own, [], is, none_are_read hs s, subst (λ l. l ++ own ≡ own ++ []) (sym none) (sym (append-nil own)))
  one_more (h ∷ hs) (suc index) s rs own low (first, later, one, others, parts) is =
      (first, later ++ own, one, one_more hs index s later own (omega (arith, low)) others is, subst (λ l. l ++ own ≡ first ++ (later ++ own)) (sym parts) (append_assoc first later own))

  -- one more slot was filled, and those before it are kept
  pub one_more_was_read : {D A : Type 0} (R : Reader D) (old mid new : D) (x : A) (hs : List (Slot S V)) (index : ℕ) (before after : S) → index < length hs →
      AreKeptBefore hs index before after → WasRead R old mid (AreReadBefore hs index before) → ReadsAt R hs index mid new after (Ok x) → WasRead R old new (AreReadBefore hs (suc index) after)
  one_more_was_read R old mid new x hs index before after low kept first reads =
      both_were_read R old mid new (AreReadBefore hs index before) (IsReadAt hs index after) (AreReadBefore hs (suc index) after)
      (λ rs ss are is. one_more hs index after rs ss low (kept_are_read hs index before after rs kept are) is)
      first (was_read_at R mid new x hs index after low reads)

  -- what is read as all slots is read as the components of a value that has what they have
  pub read_as_components : (cs : List (ComponentType V)) (hs : List (Slot S V)) → AreSlotsOf cs hs → (s : S) (v : V) (rs : List Record) →
      AreOf hs s v → AreReadBefore hs (length hs) s rs → AreReadInTurn cs v rs
  read_as_components [] [] same s v rs has are = are
  read_as_components [] (h ∷ hs) same s v rs has are = absurd same
  read_as_components (c ∷ cs) [] same s v rs has are = absurd same
  read_as_components (c ∷ cs) (h ∷ hs) same s v rs has (first, later, one, others, is) =
      (first, later, (same.0.0 v).5 first (h.read_as_component (h.content s) v first has.0 one), read_as_components cs hs same.1 s v later has.1 others, is)

  pub fields_were_read : {D : Type 0} (R : Reader D) (cs : List (ComponentType V)) (hs : List (Slot S V)) → AreSlotsOf cs hs → (old new : D) (s : S) (result : Result V DecodeError) →
      WasRead R old new (AreReadBefore hs (length hs) s) → IfOk result (AreOf hs s) → IfOk result (λ v. WasRead R old new (AreReadInTurn cs v))
  fields_were_read R cs hs same old new s (Ok v) was has = was_read_as R old new _ (AreReadInTurn cs v) (λ rs are. read_as_components cs hs same s v rs has are) was
  fields_were_read R cs hs same old new s (Err e) was has = tt
