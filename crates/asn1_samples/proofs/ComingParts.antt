-- What has come for the slots of a SET, after each part.
use Rattle.std.proofs.Common.{◌≡◌, ◌∙◌, ℕ, true, List, [], ◌∷◌, ◌++◌, Option, None, Some, ap, append_assoc, append-nil, refl, subst, sym}
use Rattle.std.specs.Prelude.{IsSomeAnd}
use Rattle.asn1_model.specs.Readings.{AreElementsRead, Reading}
use Rattle.asn1_model.specs.Records.{Record}
use Rattle.asn1_model.specs.TaggedTypes.{TaggedType}
use Rattle.asn1_slots.specs.ComingInSets.{ComesAs}
use Rattle.asn1_slots.specs.Slots.{ComesAt, HaveCome, OthersAreKept, Slot, can_be_in_set}
use Rattle.asn1_slots.specs.SlotsComing.{added_at}

-- what is read as the last part, behind what is read as those before it
before_last : {P : Type 0} (IsRead : Reading P) (parts : List P) (part : P) (rs : List Record) → AreElementsRead IsRead (parts ++ part ∷ []) rs →
    (first : List Record) × (own : List Record) × AreElementsRead IsRead parts first × IsRead part own × (rs ≡ first ++ own)
before_last IsRead [] part rs (own, none, is, empty, both) = ([], own, refl, is, both ∙ ap (λ l. own ++ l) empty ∙ append-nil own)
before_last IsRead (p ∷ parts) part rs (head, later, one, are, both) =
    let (first, own, others, is, same) = before_last IsRead parts part later are in
    (head ++ first, own, (head, first, one, others, refl), is, both ∙ ap (λ l. head ++ l) same ∙ sym (append_assoc head first own))

-- a part comes into the slot at an index
pub one_came : {P S V : Type 0} (IsRead : Reading P) (hs : List (Slot S V)) → can_be_in_set hs ≡ true → (parts : List P) (part : P) (index : ℕ) (before after : S) → OthersAreKept hs index before after →
    ((own : List Record) → IsRead part own → ComesAt hs index before after own) → ((rs : List Record) → AreElementsRead IsRead parts rs → HaveCome hs before rs) →
    (rs : List Record) → AreElementsRead IsRead (parts ++ part ∷ []) rs → HaveCome hs after rs
one_came IsRead hs can parts part index before after kept comes come rs are =
    let (first, own, others, is, both) = before_last IsRead parts part rs are in
    subst (HaveCome hs after) (sym both) (added_at hs can index before after first own kept (comes own is) (come first others))

-- which was empty
pub comes_into : {W : Type 0} (type : TaggedType W) (before after : Option W) (w : W) (own : List Record) → (before ≡ None) × (after ≡ Some w) → type.IsReadAs w own → ComesAs type before after own
comes_into type before after w own (empty, is) read = (empty, subst (λ slot. IsSomeAnd slot (λ x. type.IsReadAs x own)) (sym is) read)
