-- The calls that end a scope: the bytes from an index on are its contents, and become one record.
use Rattle.std.specs.Prelude.{◌≡◌, ◌≢◌, ℕ, List, ◌++◌, MatchResult, Result, length, true}
use Rattle.asn1_buffers.specs.declared.error.WriteError.{WriteError}
use Rattle.asn1_buffers.specs.declared.error.WriteError.TheVariants.{Memory}
use Rattle.asn1_der.specs.Sorting.{AreJoined, AreSorted}
use Rattle.asn1_der.specs.WrittenElements.{IsFront, IsHeld}
use Rattle.asn1_der.specs.declared.frame.Frame.{Frame}
use Rattle.asn1_der.specs.declared.sorting.Order.{Order}
use Rattle.asn1_der_items.specs.Elements.{IsBegun, IsElement}
use Rattle.asn1_der_items.specs.Series.{HoldsContents}
use Rattle.asn1_der_items.specs.Bytes.{HasNoDer, HaveDer, content_order_of}
use Rattle.asn1_items.specs.Numbers.{Appended}
use Rattle.asn1_model.specs.Records.{Head, Record, held, holding}
use Rattle.asn1_model.specs.Tags.{head_tag}
use Rattle.asn1_tags.specs.declared.tags.Tag.{Tag}

-- A call that makes a record of the scope of a frame, where the bytes inside are the DER of records. But for memory, it fails only
-- where the record has no DER.
abbrev pub FinishesScope : {A : Type 0} → Frame → List ℕ → List ℕ → Result A WriteError → Type 0
FinishesScope frame old new result = (h : Head) (rs : List Record) (before front inside : List ℕ) → old ≡ (before ++ front) ++ inside → frame.start ≡ length (before ++ front) →
    IsFront frame.content_order frame.tag front → frame.tag ≡ head_tag h → frame.content_order ≡ content_order_of h → HaveDer (held rs) inside →
    MatchResult result (λ _. Appended (IsHeld h rs) before new) (λ e. e ≢ Memory → HasNoDer (holding h rs))

-- a call that ends an element of the bytes from an index on (X.690, 8.1.3)
abbrev pub EndsAsWritten : {A : Type 0} → ℕ → List ℕ → List ℕ → Result A WriteError → Type 0
EndsAsWritten start old new result = (t : Tag) (before front inside : List ℕ) → IsBegun t true front → old ≡ (before ++ front) ++ inside → start ≡ length (before ++ front) →
    MatchResult result (λ _. Appended (IsElement t true inside) before new) (λ e. e ≡ Memory)

-- a call that ends an element of the elements from an index on, which are sorted then (X.690, 10.3 and 11.6)
abbrev pub EndsSorted : {A : Type 0} → Order → ℕ → List ℕ → List ℕ → Result A WriteError → Type 0
EndsSorted order start old new result = (t : Tag) (before front inside : List ℕ) (elements : List (List ℕ)) → IsBegun t true front → old ≡ (before ++ front) ++ inside → start ≡ length (before ++ front) → AreJoined elements inside →
    MatchResult result (λ _. Appended (HoldsContents (AreSorted order elements) t true) before new) (λ e. e ≡ Memory)

-- a call that sorts the elements from an index on
abbrev pub SortsElements : {A : Type 0} → Order → ℕ → List ℕ → List ℕ → Result A WriteError → Type 0
SortsElements order start old new result = (before inside : List ℕ) (elements : List (List ℕ)) → old ≡ before ++ inside → start ≡ length before → AreJoined elements inside →
    MatchResult result (λ _. Appended (AreSorted order elements) before new) (λ e. e ≡ Memory)
