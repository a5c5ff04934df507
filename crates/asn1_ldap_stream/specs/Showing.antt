-- The elements of a stream, as they are shown.
use Rattle.std.specs.Prelude.{◌≡◌, ◌≢◌, ◌<◌, ◌⊎◌, ℕ, Bool, true, ◌&&◌, List, [], ◌++◌, length, Option, Vec}
use Rattle.std.specs.declared.alloc.Global.{Global}
use Rattle.std.specs.Io.KnownBytes.{Appends, Consumes, IsAtEnd}
use Rattle.asn1_laws.specs.declared.decode_error.DecodeError.{DecodeError}
use Rattle.asn1_laws.specs.declared.decode_error.DecodeError.TheVariants as decode_error
use Rattle.asn1_ldap_stream.specs.Elements.{IsNoMessage, IsTextOf}
use Rattle.asn1_ldap_stream.specs.Failures.{IsOutside}
use Rattle.asn1_ldap_stream.specs.declared.failure.Failure.{Failure}
use Rattle.asn1_ldap_stream.specs.declared.failure.Failure.TheVariants.{Damaged, CutOff, Reading, Writing, Memory}
use Rattle.asn1_rules.specs.Fronts.{Fronts, IsFront, IsNoFront}
use Rattle.asn1_rules.specs.Progress.{Took}
use Rattle.asn1_rules.specs.Rules.{Format}
use Rattle.asn1_rules.specs.States.{State, counted}

-- Elements one after another, their text, and whether each was understood. The octets of each are the reader's answer for
-- the bytes at which it begins, with those that had come behind it.
pub data AreShown {R : Type 0} (F : Fronts R (List ℕ)) (reader : R) (rules : Format (Vec ℕ Global)) (depth : ℕ) : List ℕ → List ℕ → Bool → Type 0 where
  none : AreShown F reader rules depth [] [] true
  one_more : {bytes text : List ℕ} {all : Bool} (octets lines front behind : List ℕ) (understood : Bool) →
      AreShown F reader rules depth bytes text all → IsFront F reader (front ++ behind) (octets, length front) →
      IsTextOf rules depth octets lines understood →
      AreShown F reader rules depth (bytes ++ front) (text ++ lines) (all && understood)

module _ {R : Type 0} (F : Fronts R (List ℕ)) (reader : R) where
  -- The bytes begin with no element.
  abbrev pub HasNoFront : List ℕ → Type 0
  HasNoFront bytes = (octets : List ℕ) (n : ℕ) → F.front reader bytes octets n → ⊥

  -- No element was read of these bytes, for this error, though there was memory.
  pub record IsNotRead (bytes : List ℕ) (why : DecodeError) : Type 0 where
    pub no_front : IsNoFront F reader bytes why
    pub not_memory : why ≢ decode_error.Memory

  -- The failure is that the stream ends at this position with these bytes, of which no element is whole.
  pub record IsCutOff (failure : Failure) (at : ℕ) (left : List ℕ) : Type 0 where
    pub named : failure ≡ CutOff at (length left)
    pub some : 0 < length left
    pub waits : HasNoFront left

  module _ (rules : Format (Vec ℕ Global)) (depth : ℕ) where
    -- The element with which these bytes begin is no message, nor does it begin as one does.
    pub record IsOther (bytes : List ℕ) (why : DecodeError) : Type 0 where
      pub octets : List ℕ
      pub n : ℕ
      pub front : IsFront F reader bytes (octets, n)
      pub no_message : IsNoMessage rules depth octets why

    -- The failure is that no element begins at this position of the stream, where these bytes are, or one that is no message.
    abbrev pub IsFault : Failure → ℕ → List ℕ → Type 0
    IsFault (Damaged position why) at left = (position ≡ at) × (IsNotRead left why ⊎ IsOther left why)
    IsFault (CutOff position size) at left = ⊥
    IsFault Reading at left = ⊥
    IsFault Writing at left = ⊥
    IsFault Memory at left = ⊥

    -- The stream has one element less to read, whose text this is.
    pub record Came (old new : State R) (text : List ℕ) (understood : Bool) : Type 0 where
      pub octets : List ℕ
      pub took : Took F old new octets
      pub is_text : IsTextOf rules depth octets text understood

    -- The given bytes begin with elements, whose text was written, and which were all understood or not. The bytes behind them begin at
    -- this position.
    pub record Shows (given left : List ℕ) (at : ℕ) (before written : Option (List ℕ)) (all : Bool) : Type 0 where
      pub bytes : List ℕ
      pub text : List ℕ
      pub elements : AreShown F reader rules depth bytes text all
      pub parts : given ≡ bytes ++ left
      pub position : at ≡ counted 0 (length bytes)
      pub lines : Appends before written text

    -- the same of a stream that was given these bytes
    pub record ShowsUpTo (given : List ℕ) (s : State R) (before written : Option (List ℕ)) (all : Bool) : Type 0 where
      pub same : s.reader ≡ reader
      pub shown : Shows given s.unread s.consumed before written all

    -- A stream was given a piece, and goes on as it was, with more elements shown.
    pub record Continues (piece : List ℕ) (old new : State R) (before written : Option (List ℕ)) (was is : Bool) : Type 0 where
      pub same : new.reader ≡ reader
      pub after : (given : List ℕ) (first : Option (List ℕ)) → ShowsUpTo given old first before was → ShowsUpTo (given ++ piece) new first written is

    -- The same, up to an element that is no message.
    pub record StopsBefore (piece : List ℕ) (old : State R) (before written : Option (List ℕ)) (was : Bool) (failure : Failure) : Type 0 where
      pub new : State R
      pub is : Bool
      pub goes_on : Continues piece old new before written was is
      pub fault : IsFault failure new.consumed new.unread

    -- The same; any other failure is from outside.
    abbrev pub StopsAt : List ℕ → State R → Option (List ℕ) → Option (List ℕ) → Bool → Failure → Type 0
    StopsAt piece old before written was failure = IsOutside failure ⊎ StopsBefore piece old before written was failure

    -- The bytes that were read of an input are shown, but for those from this position on.
    pub record ShowsInput (read_old read_new before written : Option (List ℕ)) (left : List ℕ) (at : ℕ) (all : Bool) : Type 0 where
      pub given : List ℕ
      pub took : Consumes read_old read_new given
      pub shown : Shows given left at before written all

    -- The whole input is shown, and all of its elements were understood or not.
    pub record ShowsAll (read_old read_new before written : Option (List ℕ)) (all : Bool) : Type 0 where
      pub at : ℕ
      pub shown : ShowsInput read_old read_new before written [] at all
      pub no_more : IsAtEnd read_new

    -- The input is shown up to a fault, or up to an element that its end cuts off.
    pub record ShowsUpToFault (read_old read_new before written : Option (List ℕ)) (failure : Failure) : Type 0 where
      pub left : List ℕ
      pub at : ℕ
      pub all : Bool
      pub shown : ShowsInput read_old read_new before written left at all
      pub reason : IsFault failure at left ⊎ (IsCutOff failure at left × IsAtEnd read_new)

    -- The same, or a failure from outside. No contract covers what is shown before that.
    abbrev pub EndsBy : Option (List ℕ) → Option (List ℕ) → Option (List ℕ) → Option (List ℕ) → Failure → Type 0
    EndsBy read_old read_new before written failure = IsOutside failure ⊎ ShowsUpToFault read_old read_new before written failure
