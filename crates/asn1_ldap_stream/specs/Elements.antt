-- The text of an element, by the rules by which it is read as a message.
use Rattle.std.specs.Prelude.{◌≡◌, ◌≢◌, ℕ, ℤ, Bool, true, false, List, [], ◌++◌, codes, Option, None, Some, Result, Ok, Err, Vec}
use Rattle.std.specs.declared.alloc.Global.{Global}
use Rattle.asn1_laws.specs.Refusals.{no_refusals}
use Rattle.asn1_laws.specs.declared.decode_error.DecodeError.{DecodeError}
use Rattle.asn1_laws.specs.declared.decode_error.DecodeError.TheVariants.{Memory}
use Rattle.asn1_ldap.specs.contracts.ldap_message.LdapMessageAsnType.TheImpl.{ghosts as messages}
use Rattle.asn1_ldap.specs.contracts.ldap_message.LdapMessagePartialEq.TheImpl.{ghosts as equality}
use Rattle.asn1_ldap.specs.declared.ldap_message.LdapMessage.{LdapMessage}
use Rattle.asn1_ldap_stream.specs.Beginnings.{IsBeginning, IsKnownAs, IsNoBeginning, name_at}
use Rattle.asn1_ldap_text.specs.Messages.{message_lines}
use Rattle.asn1_rules.specs.CanonicalReading.{MayAnswer}
use Rattle.asn1_rules.specs.Rules.{Format}
use Rattle.asn1_values.specs.Text.{integer_text}

-- the number and the operation of a message, as far as they are known
abbrev pub label : Option ℤ → Option (List ℕ) → List ℕ
label (Some number) (Some name) = integer_text number ++ (codes " " ++ (name ++ codes ": "))
label (Some number) None = integer_text number ++ codes ": "
label None (Some name) = name ++ codes ": "
label None None = []

-- the line of a message that is not understood, with the words of its cause
abbrev pub unknown_line : Option ℤ → Option (List ℕ) → List ℕ → List ℕ
unknown_line number name cause = label number name ++ (codes "not understood: " ++ (cause ++ codes "\n"))

-- The text is such a line, for a message with this beginning. No contract covers the words of the cause.
pub record IsUnknownLine (message_id operation text : List ℕ) : Type 0 where
  pub number : Option ℤ
  pub known : IsKnownAs message_id number
  pub cause : List ℕ
  pub line : text ≡ unknown_line number (name_at operation) cause

module _ (rules : Format (Vec ℕ Global)) (depth : ℕ) where
  -- Reading these octets as a message, with at most this many nested scopes, may give this answer. If they carry a valid message, it
  -- is that message, unless memory runs out or the depth is too small.
  pub record MayBeRead (octets : List ℕ) (answer : Result LdapMessage DecodeError) : Type 0 where
    pub input : Vec ℕ Global
    pub are : input.items ≡ octets
    pub may : MayAnswer rules messages.meaning equality.eq no_refusals depth input answer

  -- The text is the lines of the message that was read of these octets, which begin as a message does.
  pub record IsMessageText (octets text : List ℕ) : Type 0 where
    pub message : LdapMessage
    pub read : MayBeRead octets (Ok message)
    pub message_id : List ℕ
    pub operation : List ℕ
    pub begins : IsBeginning octets message_id operation
    pub lines : text ≡ message_lines message

  -- These octets were not read as a message, for this error, which may be that memory ran out.
  pub record MayNotBeRead (octets : List ℕ) (error : DecodeError) : Type 0 where
    pub not_read : MayBeRead octets (Err error)

  -- The text is the line of octets that begin as a message does, and were not read as one, though there was memory.
  pub record IsUnknownText (octets text : List ℕ) : Type 0 where
    pub error : DecodeError
    pub not_read : MayNotBeRead octets error
    pub not_memory : error ≢ Memory
    pub message_id : List ℕ
    pub operation : List ℕ
    pub begins : IsBeginning octets message_id operation
    pub line : IsUnknownLine message_id operation text

  -- These octets do not begin as a message does, and were not read as one, though there was memory.
  pub record IsNoMessage (octets : List ℕ) (error : DecodeError) : Type 0 where
    pub not_read : MayNotBeRead octets error
    pub not_memory : error ≢ Memory
    pub begins_otherwise : IsNoBeginning octets

-- The text of an element of these octets: the lines of a message that was understood, or the line of one that was not.
pub data IsTextOf (rules : Format (Vec ℕ Global)) (depth : ℕ) (octets text : List ℕ) : Bool → Type 0 where
  understood : IsMessageText rules depth octets text → IsTextOf rules depth octets text true
  unknown : IsUnknownText rules depth octets text → IsTextOf rules depth octets text false
