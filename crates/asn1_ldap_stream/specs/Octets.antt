-- The lines of the messages with which octets begin.
use Rattle.std.specs.Prelude.{◌≡◌, ◌⊎◌, ℕ, ◌+◌, Bool, List, [], ◌++◌, drop, length}
use Rattle.std.specs.String.{string_bytes}
use Rattle.asn1_ber.specs.Cuts.{ber_fronts}
use Rattle.asn1_ber.specs.Format.{ber_format}
use Rattle.asn1_ber.specs.declared.reader.BerReader.{BerReader}
use Rattle.asn1_ber_items.specs.Ends as ends
use Rattle.asn1_ber_items.specs.Spellings.{SpellsOne}
use Rattle.asn1_ldap_stream.specs.Beginnings.{IsNoBeginning}
use Rattle.asn1_ldap_stream.specs.Elements.{IsTextOf}
use Rattle.asn1_ldap_stream.specs.declared.octets.Next.{Next}
use Rattle.asn1_ldap_stream.specs.declared.octets.Next.TheVariants.{Lines, End, NoMessage}
use Rattle.asn1_rules.specs.Fronts.{Fronts}
use Rattle.asn1_types.specs.contracts.any.AnyAsnType.TheImpl.{ghosts as any}
use Rattle.asn1_types.specs.contracts.any.AnyPartialEq.TheImpl.{ghosts as equality}

-- elements of BER of which no type is known
abbrev pub elements : Fronts BerReader (List ℕ)
elements = ber_fronts any.meaning equality.eq

-- There are no octets, or they end inside their first element of BER (X.690, 8.1).
abbrev pub EndInside : List ℕ → Type 0
EndInside octets = (octets ≡ []) ⊎ ends.EndsInside 0 octets

-- The octets begin with an element of BER, of this many octets, whose text this is by the normal form of the element.
pub record BeginWithLines (depth : ℕ) (octets : List ℕ) (count : ℕ) (text : List ℕ) : Type 0 where
  pub whole : ¬ EndInside octets
  pub normal : List ℕ
  pub rest : List ℕ
  pub one : SpellsOne octets normal rest
  pub long : count + length rest ≡ length octets
  pub understood : Bool
  pub lines : IsTextOf ber_format depth normal text understood

-- As many of the octets are elements of BER, one after another, and the text is theirs.
pub data AreLines (depth : ℕ) (octets : List ℕ) : List ℕ → ℕ → Type 0 where
  none : AreLines depth octets [] 0
  one_more : (text lines : List ℕ) (used count : ℕ) → AreLines depth octets text used → BeginWithLines depth (drop used octets) count lines →
      AreLines depth octets (text ++ lines) (used + count)

-- There are octets, which do not end inside their first element of BER; and if they begin with one, it does not begin as a message does
-- (RFC 4511, 4.1.1).
pub record BeginNoMessage (octets : List ℕ) : Type 0 where
  pub whole : ¬ EndInside octets
  pub no_message : (normal rest : List ℕ) → SpellsOne octets normal rest → IsNoBeginning normal

-- what octets begin with
abbrev pub IsNext : ℕ → List ℕ → Next → Type 0
IsNext depth octets (Lines count text) = BeginWithLines depth octets count (string_bytes text)
IsNext depth octets End = EndInside octets
IsNext depth octets NoMessage = BeginNoMessage octets

-- As many octets as are used are elements of BER that begin as a message does, and the text has the lines of each: those of a message,
-- with 64 filters inside one another at most, or that of one that is not understood.
abbrev pub AreLinesOf : List ℕ → List ℕ → ℕ → Type 0
AreLinesOf octets text used = AreLines 135 octets text used

-- all octets are used, or those behind the used ones end inside their first element of BER
abbrev pub EndsInside : List ℕ → ℕ → Type 0
EndsInside octets used = EndInside (drop used octets)

-- there are octets behind the used ones, which do not end inside their first element of BER, and begin no message
abbrev pub BeginsNoMessage : List ℕ → ℕ → Type 0
BeginsNoMessage octets used = BeginNoMessage (drop used octets)
