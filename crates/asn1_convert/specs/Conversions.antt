-- The conversions of the values of an input.
use Rattle.std.specs.Prelude.{◌≡◌, ◌+◌, ℕ, suc, ⊤, Bool, List, [], ◌∷◌, ◌++◌, length, IfSome, IsSomeAnd, MatchResult, Result, Ok, Err, Vec}
use Rattle.std.specs.declared.alloc.Global.{Global}
use Rattle.asn1_items.specs.declared.error.ItemError.{ItemError}
use Rattle.asn1_items.specs.declared.error.ItemError.TheVariants as item_error
use Rattle.asn1_laws.specs.Refusals.{Refusals}
use Rattle.asn1_laws.specs.declared.decode_error.DecodeError.{DecodeError}
use Rattle.asn1_model.specs.Meaning.{Meaning, own_records}
use Rattle.asn1_rules.specs.CanonicalReading.{MayAnswer}
use Rattle.asn1_rules.specs.Rules.{Format, IsNotWritten, IsWritten}
use Rattle.asn1_rules.specs.declared.recoding.RecodeError.{RecodeError}
use Rattle.asn1_rules.specs.declared.recoding.RecodeError.TheVariants.{Read, Write}
use Rattle.asn1_value_text.specs.Texts.{IsOneLine, text_format}
use Rattle.json.specs.Json.{document}
use Rattle.json.specs.Strict.{HasUniqueKeys}
use Rattle.asn1_convert.specs.Forms.{IsFront, format_of}
use Rattle.asn1_convert.specs.declared.form.CodecForm.{CodecForm}
use Rattle.asn1_convert.specs.declared.form.OutputForm.{OutputForm}
use Rattle.asn1_convert.specs.declared.form.OutputForm.TheVariants.{Codec, Notation, Json}
use Rattle.asn1_convert.specs.declared.stream.Cause.{Cause}
use Rattle.asn1_convert.specs.declared.stream.Cause.TheVariants.{NoFront, NotRecoded, Memory}
use Rattle.asn1_convert.specs.declared.stream.Stop.{Stop}

-- The line of a text of JSON, which is one document in one line.
pub record IsLineOfDocument (line : List ℕ) : Type 0 where
  pub text : List ℕ
  pub ended : line ≡ text ++ 10 ∷ []
  pub one_document : IsSomeAnd (document text) HasUniqueKeys
  pub one_line : IsOneLine text

module _ {V : Type 0} (m : Meaning V) (eq : V → V → Bool) (refusals : Refusals) (depth : ℕ) where
  -- Reading these octets may give this answer. If they carry a valid value of a well-tagged type it is an equal one, and if they carry
  -- records that the type refuses it is no value. Whatever they are, a value is one that was read of them.
  abbrev pub MayBeRead : CodecForm → List ℕ → Result V DecodeError → Type 0
  MayBeRead from octets answer = (input : Vec ℕ Global) → input.items ≡ octets → MayAnswer (format_of from) m eq refusals depth input answer

  -- A value that reading the octets may answer was written as this output.
  pub record IsOfValue {O : Type 0} (to : Format O) (from : CodecForm) (octets : List ℕ) (output : O) : Type 0 where
    pub value : V
    pub may_be_read : MayBeRead from octets (Ok value)
    pub written : IsWritten to (own_records m value) (m.IsOfType value) depth output

  -- Why there is no output: reading the octets may answer this error; or a value, which may not be written for this error.
  abbrev pub IsOfNoValue : {O : Type 0} → Format O → CodecForm → List ℕ → RecodeError → Type 0
  IsOfNoValue to from octets (Read e) = MayBeRead from octets (Err e)
  IsOfNoValue to from octets (Write e) = (v : V) × IsNotWritten to (own_records m v) depth e × MayBeRead from octets (Ok v)

  -- A text of the value was written, as a line of octets.
  abbrev pub IsLineOfValue : Type 0 → CodecForm → List ℕ → Vec ℕ Global → Type 0
  IsLineOfValue MayRefuse from octets line = IsOfValue (text_format {O = Vec ℕ Global} MayRefuse) from octets line

  -- Why there is no line.
  abbrev pub IsNoLine : Type 0 → CodecForm → List ℕ → RecodeError → Type 0
  IsNoLine MayRefuse from octets e = IsOfNoValue (text_format {O = Vec ℕ Global} MayRefuse) from octets e

  -- A call that writes in one form the value that octets are in another. Of a text in X.680's notation nothing else is said.
  abbrev pub Converts : CodecForm → List ℕ → OutputForm → Result (Vec ℕ Global) RecodeError → Type 0
  Converts from octets (Codec to) result = MatchResult result (IsOfValue (format_of to) from octets) (IsOfNoValue (format_of to) from octets)
  Converts from octets Notation result = MatchResult result (IsLineOfValue ⊥ from octets) (IsNoLine ⊥ from octets)
  Converts from octets Json result = MatchResult result (λ line. IsLineOfValue ⊤ from octets line × IsLineOfDocument line.items) (IsNoLine ⊤ from octets)

  -- The conversion of the value whose octets these are was appended.
  pub record HasAppended (from : CodecForm) (to : OutputForm) (octets old new : List ℕ) : Type 0 where
    pub piece : Vec ℕ Global
    pub converted : Converts from octets to (Ok piece)
    pub appended : new ≡ old ++ piece.items

  -- Why the value whose octets these are was not: it was not recoded, or memory ran out.
  abbrev pub IsValueCause : CodecForm → OutputForm → List ℕ → Cause → Type 0
  IsValueCause from to octets (NoFront e) = ⊥
  IsValueCause from to octets (NotRecoded e) = Converts from octets to (Err e)
  IsValueCause from to octets Memory = ⊤

  -- The same of the value at the front of an input, of which this is left.
  pub record HasConverted (from : CodecForm) (to : OutputForm) (input old left new : List ℕ) : Type 0 where
    pub octets : List ℕ
    pub parts : input ≡ octets ++ left
    pub front : IsFront from input (length octets)
    pub value : HasAppended from to octets old new

  -- The input begins with a value that was not converted: it was not recoded, or memory ran out.
  pub record HasNotConverted (from : CodecForm) (to : OutputForm) (input : List ℕ) (cause : Cause) : Type 0 where
    pub octets : List ℕ
    pub left : List ℕ
    pub parts : input ≡ octets ++ left
    pub front : IsFront from input (length octets)
    pub value : IsValueCause from to octets cause

  -- Why the value at the front of an input was not converted: there is none, unless memory ran out, or the value was not.
  abbrev pub IsCause : CodecForm → OutputForm → List ℕ → Cause → Type 0
  IsCause from to input (NoFront e) = (n : ℕ) → IsFront from input n → e ≡ item_error.Memory
  IsCause from to input (NotRecoded e) = HasNotConverted from to input (NotRecoded e)
  IsCause from to input Memory = HasNotConverted from to input Memory

  -- Values of an input were converted, one after another: this is left of it, this was written, and this is their number.
  pub data HaveConverted (from : CodecForm) (to : OutputForm) (input : List ℕ) : List ℕ → List ℕ → ℕ → Type 0 where
    none : HaveConverted from to input input [] 0
    one_more : {left behind written more : List ℕ} {count : ℕ} → HaveConverted from to input left written count →
        HasConverted from to left written behind more → HaveConverted from to input behind more (suc count)

  -- The values before a stop were converted, and the one that begins there was not, for its cause.
  pub record IsStop (from : CodecForm) (to : OutputForm) (input written : List ℕ) (stop : Stop) : Type 0 where
    pub left : List ℕ
    pub converted : HaveConverted from to input left written stop.before
    pub start : stop.start + length left ≡ length input
    pub long : IfSome stop.length (IsFront from left)
    pub cause : IsCause from to left stop.cause
