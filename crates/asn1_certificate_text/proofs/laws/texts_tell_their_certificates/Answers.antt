use Rattle.std.proofs.Common.{◌≡◌, ◌+◌, ◌∷◌, [], ℕ, Err, List, None, Ok, Some, ap, drop, filter, length, subst, sym, ◌∙◌}
use Rattle.base64.specs.Engines.{standard}
use Rattle.base64.specs.GeneralPurpose.{decode_of}
use Rattle.base64.specs.declared.decode.DecodeError.{DecodeError}
use Rattle.std.specs.List.{AllZip}
use Rattle.memchr.specs.Find.{FindsNeedle}
use Rattle.memchr.proofs.lemmas.ValueLemmas.{FindsNeedle-value}
use Rattle.asn1_certificate_text.specs.Pem.{AreCertificatesFrom, IsFound, TellSameOctets, no_end, no_more, one_more}
use Rattle.asn1_certificate_text.specs.PemLines.{BeginsAt, EnclosesAt, HasNoBegin, HasNoEnd, begin_line, end_line, is_symbol}
use Rattle.asn1_certificate_text.specs.PemRefusals.{IsAboutBase64}
use Rattle.asn1_certificate_text.specs.declared.pem.PemCertificate.{PemCertificate}
use Rattle.asn1_certificate_text.specs.declared.pem.PemCertificate.TheVariants.{Octets, Refused}
use Rattle.asn1_certificate_text.specs.declared.pem.PemError.{PemError}
use Rattle.asn1_certificate_text.specs.declared.pem.PemError.TheVariants.{BadSymbol, NoEnd, NotWhole}
use Rattle.asn1_certificate_text.proofs.laws.texts_tell_their_certificates.Goals as goal

-- a needle is found first at one position
one_position : (hay needle : List ℕ) (j k : ℕ) → FindsNeedle hay needle 0 (Some j) → FindsNeedle hay needle 0 (Some k) → j ≡ k
one_position hay needle j k at_j at_k =
    let same : Some j ≡ Some k = FindsNeedle-value hay needle (Some j) at_j ∙ sym (FindsNeedle-value hay needle (Some k) at_k) in cc

-- a needle is not both found and not found
found_or_not : (hay needle : List ℕ) (j : ℕ) → FindsNeedle hay needle 0 (Some j) → FindsNeedle hay needle 0 None → ⊥
found_or_not hay needle j at_j at_none =
    let same : Some j ≡ None = FindsNeedle-value hay needle (Some j) at_j ∙ sym (FindsNeedle-value hay needle None at_none) in cc

one_start : (text : List ℕ) (i j : ℕ) → BeginsAt text i → BeginsAt text j → i ≡ j
one_start text i j a b = let same = one_position text begin_line a.position b.position a.found b.found in cc (same, a.after, b.after)

one_body : (text : List ℕ) (i j : ℕ) (a b : List ℕ) → EnclosesAt text i a → EnclosesAt text j b → a ≡ b
one_body text i j a b at_i at_j =
    let start = one_start text i j at_i.begins at_j.begins in
    let ends = subst (λ (k : ℕ). FindsNeedle (drop k text) end_line 0 (Some (length a))) start at_i.ends in
    let long = one_position (drop j text) end_line (length a) (length b) ends at_j.ends in
    cc (start, long, at_i.between, at_j.between)

-- a line after a certificate is there or not
ended_or_not : (text : List ℕ) (i j : ℕ) (body : List ℕ) → EnclosesAt text i body → HasNoEnd text j → ⊥
ended_or_not text i j body at_i never =
    let start = one_start text i j at_i.begins never.begins in
    found_or_not (drop j text) end_line (length body) (subst (λ (k : ℕ). FindsNeedle (drop k text) end_line 0 (Some (length body))) start at_i.ends)
    never.never_ends

-- base64 is refused or not
refused_or_not : (body octets : List ℕ) (e : DecodeError) → decode_of standard (filter is_symbol body) ≡ Ok octets → decode_of standard (filter is_symbol body) ≡ Err e → ⊥
refused_or_not body octets e read refused = let same : Ok octets ≡ Err e = sym read ∙ refused in cc

error_or_octets : (start : ℕ) (body octets : List ℕ) (e : PemError) → decode_of standard (filter is_symbol body) ≡ Ok octets → IsAboutBase64 start body e → ⊥
error_or_octets start body octets (NoEnd end) read about = about
error_or_octets start body octets (BadSymbol position) read about = refused_or_not body octets about.error read about.refused
error_or_octets start body octets (NotWhole position) read about = refused_or_not body octets about.error read about.refused

same_octets : (start : ℕ) (body : List ℕ) (a b : PemCertificate) → IsFound start body a → IsFound start body b → TellSameOctets a b
same_octets start body (Octets a) (Octets b) is_a is_b = let same : Ok a.items ≡ Ok b.items = sym is_a ∙ is_b in cc
same_octets start body (Octets a) (Refused e) is_a is_b = absurd (error_or_octets start body a.items e is_a is_b)
same_octets start body (Refused e) (Octets b) is_a is_b = absurd (error_or_octets start body b.items e is_b is_a)
same_octets start body (Refused d) (Refused e) is_a is_b = tt

-- how far it is to the rest behind a certificate
abbrev behind : ℕ → List ℕ → ℕ
behind begin body = begin + length body + length end_line

tell : (start : ℕ) (rest : List ℕ) (a b : List PemCertificate) → AreCertificatesFrom start rest a → AreCertificatesFrom start rest b → AllZip TellSameOctets a b
tell _ _ _ b (no_more start rest none) others = by rest none b others
  where
    by : (rest : List ℕ) → HasNoBegin rest → (b : List PemCertificate) → AreCertificatesFrom start rest b → AllZip TellSameOctets [] b
    by _ none _ (no_more start rest other) = tt
    by _ none _ (no_end start rest end never) = absurd (found_or_not rest begin_line never.begins.position never.begins.found none)
    by _ none _ (one_more start rest begin body first more encloses is behind) =
        absurd (found_or_not rest begin_line encloses.begins.position encloses.begins.found none)
tell _ _ _ b (no_end start rest end never) others = by rest never b others
  where
    by : (rest : List ℕ) → HasNoEnd rest end → (b : List PemCertificate) → AreCertificatesFrom start rest b → AllZip TellSameOctets (Refused (NoEnd (start + end)) ∷ []) b
    by _ never _ (no_more start rest none) = absurd (found_or_not rest begin_line never.begins.position never.begins.found none)
    by _ never _ (no_end start rest other also) = (tt, tt)
    by _ never _ (one_more start rest begin body first more encloses is later) = absurd (ended_or_not rest begin end body encloses never)
tell _ _ _ b (one_more start rest begin body first more encloses is later) others =
    by start rest encloses is (λ b others. tell (start + behind begin body) (drop (behind begin body) rest) more b later others) b others
  where
    by : (start : ℕ) (rest : List ℕ) → EnclosesAt rest begin body → IsFound (start + begin) body first →
        ((b : List PemCertificate) → AreCertificatesFrom (start + behind begin body) (drop (behind begin body) rest) b → AllZip TellSameOctets more b) →
        (b : List PemCertificate) → AreCertificatesFrom start rest b → AllZip TellSameOctets (first ∷ more) b
    by _ _ encloses is tell_more _ (no_more start rest none) = absurd (found_or_not rest begin_line encloses.begins.position encloses.begins.found none)
    by _ _ encloses is tell_more _ (no_end start rest end never) = absurd (ended_or_not rest begin end body encloses never)
    by _ _ encloses is tell_more _ (one_more start rest other own second others also is_second later_second) =
        let same_start = one_start rest other begin also.begins encloses.begins in
        let same_body = one_body rest other begin own body also encloses in
        let same : behind other own ≡ behind begin body = ap (λ (n : ℕ). behind n own) same_start ∙ ap (behind begin) same_body in (
          same_octets (start + begin) body first second is
              (subst (λ (n : ℕ). IsFound (start + n) body second) same_start (subst (λ (own : List ℕ). IsFound (start + other) own second) same_body is_second)),
          tell_more others (subst (λ (n : ℕ). AreCertificatesFrom (start + n) (drop n rest) others) same later_second),
        )

pub returns : goal.returns
returns c = λ text a b. tell 0 text a b
