-- From one certificate of a text to the next.
use Rattle.std.proofs.Common.{◌≡◌, ℕ, ◌+◌, ◌-◌, ◌≤◌, ◌∷◌, ◌++◌, [], List, None, Some, ap, arith, drop, length, refl, subst, sym, take, ◌∙◌}
use Rattle.std.proofs.lemmas.List.{append-nil, drop-drop, length-take, take_rest}
use Rattle.memchr.specs.Find.{FindsNeedle}
use Rattle.asn1_certificate_text.specs.Pem.{AreCertificatesFrom, IsFound, no_end, no_more, one_more}
use Rattle.asn1_certificate_text.specs.PemLines.{EnclosesAt, begin_line, end_line}
use Rattle.asn1_certificate_text.specs.declared.pem.PemCertificate.{PemCertificate}
use Rattle.asn1_certificate_text.specs.declared.pem.PemCertificate.TheVariants.{Refused}
use Rattle.asn1_certificate_text.specs.declared.pem.PemError.TheVariants.{NoEnd}

-- a text from a position on, as a slice has it
abbrev left : List ℕ → ℕ → List ℕ
left text start = take (length text - start) (drop start text)

-- the text before the second line is as long as the position of that line
length_before : (rest : List ℕ) (size : ℕ) → FindsNeedle rest end_line 0 (Some size) → length (take size rest) ≡ size
length_before rest size ends = let fits : size + 25 ≤ length rest = ends.1.fits in omega (arith, length-take size rest)

-- what is behind the first line is the rest of the text
behind_first : (text : List ℕ) (start begin : ℕ) → left text (start + begin + 27) ≡ drop (begin + 27) (drop start text)
behind_first text start begin =
    let same : start + begin + 27 ≡ start + (begin + 27) = omega arith in
    take_rest text (start + begin + 27) ∙ ap (λ (n : ℕ). drop n text) same ∙ sym (drop-drop (begin + 27) start text)

-- a line before a certificate, and a line after one in the text after it
encloses : (rest after : List ℕ) (begin size : ℕ) → after ≡ drop (begin + 27) rest → FindsNeedle rest begin_line 0 (Some begin) →
    FindsNeedle after end_line 0 (Some size) → EnclosesAt rest (begin + 27) (take size after)
encloses rest after begin size is first second =
    let long = length_before after size second in
    record {
      begins = record { position = begin; found = first; after = refl };
      ends = subst (λ (r : List ℕ). FindsNeedle r end_line 0 (Some (length (take size after)))) is
          (subst (λ (n : ℕ). FindsNeedle after end_line 0 (Some n)) (sym long) second);
      between = ap (λ (r : List ℕ). take size r) is ∙ ap (λ (n : ℕ). take n (drop (begin + 27) rest)) (sym long);
    }

pub first_and_others : (text : List ℕ) (start begin size : ℕ) (first : PemCertificate) (others : List PemCertificate) →
    FindsNeedle (left text start) begin_line 0 (Some begin) → FindsNeedle (left text (start + begin + 27)) end_line 0 (Some size) →
    IsFound (start + begin + 27) (take size (left text (start + begin + 27))) first →
    AreCertificatesFrom (start + begin + 27 + size + 25) (drop (start + begin + 27 + size + 25) text) others →
    AreCertificatesFrom start (drop start text) (first ∷ others)
first_and_others text start begin size first others at_begin at_end found rest =
    let body = take size (left text (start + begin + 27)) in
    let long = length_before (left text (start + begin + 27)) size at_end in
    let place : start + begin + 27 ≡ start + (begin + 27) = omega arith in
    let size_of_all = begin + 27 + length body + 25 in
    let behind : start + begin + 27 + size + 25 ≡ start + (begin + 27 + length body + 25) = omega (arith, long) in
    one_more start (drop start text) (begin + 27) body first others
    (encloses (drop start text) (left text (start + begin + 27)) begin size (behind_first text start begin)
    (subst (λ (r : List ℕ). FindsNeedle r begin_line 0 (Some begin)) (take_rest text start) at_begin) at_end)
    (subst (λ (n : ℕ). IsFound n body first) place found)
    (subst (λ (r : List ℕ). AreCertificatesFrom (start + size_of_all) r others) (sym (drop-drop size_of_all start text))
    (subst (λ (n : ℕ). AreCertificatesFrom n (drop n text) others) behind rest))

pub last : (text : List ℕ) (start begin : ℕ) → FindsNeedle (left text start) begin_line 0 (Some begin) →
    FindsNeedle (left text (start + begin + 27)) end_line 0 None → AreCertificatesFrom start (drop start text) (Refused (NoEnd (start + begin + 27)) ∷ [])
last text start begin at_begin at_end =
    let place : start + (begin + 27) ≡ start + begin + 27 = omega arith in
    subst (λ (n : ℕ). AreCertificatesFrom start (drop start text) (Refused (NoEnd n) ∷ [])) place
    (no_end start (drop start text) (begin + 27) (record {
      begins = record { position = begin; found = subst (λ (r : List ℕ). FindsNeedle r begin_line 0 (Some begin)) (take_rest text start) at_begin; after = refl };
      never_ends = subst (λ (r : List ℕ). FindsNeedle r end_line 0 None) (behind_first text start begin) at_end;
    }))

pub none_left : (text : List ℕ) (start : ℕ) (found : List PemCertificate) → FindsNeedle (left text start) begin_line 0 None →
    ((others : List PemCertificate) → AreCertificatesFrom start (drop start text) others → AreCertificatesFrom 0 text (found ++ others)) →
    AreCertificatesFrom 0 text found
none_left text start found none ahead =
    subst (λ (all : List PemCertificate). AreCertificatesFrom 0 text all) (append-nil found)
    (ahead [] (no_more start (drop start text) (subst (λ (r : List ℕ). FindsNeedle r begin_line 0 None) (take_rest text start) none)))
