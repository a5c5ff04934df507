-- Inputs that come in pieces.
use Rattle.std.proofs.Common.{◌≡◌, ◌∙◌, ◌+◌, ◌<◌, ◌≤◌, ◌^◌, ◌-◌, ℕ, suc, min, Bool, true, false, List, [], ◌∷◌, ◌++◌, Some, None, ap, append_assoc, append-nil, arith, drop, length, length-append, refl, subst, sym}
use Rattle.std.proofs.Math.Logic.{∥∥₁_elim}
use Rattle.std.proofs.Math.Seq.{drop-append_seam}
use Rattle.std.specs.Prelude.{Option, MatchOption, IfSome, IsOk, Result, Err, ⊤}
use Rattle.asn1_ber_items.specs.Spellings.{SpellsOne}
use Rattle.std.specs.String.{string_bytes}
use Rattle.asn1_bench.specs.Fronts as packed
use Rattle.asn1_ber.specs.Cuts as ber
use Rattle.asn1_der.specs.Cuts as der
use Rattle.asn1_ber_items.specs.Progress.{HasCome, goes_on}
use Rattle.asn1_items.specs.declared.error.ItemError.TheVariants as item_error
use Rattle.asn1_convert.proofs.Converting.{front_has_octets}
use Rattle.asn1_convert.specs.Answers.{missing_octets}
use Rattle.asn1_convert.specs.Forms.{IsFront}
use Rattle.asn1_convert.specs.Lines.{IsLineOf, place_text, sum_within}
use Rattle.asn1_convert.specs.Pieces.{Answers, Holds, IsLineAt, IsRefused, Waits, unread}
use Rattle.asn1_convert.specs.SomeType.{AreConverted, ConvertsSome, HasNoFront, IsCauseAt, IsToTheEnd, StopsAt, none, one_more}
use Rattle.asn1_convert.specs.declared.form.CodecForm.{CodecForm}
use Rattle.asn1_convert.specs.declared.form.CodecForm.TheVariants.{Der, Ber, Packed}
use Rattle.asn1_convert.specs.declared.form.OutputForm.{OutputForm}
use Rattle.asn1_convert.specs.declared.pieces.Pieces.{Pieces}
use Rattle.asn1_convert.specs.declared.stream.Cause.{Cause}
use Rattle.asn1_convert.specs.declared.stream.Cause.TheVariants.{NoFront, NotRecoded, Memory}
use Rattle.asn1_convert.specs.declared.task.Answer.{Answer}
use Rattle.asn1_convert.specs.declared.task.Converted.{Converted}

-- the octets of a front are there
front_within : (form : CodecForm) (octets : List ℕ) (n : ℕ) → IsFront form octets n → n ≤ length octets
front_within Der octets n cut = der.cut_within octets n cut
front_within Ber octets n cut = ber.cut_within octets n cut
front_within Packed octets n cut = packed.cut_within octets n cut

-- no octets have no front
pub nothing_waits : (form : CodecForm) (octets : List ℕ) → octets ≡ [] → HasNoFront form octets
nothing_waits form octets is = λ n front. omega (arith, front_has_octets form octets n front, front_within form octets n front, ap length is)

-- a sum of what was converted, and of more behind it
sum_of : (most a b n : ℕ) → a ≡ min (0 + b) most → min (a + n) most ≡ min (0 + (b + n)) most
sum_of most a b n is = omega arith

next_of : (most a b n : ℕ) → a ≡ min (0 + b) most → min (min (a + n) most + 1) most ≡ min (b + n + 1) most
next_of most a b n is = omega arith

-- values behind others
together : (from : CodecForm) (to : OutputForm) (octets written : List ℕ) (count : ℕ) (octets' written' : List ℕ) (count' : ℕ) →
    AreConverted from to octets written count → AreConverted from to octets' written' count' →
    AreConverted from to (octets ++ octets') (written ++ written') (count + count')
together from to octets written count _ _ _ before none =
    subst (λ l. AreConverted from to l (written ++ []) (count + 0)) (sym (append-nil octets))
    (subst (λ l. AreConverted from to octets l (count + 0)) (sym (append-nil written))
    (let same : count + 0 ≡ count = omega arith in subst (λ n. AreConverted from to octets written n) (sym same) before))
together from to octets written count _ _ _ before (one_more {octets = o} {written = w} {count = n} own behind piece others front is) =
    let so_far = together from to octets written count o w n before others in
    let all = one_more own behind piece so_far front is in
    let next : suc (count + n) ≡ count + suc n = omega arith in
    subst (λ k. AreConverted from to (octets ++ (o ++ own)) (written ++ (w ++ piece)) k) next
    (subst (λ l. AreConverted from to l (written ++ (w ++ piece)) (suc (count + n))) (append_assoc octets o own)
    (subst (λ l. AreConverted from to ((octets ++ o) ++ own) l (suc (count + n))) (append_assoc written w piece) all))

-- the cause of octets that end inside a value
missing_cause : (cause : Cause) (count : ℕ) → missing_octets cause ≡ Some count → cause ≡ NoFront (item_error.Missing count)
missing_cause (NoFront (item_error.Missing n)) count is = cc
missing_cause (NoFront item_error.Memory) count is = cc
missing_cause (NoFront item_error.Malformed) count is = cc
missing_cause (NotRecoded e) count is = cc
missing_cause Memory count is = cc

-- octets that end inside a value have no front
cut_off_waits : (from : CodecForm) (left : List ℕ) (cause : Cause) (count : ℕ) → IsCauseAt from left cause → missing_octets cause ≡ Some count →
    HasNoFront from left
cut_off_waits from left cause count is missing = λ n front.
    let no_front = subst (IsCauseAt from left) (missing_cause cause count missing) is in
    let e = no_front n front in cc

-- octets whose first element has no end have no front
pub element_waits : {E : Type 0} (octets : List ℕ) (result : Result ⊤ E) (e : E) → result ≡ Err e →
    ((normal rest : List ℕ) → SpellsOne octets normal rest → IsOk result) → HasNoFront Ber octets
element_waits octets result e is found = λ n cut.
    let ok = found cut.normal cut.rest cut.one in
    let wrong = subst (λ r. IsOk r) is ok in cc

module _ (from : CodecForm) (to : OutputForm) where
  -- nothing came yet
  pub holds_nothing : (new : Pieces) → unread new ≡ [] → new.before.values ≡ 0 → new.before.octets ≡ 0 → new.from ≡ from → new.to ≡ to →
      ((octets : List ℕ) → HasCome new.search octets) → Holds from to new [] []
  holds_nothing new empty values octets reads writes came = record {
    octets = [];
    count = 0;
    converted = none;
    parts = sym empty;
    values = values;
    position = octets;
    reads = reads;
    writes = writes;
    searched = ∣ came (unread new) ∣₁;
  }

module _ (from : CodecForm) (to : OutputForm) (given written : List ℕ) where
  -- a piece came
  pub holds_more : (old new : Pieces) (piece : List ℕ) → unread new ≡ unread old ++ piece → new.before ≡ old.before → new.from ≡ old.from →
      new.to ≡ old.to → new.search ≡ old.search → Holds from to old given written → Holds from to new (given ++ piece) written
  holds_more old new piece more before reads writes search h = record {
    octets = h.octets;
    count = h.count;
    converted = h.converted;
    parts = ap (λ l. l ++ piece) h.parts ∙ append_assoc h.octets (unread old) piece ∙ ap (λ l. h.octets ++ l) (sym more);
    values = ap (λ b. b.values) before ∙ h.values;
    position = ap (λ b. b.octets) before ∙ h.position;
    reads = reads ∙ h.reads;
    writes = writes ∙ h.writes;
    searched = ∥∥₁_elim h.searched squash₁ (λ was. ∣ subst (λ s. HasCome s (unread new)) (sym search)
        (subst (HasCome old.search) (sym more) (goes_on old.search (unread old) piece was)) ∣₁);
  }

  -- a search went on
  pub holds_search : (old new : Pieces) → new ≡ record old { search = new.search } →
      (∥ HasCome old.search (unread old) ∥₁ → ∥ HasCome new.search (unread old) ∥₁) → Holds from to old given written → Holds from to new given written
  holds_search old new same search h =
      let kept : unread new ≡ unread old = ap (λ p. p.octets.items) same in
      record {
        octets = h.octets;
        count = h.count;
        converted = h.converted;
        parts = h.parts ∙ ap (λ l. h.octets ++ l) (sym kept);
        values = ap (λ p. p.before.values) same ∙ h.values;
        position = ap (λ p. p.before.octets) same ∙ h.position;
        reads = ap (λ p. p.from) same ∙ h.reads;
        writes = ap (λ p. p.to) same ∙ h.writes;
        searched = subst (λ l. ∥ HasCome new.search l ∥₁) (sym kept) (search h.searched);
      }

  -- and no value is whole
  pub waits : (old new : Pieces) → new ≡ record old { search = new.search } →
      (∥ HasCome old.search (unread old) ∥₁ → ∥ HasCome new.search (unread old) ∥₁) →
      (∥ HasCome old.search (unread old) ∥₁ → HasNoFront old.from (unread old)) → Holds from to old given written → Waits from to new given written
  waits old new same search no_front h =
      let kept : unread old ≡ unread new = sym (ap (λ p. p.octets.items) same) in
      record {
        holds = holds_search old new same search h;
        no_front = subst (λ l. HasNoFront from l) kept (subst (λ f. HasNoFront f (unread old)) h.reads (no_front h.searched));
      }

  -- The rest of what came behind an answer, whose failure is settled.
  rest_of : {S : Type 0} (line_of : S → List ℕ) (old : Pieces) (is_end : Bool) (answer : Answer) (asked settled : Option S) (octets left : List ℕ) (h : Holds from to old given written) →
      answer.converted.octets ≡ length octets →
      MatchOption asked (IsToTheEnd answer left) (λ line. StopsAt old.before from answer left (line_of line)) →
      (is_end ≡ true → settled ≡ asked) → (answer.missing ≡ None → settled ≡ asked) → IfSome answer.missing (λ _. is_end ≡ false → settled ≡ None) →
      MatchOption settled (HasNoFront from left × (is_end ≡ true → left ≡ []))
      (λ line. IsRefused from to is_end (h.count + answer.converted.values) (length (h.octets ++ octets)) left (line_of line))
  rest_of {S = S} line_of old is_end answer asked settled octets left h long rest at_end whole cleared = by is_end answer.missing refl at_end whole cleared
    where
      refused : (ended : Bool) (line : List ℕ) → StopsAt old.before from answer left line → ((n : ℕ) → answer.missing ≡ Some n → ended ≡ true) →
          IsRefused from to ended (h.count + answer.converted.values) (length (h.octets ++ octets)) left line
      refused ended line s only_at_end =
          let t = s.tells in
          let most = 2 ^ 64 - 1 in
          let number : sum_within (sum_within old.before.values s.stop.before) 1 ≡ sum_within (h.count + answer.converted.values) 1 =
          subst (λ n. sum_within (sum_within old.before.values n) 1 ≡ sum_within (h.count + answer.converted.values) 1) s.values
          (next_of most old.before.values h.count answer.converted.values h.values) in
          let position : sum_within old.before.octets s.stop.start ≡ sum_within 0 (length (h.octets ++ octets)) =
          subst (λ n. sum_within old.before.octets n ≡ sum_within 0 (length (h.octets ++ octets))) s.octets
          (sum_of most old.before.octets (length h.octets) answer.converted.octets h.position
          ∙ ap (λ n. min (0 + n) most) (ap (λ n. length h.octets + n) long ∙ sym (length-append h.octets octets))) in
          record {
            cause = s.stop.cause;
            because = s.cause;
            at_end = λ n is. only_at_end n (s.missing ∙ ap missing_octets is);
            tells = record {
              last = t.last;
              cause = t.cause;
              are = t.are ∙ ap (λ n. place_text n (sum_within old.before.octets s.stop.start) t.last ++ (t.cause ++ 10 ∷ [])) number
                  ∙ ap (λ p. place_text (sum_within (h.count + answer.converted.values) 1) p t.last ++ (t.cause ++ 10 ∷ [])) position;
            };
          }

      as_asked : (ended : Bool) (o : Option S) → MatchOption o (IsToTheEnd answer left) (λ line. StopsAt old.before from answer left (line_of line)) →
          ((n : ℕ) → answer.missing ≡ Some n → ended ≡ true) →
          MatchOption o (HasNoFront from left × (ended ≡ true → left ≡ []))
          (λ line. IsRefused from to ended (h.count + answer.converted.values) (length (h.octets ++ octets)) left (line_of line))
      as_asked ended None is only_at_end = (nothing_waits from left is.none_left, λ _. is.none_left)
      as_asked ended (Some line) is only_at_end = refused ended (line_of line) is only_at_end

      no_front_left : (o : Option S) (n : ℕ) → MatchOption o (IsToTheEnd answer left) (λ line. StopsAt old.before from answer left (line_of line)) →
          answer.missing ≡ Some n → HasNoFront from left
      no_front_left None n is missing = nothing_waits from left is.none_left
      no_front_left (Some line) n is missing = cut_off_waits from left is.stop.cause n is.cause (sym is.missing ∙ missing)

      by : (ended : Bool) (missing : Option ℕ) → answer.missing ≡ missing → (ended ≡ true → settled ≡ asked) → (missing ≡ None → settled ≡ asked) →
          IfSome missing (λ _. ended ≡ false → settled ≡ None) →
          MatchOption settled (HasNoFront from left × (ended ≡ true → left ≡ []))
          (λ line. IsRefused from to ended (h.count + answer.converted.values) (length (h.octets ++ octets)) left (line_of line))
      by true missing is at_end whole cleared = subst (λ o. MatchOption o (HasNoFront from left × (true ≡ true → left ≡ []))
          (λ line. IsRefused from to true (h.count + answer.converted.values) (length (h.octets ++ octets)) left (line_of line)))
          (sym (at_end refl)) (as_asked true asked rest (λ n _. refl))
      by false None is at_end whole cleared = subst (λ o. MatchOption o (HasNoFront from left × (false ≡ true → left ≡ []))
          (λ line. IsRefused from to false (h.count + answer.converted.values) (length (h.octets ++ octets)) left (line_of line)))
          (sym (whole refl)) (as_asked false asked rest (λ n some. let e = sym is ∙ some in cc))
      by false (Some n) is at_end whole cleared = subst (λ o. MatchOption o (HasNoFront from left × (false ≡ true → left ≡ []))
          (λ line. IsRefused from to false (h.count + answer.converted.values) (length (h.octets ++ octets)) left (line_of line)))
          (sym (cleared refl)) (no_front_left asked n rest is, λ e. cc)

  -- An answer came, whose failure was settled, and what it converted was taken out.
  pub answered : (old new : Pieces) (is_end : Bool) (answer settled : Answer) → ConvertsSome old.before old.from old.to (unread old) answer →
      settled ≡ record answer { failure = settled.failure } →
      (is_end ≡ true → settled.failure ≡ answer.failure) → (answer.missing ≡ None → settled.failure ≡ answer.failure) →
      IfSome answer.missing (λ _. is_end ≡ false → settled.failure ≡ None) →
      unread new ≡ drop settled.converted.octets (unread old) →
      new.before.values ≡ sum_within old.before.values settled.converted.values →
      new.before.octets ≡ sum_within old.before.octets settled.converted.octets →
      new.from ≡ old.from → new.to ≡ old.to → ((octets : List ℕ) → HasCome new.search octets) →
      Holds from to old given written → Answers from to new is_end given written settled
  answered old new is_end answer settled some same at_end whole cleared taken values octets reads writes came h =
      let s = subst (λ t. ConvertsSome old.before from t (unread old) answer) h.writes (subst (λ f. ConvertsSome old.before f old.to (unread old) answer) h.reads some) in
      let most = 2 ^ 64 - 1 in
      let left : unread new ≡ s.left =
      taken ∙ ap (λ a. drop a.converted.octets (unread old)) same ∙ ap (λ n. drop n (unread old)) s.long ∙ ap (drop (length s.octets)) s.parts ∙ drop-append_seam s.octets s.left in
      let output : settled.output.items ≡ answer.output.items = ap (λ a. a.output.items) same in
      let more : settled.converted.values ≡ answer.converted.values = ap (λ a. a.converted.values) same in
      let further : settled.converted.octets ≡ answer.converted.octets = ap (λ a. a.converted.octets) same in
      record {
        holds = record {
          octets = h.octets ++ s.octets;
          count = h.count + answer.converted.values;
          converted = subst (λ l. AreConverted from to (h.octets ++ s.octets) (written ++ l) (h.count + answer.converted.values)) (sym output)
              (together from to h.octets written h.count s.octets answer.output.items answer.converted.values h.converted s.converted);
          parts = h.parts ∙ ap (λ l. h.octets ++ l) s.parts ∙ sym (append_assoc h.octets s.octets s.left) ∙ ap (λ l. (h.octets ++ s.octets) ++ l) (sym left);
          values = values ∙ ap (λ n. sum_within old.before.values n) more ∙ sum_of most old.before.values h.count answer.converted.values h.values;
          position = octets ∙ ap (λ n. sum_within old.before.octets n) further ∙ sum_of most old.before.octets (length h.octets) answer.converted.octets h.position
              ∙ ap (λ n. min (0 + n) most) (ap (λ n. length h.octets + n) s.long ∙ sym (length-append h.octets s.octets));
          reads = reads ∙ h.reads;
          writes = writes ∙ h.writes;
          searched = ∣ came (unread new) ∣₁;
        };
        rest = subst (λ l. MatchOption settled.failure (HasNoFront from l × (is_end ≡ true → l ≡ []))
            (λ line. IsRefused from to is_end (h.count + answer.converted.values) (length (h.octets ++ s.octets)) l (string_bytes line))) (sym left)
            (rest_of (λ line. string_bytes line) old is_end answer answer.failure settled.failure s.octets s.left h s.long s.rest at_end whole cleared);
      }
