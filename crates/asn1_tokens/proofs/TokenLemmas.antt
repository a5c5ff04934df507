-- What is skipped and then taken.
use Rattle.std.proofs.Common.{◌≡◌, ℕ, ◌+◌, ◌-◌, ◌<◌, ◌≤◌, Bool, true, false, cond, ◌&&◌, List, [], ◌∷◌, ◌++◌, length, take, drop, Some, refl, sym, ap, ◌∙◌, subst, append_assoc, arith}
use Rattle.std.specs.Prelude.{◌==◌}
use Rattle.std.proofs.lemmas.List.{append-nil, length-append, take-append-drop}
use Rattle.asn1_tokens.specs.declared.kind.TokenKind.{TokenKind}
use Rattle.asn1_tokens.specs.declared.kind.TokenKind.TheVariants.{TypeReference, Identifier, ReservedWord, Number, BinaryString, HexString, CharacterString, Symbol}
use Rattle.asn1_tokens.specs.declared.token.Token.{Token}
use Rattle.asn1_tokens.specs.Characters.{first, is_newline}
use Rattle.asn1_tokens.specs.Items.{EndsItem, IsItem, Splits}
use Rattle.asn1_tokens.specs.Skipped.{Skips, is_unskipped, nothing, white_space, no_break_space, line_comment, comment, after_hyphens, after_comment}
use Rattle.asn1_tokens.specs.Tokens.{TakesToken, TakesTokens}
use Rattle.asn1_tokens.specs.Words.{is_reserved, is_symbol}
use Rattle.asn1_tokens.proofs.ItemLemmas.{cut_item}

-- a text ends with a later one
record Ends (text rest : List ℕ) : Type 0 where
  gap : List ℕ
  parts : text ≡ gap ++ rest

after_first : (c : ℕ) (text rest : List ℕ) → Ends text rest → Ends (c ∷ text) rest
after_first c text rest e = record { gap = c ∷ e.gap; parts = ap (λ t. c ∷ t) e.parts }

after_some : (n : ℕ) (text : List ℕ) → Ends text (drop n text)
after_some n text = record { gap = take n text; parts = sym (take-append-drop n text) }

then_after : (text middle rest : List ℕ) → Ends text middle → Ends middle rest → Ends text rest
then_after text middle rest e f = record {
  gap = e.gap ++ f.gap;
  parts = e.parts ∙ ap (λ t. e.gap ++ t) f.parts ∙ sym (append_assoc e.gap f.gap rest);
}

itself : (text : List ℕ) → Ends text text
itself text = record { gap = []; parts = refl }

hyphens_end : (text : List ℕ) → Ends text (after_hyphens text)
hyphens_end [] = itself []
hyphens_end (c ∷ rest) =
    elim (is_newline c) as (λ b. Ends (c ∷ rest) (cond b rest (cond (c == 45 && first rest == 45) (drop 1 rest) (after_hyphens rest)))) [
      | true ↦ after_first c rest rest (itself rest)
      | false ↦
          elim (c == 45 && first rest == 45) as (λ b. Ends (c ∷ rest) (cond b (drop 1 rest) (after_hyphens rest))) [
            | true ↦ after_first c rest (drop 1 rest) (after_some 1 rest)
            | false ↦ after_first c rest (after_hyphens rest) (hyphens_end rest)
          ]
    ]

comment_end : (second : Bool) (depth : ℕ) (text after : List ℕ) → after_comment second depth text ≡ Some after → Ends text after
comment_end second depth [] after found = absurd cc
comment_end true depth (c ∷ rest) after found = after_first c rest after (comment_end false depth rest after found)
comment_end false depth (c ∷ rest) after found =
    elim (c == 42 && first rest == 47) as
    (λ b. cond b (cond (depth == 1) (Some (drop 1 rest)) (after_comment true (depth - 1) rest)) (cond (c == 47 && first rest == 42) (after_comment true (depth + 1) rest) (after_comment false depth rest)) ≡ Some after → Ends (c ∷ rest) after) [
      | true ↦
          elim (depth == 1) as (λ b. cond b (Some (drop 1 rest)) (after_comment true (depth - 1) rest) ≡ Some after → Ends (c ∷ rest) after) [
            | true ↦ λ found.
                let left : drop 1 rest ≡ after = cc in
                after_first c rest after (record { gap = take 1 rest; parts = sym (take-append-drop 1 rest) ∙ ap (λ t. take 1 rest ++ t) left })
            | false ↦ λ found. after_first c rest after (comment_end true (depth - 1) rest after found)
          ]
      | false ↦
          elim (c == 47 && first rest == 42) as (λ b. cond b (after_comment true (depth + 1) rest) (after_comment false depth rest) ≡ Some after → Ends (c ∷ rest) after) [
            | true ↦ λ found. after_first c rest after (comment_end true (depth + 1) rest after found)
            | false ↦ λ found. after_first c rest after (comment_end false depth rest after found)
          ]
    ] found

skipped_end : (text rest : List ℕ) → Skips text rest → Ends text rest
skipped_end text rest (nothing _) = itself text
skipped_end text rest (white_space _ _ test more) = then_after text (drop 1 text) rest (after_some 1 text) (skipped_end (drop 1 text) rest more)
skipped_end text rest (no_break_space _ _ test more) = then_after text (drop 2 text) rest (after_some 2 text) (skipped_end (drop 2 text) rest more)
skipped_end text rest (line_comment _ _ test more) =
    then_after text (drop 2 text) rest (after_some 2 text)
    (then_after (drop 2 text) (after_hyphens (drop 2 text)) rest (hyphens_end (drop 2 text)) (skipped_end (after_hyphens (drop 2 text)) rest more))
skipped_end text rest (comment _ after _ test found more) =
    then_after text (drop 2 text) rest (after_some 2 text)
    (then_after (drop 2 text) after rest (comment_end false 1 (drop 2 text) after found) (skipped_end after rest more))

-- an item has a character
item_some : (kind : TokenKind) (item : List ℕ) → IsItem kind item → 0 < length item
unfolding is_reserved is_symbol
item_some kind (c ∷ rest) is = omega arith
item_some TypeReference [] is = absurd (let h = is.0 in cc)
item_some Identifier [] is = absurd (let h = is.0 in cc)
item_some ReservedWord [] is = absurd cc
item_some Number [] is = is.0
item_some BinaryString [] is = absurd (let h = is.1 in cc)
item_some HexString [] is = absurd (let h = is.1 in cc)
item_some CharacterString [] is = absurd (omega (arith, is.0))
item_some Symbol [] is = absurd cc

pub item_shortens : (kind : TokenKind) (rest after : List ℕ) → Splits (IsItem kind) rest after → length after < length rest
item_shortens kind rest after split =
    omega (arith, item_some kind split.0 split.2, ap length split.1, length-append split.0 after)

pub token_taken : (size : ℕ) (text rest after : List ℕ) (t : Token) → Skips text rest → is_unskipped rest ≡ true → Splits (IsItem t.kind) rest after → EndsItem t.kind rest after → length rest ≤ size →
    t.text.now ≡ take (length rest - length after) rest → t.start ≡ size - length rest → TakesToken size text t after
token_taken size text rest after t skipped unskipped split ends within is_text is_start =
    let item : t.text.now ≡ split.0 = is_text ∙ cut_item rest split.0 after split.1 in
    let parts : rest ≡ t.text.now ++ after = split.1 ∙ ap (λ x. x ++ after) (sym item) in
    let gap = skipped_end text rest skipped in
    record {
      gap = gap.gap;
      parts = gap.parts ∙ ap (λ x. gap.gap ++ x) parts;
      skipped = let P : List ℕ → Type 0 = λ x. Skips text x in subst P parts skipped;
      item = let P : List ℕ → Type 0 = λ x. IsItem t.kind x in subst P (sym item) split.2;
      unskipped = ap is_unskipped (sym parts) ∙ unskipped;
      ends = let P : List ℕ → Type 0 = λ x. EndsItem t.kind x after in subst P parts ends;
      start = omega (arith, is_start, ap length parts);
    }

-- one more token
pub one_more : (size : ℕ) (text rest after : List ℕ) (before : List Token) (t : Token) →
    ((more : List Token) (end : List ℕ) → TakesTokens size rest more end → TakesTokens size text (before ++ more) end) → TakesToken size rest t after →
    (more : List Token) (end : List ℕ) → TakesTokens size after more end → TakesTokens size text ((before ++ t ∷ []) ++ more) end
one_more size text rest after before t so_far taken more end goes =
    let P : List Token → Type 0 = λ ts. TakesTokens size text ts end in
    subst P (sym (append_assoc before (t ∷ []) more)) (so_far (t ∷ more) end (after, taken, goes))

pub all_taken : (size : ℕ) (text rest : List ℕ) (tokens : List Token) →
    ((more : List Token) (end : List ℕ) → TakesTokens size rest more end → TakesTokens size text (tokens ++ more) end) → TakesTokens size text tokens rest
all_taken size text rest tokens so_far =
    let P : List Token → Type 0 = λ ts. TakesTokens size text ts rest in
    subst P (append-nil tokens) (so_far [] rest refl)
