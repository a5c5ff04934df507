-- The elements of a list, written one after another.
use Rattle.std.proofs.Common.{◌≡◌, ℕ, ◌+◌, ◌<◌, List, [], ◌∷◌, ◌++◌, length, map, take, drop, get_or, sym, ap, ◌∙◌, subst, append_assoc, append-nil, Bor}
use Rattle.std.specs.List.{flat_map}
use Rattle.std.specs.Prelude.{All}
use Rattle.std.proofs.lemmas.Grind.{flat_map-append}
use Rattle.std.proofs.lemmas.List.{flat_map_more, map-append, nil_from_length, take_more, take-append-drop}
use Rattle.std.proofs.lemmas.List.Elements.{All-append, All-cons, All-more, All-nil}
use Rattle.asn1_model.specs.Records.{Record}
use Rattle.asn1_laws.proofs.WritingSteps.{append_both, fails_around}
use Rattle.asn1_laws.specs.declared.encode_error.EncodeError.{EncodeError}
use Rattle.asn1_laws.specs.Writing.{Writer, IsLawful, Appends, Fails}

one_more : {X : Type 0} (f : X → List Record) (xs : List X) (i : ℕ) (x : X) → i < length xs → x ≡ get_or xs i x → flat_map f (take i xs) ++ f x ≡ flat_map f (take (i + 1) xs)
one_more f xs i x lt is = flat_map_more f [] (take i xs) x ∙ ap (flat_map f) (ap (λ y. take i xs ++ y ∷ []) is ∙ sym (take_more xs i x lt))

all_of_them : {X : Type 0} (f : X → List Record) (xs : List X) (i : ℕ) (x : X) → i < length xs → x ≡ get_or xs i x →
    flat_map f (take i xs) ++ (f x ++ flat_map f (drop (i + 1) xs)) ≡ flat_map f xs
all_of_them f xs i x lt is =
    sym (append_assoc (flat_map f (take i xs)) (f x) (flat_map f (drop (i + 1) xs)))
    ∙ ap (λ l. l ++ flat_map f (drop (i + 1) xs)) (one_more f xs i x lt is)
    ∙ sym (flat_map-append f (take (i + 1) xs) (drop (i + 1) xs))
    ∙ ap (flat_map f) (take-append-drop (i + 1) xs)

module _ {E : Type 0} (W : Writer E) where
  pub appends_element : {X : Type 0} (f : X → List Record) (P : X → Type 0) (xs : List X) (i : ℕ) (x : X) {a b c : E} → i < length xs → x ≡ get_or xs i x →
      Appends W a (flat_map f (take i xs)) (All P (take i xs)) b → Appends W b (f x) (P x) c → Appends W a (flat_map f (take (i + 1) xs)) (All P (take (i + 1) xs)) c
  appends_element f P xs i x {a} {b} {c} lt is p q =
      subst (λ l. Appends W a l (All P (take (i + 1) xs)) c) (one_more f xs i x lt is)
      (append_both W (λ before here. All-more P xs i x lt before (subst P is here)) p q)

  pub fails_at_element : {X : Type 0} (f : X → List Record) (xs : List X) (i : ℕ) (x : X) {T : Type 0} {a b c : E} {e : EncodeError} → i < length xs → x ≡ get_or xs i x → IsLawful W →
      Appends W a (flat_map f (take i xs)) T b → Fails W b (f x) c e → Fails W a (flat_map f xs) c e
  fails_at_element f xs i x {a = a} {c = c} {e} lt is law p q =
      subst (λ l. Fails W a l c e) (all_of_them f xs i x lt is) (fails_around W law (flat_map f (drop (i + 1) xs)) p q)

-- The same, where an iterator gives the elements: those that it has given, the next one, and those that are left.
pub given_next : {X : Type 0} (seen : List (Bor X)) (x : Bor X) (all rest left : List X) → map (λ r. r.now) seen ++ rest ≡ all → rest ≡ x.now ∷ left →
    map (λ r. r.now) (seen ++ x ∷ []) ++ left ≡ all
given_next seen x all rest left before next =
    ap (λ l. l ++ left) (map-append (λ r. r.now) seen (x ∷ []))
    ∙ append_assoc (map (λ r. r.now) seen) (x.now ∷ []) left
    ∙ ap (λ l. map (λ r. r.now) seen ++ l) (sym next)
    ∙ before

pub all_given : {X : Type 0} (given rest all : List X) → given ++ rest ≡ all → length rest ≡ 0 → given ≡ all
all_given given rest all before none =
    sym (append-nil given) ∙ ap (λ l. given ++ l) (sym (nil_from_length rest none)) ∙ before

module _ {E : Type 0} (W : Writer E) where
  pub appends_given : {X : Type 0} (f : X → List Record) (P : X → Type 0) (seen : List (Bor X)) (x : Bor X) {a b c : E} →
      Appends W a (flat_map f (map (λ r. r.now) seen)) (All P (map (λ r. r.now) seen)) b → Appends W b (f x.now) (P x.now) c →
      Appends W a (flat_map f (map (λ r. r.now) (seen ++ x ∷ []))) (All P (map (λ r. r.now) (seen ++ x ∷ []))) c
  appends_given f P seen x {a} {b} {c} p q =
      let given = map (λ r. r.now) seen in
      subst (λ l. Appends W a (flat_map f l) (All P l) c) (sym (map-append (λ r. r.now) seen (x ∷ [])))
      (subst (λ l. Appends W a l (All P (given ++ x.now ∷ [])) c) (flat_map_more f [] given x.now)
      (append_both W (λ before here. All-append P given (x.now ∷ []) before (All-cons P x.now [] here (All-nil P))) p q))

  pub fails_at_given : {X : Type 0} (f : X → List Record) (given left all rest : List X) (x : Bor X) {T : Type 0} {a b c : E} {e : EncodeError} →
      given ++ rest ≡ all → rest ≡ x.now ∷ left → IsLawful W →
      Appends W a (flat_map f given) T b → Fails W b (f x.now) c e → Fails W a (flat_map f all) c e
  fails_at_given f given left all rest x {a = a} {c = c} {e} before next law p q =
      subst (λ l. Fails W a l c e)
      (sym (flat_map-append f given (x.now ∷ left)) ∙ ap (flat_map f) (ap (λ l. given ++ l) (sym next) ∙ before))
      (fails_around W law (flat_map f left) p q)
