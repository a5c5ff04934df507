-- The components of a value, written one after another.
use Rattle.std.proofs.Common.{◌≡◌, ℕ, zero, suc, ◌+◌, List, [], ◌∷◌, ◌++◌, take, drop, refl, sym, ap, ◌∙◌, subst, append_assoc, append-nil, add-one}
use Rattle.asn1_components.specs.ComponentLists.{all_records, EachIsOfType}
use Rattle.asn1_components.specs.ComponentTypes.{ComponentType}
use Rattle.asn1_laws.proofs.WritingSteps.{append_both, fails_around}
use Rattle.asn1_laws.specs.declared.encode_error.EncodeError.{EncodeError}
use Rattle.asn1_laws.specs.IndexedComponents.{records_at, IsOfTypeAt}
use Rattle.asn1_laws.specs.Writing.{Writer, IsLawful, Appends, Fails}

records_next : {V : Type 0} (cs : List (ComponentType V)) (k : ℕ) (v : V) → all_records (take k cs) v ++ records_at cs k v ≡ all_records (take (suc k) cs) v
records_next [] zero v = refl
records_next [] (suc k) v = refl
records_next (c ∷ cs) zero v = sym (append-nil (c.records v))
records_next (c ∷ cs) (suc k) v = append_assoc (c.records v) (all_records (take k cs) v) (records_at cs k v) ∙ ap (λ l. c.records v ++ l) (records_next cs k v)

of_type_next : {V : Type 0} (cs : List (ComponentType V)) (k : ℕ) (v : V) → EachIsOfType (take k cs) v → IsOfTypeAt cs k v → EachIsOfType (take (suc k) cs) v
of_type_next [] k v before here = tt
of_type_next (c ∷ cs) zero v before here = (here, tt)
of_type_next (c ∷ cs) (suc k) v before here = (before.0, of_type_next cs k v before.1 here)

records_around : {V : Type 0} (cs : List (ComponentType V)) (k : ℕ) (v : V) → all_records (take k cs) v ++ (records_at cs k v ++ all_records (drop (suc k) cs) v) ≡ all_records cs v
records_around [] zero v = refl
records_around [] (suc k) v = refl
records_around (c ∷ cs) zero v = refl
records_around (c ∷ cs) (suc k) v =
    append_assoc (c.records v) (all_records (take k cs) v) (records_at cs k v ++ all_records (drop (suc k) cs) v)
    ∙ ap (λ l. c.records v ++ l) (records_around cs k v)

module _ {E : Type 0} (W : Writer E) where
  pub appends_component : {V : Type 0} (cs : List (ComponentType V)) (k : ℕ) (v : V) {a b c : E} →
      Appends W a (all_records (take k cs) v) (EachIsOfType (take k cs) v) b → Appends W b (records_at cs k v) (IsOfTypeAt cs k v) c →
      Appends W a (all_records (take (k + 1) cs) v) (EachIsOfType (take (k + 1) cs) v) c
  appends_component cs k v {a} {b} {c} p q =
      subst (λ n. Appends W a (all_records (take n cs) v) (EachIsOfType (take n cs) v) c) (sym (add-one k))
      (subst (λ l. Appends W a l (EachIsOfType (take (suc k) cs) v) c) (records_next cs k v) (append_both W (of_type_next cs k v) p q))

  pub fails_at_component : {V : Type 0} (cs : List (ComponentType V)) (k : ℕ) (v : V) {T : Type 0} {a b c : E} {e : EncodeError} → IsLawful W →
      Appends W a (all_records (take k cs) v) T b → Fails W b (records_at cs k v) c e → Fails W a (all_records cs v) c e
  fails_at_component cs k v {a = a} {c = c} {e} law p q =
      subst (λ l. Fails W a l c e) (records_around cs k v) (fails_around W law (all_records (drop (suc k) cs) v) p q)
