-- A group of additions, as a reader sees it.
use Rattle.std.proofs.Common.{◌≡◌, ℕ, ◌&&◌, List, [], ◌∷◌, ◌++◌, Option, Some, None, Bool, true, false, if◌then◌else◌, Ok, Err, inl, inr, refl, ap, sym, ◌∙◌, subst, append_assoc, arith}
use Rattle.std.specs.Option.{option_map, IfSome}
use Rattle.asn1_tags.specs.Trees.{choice}
use Rattle.asn1_components.specs.ComponentLists.{EachIsWellTagged, EachIsOfType, EachIsValid, all_records, group_fits, trees_of}
use Rattle.asn1_components.specs.ComponentTypes.{ComponentType, Fits}
use Rattle.asn1_fields.specs.declared.presence.FieldPresence.TheVariants.{Optional}
use Rattle.asn1_model.specs.Composites.{group_records}
use Rattle.asn1_model.specs.Records.{Record, presence_mark, group_start, group_absent, group_end, presence_marks_alone, highest}
use Rattle.asn1_model.specs.Tags.{Tags, BeginsWithin, LiesIn, ShareNone, tree_tags, first_tags}
use Rattle.asn1_model.specs.RecordTables.{Row, Table}
use Rattle.asn1_model.proofs.FirstTags.{alone_append, begins_before, first_stays}
use Rattle.asn1_laws.specs.declared.decode_error.DecodeError.{DecodeError}
use Rattle.asn1_laws.specs.Reading.{Reader, MayFail, TellsPresence, Outside}
use Rattle.asn1_laws.proofs.ReadingSteps.{highest-append, flat_failure}

abbrev around : Table Row → List Record → Bool → List Record
around table rs alone = if alone then presence_mark (group_absent table) ∷ [] else presence_mark (group_start table) ∷ rs ++ presence_mark group_end ∷ []

around_is : (table : Table Row) (rs rest : List Record) → presence_marks_alone rs ≡ false → around table rs (presence_marks_alone rs) ++ rest ≡ presence_mark (group_start table) ∷ (rs ++ (presence_mark group_end ∷ rest))
around_is table rs rest h = ap (λ b. around table rs b ++ rest) h ∙ ap (λ l. presence_mark (group_start table) ∷ l) (append_assoc rs (presence_mark group_end ∷ []) rest)

around_height : (table : Table Row) (rs : List Record) → presence_marks_alone rs ≡ false → highest (around table rs (presence_marks_alone rs)) ≡ highest rs
around_height table rs h =
    let e : highest (around table rs (presence_marks_alone rs)) ≡ highest (presence_mark (group_start table) ∷ rs ++ presence_mark group_end ∷ []) = ap {B = ℕ} (λ b. highest (around table rs b)) h in
    omega (arith, e, highest-append rs (presence_mark group_end ∷ []))

module _ {V : Type 0} (cs : List (ComponentType V)) where
  abbrev pub own_tags : Tags
  own_tags = tree_tags (choice (trees_of cs))

  lies : (table : Table Row) (rs : List Record) → presence_marks_alone rs ≡ false → Fits Optional (choice (trees_of cs)) (presence_mark (group_start table) ∷ rs ++ presence_mark group_end ∷ []) → LiesIn (first_tags rs) own_tags
  lies table rs some (inl begins) = subst (λ a. LiesIn a own_tags) (first_stays rs (presence_mark group_end ∷ []) some) begins.within
  lies table rs some (inr absent) =
      let alone : false ≡ true = sym (ap (λ b. b && true) some) ∙ sym (alone_append rs (presence_mark group_end ∷ [])) ∙ absent.1 in cc

  -- what follows the start of a group that is there
  begins : (table : Table Row) → EachIsWellTagged cs → (x : V) (rest : List Record) → presence_marks_alone (all_records cs x) ≡ false → BeginsWithin own_tags (all_records cs x ++ (presence_mark group_end ∷ rest))
  begins table can x rest some =
      begins_before own_tags (all_records cs x) (presence_mark group_end ∷ rest) (record {
        some = some;
        within = lies table (all_records cs x) some (subst (λ b. Fits Optional (choice (trees_of cs)) (around table (all_records cs x) b)) some (group_fits table cs can (Some x)));
      })

  -- The group is there, and what follows its start remains to be read.
  pub record Entered {D : Type 0} (table : Table Row) (R : Reader D) (e : D) (v : Option V) (rest : List Record) (outer : Outside) : Type 0 where
    pub held : V
    pub is : v ≡ Some held
    pub of_type : EachIsOfType cs held
    pub valid : EachIsValid cs R.accepts held
    pub high : highest (group_records table (option_map (all_records cs) v)) ≡ highest (all_records cs held)
    pub at : R.remains e (all_records cs held ++ (presence_mark group_end ∷ rest), outer)

  module _ {D : Type 0} (table : Table Row) (R : Reader D) (d e : D) (rest : List Record) (outer : Outside) (can : EachIsWellTagged cs) (apart : ShareNone own_tags (first_tags rest)) where
    after_start : (x : V) → presence_marks_alone (all_records cs x) ≡ false → R.remains d (group_records table (Some (all_records cs x)) ++ rest, outer) →
        R.remains d (presence_mark (group_start table) ∷ (all_records cs x ++ (presence_mark group_end ∷ rest)), outer)
    after_start x some at = subst (λ l. R.remains d (l, outer)) (around_is table (all_records cs x) rest some) at

    pub not_told : {error : DecodeError} (b h : ℕ) → TellsPresence R d e (group_start table) (group_absent table) own_tags (Err error) → (v : Option V) →
        IfSome v (λ w. EachIsValid cs R.accepts w × (presence_marks_alone (all_records cs w) ≡ false)) →
        R.remains d (group_records table (option_map (all_records cs) v) ++ rest, outer) → MayFail b h error
    not_told {error} b h tells None valid at = flat_failure b h error (tells.away rest outer apart at)
    not_told {error} b h tells (Some x) valid at = flat_failure b h error (tells.there (all_records cs x ++ (presence_mark group_end ∷ rest)) outer (begins table can x rest valid.1) (after_start x valid.1 at))

    pub not_there : {b : Bool} → TellsPresence R d e (group_start table) (group_absent table) own_tags (Ok b) → b ≡ false → (v : Option V) →
        IfSome v (λ w. EachIsValid cs R.accepts w × (presence_marks_alone (all_records cs w) ≡ false)) →
        R.remains d (group_records table (option_map (all_records cs) v) ++ rest, outer) → (v ≡ None) × R.remains e (rest, outer)
    not_there tells miss None valid at = (refl, (tells.away rest outer apart at).at)
    not_there tells miss (Some x) valid at =
        let wrong = (tells.there (all_records cs x ++ (presence_mark group_end ∷ rest)) outer (begins table can x rest valid.1) (after_start x valid.1 at)).answer in cc

    pub is_there : {b : Bool} → TellsPresence R d e (group_start table) (group_absent table) own_tags (Ok b) → b ≡ true → (v : Option V) → IfSome v (EachIsOfType cs) →
        IfSome v (λ w. EachIsValid cs R.accepts w × (presence_marks_alone (all_records cs w) ≡ false)) →
        R.remains d (group_records table (option_map (all_records cs) v) ++ rest, outer) → Entered table R e v rest outer
    is_there tells hit None of_type valid at = let wrong = (tells.away rest outer apart at).answer in cc
    is_there tells hit (Some x) of_type valid at = record {
      held = x;
      is = refl;
      of_type = of_type;
      valid = valid.0;
      high = around_height table (all_records cs x) valid.1;
      at = (tells.there (all_records cs x ++ (presence_mark group_end ∷ rest)) outer (begins table can x rest valid.1) (after_start x valid.1 at)).at;
    }
