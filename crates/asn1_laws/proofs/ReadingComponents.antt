-- How the components of a SEQUENCE or of a group are read, one after another. For who proves a `decode_fields`: `begin` before the
-- first, a `step` after each that was read, `stops` where one was not, and `through` after the last.
use Rattle.std.proofs.Common.{◌≡◌, ℕ, max, ◌≤◌, List, [], ◌∷◌, ◌++◌, refl, arith, subst, ◌∙◌}
use Rattle.asn1_components.proofs.DistinctFollowers.{all_then, sequence_apart}
use Rattle.asn1_components.specs.ComponentLists.{CanBeInSequence, EachIsWellTagged, EachIsOfType, EachIsValid, all_records}
use Rattle.asn1_components.specs.ComponentTypes.{ComponentType}
use Rattle.asn1_components.specs.Following.{BeginsApart, EachApart, EndsApart, When, records_then}
use Rattle.asn1_fields.specs.FieldViews.{may_be_absent}
use Rattle.asn1_model.specs.Records.{Record, highest}
use Rattle.asn1_laws.specs.declared.decode_error.DecodeError.{DecodeError}
use Rattle.asn1_laws.specs.Reading.{MayFail, HasAdvanced, Reader, Outside}
use Rattle.asn1_laws.proofs.ReadingSteps.{fails_below, highest-append}

module _ {D V : Type 0} (R : Reader D) where
  -- Some components of a value were read, and these are left. The height is that of all.
  pub record ComponentsRead (began now : D) (left : List (ComponentType V)) (v : V) (height : ℕ) (rest : List Record) (outer : Outside) : Type 0 where
    pub can : EachIsWellTagged left
    pub of_type : EachIsOfType left v
    pub valid : EachIsValid left R.accepts v
    pub apart : EachApart left v rest
    -- how deep those are nested that were read
    pub read : ℕ
    pub within_depth_left : read ≤ R.depth_left began
    pub no_deeper : highest (all_records left v) ≤ height
    pub highest_of_both : height ≤ max read (highest (all_records left v))
    pub same_depth : R.depth_left now ≡ R.depth_left began
    pub at : R.remains now (records_then left v rest, outer)

  -- before the first
  pub begin : (d : D) (cs : List (ComponentType V)) (v : V) (rest : List Record) (outer : Outside) →
      CanBeInSequence cs → EachIsOfType cs v → EachIsValid cs R.accepts v → EndsApart cs rest → R.remains d (all_records cs v ++ rest, outer) →
      ComponentsRead d d cs v (highest (all_records cs v)) rest outer
  begin d cs v rest outer can of_type valid ends at = record {
    can = can.0;
    of_type = of_type;
    valid = valid;
    apart = sequence_apart cs can v rest ends;
    read = 0;
    within_depth_left = omega arith;
    no_deeper = omega arith;
    highest_of_both = omega arith;
    same_depth = refl;
    at = subst (λ l. R.remains d (l, outer)) (all_then cs v rest) at;
  }

  -- One more was read, with this answer.
  pub record Stepped (began now : D) (left : List (ComponentType V)) (v : V) (height : ℕ) (rest : List Record) (outer : Outside) (Answer : Type 0) : Type 0 where
    pub answer : Answer
    pub next : ComponentsRead began now left v height rest outer

module _ {D V : Type 0} {R : Reader D} {began now : D} {c : ComponentType V} {cs : List (ComponentType V)} {v : V} {height : ℕ} {rest : List Record} {outer : Outside} where
  -- where the call that reads it succeeded
  pub step : {then : D} {Answer : Type 0} → ComponentsRead R began now (c ∷ cs) v height rest outer → R.depth_left then ≡ R.depth_left now →
      (c.IsWellTagged → c.IsOfType v → c.IsValid R.accepts v → When (may_be_absent c.presence) (BeginsApart c.tree (records_then cs v rest)) →
      R.remains now (c.records v ++ records_then cs v rest, outer) → HasAdvanced R now then (highest (c.records v)) (records_then cs v rest, outer) Answer) →
      Stepped R began then cs v height rest outer Answer
  step part same reads =
      let moved = reads part.can.0 part.of_type.0 part.valid.0 part.apart.0 part.at in record {
        answer = moved.answer;
        next = record {
          can = part.can.1;
          of_type = part.of_type.1;
          valid = part.valid.1;
          apart = part.apart.1;
          read = max part.read (highest (c.records v));
          within_depth_left = omega (arith, part.within_depth_left, moved.within_depth_left, part.same_depth);
          no_deeper = omega (arith, part.no_deeper, highest-append (c.records v) (all_records cs v));
          highest_of_both = omega (arith, part.highest_of_both, highest-append (c.records v) (all_records cs v));
          same_depth = same ∙ part.same_depth;
          at = moved.at;
        };
      }

  -- where it failed
  pub stops : {e : DecodeError} → ComponentsRead R began now (c ∷ cs) v height rest outer →
      (c.IsWellTagged → c.IsOfType v → c.IsValid R.accepts v → When (may_be_absent c.presence) (BeginsApart c.tree (records_then cs v rest)) →
      R.remains now (c.records v ++ records_then cs v rest, outer) → MayFail (R.depth_left now) (highest (c.records v)) e) →
      MayFail (R.depth_left began) height e
  stops part reads =
      fails_below _ _ _ (omega (arith, part.same_depth)) (omega (arith, part.no_deeper, highest-append (c.records v) (all_records cs v)))
      (reads part.can.0 part.of_type.0 part.valid.0 part.apart.0 part.at)

-- after the last
pub through : {D V : Type 0} {R : Reader D} {began now : D} {v : V} {height : ℕ} {rest : List Record} {outer : Outside} {Answer : Type 0} →
    ComponentsRead R began now [] v height rest outer → Answer → HasAdvanced R began now height (rest, outer) Answer
through part answer = record {
  answer = answer;
  at = part.at;
  within_depth_left = omega (arith, part.within_depth_left, part.highest_of_both);
}
