-- The elements of a SEQUENCE OF or a SET OF, read by a loop of the type's own. For who proves such a loop: `none_read` before it,
-- `one_more_read` after an element, and for each way out one of the others; for the clause `only` the field `exactly` where as many
-- were read as there can be, and `all_read_exactly` where none comes.
use Rattle.std.proofs.Common.{◌≡◌, ◌≤◌, ◌+◌, ◌++◌, ℕ, Bool, true, false, List, [], ◌∷◌, Ok, Err, ap, arith, inl, length, length-append, refl}
use Rattle.std.specs.Cmp.Lexicographic.{pointwise}
use Rattle.std.specs.List.{flat_map, All}
use Rattle.asn1_laws.proofs.ReadingElements.{ElementsRead, another, filled, further, no_deeper, not_told, start, through}
use Rattle.asn1_laws.proofs.ReadingExactly.{nothing_read}
use Rattle.asn1_laws.proofs.ReadingSteps.{fails_below}
use Rattle.asn1_laws.proofs.ReadingWhole.{no_element_was_read, one_more_was_read, read_more}
use Rattle.asn1_laws.specs.Reading.{Outside, Reader, ReadsValue, TellsMore}
use Rattle.asn1_laws.specs.ReadingExactly.{HasRead, HasReadElements, HasReadValue}
use Rattle.asn1_laws.specs.ReadingTypes.{ReadsElementsLeft}
use Rattle.asn1_laws.specs.declared.decode_error.DecodeError.{DecodeError}
use Rattle.asn1_model.specs.Meaning.{IsReadAsOwn, IsWellTagged, Meaning, own_records}
use Rattle.asn1_model.specs.Readings.{AreElementsRead}
use Rattle.asn1_model.specs.Records.{Head, Record}

module _ {D V : Type 0} (R : Reader D) (m : Meaning V) (eq : V → V → Bool) where
  -- This many elements were read since the decoder was in this state: of each list that was left in the scope the first, and
  -- the others are next. Nothing else was read.
  pub record ListRead (began now : D) (items : List V) (count : ℕ) : Type 0 where
    pub kept : R.depth_left now ≡ R.depth_left began
    pub as_many : length items ≡ count
    pub exactly : HasReadElements R began now m items
    pub so_far : (vs : List V) (scope : Head × List Record) (outer : Outside) → IsWellTagged m → All m.IsOfType vs → All (m.IsValid R.accepts) vs →
        R.remains began (flat_map (own_records m) vs, scope ∷ outer) → ElementsRead R m eq now items vs (scope ∷ outer)

  -- before the loop
  pub none_read : (began : D) (items : List V) → items ≡ [] → ListRead began began items 0
  none_read began items none = record {
    kept = refl;
    as_many = ap length none;
    exactly = rw none (no_element_was_read R (IsReadAsOwn m) began began (nothing_read R began));
    so_far = λ vs scope outer can of_type valid at. rw none (start R m eq began vs (scope ∷ outer) of_type valid at);
  }

  module _ {W : Type 0} (items_of : W → List V) {began now : D} {items : List V} {count : ℕ} (read : ListRead began now items count) (bound : ℕ) where
    -- whether an element comes could not be told
    pub more_not_told : (new : D) {e : DecodeError} → TellsMore R now new (Err e) → ReadsElementsLeft R bound m (λ w. pointwise eq (items_of w)) began new (Err e)
    more_not_told new tells vs scope outer can of_type valid few at =
        not_told R m eq can _ _ (read.so_far vs scope outer can of_type valid at) tells

    -- none comes
    pub all_read : (new : D) (w : W) {b : Bool} → items_of w ≡ items → TellsMore R now new (Ok b) → b ≡ false → R.depth_left new ≡ R.depth_left now →
        ReadsElementsLeft R bound m (λ w. pointwise eq (items_of w)) began new (Ok w)
    all_read new w same tells none kept vs scope outer can of_type valid few at =
        let t = through R m eq can _ (read.so_far vs scope outer can of_type valid at) tells none kept in
        record { answer = rw same t.same; at = t.at; within_depth_left = omega (arith, t.low, read.kept, kept) }

    pub all_read_exactly : (new : D) (w : W) → items_of w ≡ items → HasRead R now new [] → HasReadElements R began new m (items_of w)
    all_read_exactly new w same nothing = rw same (read_more R (AreElementsRead (IsReadAsOwn m) items) began now new read.exactly nothing)

    -- an element comes, and it was not read, or there was no memory for it
    pub element_not_read : (mid new : D) {b : Bool} {e : DecodeError} → TellsMore R now mid (Ok b) → b ≡ true → R.depth_left mid ≡ R.depth_left now →
        ReadsValue R m eq m.tag m.constraints mid new (Err e) → ReadsElementsLeft R bound m (λ w. pointwise eq (items_of w)) began new (Err e)
    element_not_read mid new tells comes kept reads vs scope outer can of_type valid few at =
        let a = another R m eq can _ (read.so_far vs scope outer can of_type valid at) tells comes kept in
        let r = reads a.next m.name (flat_map (own_records m) a.todo) (scope ∷ outer) can.1 a.next_of_type a.next_valid (inl can.0) a.at in
        fails_below _ _ _ (omega (arith, read.kept, kept)) (no_deeper (own_records m) a.done a.todo a.next vs a.split) r

    -- as many were read as there can be
    pub filled_up : (w : W) → items_of w ≡ items → bound ≤ count → ReadsElementsLeft R bound m (λ w. pointwise eq (items_of w)) began now (Ok w)
    filled_up w same enough vs scope outer can of_type valid few at =
        let t = filled R m eq (read.so_far vs scope outer can of_type valid at) (omega (arith, few, enough, read.as_many)) in
        record { answer = rw same t.same; at = t.at; within_depth_left = omega (arith, t.low, read.kept) }

  -- one more was read
  pub one_more_read : {began now : D} {items : List V} {count : ℕ} (mid new : D) (w : V) (more : List V) {b : Bool} → ListRead began now items count →
      TellsMore R now mid (Ok b) → HasRead R now mid [] → b ≡ true → R.depth_left mid ≡ R.depth_left now →
      ReadsValue R m eq m.tag m.constraints mid new (Ok w) → HasReadValue R mid new m m.tag m.constraints w → R.depth_left new ≡ R.depth_left mid → more ≡ items ++ w ∷ [] → ListRead began new more (count + 1)
  one_more_read {began = began} {now = now} {items = items} mid new w more read tells nothing comes kept reads was same is = record {
    kept = omega (arith, read.kept, kept, same);
    as_many = omega (arith, read.as_many, ap length is, length-append items (w ∷ []));
    exactly = rw is (one_more_was_read R (IsReadAsOwn m) items w began mid new (read_more R (AreElementsRead (IsReadAsOwn m) items) began now mid read.exactly nothing) was);
    so_far = λ vs scope outer can of_type valid at.
        let a = another R m eq can _ (read.so_far vs scope outer can of_type valid at) tells comes kept in
        let r = reads a.next m.name (flat_map (own_records m) a.todo) (scope ∷ outer) can.1 a.next_of_type a.next_valid (inl can.0) a.at in
        rw is (further R m eq new w a r.within_depth_left r.answer r.at same);
  }
