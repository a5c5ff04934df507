-- Streams of elements: what is shown after an element, after a piece, and at the end.
use Rattle.std.proofs.Common.{◌≡◌, ◌≢◌, ◌∙◌, ℕ, ◌+◌, ◌-◌, ◌≤◌, ◌^◌, min, Bool, true, false, ◌&&◌, List, [], ◌∷◌, ◌++◌, length, take, drop, append_assoc, length-append, take-append-drop, ap, refl, subst, sym, arith, inl, inr}
use Rattle.std.specs.Prelude.{◌⊎◌, Option, Result, Ok, Err, OnOk, IfErr, Vec}
use Rattle.std.specs.declared.alloc.Global.{Global}
use Rattle.std.specs.Io.KnownBytes.{Appends, Consumes, Keeps}
use Rattle.std.proofs.KnownBytes.{Appends-nil, Appends-trans, Consumes-kept, Consumes-nil, Consumes-trans}
use Rattle.std.proofs.lemmas.List.{append-nil, length-take-le}
use Rattle.asn1_laws.specs.declared.decode_error.DecodeError.{DecodeError}
use Rattle.asn1_laws.specs.declared.decode_error.DecodeError.TheVariants as error
use Rattle.asn1_ldap_stream.specs.Elements.{IsNoMessage}
use Rattle.asn1_ldap_stream.specs.Failures.{IsOutside}
use Rattle.asn1_ldap_stream.specs.Showing.{Came, Continues, EndsBy, HasNoFront, IsFault, ShowsUpTo, StopsAt, none, one_more}
use Rattle.asn1_ldap_stream.specs.declared.failure.Failure.{Failure}
use Rattle.asn1_ldap_stream.specs.declared.failure.Failure.TheVariants.{Damaged}
use Rattle.asn1_rules.specs.Fronts.{Fronts, IsFront, IsLawful}
use Rattle.asn1_rules.specs.Progress.{Took}
use Rattle.asn1_rules.specs.Rules.{Format}
use Rattle.asn1_rules.specs.States.{State, appended, begun, counted}

-- a position and some more
further : (most a b n : ℕ) → a ≡ min (0 + b) most → min (a + n) most ≡ min (0 + (b + n)) most
further most a b n is = omega arith

-- memory ran out, or it did not
memory_or_not : (why : DecodeError) → (why ≡ error.Memory) ⊎ (why ≢ error.Memory)
memory_or_not error.Memory = inl refl
memory_or_not _ = inr (λ is. cc)

-- A flag and another one: the second where the first is set, and else the first.
pub stays : (was is now : Bool) → was ≡ true → now ≡ is → now ≡ (was && is)
stays was is now e same = same ∙ ap (λ b. b && is) (sym e)

pub goes : (was is now : Bool) → was ≡ false → now ≡ was → now ≡ (was && is)
goes was is now e same = same ∙ e ∙ ap (λ b. b && is) (sym e)

module _ {R : Type 0} (F : Fronts R (List ℕ)) (reader : R) (rules : Format (Vec ℕ Global)) (depth : ℕ) where
  -- An element came, and its text was written.
  one_shown : IsLawful F → (old new : State R) (lines : List ℕ) (understood : Bool) (given : List ℕ) (first before written : Option (List ℕ)) (was : Bool) →
      ShowsUpTo F reader rules depth given old first before was → Came F reader rules depth old new lines understood →
      Appends before written lines → ShowsUpTo F reader rules depth given new first written (was && understood)
  one_shown law old new lines understood given first before written was s came wrote =
      let t = came.took in
      let unread = old.unread in
      let front : IsFront F reader unread (came.octets, t.n) = subst (λ r. IsFront F r unread (came.octets, t.n)) s.same t.front in
      let within : t.n ≤ length unread = law.within reader unread t.n front.cut in
      let size : length (take t.n unread) ≡ t.n = length-take-le t.n unread within in
      let joined : take t.n unread ++ drop t.n unread ≡ unread = take-append-drop t.n unread in
      let whole : IsFront F reader (take t.n unread ++ drop t.n unread) (came.octets, length (take t.n unread)) =
      subst (λ l. IsFront F reader l (came.octets, length (take t.n unread))) (sym joined) (subst (λ k. IsFront F reader unread (came.octets, k)) (sym size) front) in
      let longer : length (s.shown.bytes ++ take t.n unread) ≡ length s.shown.bytes + t.n =
      length-append s.shown.bytes (take t.n unread) ∙ ap (λ k. length s.shown.bytes + k) size in
      record {
        same = t.taken.same_reader ∙ s.same;
        shown = record {
          bytes = s.shown.bytes ++ take t.n unread;
          text = s.shown.text ++ lines;
          elements = one_more came.octets lines (take t.n unread) (drop t.n unread) understood s.shown.elements whole came.is_text;
          parts = s.shown.parts ∙ ap (λ l. s.shown.bytes ++ l) (sym joined) ∙ sym (append_assoc s.shown.bytes (take t.n unread) (drop t.n unread))
              ∙ ap (λ l. (s.shown.bytes ++ take t.n unread) ++ l) (sym t.taken.unread);
          position = t.taken.consumed ∙ further (2 ^ 128 - 1) old.consumed (length s.shown.bytes) t.n s.shown.position
              ∙ ap (λ k. counted 0 k) (sym longer);
          lines = Appends-trans first before written s.shown.text lines s.shown.lines wrote;
        };
      }

  -- nothing was shown yet
  pub shows_on : (old : State R) (before : Option (List ℕ)) (was : Bool) → old.reader ≡ reader →
      Continues F reader rules depth [] old old before before was was
  shows_on old before was same = record {
    same = same;
    after = λ given first s. subst (λ l. ShowsUpTo F reader rules depth l old first before was) (sym (append-nil given)) s;
  }

  -- A stream went on, and then an element came, whose text was written.
  pub element_shown : IsLawful F → (old mid new : State R) (lines : List ℕ) (understood : Bool) (first before written : Option (List ℕ)) (start was : Bool) →
      Continues F reader rules depth [] old mid first before start was → Came F mid.reader rules depth mid new lines understood →
      Appends before written lines → Continues F reader rules depth [] old new first written start (was && understood)
  element_shown law old mid new lines understood first before written start was so_far came wrote =
      let here : Came F reader rules depth mid new lines understood = subst (λ r. Came F r rules depth mid new lines understood) so_far.same came in
      record {
        same = here.took.taken.same_reader ∙ so_far.same;
        after = λ given begin s. one_shown law mid new lines understood (given ++ []) begin before written was (so_far.after given begin s) here wrote;
      }

  -- A piece came.
  pub piece_came : (old new : State R) (piece : List ℕ) (before : Option (List ℕ)) (was : Bool) → old.reader ≡ reader → new ≡ appended piece old →
      Continues F reader rules depth piece old new before before was was
  piece_came old new piece before was same is = subst (λ s. Continues F reader rules depth piece old s before before was was) (sym is) (record {
    same = same;
    after = λ given first s. record {
      same = s.same;
      shown = record {
        bytes = s.shown.bytes;
        text = s.shown.text;
        elements = s.shown.elements;
        parts = ap (λ l. l ++ piece) s.shown.parts ∙ append_assoc s.shown.bytes old.unread piece;
        position = s.shown.position;
        lines = s.shown.lines;
      };
    };
  })

  -- A stream goes on with a piece, and then with what that gave.
  goes_on : (piece : List ℕ) (old mid new : State R) (first before written : Option (List ℕ)) (start was is : Bool) →
      Continues F reader rules depth piece old mid first before start was → Continues F reader rules depth [] mid new before written was is →
      Continues F reader rules depth piece old new first written start is
  goes_on piece old mid new first before written start was is one other = record {
    same = other.same;
    after = λ given begin s. subst (λ l. ShowsUpTo F reader rules depth l new begin written is) (append-nil (given ++ piece))
        (other.after (given ++ piece) begin (one.after given begin s));
  }

  pub more_if_ok : {V E : Type 0} (r : Result V E) (piece : List ℕ) (old mid new : State R) (first before written : Option (List ℕ)) (start was is : Bool) →
      Continues F reader rules depth piece old mid first before start was →
      OnOk r (Continues F mid.reader rules depth [] mid new before written was is) →
      OnOk r (Continues F reader rules depth piece old new first written start is)
  more_if_ok (Ok v) piece old mid new first before written start was is one other =
      goes_on piece old mid new first before written start was is one (subst (λ r. Continues F r rules depth [] mid new before written was is) one.same other)
  more_if_ok (Err e) piece old mid new first before written start was is one other = tt

  stops : (failure : Failure) (piece : List ℕ) (old mid : State R) (first before written : Option (List ℕ)) (start was : Bool) →
      Continues F reader rules depth piece old mid first before start was → StopsAt F reader rules depth [] mid before written was failure →
      StopsAt F reader rules depth piece old first written start failure
  stops failure piece old mid first before written start was one (inl outside) = inl outside
  stops failure piece old mid first before written start was one (inr stopped) = inr (record {
    new = stopped.new;
    is = stopped.is;
    goes_on = goes_on piece old mid stopped.new first before written start was stopped.is one stopped.goes_on;
    fault = stopped.fault;
  })

  pub stops_if_err : {V : Type 0} (r : Result V Failure) (piece : List ℕ) (old mid : State R) (first before written : Option (List ℕ)) (start was : Bool) →
      Continues F reader rules depth piece old mid first before start was → IfErr r (StopsAt F mid.reader rules depth [] mid before written was) →
      IfErr r (StopsAt F reader rules depth piece old first written start)
  stops_if_err (Ok v) piece old mid first before written start was one stopped = tt
  stops_if_err (Err failure) piece old mid first before written start was one stopped =
      stops failure piece old mid first before written start was one (subst (λ r. StopsAt F r rules depth [] mid before written was failure) one.same stopped)

  -- A stream went on, and then no element came, or one that is no message.
  pub stops_here : (failure : Failure) (old mid : State R) (first before : Option (List ℕ)) (start was : Bool) →
      Continues F reader rules depth [] old mid first before start was →
      IsOutside failure ⊎ IsFault F mid.reader rules depth failure mid.consumed mid.unread →
      StopsAt F reader rules depth [] old first before start failure
  stops_here failure old mid first before start was so_far (inl outside) = inl outside
  stops_here failure old mid first before start was so_far (inr fault) = inr (record {
    new = mid;
    is = was;
    goes_on = so_far;
    fault = subst (λ r. IsFault F r rules depth failure mid.consumed mid.unread) so_far.same fault;
  })

  -- An element came that is no message, and a failure was made of the error, at the position before it.
  pub stops_at_other : (failure : Failure) (old new : State R) (octets items : List ℕ) (why : DecodeError) (position : ℕ) →
      Took F old new octets → items ≡ octets → (why ≢ error.Memory → IsNoMessage rules depth items why) →
      (why ≡ error.Memory → IsOutside failure) → (why ≢ error.Memory → failure ≡ Damaged position why) → position ≡ old.consumed →
      IsOutside failure ⊎ IsFault F old.reader rules depth failure old.consumed old.unread
  stops_at_other failure old new octets items why position took are no_message memory damaged at =
      elim (memory_or_not why) [
        | inl is ↦ inl (memory is)
        | inr not ↦ inr (subst (λ f. IsFault F old.reader rules depth f old.consumed old.unread) (sym (damaged not)) (
          at,
          inr (record {
            octets = octets;
            n = took.n;
            front = took.front;
            no_message = subst (λ l. IsNoMessage rules depth l why) are (no_message not);
          }),
        ))
      ]

  -- A stream has shown all that was read, and is left with nothing, or with no element.
  pub record ReadUpTo (read_old read_new : Option (List ℕ)) (s : State R) (before written : Option (List ℕ)) (all : Bool) : Type 0 where
    pub given : List ℕ
    pub took : Consumes read_old read_new given
    pub shows : ShowsUpTo F reader rules depth given s before written all
    pub no_more : (s.unread ≡ []) ⊎ HasNoFront F reader s.unread

  -- nothing was read yet
  pub read_nothing : (r w : Option (List ℕ)) (s : State R) → s ≡ begun reader [] → ReadUpTo r r s w w true
  read_nothing r w s is = record {
    given = [];
    took = Consumes-nil r;
    shows = subst (λ t. ShowsUpTo F reader rules depth [] t w w true) (sym is) (record {
      same = refl;
      shown = record { bytes = []; text = []; elements = none; parts = refl; position = refl; lines = Appends-nil w };
    });
    no_more = inl (ap (λ t. t.unread) is);
  }

  -- a read gave a piece, whose elements were shown
  pub read_more : (r mid_r new_r : Option (List ℕ)) (old new : State R) (w before written : Option (List ℕ)) (piece : List ℕ) (was is : Bool) →
      ReadUpTo r mid_r old w before was → Consumes mid_r new_r piece → Continues F old.reader rules depth piece old new before written was is →
      HasNoFront F old.reader new.unread → ReadUpTo r new_r new w written is
  read_more r mid_r new_r old new w before written piece was is so_far took next none_left = record {
    given = so_far.given ++ piece;
    took = Consumes-trans r mid_r new_r so_far.given piece so_far.took took;
    shows = (subst (λ x. Continues F x rules depth piece old new before written was is) so_far.shows.same next).after so_far.given w so_far.shows;
    no_more = inr (subst (λ x. HasNoFront F x new.unread) so_far.shows.same none_left);
  }

  -- a read gave nothing
  pub read_none : (r mid_r new_r : Option (List ℕ)) (s : State R) (w written : Option (List ℕ)) (all : Bool) → ReadUpTo r mid_r s w written all →
      Keeps mid_r new_r → ReadUpTo r new_r s w written all
  read_none r mid_r new_r s w written all so_far kept = record {
    given = so_far.given;
    took = Consumes-kept r mid_r new_r so_far.given so_far.took kept;
    shows = so_far.shows;
    no_more = so_far.no_more;
  }

  -- the same, by other names
  pub read_same : (r new_r : Option (List ℕ)) (s t : State R) (w written now : Option (List ℕ)) (all is : Bool) → t ≡ s → now ≡ written → is ≡ all →
      ReadUpTo r new_r s w written all → ReadUpTo r new_r t w now is
  read_same r new_r s t w written now all is same_state same_text same_all so_far =
      subst (λ x. ReadUpTo r new_r x w now is) (sym same_state) (subst (λ x. ReadUpTo r new_r s w x is) (sym same_text)
      (subst (λ x. ReadUpTo r new_r s w written x) (sym same_all) so_far))

  -- a piece was read, and what is no message was in it
  ends_by : (failure : Failure) (r mid_r new_r : Option (List ℕ)) (old : State R) (w before written : Option (List ℕ)) (piece : List ℕ) (was : Bool) →
      ReadUpTo r mid_r old w before was → Consumes mid_r new_r piece → StopsAt F reader rules depth piece old before written was failure →
      EndsBy F reader rules depth r new_r w written failure
  ends_by failure r mid_r new_r old w before written piece was so_far took (inl outside) = inl outside
  ends_by failure r mid_r new_r old w before written piece was so_far took (inr stopped) = inr (record {
    left = stopped.new.unread;
    at = stopped.new.consumed;
    all = stopped.is;
    shown = record {
      given = so_far.given ++ piece;
      took = Consumes-trans r mid_r new_r so_far.given piece so_far.took took;
      shown = (stopped.goes_on.after so_far.given w so_far.shows).shown;
    };
    reason = inl stopped.fault;
  })

  pub ends_in_piece : (failure : Failure) (r mid_r new_r : Option (List ℕ)) (old : State R) (w before written : Option (List ℕ)) (piece : List ℕ) (was : Bool) →
      ReadUpTo r mid_r old w before was → Consumes mid_r new_r piece → StopsAt F old.reader rules depth piece old before written was failure →
      EndsBy F reader rules depth r new_r w written failure
  ends_in_piece failure r mid_r new_r old w before written piece was so_far took stopped =
      ends_by failure r mid_r new_r old w before written piece was so_far took
      (subst (λ x. StopsAt F x rules depth piece old before written was failure) so_far.shows.same stopped)
