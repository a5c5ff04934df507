-- How the elements of a list are read, one after another.
use Rattle.std.proofs.Common.{◌≡◌, ℕ, suc, max, ◌≤◌, Bool, true, false, List, [], ◌∷◌, ◌++◌, refl, arith, sym, ◌∙◌, ap, subst, append_assoc, append-nil, length, length-append, Ok, Err, if◌then◌else◌}
use Rattle.std.specs.Cmp.Lexicographic.{pointwise}
use Rattle.std.specs.List.{flat_map, All}
use Rattle.std.proofs.lemmas.Bool.{and_parts, and_from}
use Rattle.std.proofs.lemmas.Grind.{flat_map-append}
use Rattle.std.proofs.lemmas.List.Elements.{All-head, All-tail}
use Rattle.asn1_model.specs.Meaning.{Meaning, IsWellTagged, own_records, tags}
use Rattle.asn1_model.specs.Records.{Head, Record, highest, is_presence_mark}
use Rattle.asn1_model.specs.Tags.{IsOneRecord}
use Rattle.asn1_laws.specs.declared.decode_error.DecodeError.{DecodeError}
use Rattle.asn1_laws.specs.Reading.{Reader, MayFail, TellsMore, records_in, Outside}
use Rattle.asn1_laws.proofs.ReadingSteps.{highest-append, flat_failure}

pub pointwise-append : {V : Type 0} (eq : V → V → Bool) (xs ys : List V) (x y : V) → pointwise eq xs ys ≡ true → eq x y ≡ true → pointwise eq (xs ++ x ∷ []) (ys ++ y ∷ []) ≡ true
pointwise-append eq [] [] x y h e = and_from (eq x y) true e refl
pointwise-append eq [] (b ∷ ys) x y h e = cc
pointwise-append eq (a ∷ xs) [] x y h e = cc
pointwise-append eq (a ∷ xs) (b ∷ ys) x y h e =
    let p = and_parts (eq a b) (pointwise eq xs ys) h in
    and_from (eq a b) _ p.0 (pointwise-append eq xs ys x y p.1 e)

pub pointwise-length : {V : Type 0} (eq : V → V → Bool) (xs ys : List V) → pointwise eq xs ys ≡ true → length xs ≡ length ys
pointwise-length eq [] [] h = refl
pointwise-length eq [] (y ∷ ys) h = cc
pointwise-length eq (x ∷ xs) [] h = cc
pointwise-length eq (x ∷ xs) (y ∷ ys) h = ap suc (pointwise-length eq xs ys (and_parts (eq x y) (pointwise eq xs ys) h).1)

highest-flat_map : {V : Type 0} (own : V → List Record) (xs ys : List V) → highest (flat_map own (xs ++ ys)) ≡ max (highest (flat_map own xs)) (highest (flat_map own ys))
highest-flat_map own xs ys = ap highest (flat_map-append own xs ys) ∙ highest-append (flat_map own xs) (flat_map own ys)

-- no element is nested deeper than all of them
pub no_deeper : {V : Type 0} (own : V → List Record) (done todo : List V) (next : V) (vs : List V) → vs ≡ done ++ next ∷ todo → highest (own next) ≤ highest (flat_map own vs)
no_deeper own done todo next vs split =
    omega (arith, ap (λ l. highest (flat_map own l)) split, highest-flat_map own done (next ∷ todo), highest-append (own next) (flat_map own todo))

one_more : (b : Bool) (n : ℕ) → b ≡ false → (if b then n else suc n) ≡ suc n
one_more true n h = cc
one_more false n h = refl

module _ {V : Type 0} (m : Meaning V) (can : IsWellTagged m) where
  one : (x : V) → IsOneRecord (tags m m.tag) (own_records m x)
  one x = m.one_record x m.tag m.constraints m.name can.0 can.1

  -- each element counts towards the bound
  pub as_many : (vs : List V) → records_in (flat_map (own_records m) vs) ≡ length vs
  as_many [] = refl
  as_many (v ∷ vs) =
      ap (λ l. records_in (l ++ flat_map (own_records m) vs)) (one v).alone
      ∙ one_more (is_presence_mark (one v).item) (records_in (flat_map (own_records m) vs)) (one v).no_mark
      ∙ ap suc (as_many vs)

module _ {D V : Type 0} (R : Reader D) (m : Meaning V) (eq : V → V → Bool) where
  -- These elements were read, and others are left.
  pub record ElementsRead (d : D) (read vs : List V) (outer : Outside) : Type 0 where
    pub done : List V
    pub todo : List V
    pub split : vs ≡ done ++ todo
    pub same : pointwise eq read done ≡ true
    pub low : highest (flat_map (own_records m) done) ≤ R.depth_left d
    pub of_type : All m.IsOfType todo
    pub valid : All (m.IsValid R.accepts) todo
    pub at : R.remains d (flat_map (own_records m) todo, outer)

  -- The same, where another element comes.
  pub record AnotherComes (d : D) (read vs : List V) (outer : Outside) : Type 0 where
    pub done : List V
    pub next : V
    pub todo : List V
    pub split : vs ≡ done ++ next ∷ todo
    pub same : pointwise eq read done ≡ true
    pub low : highest (flat_map (own_records m) done) ≤ R.depth_left d
    pub next_of_type : m.IsOfType next
    pub next_valid : m.IsValid R.accepts next
    pub of_type : All m.IsOfType todo
    pub valid : All (m.IsValid R.accepts) todo
    pub at : R.remains d (own_records m next ++ flat_map (own_records m) todo, outer)

  -- The same, where none is left.
  pub record Through (d : D) (read vs : List V) (outer : Outside) : Type 0 where
    pub same : pointwise eq read vs ≡ true
    pub low : highest (flat_map (own_records m) vs) ≤ R.depth_left d
    pub at : R.remains d ([], outer)

  pub start : (d : D) (vs : List V) (outer : Outside) → All m.IsOfType vs → All (m.IsValid R.accepts) vs →
      R.remains d (flat_map (own_records m) vs, outer) → ElementsRead d [] vs outer
  start d vs outer of_type valid at =
      record { done = []; todo = vs; split = refl; same = refl; low = omega arith; of_type = of_type; valid = valid; at = at }

  -- the record of the next element
  comes : (can : IsWellTagged m) (d : D) (x : V) (xs : List V) (outer : Outside) → R.remains d (own_records m x ++ flat_map (own_records m) xs, outer) →
      R.remains d ((one m can x).item ∷ flat_map (own_records m) xs, outer)
  comes can d x xs outer at = subst (λ l. R.remains d (l ++ flat_map (own_records m) xs, outer)) (one m can x).alone at

  -- where whether an element comes could not be told
  pub not_told : (can : IsWellTagged m) {d e : D} {read vs : List V} {scope : Head × List Record} {outer : Outside} {error : DecodeError} (b h : ℕ) → ElementsRead d read vs (scope ∷ outer) →
      TellsMore R d e (Err error) → MayFail b h error
  not_told can {d} {e} {read} {vs} {scope} {outer} {error} b h mid tells =
      elim mid.todo as (λ todo. R.remains d (flat_map (own_records m) todo, scope ∷ outer) → MayFail b h error) [
        | [] ↦ λ at. flat_failure b h error (tells.none scope outer at)
        | x ∷ xs ↦ λ at. flat_failure b h error (tells.some (one m can x).item (flat_map (own_records m) xs) scope outer (one m can x).no_mark (comes can d x xs (scope ∷ outer) at))
      ]
      mid.at

  pub another : (can : IsWellTagged m) {d e : D} {read vs : List V} {scope : Head × List Record} {outer : Outside} (b : Bool) → ElementsRead d read vs (scope ∷ outer) → TellsMore R d e (Ok b) → b ≡ true →
      R.depth_left e ≡ R.depth_left d → AnotherComes e read vs (scope ∷ outer)
  another can {d} {e} {read} {vs} {scope} {outer} b mid tells hit kept =
      elim mid.todo as (λ todo. vs ≡ mid.done ++ todo → All m.IsOfType todo → All (m.IsValid R.accepts) todo → R.remains d (flat_map (own_records m) todo, scope ∷ outer) → AnotherComes e read vs (scope ∷ outer)) [
        | [] ↦ λ _ _ _ at. let wrong = (tells.none scope outer at).answer in cc
        | x ∷ xs ↦ λ split of_type valid at. record {
          done = mid.done;
          next = x;
          todo = xs;
          split = split;
          same = mid.same;
          low = omega (arith, mid.low, kept);
          next_of_type = All-head m.IsOfType x xs of_type;
          next_valid = All-head (m.IsValid R.accepts) x xs valid;
          of_type = All-tail m.IsOfType x xs of_type;
          valid = All-tail (m.IsValid R.accepts) x xs valid;
          at = subst (λ l. R.remains e (l ++ flat_map (own_records m) xs, scope ∷ outer)) (sym (one m can x).alone)
              (tells.some (one m can x).item (flat_map (own_records m) xs) scope outer (one m can x).no_mark (comes can d x xs (scope ∷ outer) at)).at;
        }
      ]
      mid.split mid.of_type mid.valid mid.at

  pub through : (can : IsWellTagged m) {d e : D} {read vs : List V} {scope : Head × List Record} {outer : Outside} (b : Bool) → ElementsRead d read vs (scope ∷ outer) → TellsMore R d e (Ok b) → b ≡ false →
      R.depth_left e ≡ R.depth_left d → Through e read vs (scope ∷ outer)
  through can {d} {e} {read} {vs} {scope} {outer} b mid tells miss kept =
      elim mid.todo as (λ todo. vs ≡ mid.done ++ todo → R.remains d (flat_map (own_records m) todo, scope ∷ outer) → Through e read vs (scope ∷ outer)) [
        | [] ↦ λ split at. let all : vs ≡ mid.done = split ∙ append-nil mid.done in record {
          same = subst (λ l. pointwise eq read l ≡ true) (sym all) mid.same;
          low = omega (arith, mid.low, kept, ap (λ l. highest (flat_map (own_records m) l)) all);
          at = (tells.none scope outer at).at;
        }
        | x ∷ xs ↦ λ split at. let wrong = (tells.some (one m can x).item (flat_map (own_records m) xs) scope outer (one m can x).no_mark (comes can d x xs (scope ∷ outer) at)).answer in cc
      ]
      mid.split mid.at

  -- after an element was read
  pub further : {d : D} {read vs : List V} {outer : Outside} (e : D) (w : V) (a : AnotherComes d read vs outer) →
      highest (own_records m a.next) ≤ R.depth_left d → eq w a.next ≡ true → R.remains e (flat_map (own_records m) a.todo, outer) → R.depth_left e ≡ R.depth_left d →
      ElementsRead e (read ++ w ∷ []) vs outer
  further {read = read} e w a low same at kept = record {
    done = a.done ++ a.next ∷ [];
    todo = a.todo;
    split = a.split ∙ sym (append_assoc a.done (a.next ∷ []) a.todo);
    same = pointwise-append eq read a.done w a.next a.same same;
    low = omega (arith, a.low, low, kept, highest-flat_map (own_records m) a.done (a.next ∷ []), highest-append (own_records m a.next) []);
    of_type = a.of_type;
    valid = a.valid;
    at = at;
  }

  -- where as many elements were read as there can be
  pub filled : {d : D} {read vs : List V} {outer : Outside} → ElementsRead d read vs outer → length vs ≤ length read → Through d read vs outer
  filled {d = d} {read = read} {vs = vs} {outer = outer} mid long =
      elim mid.todo as (λ todo. vs ≡ mid.done ++ todo → R.remains d (flat_map (own_records m) todo, outer) → Through d read vs outer) [
        | [] ↦ λ split at. let all : vs ≡ mid.done = split ∙ append-nil mid.done in record {
          same = subst (λ l. pointwise eq read l ≡ true) (sym all) mid.same;
          low = omega (arith, mid.low, ap (λ l. highest (flat_map (own_records m) l)) all);
          at = at;
        }
        | x ∷ xs ↦ λ split at. absurd (omega (arith, long, ap length split, length-append mid.done (x ∷ xs), pointwise-length eq read mid.done mid.same))
      ]
      mid.split mid.at
