-- The end of an input: where bytes are left, not all has been read.
use Rattle.std.proofs.Common.{◌≡◌, ℕ, false, List, [], ◌∷◌, ◌++◌, refl, sym, subst, ◌∙◌}
use Rattle.asn1_laws.proofs.ReadingUpToOrder.{at_the_end}
use Rattle.asn1_laws.proofs.RemainingRecords.{same_as_record}
use Rattle.asn1_items.specs.Items.{HaveBytes, MarkBytes, read_with}
use Rattle.asn1_model.proofs.SameRecords.{same-mark}
use Rattle.asn1_model.proofs.SameUpToOrder.{same_as_mark}
use Rattle.asn1_model.specs.Orders.{SameRecord}
use Rattle.asn1_model.specs.Records.{Record, held, is_presence_mark, scalar, scope, open_type, presence_mark}
use Rattle.asn1_bench.proofs.RemainingItems.{is_form}
use Rattle.asn1_bench.specs.Carried.{TakesBytes}
use Rattle.asn1_bench.specs.Decoder.{Remains, in_one_order}
use Rattle.asn1_bench.specs.declared.decoder.ItemDecoder.{ItemDecoder}
use Rattle.asn1_items.proofs.DecodeStates.{some_left}

-- what has bytes has them up to order, and is not nothing
no_mark_takes : (marks : MarkBytes) (q : Record) → is_presence_mark q ≡ false → TakesBytes marks q
no_mark_takes marks (scalar t c n x) e = tt
no_mark_takes marks (scope h rs) e = tt
no_mark_takes marks (open_type n own) e = tt
no_mark_takes marks (presence_mark m) e = cc

same_takes : (marks : MarkBytes) (q r : Record) → SameRecord q r → TakesBytes marks r → TakesBytes marks q
same_takes marks q (scalar t c n x) same accepts = no_mark_takes marks q (same-mark same)
same_takes marks q (scope h rs) same accepts = no_mark_takes marks q (same-mark same)
same_takes marks q (open_type n own) same accepts = no_mark_takes marks q (same-mark same)
same_takes marks q (presence_mark m) same accepts = subst (TakesBytes marks) (sym (same_as_mark same)) accepts

nothing_first : (xs ys : List ℕ) → xs ++ ys ≡ [] → xs ≡ []
nothing_first [] ys e = refl
nothing_first (x ∷ xs) ys e = cc

some_bytes : (marks : MarkBytes) (r : Record) (rest : List Record) (bytes : List ℕ) → TakesBytes marks r → HaveBytes (read_with marks) (held (r ∷ rest)) bytes → bytes ≡ [] → ⊥
some_bytes marks (scalar t c n x) rest bytes accepts p none = some_left (is_form marks) (scalar t c n x) rest bytes refl p none
some_bytes marks (scope h rs) rest bytes accepts p none = some_left (is_form marks) (scope h rs) rest bytes refl p none
some_bytes marks (open_type n own) rest bytes accepts p none = some_left (is_form marks) (open_type n own) rest bytes refl p none
some_bytes marks (presence_mark m) rest bytes accepts p none = accepts (sym p.is_first ∙ nothing_first p.first p.others (sym p.are ∙ none))

module _ {P : Type 0} (marks : MarkBytes) where
  -- a record that is left is not the end
  pub not_at_end : (d : ItemDecoder P) (r : Record) (rest : List Record) → TakesBytes marks r → Remains marks d (r ∷ rest, []) → Remains marks d ([], []) → ⊥
  not_at_end d r rest accepts at end =
      let a = same_as_record at.same in
      let exact = subst (λ l. (in_one_order marks).remains d l) a.is at.remains in
      some_bytes marks a.first a.rest _ (same_takes marks a.first r a.same accepts) exact.inside (at_the_end (in_one_order marks) d end).inside
