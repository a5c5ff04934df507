use Rattle.std.proofs.Common.{◌≡◌, ◌+◌, ◌∷◌, ◌++◌, [], append_assoc, length, take, drop, set, inl, inr, refl, ap, ◌∙◌, arith}
use Rattle.std.proofs.lemmas.List.{take_rest}
use Rattle.asn1_values.specs.Numbers.{magnitude}
use Rattle.asn1_values.proofs.Digits.{magnitude-bytes_high_first}
use Rattle.asn1_ber_items.proofs.Joined.{ahead_of, behind_it, put}
use Rattle.asn1_ber_items.proofs.size.write_size.Goals as goal

pub returns-then-size-lt128 : goal.returns-then-size-lt128
returns-then-size-lt128 c = λ front rest octet is at. record {
  octets = c.args.size ∷ [];
  is_length = inl (record { are = refl; below = c.if-size-lt128.true });
  are = ap (λ l. set l c.args.index c.args.size) is ∙ put front rest octet c.args.size c.args.index at;
  more = refl;
}

pub returns : goal.returns
returns c = λ front rest octet is at.
    let index = c.args.index in
    let digits = c.significant-digits.result.now in
    let first = length digits + 128 in
    let value : magnitude digits ≡ c.args.size = c.significant-digits.ensures.number ∙ ap magnitude c.to_be_bytes-long.ensures ∙ magnitude-bytes_high_first 8 _ (omega arith) in
    let front_is : c.truncate.new.self.items ≡ front = c.truncate.ensures.items ∙ ap (take index) is ∙ ahead_of front rest octet index at in
    let rest_is : c.as_slice.result.now ≡ rest = c.as_slice.ensures.value ∙ c.in_ok-rest.ensures.items ∙ take_rest c.deref.result.now (index + 1) ∙ ap (drop (index + 1)) (c.deref.ensures.value ∙ is) ∙ behind_it front rest octet index at in
    let with_first : c.push.new.self.items ≡ front ++ first ∷ [] = c.in_ok-push.ensures.items ∙ ap (λ l. l ++ first ∷ []) front_is in
    let with_digits : c.extend_from_slice.new.self.items ≡ front ++ first ∷ digits =
    c.in_ok-extend_from_slice.ensures.items ∙ ap (λ l. l ++ digits) with_first ∙ append_assoc front (first ∷ []) digits in
    record {
      octets = first ∷ digits;
      is_length = inr (record { digits = digits; are = refl; value = value; shortest = c.significant-digits.ensures.shortest; not_short = c.if-size-lt128.false; fits = omega arith });
      are = c.in_ok-extend_from_slice-2.ensures.items ∙ ap (λ l. l ++ c.as_slice.result.now) with_digits ∙ ap (λ l. (front ++ first ∷ digits) ++ l) rest_is;
      more = refl;
    }
