-- Segments, and the octets in them.
use Rattle.std.proofs.Common.{◌≡◌, ℕ, zero, suc, ◌+◌, ◌≤◌, ◌<◌, List, [], ◌∷◌, ◌++◌, append-nil, append_assoc, length, length-append, set, get_or, take, drop, refl, ap, sym, ◌∙◌, arith}
use Rattle.std.proofs.Math.Seq.{drop-append_seam, take-append_seam}
use Rattle.std.proofs.lemmas.List.{get_or_append_left, get_or_at, length-map, map-append, map-set, nil_from_length, set-append_left, set_at, take_more}
use Rattle.std.specs.Prelude.{Vec}
use Rattle.std.specs.declared.alloc.Global.{Global}
use Rattle.asn1_ber_items.specs.Segments.{joined, octets_of_each}
use Rattle.asn1_ber_items.proofs.Snoc.{IsSameLast, same_last}

pub joined-append : (xs ys : List (List ℕ)) → joined (xs ++ ys) ≡ joined xs ++ joined ys
joined-append [] ys = refl
joined-append (x ∷ xs) ys = ap (λ l. x ++ l) (joined-append xs ys) ∙ sym (append_assoc x (joined xs) (joined ys))

pub joined-last : (xs : List (List ℕ)) (l : List ℕ) → joined (xs ++ l ∷ []) ≡ joined xs ++ l
joined-last xs l = joined-append xs (l ∷ []) ∙ ap (λ x. joined xs ++ x) (append-nil l)

-- more octets in the last segment, and segments without octets after it
pub joined-more : (xs more : List (List ℕ)) (l own : List ℕ) → joined more ≡ [] → joined (xs ++ (l ++ own) ∷ more) ≡ joined (xs ++ l ∷ []) ++ own
joined-more xs more l own none =
    joined-append xs ((l ++ own) ∷ more) ∙ ap (λ x. joined xs ++ ((l ++ own) ++ x)) none ∙ ap (λ x. joined xs ++ x) (append-nil (l ++ own)) ∙ sym (append_assoc (joined xs) l own)
    ∙ ap (λ x. x ++ own) (sym (joined-last xs l))

-- the octets on both sides of a place in a segment
pub joined_at : (before after : List (List ℕ)) (outside front rest : List ℕ) → joined (before ++ ((outside ++ front) ++ rest) ∷ after) ≡ ((joined before ++ outside) ++ front) ++ (rest ++ joined after)
joined_at before after outside front rest =
    joined-append before (((outside ++ front) ++ rest) ∷ after) ∙ ap (λ l. joined before ++ l) (append_assoc (outside ++ front) rest (joined after))
    ∙ sym (append_assoc (joined before) (outside ++ front) (rest ++ joined after)) ∙ ap (λ l. l ++ (rest ++ joined after)) (sym (append_assoc (joined before) outside front))

pub joined_length : (before after : List (List ℕ)) (own : List ℕ) → length (joined (before ++ own ∷ after)) ≡ length (joined before) + (length own + length (joined after))
joined_length before after own = omega (arith, ap length (joined-append before (own ∷ after)), length-append (joined before) (own ++ joined after), length-append own (joined after))

-- an octet is written over
pub put : (front rest : List ℕ) (octet value index : ℕ) → index ≡ length front → set ((front ++ octet ∷ []) ++ rest) index value ≡ (front ++ value ∷ []) ++ rest
put front rest octet value index at =
    ap (λ l. set l index value) (append_assoc front (octet ∷ []) rest) ∙ set_at front octet rest value index (sym at) ∙ sym (append_assoc front (value ∷ []) rest)

-- the octets before it and after it
pub ahead_of : (front rest : List ℕ) (octet index : ℕ) → index ≡ length front → take index ((front ++ octet ∷ []) ++ rest) ≡ front
ahead_of front rest octet index at =
    ap (λ n. take n ((front ++ octet ∷ []) ++ rest)) at ∙ ap (take (length front)) (append_assoc front (octet ∷ []) rest) ∙ take-append_seam front (octet ∷ rest)

pub behind_it : (front rest : List ℕ) (octet index : ℕ) → index ≡ length front → drop (index + 1) ((front ++ octet ∷ []) ++ rest) ≡ rest
behind_it front rest octet index at =
    let long : index + 1 ≡ length (front ++ octet ∷ []) = omega (arith, at, length-append front (octet ∷ [])) in
    ap (λ n. drop n ((front ++ octet ∷ []) ++ rest)) long ∙ drop-append_seam (front ++ octet ∷ []) rest

get_or-map_items : (buffers : List (Vec ℕ Global)) (buffer : Vec ℕ Global) (number : ℕ) → get_or (octets_of_each buffers) number buffer.items ≡ (get_or buffers number buffer).items
get_or-map_items [] buffer number = refl
get_or-map_items (b ∷ buffers) buffer zero = refl
get_or-map_items (b ∷ buffers) buffer (suc number) = get_or-map_items buffers buffer number

nil_of : (l : List (List ℕ)) → length l ≡ 0 → l ≡ []
nil_of [] e = refl
nil_of (x ∷ l) e = cc

-- A segment before the last one, and the last one.
module _ (buffers : List (Vec ℕ Global)) (last : List ℕ) (before after : List (List ℕ)) (own : List ℕ) (number : ℕ) (are : octets_of_each buffers ++ last ∷ [] ≡ before ++ own ∷ after) (at : number ≡ length before) where
  counted : length (octets_of_each buffers) ≡ length buffers
  counted = length-map buffers (λ (b : Vec ℕ Global). b.items)

  long : length (octets_of_each buffers) + 1 ≡ length before + suc (length after)
  long = omega (arith, ap length are, length-append (octets_of_each buffers) (last ∷ []), length-append before (own ∷ after))

  module _ (inside : number < length buffers) where
    pub buffer_is : (buffer : Vec ℕ Global) → buffer ≡ get_or buffers number buffer → buffer.items ≡ own
    buffer_is buffer is =
        ap (λ (b : Vec ℕ Global). b.items) is ∙ sym (get_or-map_items buffers buffer number)
        ∙ sym (get_or_append_left (octets_of_each buffers) (last ∷ []) buffer.items number (omega (arith, inside, counted)))
        ∙ ap (λ l. get_or l number buffer.items) are ∙ get_or_at before own after buffer.items number (sym at)

    pub buffer_set : (buffer : Vec ℕ Global) → octets_of_each (set buffers number buffer) ++ last ∷ [] ≡ before ++ buffer.items ∷ after
    buffer_set buffer =
        ap (λ l. l ++ last ∷ []) (map-set (λ (b : Vec ℕ Global). b.items) buffers number buffer)
        ∙ sym (set-append_left (octets_of_each buffers) (last ∷ []) number buffer.items (omega (arith, inside, counted)))
        ∙ ap (λ l. set l number buffer.items) are ∙ set_at before own after buffer.items number (sym at)

  module _ (outside : length buffers ≤ number) where
    pub none_after : after ≡ []
    none_after = nil_of after (omega (arith, outside, counted, long, at))

    pub is_last : IsSameLast (octets_of_each buffers) before last own
    is_last = same_last (octets_of_each buffers) before last own (are ∙ ap (λ l. before ++ own ∷ l) none_after)

pub joined_last_length : (xs : List (List ℕ)) (l : List ℕ) → length (joined xs) + length l ≡ length (joined (xs ++ l ∷ []))
joined_last_length xs l = omega (arith, ap length (joined-last xs l), length-append (joined xs) l)

-- The segments before a place and after it keep their octets.
pub still_counted : (buffers new : List (Vec ℕ Global)) (last : List ℕ) (before after : List (List ℕ)) (own grown : List ℕ) (added : ℕ) → octets_of_each buffers ++ last ∷ [] ≡ before ++ own ∷ after →
    octets_of_each new ++ last ∷ [] ≡ before ++ grown ∷ after → length grown ≡ length own + added → length (joined (octets_of_each new)) ≡ length (joined (octets_of_each buffers)) + added
still_counted buffers new last before after own grown added are become more =
    let was : length (joined (octets_of_each buffers)) + length last ≡ length (joined before) + (length own + length (joined after)) =
    joined_last_length (octets_of_each buffers) last ∙ ap (λ l. length (joined l)) are ∙ joined_length before after own in
    let is : length (joined (octets_of_each new)) + length last ≡ length (joined before) + (length grown + length (joined after)) =
    joined_last_length (octets_of_each new) last ∙ ap (λ l. length (joined l)) become ∙ joined_length before after grown in
    omega (arith, was, is, more)

-- the octets of one more segment
pub joined_next : (buffers : List (Vec ℕ Global)) (buffer : Vec ℕ Global) (i : ℕ) → buffer ≡ get_or buffers i buffer → i < length buffers →
    joined (octets_of_each (take (i + 1) buffers)) ≡ joined (octets_of_each (take i buffers)) ++ buffer.items
joined_next buffers buffer i is inside =
    ap (λ l. joined (octets_of_each l)) (take_more buffers i buffer inside) ∙ ap joined (map-append (λ (b : Vec ℕ Global). b.items) (take i buffers) (get_or buffers i buffer ∷ []))
    ∙ joined-last (octets_of_each (take i buffers)) (get_or buffers i buffer).items ∙ ap (λ (b : Vec ℕ Global). joined (octets_of_each (take i buffers)) ++ b.items) (sym is)

-- whether there are no octets
pub no_octets : (xs : List (List ℕ)) (l : List ℕ) → length (joined xs) ≡ 0 → length l ≡ 0 → joined (xs ++ l ∷ []) ≡ []
no_octets xs l first second = nil_from_length (joined (xs ++ l ∷ [])) (omega (arith, first, second, ap length (joined-last xs l), length-append (joined xs) l))

pub none_of : (xs : List (List ℕ)) (l : List ℕ) → joined (xs ++ l ∷ []) ≡ [] → length (joined xs) + length l ≡ 0
none_of xs l none = omega (arith, ap length none, ap length (joined-last xs l), length-append (joined xs) l)
