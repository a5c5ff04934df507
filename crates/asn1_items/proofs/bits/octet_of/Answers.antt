use Rattle.std.proofs.Common.{◌≡◌, ℕ, ◌+◌, ◌*◌, ◌/◌, ◌%◌, ◌≤◌, Bool, true, false, [], ◌∷◌, refl, ap, ◌∙◌, arith}
use mir.Val.{bool_byte}
use Rattle.std.specs.Prelude.{◌==◌}
use Rattle.asn1_items.specs.Bits.{bits_of_octet}
use Rattle.asn1_items.proofs.bits.octet_of.Goals as goal

abbrev worth : Bool → ℕ
worth true = 1
worth false = 0

one : (n : ℕ) (b : Bool) → n ≡ worth b → (n == 1) ≡ b
one n true is = ap (λ k. k == 1) is
one n false is = ap (λ k. k == 1) is

at_most_one : (n : ℕ) (b : Bool) → n ≡ worth b → n ≤ 1
at_most_one n true is = omega (arith, is)
at_most_one n false is = omega (arith, is)

all : (a b c d e f g h : Bool) (A B C D E F G H n : ℕ) → A ≡ worth a → B ≡ worth b → C ≡ worth c → D ≡ worth d → E ≡ worth e → F ≡ worth f → G ≡ worth g → H ≡ worth h →
    n ≡ A * 128 + B * 64 + C * 32 + D * 16 + E * 8 + F * 4 + G * 2 + H → bits_of_octet n ≡ a ∷ b ∷ c ∷ d ∷ e ∷ f ∷ g ∷ h ∷ []
all a b c d e f g h A B C D E F G H n p q r s t u v w is =
    let p1 = at_most_one A a p in
    let q1 = at_most_one B b q in
    let r1 = at_most_one C c r in
    let s1 = at_most_one D d s in
    let t1 = at_most_one E e t in
    let u1 = at_most_one F f u in
    let v1 = at_most_one G g v in
    let w1 = at_most_one H h w in
    let n7 : n / 128 % 2 ≡ A = omega arith in
    let n6 : n / 64 % 2 ≡ B = omega arith in
    let n5 : n / 32 % 2 ≡ C = omega arith in
    let n4 : n / 16 % 2 ≡ D = omega arith in
    let n3 : n / 8 % 2 ≡ E = omega arith in
    let n2 : n / 4 % 2 ≡ F = omega arith in
    let n1 : n / 2 % 2 ≡ G = omega arith in
    let n0 : n % 2 ≡ H = omega arith in
    let e7 = one (n / 128 % 2) a (n7 ∙ p) in
    let e6 = one (n / 64 % 2) b (n6 ∙ q) in
    let e5 = one (n / 32 % 2) c (n5 ∙ r) in
    let e4 = one (n / 16 % 2) d (n4 ∙ s) in
    let e3 = one (n / 8 % 2) e (n3 ∙ t) in
    let e2 = one (n / 4 % 2) f (n2 ∙ u) in
    let e1 = one (n / 2 % 2) g (n1 ∙ v) in
    let e0 = one (n % 2) h (n0 ∙ w) in
    rw (e7, e6, e5, e4, e3, e2, e1, e0)

byte_is : (b : Bool) → bool_byte b ≡ worth b
byte_is true = refl
byte_is false = refl

pub returns : goal.returns
returns c = all _ _ _ _ _ _ _ _ _ _ _ _ _ _ _ _ _ (c.from.ensures ∙ byte_is c.args.a) (c.from-2.ensures ∙ byte_is c.args.b) (c.from-3.ensures ∙ byte_is c.args.c) (c.from-4.ensures ∙ byte_is c.args.d)
    (c.from-5.ensures ∙ byte_is c.args.e) (c.from-6.ensures ∙ byte_is c.args.f) (c.from-7.ensures ∙ byte_is c.args.g) (c.from-8.ensures ∙ byte_is c.args.h) (omega arith)
