-- Lists of records, and as a record holds them.
use Rattle.std.specs.Prelude.{◌≡◌, max, List, [], ◌∷◌, refl}
use Rattle.std.proofs.Common.{ap}
use Rattle.asn1_model.specs.Records.{Record, Records, none, more, held, listed, height, inner_height, highest}

pub held-listed : (rs : Records) → held (listed rs) ≡ rs
held-listed none = refl
held-listed (more r rs) = ap (λ l. more r l) (held-listed rs)

pub inner_height-held : (rs : List Record) → inner_height (held rs) ≡ highest rs
inner_height-held [] = refl
inner_height-held (r ∷ rs) = ap (λ n. max (height r) n) (inner_height-held rs)
