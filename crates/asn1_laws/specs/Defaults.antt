-- The default of a component (X.680, 25.5), which a closure makes.
use Rattle.std.specs.Prelude.{Ok, Result}
use Rattle.std.specs.Fn.{Once}

-- the closure, called with whatever it takes, may answer the value
abbrev pub MayAnswer : {F A V E : Type 0} → Once F A (Result V E) → F → V → Type 0
MayAnswer {A = A} calls f value = (a : A) × calls.post f a (Ok value)
