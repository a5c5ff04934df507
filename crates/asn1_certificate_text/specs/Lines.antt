-- Lines.
use Rattle.std.specs.Prelude.{ℕ, List, ◌++◌, codes}

-- a label, a text, and a line feed
abbrev pub labelled : List ℕ → List ℕ → List ℕ
labelled label text = label ++ (text ++ codes "\n")
