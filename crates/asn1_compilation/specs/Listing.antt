-- The files of a crate as one text.
use Rattle.std.specs.Prelude.{◌++◌, ℕ, List, codes}
use Rattle.std.specs.List.{flat_map}
use Rattle.std.specs.String.{string_bytes}
use Rattle.asn1_print.specs.declared.request.PrintedFile.{PrintedFile}

-- a file behind a line with its path
abbrev pub entry_of : PrintedFile → List ℕ
entry_of file = codes "=== " ++ (string_bytes file.path ++ (codes "\n" ++ string_bytes file.text))

-- the files, one after another
abbrev pub listing : List PrintedFile → List ℕ
listing files = flat_map entry_of files
