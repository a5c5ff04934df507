-- The state of an iterator over an input, as callers see it, and its changes by calls.
use Rattle.std.specs.Prelude.{◌≡◌, ℕ, ◌+◌, ◌-◌, ◌^◌, ◌≤◌, ◌<◌, ◌++◌, List, Option, None, Some, length, drop, min}

-- The reader, the bytes that have not been read, how many that have been read are kept before these
-- in the iterator's own buffer (None while the input is borrowed), how many have been read in all,
-- and how many have been moved inside the buffer.
pub record State (R : Type 0) : Type 0 where
  pub reader : R
  pub unread : List ℕ
  pub kept : Option ℕ
  pub consumed : ℕ
  pub shifted : ℕ

-- the state of a new iterator
abbrev pub begun : {R : Type 0} → R → List ℕ → State R
begun reader input = record { reader = reader; unread = input; kept = None; consumed = 0; shifted = 0 }

-- a count and some more, which remains at the greatest u128 once it is reached
abbrev pub counted : ℕ → ℕ → ℕ
counted so_far n = min (so_far + n) (2 ^ 128 - 1)

-- how many bytes are kept, none where there is no buffer
abbrev pub count_of : Option ℕ → ℕ
count_of None = 0
count_of (Some kept) = kept

-- A buffer after n more bytes were read, with `left` unread bytes after them: it keeps the read bytes
-- while they are no more than the unread ones, and otherwise drops them and moves the unread ones to
-- the front.
abbrev pub Drops : Option ℕ → ℕ → ℕ → Option ℕ → ℕ → Type 0
Drops None n left kept moved = (kept ≡ None) × (moved ≡ 0)
Drops (Some before) n left kept moved =
    (before + n ≤ left → (kept ≡ Some (before + n)) × (moved ≡ 0)) ×
    (left < before + n → (kept ≡ Some 0) × (moved ≡ left))

-- `n` bytes have been taken from the front of the unread ones.
pub record IsTaken {R : Type 0} (n : ℕ) (old new : State R) : Type 0 where
  pub same_reader : new.reader ≡ old.reader
  pub unread : new.unread ≡ drop n old.unread
  pub consumed : new.consumed ≡ counted old.consumed n
  pub moved : ℕ
  pub buffer : Drops old.kept n (length new.unread) new.kept moved
  pub shifted : new.shifted ≡ counted old.shifted moved

-- the state after a piece was appended to the unread bytes, which are then in the iterator's own buffer
abbrev pub appended : {R : Type 0} → List ℕ → State R → State R
appended piece s = record s { unread = s.unread ++ piece; kept = Some (count_of s.kept) }
