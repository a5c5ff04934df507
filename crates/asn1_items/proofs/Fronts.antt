-- Reading the front of some bytes does not depend on the bytes after it.
use Rattle.std.proofs.Common.{◌≡◌, ℕ, ◌<◌, List, [], ◌∷◌, ◌++◌, Option, None, Some, append_assoc, ap, ◌∙◌, sym, arith, length, length-append}
use Rattle.std.specs.Option.{option_and_then}

-- The bytes that an answer leaves, and the same answer with other bytes left.
pub record Leaves (A : Type 0) : Type 0 where
  pub left : A → List ℕ
  pub leaving : A → List ℕ → A

-- The bytes are a front and what the answer leaves; and of this front the same is read, whatever follows it.
pub record IsReadOf {A : Type 0} (L : Leaves A) (read : List ℕ → Option A) (bytes : List ℕ) (a : A) : Type 0 where
  pub front : List ℕ
  pub are : bytes ≡ front ++ L.left a
  pub whatever : (back : List ℕ) → read (front ++ back) ≡ Some (L.leaving a back)

-- with one more byte in front
pub after_byte : {A : Type 0} (L : Leaves A) (read : List ℕ → Option A) (byte : ℕ) (rest : List ℕ) (a : A) → IsReadOf L (λ l. read (byte ∷ l)) rest a → IsReadOf L read (byte ∷ rest) a
after_byte L read byte rest a r = record { front = byte ∷ r.front; are = ap (λ l. byte ∷ l) r.are; whatever = r.whatever }

-- one part, and the next one of what it leaves
pub one_and_then : {A B : Type 0} (L : Leaves A) (M : Leaves B) (read : List ℕ → Option A) (next : A → Option B) (bytes : List ℕ) (a : A) (b : B) →
    IsReadOf L read bytes a → IsReadOf M (λ l. next (L.leaving a l)) (L.left a) b → IsReadOf M (λ l. option_and_then next (read l)) bytes b
one_and_then L M read next bytes a b one other = record {
  front = one.front ++ other.front;
  are = one.are ∙ ap (λ l. one.front ++ l) other.are ∙ sym (append_assoc one.front other.front (M.left b));
  whatever = λ back.
      ap (λ l. option_and_then next (read l)) (append_assoc one.front other.front back)
      ∙ ap (option_and_then next) (one.whatever (other.front ++ back))
      ∙ other.whatever back;
}

-- So the same is read before trailing bytes.
pub read_before : {A : Type 0} (L : Leaves A) (read : List ℕ → Option A) (bytes : List ℕ) (a : A) → IsReadOf L read bytes a → (behind : List ℕ) → read (bytes ++ behind) ≡ Some (L.leaving a (L.left a ++ behind))
read_before L read bytes a r behind =
    ap (λ l. read (l ++ behind)) r.are ∙ ap read (append_assoc r.front (L.left a) behind) ∙ r.whatever (L.left a ++ behind)

-- And what is left is shorter, where nothing is read of no bytes.
pub read_shorter : {A : Type 0} (L : Leaves A) (read : List ℕ → Option A) (bytes : List ℕ) (a : A) → read [] ≡ None → IsReadOf L read bytes a → length (L.left a) < length bytes
read_shorter L read bytes a nothing r = by r.front r.are (r.whatever [])
  where
    by : (front : List ℕ) → bytes ≡ front ++ L.left a → read (front ++ []) ≡ Some (L.leaving a []) → length (L.left a) < length bytes
    by [] are found = let wrong = sym nothing ∙ found in cc
    by (byte ∷ front) are found = omega (arith, ap length are, length-append front (L.left a))
