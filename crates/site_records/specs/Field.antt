-- Formats of fields in a row: what reads a field takes it from the front of the bytes.
use Rattle.std.specs.Prelude.{◌≡◌, ℕ, zero, suc, ◌<◌, ◌==◌, Bool, List, [], ◌∷◌, ◌++◌, length, take, drop, Option, Some, None, nat_lt, get_or, if◌then◌else◌}
use Rattle.std.specs.Int.{Width, byte_len, from_be_bytes}

-- a value and the bytes after it, or nothing
abbrev pub Read : Type 0 → Type 0
Read A = List ℕ → Option (A × List ℕ)

infixl 10 ◌>>=◌
abbrev pub ◌>>=◌ : {A B : Type 0} → Option A → (A → Option B) → Option B
(Some x) >>= f = f x
None >>= f = None

-- a number in so many bytes
unfoldable pub number : Width → Read ℕ
number w bytes = if nat_lt (length bytes) (byte_len w) then None else Some (from_be_bytes w (take (byte_len w) bytes), drop (byte_len w) bytes)

unfoldable pub byte : Read ℕ
byte [] = None
byte (b ∷ bytes) = Some (b, bytes)

-- a length, and that many bytes
unfoldable pub counted : Read ℕ → Read (List ℕ)
counted count bytes = do
  n ← count bytes
  if nat_lt (length n.1) n.0 then None else Some (take n.0 n.1, drop n.0 n.1)

-- a field that passes a test
unfoldable pub passing : {A : Type 0} → (A → Bool) → Read A → Read A
passing test read bytes = do
  x ← read bytes
  if test x.0 then Some x else None

-- one field after the other
unfoldable pub both : {A B : Type 0} → Read A → Read B → Read (A × B)
both first second bytes = do
  x ← first bytes
  y ← second x.1
  Some ((x.0, y.0), y.1)

-- a field as another value
unfoldable pub mapped : {A B : Type 0} → (A → B) → Read A → Read B
mapped f read bytes = do
  x ← read bytes
  Some (f x.0, x.1)

-- what stands behind a field
unfoldable pub behind : {A : Type 0} → Read A → List ℕ → Option (List ℕ)
behind read bytes = do
  x ← read bytes
  Some x.1

-- a letter that stands for something
unfoldable pub known : {A : Type 0} → (ℕ → Option A) → Read A
known meaning bytes = do
  b ← byte bytes
  x ← meaning b.0
  Some (x, b.1)

-- so many fields of one sort
abbrev pub times : {A : Type 0} → Read A → ℕ → Read (List A)
times read zero bytes = Some ([], bytes)
times read (suc n) bytes = do
  x ← read bytes
  xs ← times read n x.1
  Some (x.0 ∷ xs.0, xs.1)

-- their number, and so many fields
unfoldable pub listed : {A : Type 0} → Read ℕ → Read A → Read (List A)
listed count read bytes = do
  n ← count bytes
  times read n.0 n.1

-- fields of one sort to the end of the bytes, at most so many
abbrev pub until_end : {A : Type 0} → Read A → ℕ → List ℕ → Option (List A)
until_end read zero bytes = if length bytes == 0 then Some [] else None
until_end read (suc n) bytes = if length bytes == 0 then Some [] else do
  x ← read bytes
  xs ← until_end read n x.1
  Some (x.0 ∷ xs)

-- values that were read before, in front of those that are read now
abbrev pub with_front : {A R : Type 0} → List A → Option (List A × R) → Option (List A × R)
with_front front None = None
with_front front (Some next) = Some (front ++ next.0, next.1)

abbrev pub with_all : {A : Type 0} → List A → Option (List A) → Option (List A)
with_all front None = None
with_all front (Some next) = Some (front ++ next)

-- ---- laws

abbrev pub IsBytes : List ℕ → Type 0
IsBytes bytes = (i : ℕ) → get_or bytes i 0 < 256

-- what a reader took from the front
pub record Takes (bytes text rest : List ℕ) : Type 0 where
  pub parts : bytes ≡ text ++ rest
  pub rest_fits : IsBytes rest

-- what is written is read again, and nothing else is read
pub record IsFormat {A : Type 0} (Fits : A → Type 0) (write : A → List ℕ) (read : Read A) : Type 0 where
  pub takes : (bytes : List ℕ) (x : A) (rest : List ℕ) → IsBytes bytes → read bytes ≡ Some (x, rest) → Takes bytes (write x) rest × Fits x
  pub again : (x : A) (rest : List ℕ) → Fits x → read (write x ++ rest) ≡ Some (x, rest)
