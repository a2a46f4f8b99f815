-- Where a key is looked for first.
use Rattle.std.specs.Prelude.{ℕ, ◌*◌, ◌%◌, ◌^◌, ◌==◌, List, [], ◌∷◌, take, fold, bit_xor, if◌then◌else◌}

-- the hash FNV-1a of 64 bits: http://www.isthe.com/chongo/tech/comp/fnv/
abbrev pub fnv_1a : List ℕ → ℕ
fnv_1a bytes = fold (λ made byte. (bit_xor made byte * 0x100000001b3) % 2 ^ 64) 0xcbf29ce484222325 bytes

-- What the keys of one word have in common: behind the letter W and the word's length the word. Of other keys their first two bytes.
abbrev pub beginning_of : List ℕ → List ℕ
beginning_of [] = []
beginning_of (letter ∷ []) = letter ∷ []
beginning_of (letter ∷ size ∷ rest) = if letter == 87 then take size rest else (letter ∷ size ∷ [])
