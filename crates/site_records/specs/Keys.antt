-- The keys of a site's layout. docs/IMAGE.md, 'Layout of a site'.
use Rattle.std.specs.Prelude.{◌≡◌, ℕ, ◌<◌, ◌^◌, ◌==◌, List, [], ◌∷◌, ◌++◌, length, take, drop, refl, slice_index, if◌then◌else◌}
use Rattle.std.specs.Int.{w16, to_be_bytes, from_be_bytes}
use Rattle.std.proofs.Common.{ap, sym, ◌∙◌, arith}
use Rattle.std.proofs.lemmas.List.{take_at, drop_at}
use Rattle.std.proofs.lemmas.Nat.{from_be_bytes-to_be_bytes_2}

-- what a key names: the record of an item, a chunk of one of its parts, or one of its words
pub data Key : Type 0 where
  Record : List ℕ → Key
  Chunk : List ℕ → ℕ → ℕ → Key
  Word : List ℕ → List ℕ → Key

-- `I` and the selector
abbrev pub item_key : List ℕ → List ℕ
item_key selector = 73 ∷ selector

-- `C`, the selector's length, the selector, the part, and the chunk's number in two bytes
abbrev pub chunk_key : List ℕ → ℕ → ℕ → List ℕ
chunk_key selector part k = 67 ∷ length selector ∷ selector ++ part ∷ to_be_bytes w16 k

-- `W`, the word's length, the word, and the selector
abbrev pub word_key : List ℕ → List ℕ → List ℕ
word_key word selector = 87 ∷ length word ∷ word ++ selector

abbrev pub key_bytes : Key → List ℕ
key_bytes (Record selector) = item_key selector
key_bytes (Chunk selector part k) = chunk_key selector part k
key_bytes (Word word selector) = word_key word selector

-- a chunk's number has two bytes
abbrev pub Fits : Key → Type 0
Fits (Record selector) = Unit {0}
Fits (Chunk selector part k) = k < 2 ^ 16
Fits (Word word selector) = Unit {0}

-- the selector of the item that a key belongs to
abbrev pub selector_of : Key → List ℕ
selector_of (Record selector) = selector
selector_of (Chunk selector part k) = selector
selector_of (Word word selector) = selector

-- the same, read from the key's bytes
abbrev pub owner : List ℕ → List ℕ
owner [] = []
owner (tag ∷ rest) =
    if tag == 73 then rest
    else if tag == 67 then take (slice_index rest 0) (drop 1 rest)
    else drop (slice_index rest 0) (drop 1 rest)

pub owner-key_bytes : (k : Key) → owner (key_bytes k) ≡ selector_of k
owner-key_bytes (Record selector) = refl
owner-key_bytes (Chunk selector part k) = take_at selector (part ∷ to_be_bytes w16 k) (length selector) refl
owner-key_bytes (Word word selector) = drop_at word selector (length word) refl

-- each key has bytes of its own
abbrev pub KeysAreOneToOne : Type 0
KeysAreOneToOne = (a b : Key) → Fits a → Fits b → key_bytes a ≡ key_bytes b → a ≡ b

same_head : (a b : ℕ) (xs ys : List ℕ) → a ∷ xs ≡ b ∷ ys → a ≡ b
same_head a b xs ys e = cc

same_rest : (a b : ℕ) (xs ys : List ℕ) → a ∷ xs ≡ b ∷ ys → xs ≡ ys
same_rest a b xs ys e = cc

-- what stands behind a length and so many bytes
split_length : (n m : ℕ) (xs ys us vs : List ℕ) → length xs ≡ n → length ys ≡ m → n ∷ xs ++ us ≡ m ∷ ys ++ vs → (xs ≡ ys) × (us ≡ vs)
split_length n m xs ys us vs p q e =
    let lens : n ≡ m = same_head n m (xs ++ us) (ys ++ vs) e in
    let rest : xs ++ us ≡ ys ++ vs = same_rest n m (xs ++ us) (ys ++ vs) e in
    let fronts : xs ≡ ys = sym (take_at xs us n p) ∙ ap (take n) rest ∙ take_at ys vs n (q ∙ sym lens) in
    (fronts, sym (drop_at xs us n p) ∙ ap (drop n) rest ∙ drop_at ys vs n (q ∙ sym lens))

same_chunk : (a b : List ℕ) (p q k l : ℕ) → k < 2 ^ 16 → l < 2 ^ 16 → chunk_key a p k ≡ chunk_key b q l → Chunk a p k ≡ Chunk b q l
same_chunk a b p q k l f g e =
    let s = split_length (length a) (length b) a b (p ∷ to_be_bytes w16 k) (q ∷ to_be_bytes w16 l) refl refl (same_rest 67 67 _ _ e) in
    let parts : p ≡ q = same_head p q (to_be_bytes w16 k) (to_be_bytes w16 l) s.1 in
    let numbers : k ≡ l = sym (from_be_bytes-to_be_bytes_2 k f) ∙ ap (from_be_bytes w16) (same_rest p q (to_be_bytes w16 k) (to_be_bytes w16 l) s.1) ∙ from_be_bytes-to_be_bytes_2 l g in
    λ i. Chunk (s.0 i) (parts i) (numbers i)

-- chunks of two parts of an item have different keys
pub same_part : (a : List ℕ) (p q k l : ℕ) → chunk_key a p k ≡ chunk_key a q l → p ≡ q
same_part a p q k l e =
    let s = split_length (length a) (length a) a a (p ∷ to_be_bytes w16 k) (q ∷ to_be_bytes w16 l) refl refl (same_rest 67 67 _ _ e) in
    same_head p q (to_be_bytes w16 k) (to_be_bytes w16 l) s.1

same_word : (v w a b : List ℕ) → word_key v a ≡ word_key w b → Word v a ≡ Word w b
same_word v w a b e = let s = split_length (length v) (length w) v w a b refl refl (same_rest 87 87 _ _ e) in λ i. Word (s.0 i) (s.1 i)

pub keys_one_to_one : KeysAreOneToOne
keys_one_to_one (Record a) (Record b) f g e = ap Record (same_rest 73 73 a b e)
keys_one_to_one (Record a) (Chunk b q l) f g e = absurd (let h : 73 ≡ 67 = same_head 73 67 _ _ e in omega arith)
keys_one_to_one (Record a) (Word w b) f g e = absurd (let h : 73 ≡ 87 = same_head 73 87 _ _ e in omega arith)
keys_one_to_one (Chunk a p k) (Record b) f g e = absurd (let h : 67 ≡ 73 = same_head 67 73 _ _ e in omega arith)
keys_one_to_one (Chunk a p k) (Chunk b q l) f g e = same_chunk a b p q k l f g e
keys_one_to_one (Chunk a p k) (Word w b) f g e = absurd (let h : 67 ≡ 87 = same_head 67 87 _ _ e in omega arith)
keys_one_to_one (Word v a) (Record b) f g e = absurd (let h : 87 ≡ 73 = same_head 87 73 _ _ e in omega arith)
keys_one_to_one (Word v a) (Chunk b q l) f g e = absurd (let h : 87 ≡ 67 = same_head 87 67 _ _ e in omega arith)
keys_one_to_one (Word v a) (Word w b) f g e = same_word v w a b e
