-- Flat pages: the pairs in rising order, page after page.
use Rattle.std.specs.Prelude.{◌≡◌, ◌≤◌, ℕ, zero, suc, ◌+◌, ◌-◌, ◌/◌, Bool, false, List, [], ◌∷◌, ◌++◌, length, Option, Some, None, nat_lt, nat_le, ◌==◌, ◌&&◌, ◌||◌, if◌then◌else◌}
use Rattle.std.specs.List.{list_all}
use Rattle.page_store.specs.Reading.{◌>>=◌, where_true}
use Rattle.page_store.specs.Roots.{is_zero}
use Rattle.page_store.specs.Pages.{Pair, Head, head_at, pair_at, entries_at}
use Rattle.page_store.specs.declared.slot.Root.{Root}

-- GOPHFLAT
abbrev pub flat_word : List ℕ
flat_word = 71 ∷ 79 ∷ 80 ∷ 72 ∷ 70 ∷ 76 ∷ 65 ∷ 84 ∷ []

-- how many pages each half of an image has
abbrev pub half_size : ℕ → ℕ
half_size pages = (pages - 2) / 2

-- so many numbers from one on
abbrev pub numbers_from : ℕ → ℕ → List ℕ
numbers_from n zero = []
numbers_from n (suc k) = n ∷ numbers_from (suc n) k

-- the record names the first page of a half, and no height
abbrev pub is_half : Root → Bool
is_half root = root.height == 0 && (root.tree == 2 || root.tree == 2 + half_size root.pages)

-- how many bytes a pair takes in a page
abbrev pub entry_size : Pair → ℕ
entry_size pair = 4 + length pair.0 + length pair.1

-- a page of this number and generation, without level, of at least one entry
abbrev pub is_flat_head : ℕ → ℕ → Head → Bool
is_flat_head seal page head = head.number == page && (head.generation == seal && (head.level == 0 && nat_le 1 head.count))

-- the pairs of a flat page, and how many bytes are left in it
unfoldable pub flat_page : ℕ → ℕ → List ℕ → Option (List Pair × ℕ)
flat_page seal page bytes = do
  head ← head_at flat_word bytes
  entries ← entries_at pair_at head.0.count head.1
  where_true (is_flat_head seal page head.0 && list_all is_zero entries.1) (Some (entries.0, length entries.1))

-- the first of them doesn't fit into so many bytes
abbrev pub is_over : ℕ → List Pair → Bool
is_over room [] = false
is_over room (pair ∷ pairs) = nat_lt room (entry_size pair)

-- the pairs of the next page, of at most so many, which is begun since its first pair doesn't fit into the bytes that are left in the page before
unfoldable pub flat_next : ℕ → ℕ → ℕ → ℕ → List ℕ → Option (List Pair × ℕ)
flat_next seal page room keys bytes = do
  here ← flat_page seal page bytes
  where_true (is_over room here.0 && nat_le (length here.0) keys) (Some here)

-- so many pairs in at most so many pages from one on
abbrev pub flat_walk : (ℕ → List ℕ) → ℕ → ℕ → ℕ → ℕ → ℕ → Option (List Pair)
flat_walk bytes seal zero page room keys = where_true (keys == 0) (Some [])
flat_walk bytes seal (suc left) page room keys =
    if keys == 0 then Some []
    else do
      here ← flat_next seal page room keys (bytes page)
      others ← flat_walk bytes seal left (suc page) here.1 (keys - length here.0)
      Some (here.0 ++ others)

-- pairs in front of what is read next
abbrev pub with_front : {R : Type 0} → List Pair → Option (List Pair × R) → Option (List Pair × R)
with_front front None = None
with_front front (Some next) = Some (front ++ next.0, next.1)

abbrev pub with_pairs : List Pair → Option (List Pair) → Option (List Pair)
with_pairs front None = None
with_pairs front (Some pairs) = Some (front ++ pairs)

-- pairs with those of the next page, how many bytes are left in it, and how many pairs are to come
abbrev pub HasNext : ℕ → List Pair → List Pair → Option (List Pair × ℕ) → Option (ℕ × ℕ) → Type 0
HasNext keys old new read None = read ≡ None
HasNext keys old new read (Some next) = (here : List Pair) × (read ≡ Some (here, next.0)) × (new ≡ old ++ here) × (next.1 ≡ keys - length here) × (length here ≤ keys)
