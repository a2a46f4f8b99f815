-- A ledger as its callers see it: which pages are held, and which are free.
use Rattle.std.specs.Prelude.{◌≡◌, ◌+◌, ◌⊎◌, ◌≤◌, ◌<◌, ◌||◌, ℕ, zero, suc, Bool, true, false, List, [], ◌∷◌, Option, Some, None, length, slice_index_or, nat_le, nat_lt, ◌&&◌, not, cond}
use Rattle.std.specs.List.{list_any, list_all}
use Rattle.page_alloc.specs.declared.life.Life.{Life}
use Rattle.page_alloc.specs.declared.life.Life.TheVariants.{Never}
use Rattle.page_alloc.specs.Lives.{lives_at}

-- what the running commit did with a page
pub data Mark : Type 0 where
  Untouched : Mark
  Taken : Mark
  Retired : Mark

pub record LedgerState : Type 0 where
  -- the life of each page, by its number
  pub lives : List Life
  -- what the running commit did with each page, by its number
  pub marks : List Mark
  -- the current one
  pub generation : ℕ
  -- the generation that each pin keeps, by the pin's number, or nothing where the pin is not out
  pub pins : List (Option ℕ)

-- the generations of the pins that are out
abbrev pub pinned : List (Option ℕ) → List ℕ
pinned [] = []
pinned (None ∷ pins) = pinned pins
pinned (Some generation ∷ pins) = generation ∷ pinned pins

-- the current generation, and each that is pinned
abbrev pub generations_in_use : LedgerState → List ℕ
generations_in_use s = s.generation ∷ pinned s.pins

abbrev pub life_of : LedgerState → ℕ → Life
life_of s page = slice_index_or s.lives page Never

abbrev pub mark_of : LedgerState → ℕ → Mark
mark_of s page = slice_index_or s.marks page Untouched

-- whether a generation has a page
abbrev pub has_page : LedgerState → ℕ → ℕ → Bool
has_page s generation page = lives_at generation (life_of s page)

-- whether some generation of these has a page
abbrev pub have_page : LedgerState → List ℕ → ℕ → Bool
have_page s generations page = list_any (λ generation. has_page s generation page) generations

-- held: a generation in use has it
abbrev pub is_held : LedgerState → ℕ → Bool
is_held s page = have_page s (generations_in_use s) page

abbrev pub is_taken : Mark → Bool
is_taken Taken = true
is_taken mark = false

abbrev pub is_retired : Mark → Bool
is_retired Retired = true
is_retired mark = false

-- Free: a page of the image, but for the two root slots, that no generation in use has and that the running commit has not taken.
abbrev pub is_free : LedgerState → ℕ → Bool
is_free s page = nat_le 2 page && (nat_lt page (length s.lives) && (not (is_taken (mark_of s page)) && not (is_held s page)))

-- how many numbers below one pass
abbrev pub count_below : (ℕ → Bool) → ℕ → ℕ
count_below test zero = 0
count_below test (suc n) = cond (test n) (1 + count_below test n) (count_below test n)

abbrev pub free_count : LedgerState → ℕ
free_count s = count_below (is_free s) (length s.lives)

-- Alive: the current generation has it, and the running commit has not retired it.
abbrev pub is_alive : LedgerState → ℕ → Bool
is_alive s page = has_page s s.generation page && not (is_retired (mark_of s page))

-- whether the generation that the running commit makes has a page: it is alive, or taken
abbrev pub has_page_next : LedgerState → ℕ → Bool
has_page_next s page = is_alive s page || is_taken (mark_of s page)

-- A generation in use, by sets: it is the current one, or a pin that is out keeps it.
abbrev pub IsInUse : LedgerState → ℕ → Type 0
IsInUse s generation = (generation ≡ s.generation) ⊎ ((number : ℕ) × (slice_index_or s.pins number None ≡ Some generation))

-- Free, by sets: no root slot, in the image, not taken by the running commit, and no page of any generation in use.
pub record IsFree (s : LedgerState) (page : ℕ) : Type 0 where
  pub no_root_slot : 2 ≤ page
  pub within : page < length s.lives
  pub untaken : is_taken (mark_of s page) ≡ false
  pub unheld : (generation : ℕ) → IsInUse s generation → has_page s generation page ≡ false

abbrev pub is_some : Option ℕ → Bool
is_some None = false
is_some (Some generation) = true

-- whether the pin of this number is out
abbrev pub is_out : LedgerState → ℕ → Bool
is_out s number = is_some (slice_index_or s.pins number None)

-- all 32 pins are out
abbrev pub is_crowded : LedgerState → Bool
is_crowded s = list_all is_some s.pins
