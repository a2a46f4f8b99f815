-- All pages in one order that is cut into runs, by what the pages are used for.
use Rattle.std.specs.Prelude.{◌≡◌, ◌<◌, ◌≤◌, ◌^◌, ◌==◌, ℕ, List, length, slice_index_or, nat_lt, if◌then◌else◌}
use Rattle.page_alloc.specs.declared.runs.Starts.{Starts}

-- what a page is used for
pub data Use : Type 0 where
  -- a root slot
  Root : Use
  -- retired by an earlier commit, and pinned
  Waiting : Use
  -- retired by the running commit
  Retired : Use
  -- the current generation has it
  Held : Use
  -- taken by the running commit
  Taken : Use
  Free : Use

-- the use of the page at a place
abbrev pub use_at : Starts → ℕ → Use
use_at starts place =
    if nat_lt place 2 then Root
    else (if nat_lt place starts.retired then Waiting
    else (if nat_lt place starts.held then Retired
    else (if nat_lt place starts.taken then Held
    else (if nat_lt place starts.free then Taken else Free))))

-- the element of a list of numbers
abbrev pub at : List ℕ → ℕ → ℕ
at xs i = slice_index_or xs i 0

-- each list says where a number stands in the other
pub record IsInverse (pages places : List ℕ) : Type 0 where
  pub same : length places ≡ length pages
  pub small : length pages ≤ 2 ^ 32
  pub place_in : (page : ℕ) → page < length pages → at places page < length pages
  pub page_in : (place : ℕ) → place < length pages → at pages place < length pages
  pub page_back : (page : ℕ) → page < length pages → at pages (at places page) ≡ page
  pub place_back : (place : ℕ) → place < length pages → at places (at pages place) ≡ place

-- the runs stand one after another, within so many pages
pub record AreRuns (starts : Starts) (pages : ℕ) : Type 0 where
  pub retired : 2 ≤ starts.retired
  pub held : starts.retired ≤ starts.held
  pub taken : starts.held ≤ starts.taken
  pub free : starts.taken ≤ starts.free
  pub within : starts.free ≤ pages

-- a place after what stood at two places was exchanged
abbrev pub exchanged : ℕ → ℕ → ℕ → ℕ
exchanged i j place = if place == i then j else (if place == j then i else place)

abbrev pub use_of : Starts → List ℕ → ℕ → Use
use_of starts places page = use_at starts (at places page)

-- one page has another use, and all others have theirs
abbrev pub OneChanges : ℕ → ℕ → Use → (ℕ → Use) → (ℕ → Use) → Type 0
OneChanges pages page now old new = (p : ℕ) → p < pages → new p ≡ (if p == page then now else old p)

-- a page's use after the running commit is given up
abbrev pub undone : Use → Use
undone Taken = Free
undone Retired = Held
undone other = other

-- a page's use once the running commit has switched
abbrev pub after_switch : Use → Use
after_switch Taken = Held
after_switch Retired = Waiting
after_switch other = other
