-- A request, as plain values. RFC 1436, section 2, RFC 1738, section 3.4, and the Gopher+ paper, section 2.
use Rattle.std.specs.Prelude.{ℕ, List, Option}

-- A view that is asked for by its name, and its language where one is named.
pub record RequestedView : Type 0 where
  pub name : List ℕ
  pub language : Option (List ℕ)

-- The Gopher+ part: `+` fetches, `!` asks for the attributes of an item, and `$` for those of a menu's entries. No names mean all blocks.
pub data Plus : Type 0 where
  Fetch : Option RequestedView → Plus
  Attributes : List (List ℕ) → Plus
  EntryAttributes : List (List ℕ) → Plus

-- The search words, the Gopher+ part and the lines of data are there or not.
pub record Request : Type 0 where
  pub selector : List ℕ
  pub search : Option (List ℕ)
  pub plus : Option Plus
  pub lines : Option (List (List ℕ))
