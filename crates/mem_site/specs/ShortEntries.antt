-- What holds of each pair that a site in memory keeps.
use Rattle.std.specs.Prelude.{ℕ, ◌≤◌, List, length, IsTrue}
use Rattle.host_types.specs.Card.{has_short_views}
use Rattle.host_types.specs.declared.item.Item.{Item}

-- The views of an item have no more bytes together than they may.
abbrev pub HasShortViews : Item → Type 0
HasShortViews item = IsTrue (has_short_views item.body)

pub record IsShortEntry (e : List ℕ × Item) : Type 0 where
  pub name : length e.0 ≤ 255
  pub views : HasShortViews e.1
