-- How many items a site has, counted one after another.
use Rattle.std.specs.Prelude.{◌≡◌, ◌+◌, ℕ, List, Some, length, filter, IsTrue}
use Rattle.std.specs.Ordering.{is_lt}
use Rattle.host_types.specs.Site.{Site, byte_cmp, item_at}
use Rattle.host_types.specs.declared.item.Item.{Item}
use Rattle.page_store.specs.StoreState.{StoreState, IsFigures}
use Rattle.page_store.specs.declared.figures.Figures.{Figures}

-- An item stands at the selector, and it and those below it are so many: with those above it they are all.
pub record ItemsSoFar (s : Site) (counted : ℕ) (selector : List ℕ) : Type 0 where
  pub item : Item
  pub stands : item_at s selector ≡ Some item
  pub rest : counted + length (filter (λ e. is_lt (byte_cmp selector e.0)) s.items) ≡ length s.items

-- How much a keeper of a site holds: of an honest one how many items, and what the keeper itself tells.
pub record TellsFigures (h : StoreState) (site : Site) (counted : ℕ) (told : Figures) : Type 0 where
  pub items : IsTrue h.honest → counted ≡ length site.items
  pub store : IsFigures h told
