-- What becomes of the runs where one page goes to another run.
use Rattle.std.specs.Prelude.{◌≡◌, ◌<◌, ℕ, length}
use Rattle.page_alloc.specs.declared.runs.Runs.{Runs}
use Rattle.page_alloc.specs.Runs.{Use, use_of, at, OneChanges}

-- A page has this use now, and all others have theirs; there are as many pages.
pub record Moves (page : ℕ) (now : Use) (old new : Runs) : Type 0 where
  pub uses : OneChanges (length old.order.pages.items) page now (use_of old.starts old.order.places.items) (use_of new.starts new.order.places.items)
  pub size : length new.order.pages.items ≡ length old.order.pages.items

-- As many pages wait, each at its place.
pub record WaitsAsBefore (old new : Runs) : Type 0 where
  pub retired : new.starts.retired ≡ old.starts.retired
  pub places : (p : ℕ) → p < length old.order.pages.items → at new.order.places.items p < new.starts.retired → at new.order.places.items p ≡ at old.order.places.items p

-- A page moves from a run behind the waiting pages to another one, and the free pages begin where they did.
pub record MovesOn (page : ℕ) (now : Use) (old new : Runs) : Type 0 where
  pub moves : Moves page now old new
  pub free : new.starts.free ≡ old.starts.free
  pub waiting : WaitsAsBefore old new
