-- A view of a pinned site, by chunks.
use Rattle.std.specs.Prelude.{◌≡◌, ℕ, List, IfSome, length, take}
use Rattle.host_types.specs.Card.{chunk_of}
use Rattle.host_types.specs.SiteState.{SiteState}
use Rattle.host_types.specs.Pins.{Pinned, pinned_items, viewed_among}
use Rattle.view_draws.specs.declared.source.ViewSource.{ViewSource}

-- the bytes of the view among the items that the pin keeps
abbrev pub viewed_by : SiteState → Pinned → ViewSource → List ℕ
viewed_by h pin source = viewed_among (pinned_items h pin) source.selector source.view

-- The front of the buffer is the chunk of these bytes that it is said to hold.
abbrev pub HasChunk : List ℕ → ViewSource → Type 0
HasChunk body source = IfSome source.place (λ k. take (length (chunk_of body k)) source.buffer ≡ chunk_of body k)

-- These are the bytes of the view: as many as are known, and the chunk that was read last is one of theirs.
pub record IsViewOf (body : List ℕ) (source : ViewSource) : Type 0 where
  pub size : length body ≡ source.size
  pub chunk : HasChunk body source

-- It is the same view of the same size.
pub record IsSameView (old new : ViewSource) : Type 0 where
  pub selector : new.selector ≡ old.selector
  pub view : new.view ≡ old.view
  pub size : new.size ≡ old.size
