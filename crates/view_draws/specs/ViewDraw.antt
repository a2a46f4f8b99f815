-- A reply that is drawn from a view of a pinned site.
use Rattle.std.specs.Prelude.{◌≡◌, ◌≤◌, ℕ, Bool, List, Result, IsTrue, IfOk, length, take, drop}
use Rattle.host_types.specs.SiteState.{SiteState, IsUnchangedBehind}
use Rattle.host_types.specs.Pins.{Pinned}
use Rattle.host_types.specs.declared.site_fault.SiteFault.{SiteFault}
use Rattle.view_draws.specs.Progress.{left_of}
use Rattle.view_draws.specs.Source.{IsViewOf, IsSameView, viewed_by}
use Rattle.view_draws.specs.declared.view_draw.ViewDraw.{ViewDraw}

-- what is left of the reply, where these are the bytes of the view
unfoldable pub rest_of : ViewDraw → List ℕ → List ℕ
rest_of d body = left_of d.head d.progress body

-- These are the bytes of the view: as many as are known, and the chunk that was read last is one of theirs.
abbrev pub IsOf : List ℕ → ViewDraw → Type 0
IsOf body d = IsViewOf body d.source

-- the bytes of the view among the items that the pin keeps
abbrev pub body_at : SiteState → Pinned → ViewDraw → List ℕ
body_at h pin d = viewed_by h pin d.source

-- It is a reply with the same head, of the same view of the same size.
pub record IsSameReply (old new : ViewDraw) : Type 0 where
  pub head : new.head ≡ old.head
  pub view : IsSameView old.source new.source

-- The next n bytes of the reply were given: all that are left, or as many as there is room for.
pub record HasDrawn (body : List ℕ) (old new : ViewDraw) (n : ℕ) (out_old out_new : List ℕ) : Type 0 where
  pub given : take n out_new ≡ take (length out_old) (rest_of old body)
  pub rest : rest_of new body ≡ drop (length out_old) (rest_of old body)

-- Some bytes at the front of the buffer are the next of the reply; behind them it stays.
pub record HasBegun (honest : Bool) (body : List ℕ) (d : ViewDraw) (old new : List ℕ) : Type 0 where
  pub count : ℕ
  pub within : count ≤ length new
  pub behind : IsUnchangedBehind count old new
  pub next : IsTrue honest → IsViewOf body d.source → take count new ≡ take count (rest_of d body)

-- What a draw gives of its reply. It stays the reply that it is, of which an honest site gives the next bytes.
pub record DrawsView (h : SiteState) (pin : Pinned) (old new : ViewDraw) (out_old out_new : List ℕ) (result : Result ℕ SiteFault) : Type 0 where
  pub same : IsSameReply old new
  pub still_of : IsTrue h.honest → IsOf (body_at h pin old) old → IsOf (body_at h pin old) new
  pub drawn : IsTrue h.honest → IsOf (body_at h pin old) old → IfOk result (λ n. HasDrawn (body_at h pin old) old new n out_old out_new)

-- All is still to be drawn, and the front of the buffer may have the next bytes.
pub record LosesNone (honest : Bool) (body : List ℕ) (old new : ViewDraw) (out_old out_new : List ℕ) : Type 0 where
  pub none_lost : (bytes : List ℕ) → rest_of new bytes ≡ rest_of old bytes
  pub begun : HasBegun honest body old out_old out_new
