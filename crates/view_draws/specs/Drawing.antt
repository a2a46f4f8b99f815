-- What was drawn of a view into a buffer.
use Rattle.std.specs.Prelude.{◌≡◌, ◌≤◌, ◌++◌, ◌⊎◌, ℕ, Bool, List, [], Result, IsTrue, IfOk, length, take}
use Rattle.host_types.specs.Pins.{Pinned}
use Rattle.host_types.specs.SiteState.{SiteState, IsUnchangedBehind}
use Rattle.host_types.specs.declared.site_fault.SiteFault.{SiteFault}
use Rattle.view_draws.specs.Counting.{HasKnownSize}
use Rattle.view_draws.specs.Progress.{body_left, IsNextOf}
use Rattle.view_draws.specs.Source.{viewed_by, IsViewOf, IsSameView}
use Rattle.view_draws.specs.declared.progress.DrawProgress.{DrawProgress}
use Rattle.view_draws.specs.declared.source.ViewSource.{ViewSource}

-- From a place of the buffer on bytes were given up to another; behind that it stays. No more bytes were taken than there are, and none of the head was given.
pub record HasPassedOn (source : ViewSource) (old new : DrawProgress) (out_old out_new : List ℕ) (at end : ℕ) : Type 0 where
  pub onward : at ≤ end
  pub within : end ≤ length out_new
  pub behind : IsUnchangedBehind end out_old out_new
  pub taken : old.taken ≤ new.taken
  pub within_view : new.taken ≤ source.size
  pub head : new.head_drawn ≡ old.head_drawn

-- Some bytes from a place of the buffer on are the next of the view; behind them it stays.
pub record PartlyDrawn (honest : Bool) (body : List ℕ) (source : ViewSource) (progress : DrawProgress) (at : ℕ) (old new : List ℕ) : Type 0 where
  pub end : ℕ
  pub onward : at ≤ end
  pub within : end ≤ length new
  pub behind : IsUnchangedBehind end old new
  pub next : IsTrue honest → IsViewOf body source → take end new ≡ take end (take at old ++ body_left progress body)

-- What is given of a view, from a place of the buffer on. It stays the view that it is, of which an honest site gives the next bytes.
pub record GivesView (h : SiteState) (pin : Pinned) (source next : ViewSource) (old new : DrawProgress) (out_old out_new : List ℕ) (at : ℕ) (result : Result ℕ SiteFault) : Type 0 where
  pub same : IsSameView source next
  pub passed : IfOk result (HasPassedOn source old new out_old out_new at)
  pub still_of : IsTrue h.honest → IsViewOf (viewed_by h pin source) source → IsViewOf (viewed_by h pin source) next
  pub given : IsTrue h.honest → IsViewOf (viewed_by h pin source) source → IfOk result (IsNextOf (viewed_by h pin source) old new out_old out_new at)

-- Where the view has as many bytes as are known nothing is left of it, or there is no more room.
abbrev pub EndsOrFills : SiteState → Pinned → ViewSource → DrawProgress → List ℕ → Result ℕ SiteFault → Type 0
EndsOrFills h pin source new out result = HasKnownSize h pin source → IfOk result (λ end. (body_left new (viewed_by h pin source) ≡ []) ⊎ (end ≡ length out))
