-- Looking up the items of a site in memory: it changes nothing, and fails for lack of memory alone.
use Rattle.std.proofs.Common.{◌≡◌, ℕ, true, false, List, refl}
use Rattle.std.specs.Prelude.{nat_lt, length, ◌||◌}
use Rattle.std.specs.List.{list_any}
use Rattle.std.proofs.lemmas.Bool.{or_parts, ltb-false, le-leb}
use Rattle.std.proofs.Props.{props}
use Rattle.host_types.specs.Items.{most_view_bytes, view_bytes, is_long_view, is_long_body, is_long_item}
use Rattle.host_types.specs.Card.{has_short_views}
use Rattle.host_types.specs.declared.item.Item.{Item}
use Rattle.host_types.specs.declared.item.Body.{Body}
use Rattle.host_types.specs.declared.item.Body.TheVariants.{Views, Menu, Board, Form, Search, Moved}
use Rattle.common_types.specs.declared.refused.Refused.{Refused}
use Rattle.mem_site.specs.ShortEntries.{HasShortViews}
use Rattle.host_types.specs.Site.{Site}
use Rattle.host_types.specs.declared.site_fault.SiteFault.{SiteFault}
use Rattle.host_types.specs.declared.site_fault.SiteFault.TheVariants as faults
use Rattle.host_types.specs.Sizes.{longest_summary}
use Rattle.change_plan.specs.LookUps.{HasNoLongNames}

-- It shows itself.
abbrev pub Shows : Site → Site → Type 0
Shows m s = (s ≡ m) × HasNoLongNames m

-- Nothing is changed.
abbrev pub IsUnchanged : Site → Site → Type 0
IsUnchanged old new = new ≡ old

-- Out of memory, and nothing is changed.
abbrev pub IsShort : Site → Site → SiteFault → Type 0
IsShort old new fault = (fault ≡ faults.Memory) × (new ≡ old)

-- ---- it is such a site

pub fits_or_not : (item : Item) → IsProp (HasShortViews item)
fits_or_not item = hlevel props

pub never_refused : (a b : Site) (r : Refused) → IsShort a b (faults.Refused r) → ⊥
never_refused a b r h = let clash : faults.Refused r ≡ faults.Memory = h.0 in cc clash

-- an item that keeps the greatest sizes has short views
pub short_fits : (selector : List ℕ) (item : Item) → is_long_item selector item ≡ false → HasShortViews item
short_fits selector item short =
    let parts = or_parts (nat_lt longest_summary (length item.summary)) (is_long_body selector item.body) short in
    by item.body parts.1
  where
    by : (body : Body) → is_long_body selector body ≡ false → has_short_views body ≡ true
    by (Views kind views) h =
        let sizes = or_parts (nat_lt 8 (length views)) (nat_lt most_view_bytes (view_bytes views) || list_any is_long_view views) h in
        let bytes = or_parts (nat_lt most_view_bytes (view_bytes views)) (list_any is_long_view views) sizes.1 in
        le-leb (view_bytes views) most_view_bytes (ltb-false most_view_bytes (view_bytes views) bytes.0)
    by (Menu entries) h = refl
    by (Board cap next) h = refl
    by (Form board questions) h = refl
    by (Search scope) h = refl
    by (Moved target) h = refl
