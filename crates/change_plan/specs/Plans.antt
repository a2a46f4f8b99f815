-- What a change is to make, and why it isn't made.
use Rattle.std.specs.Prelude.{◌≡◌, ℕ, List, Option, Some, None, Result, Ok, Err}
use Rattle.host_types.specs.Site.{Site, IsSite, post_selector, with_item}
use Rattle.host_types.specs.Change.{apply, touched, touched_by_post, oldest_post, board_after, without_any}
use Rattle.host_types.specs.declared.change.Change.{Change}
use Rattle.host_types.specs.declared.item.Item.{Item}
use Rattle.common_types.specs.declared.refused.Refused.{Refused}
use Rattle.host_types.specs.declared.site_fault.SiteFault.{SiteFault}
use Rattle.host_types.specs.declared.site_fault.SiteFault.TheVariants as faults
use Rattle.change_plan.specs.Replacements.{all_replaced, AreReplacementsAt, OnlyFirstIsNew}
use Rattle.change_plan.specs.declared.replacement.Replacement.{Replacement}
use Rattle.change_plan.specs.declared.plan.Plan.{Plan}

-- These replacements make what a change makes of a site. On a valid site they are at the selectors that it touches, each once, and know what stood there.
pub record AreMade (s : Site) (applied : Result Site Refused) (selectors : List (List ℕ)) (rs : List Replacement) : Type 0 where
  pub makes : applied ≡ Ok (all_replaced s rs)
  pub first : OnlyFirstIsNew s rs
  pub at : ∥ IsSite s ∥₁ → AreReplacementsAt s selectors rs

-- a site under another name, where one is set
abbrev pub with_host : Site → Option (List ℕ × ℕ) → Site
with_host s None = s
with_host s (Some name) = record s { host = name.0; port = name.1 }

abbrev pub with_admin : Site → Option (List ℕ) → Site
with_admin s None = s
with_admin s (Some admin) = record s { admin = admin }

-- the site that a plan makes
abbrev pub planned : Site → Plan → Site
planned s p = with_admin (with_host (all_replaced s p.replacements.items) p.host) p.admin

-- the value that is set last
abbrev pub set_last : {T : Type 0} → Option T → Option T → Option T
set_last old None = old
set_last old (Some new) = Some new

-- A plan makes what a change makes of a site.
pub record IsPlan (s : Site) (change : Change) (now : ℕ) (p : Plan) : Type 0 where
  pub makes : apply s change now ≡ Ok (planned s p)
  pub first : OnlyFirstIsNew s p.replacements.items
  pub at : ∥ IsSite s ∥₁ → AreReplacementsAt s (touched s change) p.replacements.items

-- Why there is no plan: the change is refused, or a look-up failed.
abbrev pub IsPlanFault : {L : Type 0} → (L → Site → Type 0) → (L → L → SiteFault → Type 0) → L → L → (Site → Result Site Refused) → SiteFault → Type 0
IsPlanFault shows failed old new applied (faults.Refused r) = (s : Site) → shows old s → applied s ≡ Err r
IsPlanFault shows failed old new applied faults.Read = failed old new faults.Read
IsPlanFault shows failed old new applied (faults.Full need free) = failed old new (faults.Full need free)
IsPlanFault shows failed old new applied faults.Spent = failed old new faults.Spent
IsPlanFault shows failed old new applied faults.Deep = failed old new faults.Deep
IsPlanFault shows failed old new applied faults.Failed = failed old new faults.Failed
IsPlanFault shows failed old new applied faults.Memory = failed old new faults.Memory

-- Where the change is refused, this holds.
abbrev pub IfRefused : SiteFault → Type 0 → Type 0
IfRefused (faults.Refused r) P = P
IfRefused faults.Read P = Unit {0}
IfRefused (faults.Full need free) P = Unit {0}
IfRefused faults.Spent P = Unit {0}
IfRefused faults.Deep P = Unit {0}
IfRefused faults.Failed P = Unit {0}
IfRefused faults.Memory P = Unit {0}

-- Where a plan is found, or the change is refused, this holds.
abbrev pub UnlessFailed : {T : Type 0} → Result T SiteFault → Type 0 → Type 0
UnlessFailed (Ok plan) P = P
UnlessFailed (Err fault) P = IfRefused fault P

-- These replacements store a post on a board of which cap and next are known.
abbrev pub posted_site : Site → List ℕ → Item → ℕ × ℕ → Item → ℕ → Site
posted_site s board item numbers posted now = without_any (with_item (with_item s (post_selector board numbers.1) posted) board (board_after item numbers.0 numbers.1 now)) (oldest_post board numbers.0 numbers.1)

abbrev pub IsPosted : Site → List ℕ → Item → ℕ × ℕ → Item → ℕ → List Replacement → Type 0
IsPosted s board item numbers posted now rs = AreMade s (Ok (posted_site s board item numbers posted now)) (touched_by_post board (Some numbers)) rs
