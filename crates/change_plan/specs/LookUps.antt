-- What is known of a site in which look-ups are made, whatever it is, and what a call leaves that looks them up.
use Rattle.std.specs.Prelude.{◌≡◌, ◌<◌, ℕ, List, length, None, Result, IfOk, OnOk, IfErr}
use Rattle.host_types.specs.Site.{Site, item_at}
use Rattle.host_types.specs.declared.site_fault.SiteFault.{SiteFault}

-- Nothing stands at a selector of over 255 bytes.
abbrev pub HasNoLongNames : Site → Type 0
HasNoLongNames s = (q : List ℕ) → 255 < length q → item_at s q ≡ None

-- A call that looks items up: `looks` says what look-ups leave that don't fail, and `fails` what they leave of which the last fails.
pub record LooksUp {T L : Type 0} (shows : L → Site → Type 0) (looks : L → L → Type 0) (fails : L → L → SiteFault → Type 0) (old new : L) (result : Result T SiteFault) (answer : Site → T → Type 0) : Type 0 where
  -- of the site that is shown it gives this answer
  pub gives : (s : Site) → shows old s → IfOk result (answer s)
  -- where it is done, no look-up has failed
  pub reads_only : OnOk result (looks old new)
  -- its fault is that of a look-up
  pub failed : IfErr result (fails old new)
