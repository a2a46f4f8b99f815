-- What several changes are to make, one after another, and why they are not made.
use Rattle.std.specs.Prelude.{◌≡◌, ℕ, List, [], ◌∷◌, ◌++◌, fold, bytes_eq, if◌then◌else◌, Option, Some, None, Ok, Err}
use Rattle.host_types.specs.Site.{Site, IsSite}
use Rattle.host_types.specs.Change.{apply, touched}
use Rattle.host_types.specs.AllChanges.{Changes, all_applied, one_refusal}
use Rattle.host_types.specs.ChangesFaults.{one_fault}
use Rattle.host_types.specs.declared.change.Change.{Change}
use Rattle.common_types.specs.declared.refused.Refused.{Refused}
use Rattle.host_types.specs.declared.site_fault.SiteFault.{SiteFault}
use Rattle.host_types.specs.declared.changes_fault.ChangesFault.{ChangesFault}
use Rattle.host_types.specs.declared.changes_fault.ChangesFault.TheVariants.{RefusedAt}
use Rattle.change_plan.specs.Replacements.{all_replaced, AreReplacementsAt}
use Rattle.change_plan.specs.Plans.{planned, IsPlanFault}
use Rattle.change_plan.specs.declared.replacement.Replacement.{Replacement}
use Rattle.change_plan.specs.declared.plan.Plan.{Plan}

-- a replacement at a selector counts in place of one before it
abbrev pub later_at : List ℕ → Option Replacement → Replacement → Option Replacement
later_at selector found r = if bytes_eq selector r.selector then Some r else found

-- the last of some replacements at a selector
abbrev pub last_at : List Replacement → List ℕ → Option Replacement
last_at rs selector = fold (later_at selector) None rs

-- A valid site is shown.
abbrev pub ShowsValid : {L : Type 0} → (L → Site → Type 0) → L → Site → Type 0
ShowsValid shows l s = shows l s × ∥ IsSite s ∥₁

-- This is what a plan makes of the valid site that is shown, and it is valid too.
abbrev pub ShowsAhead : {L : Type 0} → (L → Site → Type 0) → L → Plan → Site → Type 0
ShowsAhead shows l p t = (s : Site) × ShowsValid shows l s × (t ≡ planned s p) × ∥ IsSite t ∥₁

-- A change makes a site of another by replacements at the selectors that it touches, each once, which know what stood there.
pub record IsMadeBy (s : Site) (change : Change) (now : ℕ) (rs : List Replacement) (t : Site) : Type 0 where
  pub applied : apply s change now ≡ Ok t
  pub items : t.items ≡ (all_replaced s rs).items
  pub at : AreReplacementsAt s (touched s change) rs

-- Each change makes a site of the one before by its own replacements, which stand one behind another.
abbrev pub AreMadeBy : Site → Changes → List Replacement → Site → Type 0
AreMadeBy s [] rs t = (rs ≡ []) × (t ≡ s)
AreMadeBy s (c ∷ changes) rs t = (m : Site) × (front : List Replacement) × (rest : List Replacement) × (rs ≡ front ++ rest) × IsMadeBy s c.0 c.1 front m × AreMadeBy m changes rest t

-- A plan makes what several changes make of a site, one after another.
pub record IsPlanOfAll (s : Site) (changes : Changes) (p : Plan) : Type 0 where
  pub makes : all_applied s changes ≡ Ok (planned s p)
  pub made : AreMadeBy s changes p.replacements.items (planned s p)
  pub valid : ∥ IsSite (planned s p) ∥₁

-- Why there is no plan of several changes: the first that is refused, by its place, or a look-up that failed.
pub record IsPlanOfAllFault {L : Type 0} (shows : L → Site → Type 0) (failed : L → L → SiteFault → Type 0) (old new : L) (changes : Changes) (fault : ChangesFault) : Type 0 where
  pub cause : IsPlanFault (ShowsValid shows) failed old new (λ s. one_refusal (all_applied s changes)) (one_fault fault)
  pub place : (n : ℕ) (refused : Refused) → fault ≡ RefusedAt n refused → (s : Site) → ShowsValid shows old s → all_applied s changes ≡ Err (n, refused)
