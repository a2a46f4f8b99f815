-- Changes that are made keep a site valid.
use Rattle.std.proofs.Common.{◌≡◌, ℕ, ◌≤◌, sym, subst}
use Rattle.std.specs.Prelude.{Ok, IsTrue}
use mathlib.Core.Logic.{∥∥₁_elim, ∥∥₁_prop}
use Rattle.host_types.specs.Site.{Site, IsSite}
use Rattle.host_types.specs.Change.{apply}
use Rattle.host_types.specs.ValidChanges.{ChangesKeepSites, is_typed_change}
use Rattle.host_types.specs.declared.change.Change.{Change}

pub still_valid : ChangesKeepSites → (s t : Site) (change : Change) (now : ℕ) → ∥ IsSite s ∥₁ → IsTrue (is_typed_change change) → now ≤ 253402300799 → apply s change now ≡ Ok t → ∥ IsSite t ∥₁
still_valid laws s t change now site typed early applied = ∥∥₁_elim site ∥∥₁_prop (λ h. ∣ laws s t change now h typed early applied ∣₁)

pub valid_as : (s t : Site) → t ≡ s → ∥ IsSite s ∥₁ → ∥ IsSite t ∥₁
valid_as s t same site = subst (λ (x : Site). ∥ IsSite x ∥₁) (sym same) site
