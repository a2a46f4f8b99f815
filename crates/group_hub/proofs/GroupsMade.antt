-- What a step makes whose changes are all right.
use Rattle.std.proofs.Common.{◌≡◌, ◌⊎◌, inl, inr, ⊎_elim, ℕ, ◌+◌, ◌<◌, true, [], ◌∷◌, ◌++◌, length, refl, sym, ap, subst, ◌∙◌}
use Rattle.std.specs.Prelude.{Some, Result, Ok, Err}
use Rattle.std.proofs.Props.{props}
use Rattle.std.proofs.Common.{lt-ltb}
use mathlib.Core.Logic.{∥∥₁_elim}
use Rattle.host_types.specs.Site.{Site, IsSite}
use Rattle.host_types.specs.Change.{apply}
use Rattle.host_types.specs.AllChanges.{Changes, then_at, applied_from, all_applied, one_refusal}
use Rattle.host_types.specs.SiteState.{SiteState, HasFailed}
use Rattle.host_types.specs.ValidChanges.{ChangesKeepSites}
use Rattle.host_types.specs.CrashStates.{CrashStates, AddsOnly}
use Rattle.host_types.specs.declared.change.Change.{Change}
use Rattle.common_types.specs.declared.refused.Refused.{Refused}
use Rattle.group_world.specs.CrashStates.{with_changes}
use Rattle.group_world.specs.Laws.{all_made}
use Rattle.group_world.proofs.Stored.{right_make}
use Rattle.group_world.proofs.TakenMore.{all_are_applied}
use Rattle.group_hub.specs.Flushing.{ChangesAreTyped}
use Rattle.group_hub.specs.Understood.{HasFailedNow}
use Rattle.group_hub.proofs.MadeBehindReads.{weaker}

-- ---- changes that are right

pub same_site : (s n : Site) (changes : Changes) → (t : Site) × (all_made s changes ≡ Some t) → all_applied s changes ≡ Ok n → n ≡ with_changes s changes
same_site s n changes (t, made) applied =
    let both : Ok n ≡ Ok t = sym applied ∙ all_are_applied s t changes made in
    let same : n ≡ t = cc both in
    same ∙ sym (right_make s t changes made)

pub not_refused : (s : Site) (changes : Changes) (refused : Refused) → (t : Site) × (all_made s changes ≡ Some t) → one_refusal (all_applied s changes) ≡ Err refused → ⊥
not_refused s changes refused (t, made) is =
    let no : Ok t ≡ Err refused = sym (ap one_refusal (all_are_applied s t changes made)) ∙ is in
    cc no

-- ---- changes of values of the program keep a site valid

after_one : ChangesKeepSites → (n : ℕ) (s t : Site) (c : Change × ℕ) (changes : Changes) (r : Result Site Refused) → IsSite s → ChangesAreTyped (c ∷ changes) → apply s c.0 c.1 ≡ r → ((u : Site) → IsSite u → applied_from (n + 1) u changes ≡ Ok t → IsSite t)
    → then_at n (λ u. applied_from (n + 1) u changes) r ≡ Ok t → IsSite t
after_one laws n s t c changes (Ok u) site typed made on is = on u (laws s u c.0 c.1 site typed.0.0 typed.0.1 made) is
after_one laws n s t c changes (Err refused) site typed made on is = absurd (cc is)

still_site : ChangesKeepSites → (n : ℕ) (s t : Site) (changes : Changes) → IsSite s → ChangesAreTyped changes → applied_from n s changes ≡ Ok t → IsSite t
still_site laws n s t [] site typed is = (let same : s ≡ t = cc is in subst IsSite same site)
still_site laws n s t (c ∷ changes) site typed is = after_one laws n s t c changes (apply s c.0 c.1) site typed refl (λ u valid. still_site laws (n + 1) u t changes valid typed.1) is

pub still_valid : ChangesKeepSites → (s t : Site) (changes : Changes) → ChangesAreTyped changes → all_applied s changes ≡ Ok t → ∥ IsSite s ∥₁ → ∥ IsSite t ∥₁
still_valid laws s t changes typed is site = let prop : IsProp ∥ IsSite t ∥₁ = hlevel props in ∥∥₁_elim site prop (λ h. ∣ still_site laws 0 s t changes h typed is ∣₁)

pub typed_more : (changes more : Changes) → ChangesAreTyped changes → ChangesAreTyped more → ChangesAreTyped (changes ++ more)
typed_more [] more first rest = rest
typed_more (c ∷ changes) more first rest = (first.0, typed_more changes more first.1 rest)

-- ---- what is left of a keeper

pub crashes : {L : Type 0} (represents : L → Site → Type 0) (p q : CrashStates L) (s : Site) (changes : Changes) → (t : Site) × (all_made s changes ≡ Some t) → AddsOnly p q (λ c. represents c s ⊎ ((u : Site) × (all_applied s changes ≡ Ok u) × represents c u))
    → AddsOnly p q (λ c. represents c s ⊎ represents c (with_changes s changes))
crashes represents p q s changes right adds =
    weaker p q _ _ adds (λ c left. ⊎_elim (λ old. inl old) (λ new. inr (subst (λ (u : Site). represents c u) (same_site s new.0 changes right new.1) new.2)) left)

pub failed_now : (a b : SiteState) (changes : Changes) → a.usable ≡ true → 0 < length changes → HasFailed a b (one_refusal (all_applied a.site changes)) → HasFailedNow a b changes
failed_now a b changes usable some failed = record {
  site = failed.site;
  shut = failed.shut;
  cause = λ honest. failed.cause honest usable;
  change = λ honest. lt-ltb 0 (length changes) some;
}
