-- What an upgrade of an opened image leaves on its device.
use Rattle.std.proofs.Common.{◌≡◌, ◌⊎◌, ◌≤◌, inl, inr, ⊎_elim, ℕ, Bool, true, false, List, length, refl, sym, ap, subst, ◌∙◌}
use Rattle.std.specs.Prelude.{IsTrue, ◌==◌, ◌||◌, Result, Ok, Some}
use Rattle.std.proofs.lemmas.Bool.{eqb-true}
use Rattle.common_types.specs.CrashStates.{CrashStates, AddsOnly, AddsNone}
use Rattle.common_types.specs.Counts.{counted}
use Rattle.host_types.specs.Site.{Site}
use Rattle.sector_device.specs.Device.{State, NothingCounted}
use Rattle.page_store.specs.Content.{is_tree_version, Found, HasContent, content}
use Rattle.page_store.specs.Roots.{greatest_seal}
use Rattle.page_store.specs.Pages.{Pair}
use Rattle.page_store.specs.Sectors.{Image}
use Rattle.page_store.specs.StoreState.{StoreState, CommitNeed, edits_to_be_deep}
use Rattle.page_store.specs.declared.banner.Banner.{Banner}
use Rattle.page_store.specs.declared.edit.Edit.{Edit}
use Rattle.page_store.specs.declared.slot.Slot.{Slot}
use Rattle.page_store.specs.declared.fault.KeeperFault.TheVariants as kinds
use Rattle.cow_tree.specs.KeeperLaws.{opens_trees}
use Rattle.site_store.specs.Upgrading.{ShowsFirst, FirstBy, IsUpgradeFault, IsNotUpgraded, writes_counted}
use Rattle.site_store.specs.declared.fault.SiteOpenFault.{SiteOpenFault}
use Rattle.site_store.specs.declared.fault.SiteOpenFault.TheVariants as reading
use Rattle.site_store.proofs.UpgradesCommitted.{same_first}
use Rattle.host_on_disk.specs.OpenFaults.{of_site}
use Rattle.host_on_disk.specs.Upgrades.{ImageRepresentsFirst, ImageRepresentsEither, KeepsEither, IsUpgradeRefusal}
use Rattle.host_on_disk.specs.Upgrades as spec
use Rattle.host_on_disk.specs.declared.open_fault.OpenFault.TheVariants.{Keeper, BadRecord, Memory}
use Rattle.host_on_disk.proofs.Images.{same_pairs_and_banner}
use Rattle.host_on_disk.proofs.Openings.{ArePairs}

-- a tree is of version 1 or of version 2
pub first_or_second : (v : ℕ) → IsTrue (is_tree_version v) → (v ≡ 1) ⊎ (v ≡ 2)
first_or_second v is = elim (v == 1) as (λ b. (v == 1) ≡ b → (b || v == 2) ≡ true → (v ≡ 1) ⊎ (v ≡ 2)) [
  | true ↦ λ t either. inl (eqb-true v 1 t)
  | false ↦ λ t either. inr (eqb-true v 2 either)
] refl is

-- what an image represents in version 1 is what its content shows
pub shown_first : (image : Image) (pairs : List Pair) (banner : Banner) (s : Site) → HasContent image pairs banner → ImageRepresentsFirst image s → ShowsFirst pairs banner s
shown_first image pairs banner s content (more, other, (is, opened), shows) =
    let same = same_pairs_and_banner _ more pairs other banner is content in
    subst (λ (b : Banner). ShowsFirst pairs b s) same.1 (subst (λ (p : List Pair). ShowsFirst p other s) same.0 shows)

-- An image that was opened in version 1, and then only left its site in either version.
abbrev pub keeps : {D : Type 0} (state : D → State) (crash_states : D → CrashStates Image) (old opened new : D) (pairs : List Pair) (banner : Banner) (s : Site) → HasContent (state old).disk.view pairs banner → IsTrue (is_tree_version banner.version) → ShowsFirst pairs banner s
    → AddsNone (crash_states old) (crash_states opened) → AddsOnly (crash_states opened) (crash_states new) (λ image. ImageRepresentsEither image s) → KeepsEither state crash_states old new
keeps state crash_states old opened new pairs banner s has version first none adds = record {
  site = s;
  stands = (pairs, banner, (has, version), first);
  alone = λ t other. same_first pairs banner t s (shown_first (state old).disk.view pairs banner t has other) first;
  opened = opened;
  no_new_crash_state = none;
  at_crash = adds;
}

-- The slot that was opened: the greatest generation beside it, and the height of its tree.
pub record IsUnder (old : State) (before : StoreState) : Type 0 where
  pub top : IsTrue old.honest → greatest_seal old.disk.view 16 ≡ before.top
  pub height : IsTrue old.honest → (slot : Slot) × (found : Found) × (content old.disk.view ≡ Some (slot, found)) × (slot.root.height ≡ before.height)

-- why it was not upgraded, once its pairs were opened
pub refused : (old new : State) (before after : StoreState) (need : List Edit → CommitNeed → Type 0) → ArePairs old before → IsUnder old before → (before.banner.version ≡ 2 → ⊥) → new.failed_reads ≡ after.failed_reads → new.failed_writes ≡ after.failed_writes → (fault : SiteOpenFault) → IsNotUpgraded before after need fault → IsUpgradeRefusal old new (of_site fault)
refused old new before after need opened under other reads writes fault is = inr (opened.large, first, by fault is)
  where
    first : spec.IsFirstImage old
    first honest = (before.pairs, before.banner, (opened.content honest, opens_trees before.banner.version opened.version), ⊎_elim (λ one. one) (λ two. absurd (other two)) (first_or_second before.banner.version opened.version))

    stands : IsTrue old.honest → (s : Site) → FirstBy before s → ImageRepresentsFirst old.disk.view s
    stands honest s shows = (before.pairs, before.banner, (opened.content honest, opens_trees before.banner.version opened.version), shows)

    grows : IsUpgradeFault before after need (reading.Keeper kinds.Deep) → spec.MayGrowDeep old
    grows deep honest =
        let s = deep.1 (opened.honest honest) in
        let slot = under.height honest in
        (s.0, stands honest s.0 s.1, slot.0, slot.1, slot.2, subst (λ h. edits_to_be_deep h ≤ length s.0.items) (sym slot.3) s.2.1)

    nothing : after.failed_reads ≡ before.failed_reads → after.failed_writes ≡ before.failed_writes → NothingCounted old new
    nothing r w = record { reads = reads ∙ r ∙ opened.reads; writes = writes ∙ w ∙ opened.writes }

    up : (fault : SiteOpenFault) → IsNotUpgraded before after need fault → after.failed_writes ≡ writes_counted true fault before.failed_writes
    up fault is = is.writes ∙ ap (λ (u : Bool). writes_counted u fault before.failed_writes) opened.usable

    lies : (b : Bool) → (IsTrue b → IsTrue before.honest) → before.honest ≡ false → b ≡ false
    lies false still other = refl
    lies true still other = let clash : true ≡ false = sym (still refl) ∙ other in absurd (cc clash)

    by : (fault : SiteOpenFault) → IsNotUpgraded before after need fault → spec.IsImageNotUpgraded old new (of_site fault)
    by reading.BadRecord is = (nothing is.reads is.writes, λ honest s first. is.cause.1 (opened.honest honest) s (shown_first old.disk.view before.pairs before.banner s (opened.content honest) first))
    by reading.Memory is = nothing is.reads is.writes
    by (reading.Keeper kinds.Device) is = inl (reads ∙ is.reads ∙ ap counted opened.reads, writes ∙ up (reading.Keeper kinds.Device) is ∙ opened.writes)
    by (reading.Keeper (kinds.Damaged page)) is = (nothing is.reads (up (reading.Keeper (kinds.Damaged page)) is), lies old.honest opened.honest is.cause.1)
    by (reading.Keeper kinds.Spent) is = (nothing is.reads (up (reading.Keeper kinds.Spent) is), λ honest. under.top honest ∙ is.cause.1)
    by (reading.Keeper kinds.Deep) is = (nothing is.reads (up (reading.Keeper kinds.Deep) is), grows is.cause)
    by (reading.Keeper (kinds.Full need free)) is = (nothing is.reads (up (reading.Keeper (kinds.Full need free)) is), is.cause.1.1, λ honest. let s = is.cause.2 (opened.honest honest) in (s.0, stands honest s.0 s.1))
    by (reading.Keeper kinds.Failed) is = (writes ∙ up (reading.Keeper kinds.Failed) is ∙ ap counted opened.writes, reads ∙ is.reads ∙ opened.reads, λ honest. let s = is.cause.1 (opened.honest honest) opened.usable in (s.0, stands honest s.0 s.1))
    by (reading.Keeper kinds.NoImage) is = absurd is.cause
    by (reading.Keeper kinds.Version) is = absurd is.cause
    by (reading.Keeper kinds.Small) is = absurd is.cause
    by (reading.Keeper kinds.Memory) is = absurd is.cause

-- a refusal leaves the store usable, or a write or a sync failed while a site was written
pub usable_or_failed : (old new : StoreState) (need : List Edit → CommitNeed → Type 0) (fault : SiteOpenFault) → IsUpgradeFault old new need fault → old.usable ≡ true → (new.usable ≡ true) ⊎ ((fault ≡ reading.Keeper kinds.Failed) × (IsTrue old.honest → (s : Site) × FirstBy old s))
usable_or_failed old new need reading.BadRecord is up = inl (is.0.usable ∙ up)
usable_or_failed old new need reading.Memory is up = inl (is.usable ∙ up)
usable_or_failed old new need (reading.Keeper kinds.Device) is up = inl (is.usable ∙ up)
usable_or_failed old new need (reading.Keeper (kinds.Damaged page)) is up = inl (is.0.usable ∙ up)
usable_or_failed old new need (reading.Keeper kinds.Spent) is up = inl (is.0.usable ∙ up)
usable_or_failed old new need (reading.Keeper kinds.Deep) is up = inl (is.0.usable ∙ up)
usable_or_failed old new need (reading.Keeper (kinds.Full wanted free)) is up = inl (is.0.usable ∙ up)
usable_or_failed old new need (reading.Keeper kinds.Failed) is up = inr (refl, λ honest. is.1 honest up)
usable_or_failed old new need (reading.Keeper kinds.NoImage) is up = absurd is
usable_or_failed old new need (reading.Keeper kinds.Version) is up = absurd is
usable_or_failed old new need (reading.Keeper kinds.Small) is up = absurd is
usable_or_failed old new need (reading.Keeper kinds.Memory) is up = absurd is

pub same_done : {A B E : Type 0} (r : Result (A × B) E) (a b : A) (n m : B) → r ≡ Ok (a, n) → r ≡ Ok (b, m) → (a ≡ b) × (n ≡ m)
same_done {A} {B} r a b n m x y = let same : (a, n) ≡ (b, m) = cc in (ap (λ (t : A × B). t.0) same, ap (λ (t : A × B). t.1) same)
