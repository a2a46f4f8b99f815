-- A key-value store as a keeper of its site: what calls leave.
use Rattle.std.proofs.Common.{◌≤◌, ◌≡◌, ◌⊎◌, ℕ, ◌<◌, ◌+◌, Bool, true, false, List, [], ◌∷◌, length, map, Option, Some, None, Result, Ok, Err, refl, inl, inr, ⊎_elim, sym, ap, subst, ◌∙◌, arith}
use Rattle.std.proofs.lemmas.List.{length-map}
use Rattle.std.specs.Prelude.{◌/◌, IsTrue, IfErr, IfSome, OnOk, IsOk}
use Rattle.host_types.specs.Site.{Site, IsSite}
use Rattle.host_types.specs.Change.{apply}
use Rattle.host_types.specs.AllChanges.{Changes, then_at, all_applied, one_refusal}
use Rattle.host_types.specs.declared.change.Change.{Change}
use Rattle.host_types.specs.SiteState.{SiteState, Rose}
use Rattle.host_types.specs.SiteState as sites
use Rattle.host_types.specs.ChangesFaults.{fault_at, one_fault, IsChangesFault}
use Rattle.host_types.specs.declared.changes_fault.ChangesFault.TheVariants.{RefusedAt}
use Rattle.host_types.specs.CrashStates.{CrashStates, AddsOnly, AddsNone, may_crash_to, adds_both}
use Rattle.common_types.specs.declared.refused.Refused.{Refused}
use Rattle.host_types.specs.declared.site_fault.SiteFault.{SiteFault}
use Rattle.host_types.specs.declared.site_fault.SiteFault.TheVariants as faults
use Rattle.page_store.specs.Pages.{Pair}
use Rattle.page_store.specs.Batch.{updated, edit_key}
use Rattle.page_store.specs.CommitCalls.{CommitsBatch, FailsToCommit}
use Rattle.page_store.specs.StoreState.{StoreState, CommitNeed, SoManyPages, TooManyLevels, StoreHasRead, NeedsTheSame, HasStayed, StoreHasFailed, StoreHasTried, MayBeDeep, IsStoreReadFault, IsCommitFault, edits_to_be_deep}
use Rattle.page_store.specs.declared.banner.Banner.{Banner}
use Rattle.page_store.specs.declared.edit.Edit.{Edit}
use Rattle.page_store.specs.declared.fault.KeeperFault.{KeeperFault}
use Rattle.page_store.specs.declared.fault.KeeperFault.TheVariants as kinds
use Rattle.site_records.specs.Layout.{layout}
use Rattle.site_pairs.specs.ChangeKeys.{keys_of_all}
use Rattle.site_store.specs.ReadLaws.{kept_after}
use Rattle.site_store.specs.Represented.{PairsShowSite, Represents, RepresentedBy, HasSite, no_site, where_passed, site_of, site_state_of, site_kept, site_is}
use Rattle.site_store.specs.PinnedItems.{AllHave}
use Rattle.site_store.specs.Lacking.{MayNeedForEdits, IsLacking}
use Rattle.site_store.specs.StoreReads.{StoreReadsOnly, IsSiteReadFault, IsQuickFault}
use Rattle.site_pairs.specs.Edits.{batch_of, edits_of}
use Rattle.change_plan.specs.Replacements.{all_replaced}
use Rattle.change_plan.specs.Plans.{planned, IsPlanFault, IfRefused}
use Rattle.change_plan.specs.AllPlans.{ShowsValid, AreMadeBy, IsPlanOfAll}
use Rattle.change_plan.specs.declared.plan.Plan.{Plan}
use Rattle.site_store.specs.StoreFault.{site_fault_of, store_site_fault_of}
use Rattle.site_store.specs.Planned.{named, banner_after}
use Rattle.site_store.specs.LookUps.{IsShown, HasFound, IsLookUpFault, HasNotFound}
use Rattle.site_store.proofs.Planned.{planned_named}
use Rattle.change_plan.specs.declared.replacement.Replacement.{Replacement}
use Rattle.site_store.specs.declared.fault.SiteOpenFault.{SiteOpenFault}
use Rattle.site_store.specs.declared.fault.SiteOpenFault.TheVariants.{BadRecord, Keeper, Memory}
use Rattle.site_store.proofs.FoundItems.{kept_sorted}
use Rattle.site_store.proofs.EditsMakeLayouts.{replacements_make}
use Rattle.site_store.proofs.ChangesMade.{all_know, all_changed_keys}
use Rattle.site_store.proofs.LocalReads.{rose_later, rose_counted}
use Rattle.site_store.proofs.PinsKept.{PinsStay, pins_stay_read, have_still, same_pins}

-- ---- calls that read

pub keeps_read : (a b : StoreState) → StoreHasRead a b → HasSite a → HasSite b
keeps_read a b read keeps honest1 =
    let honest0 : IsTrue a.honest = sym read.honest ∙ honest1 in
    ((keeps honest0).0, kept_after a b (keeps honest0).0 read honest0 (keeps honest0).1, have_still a b (pins_stay_read a b read) honest0 (keeps honest0).2)

pub pins_still : (a b : StoreState) (ka : HasSite a) (kb : HasSite b) → b.honest ≡ a.honest → PinsStay a b → (site_state_of b kb).pins ≡ (site_state_of a ka).pins
pins_still a b ka kb honest stay = same_pins a.honest b.honest a.pins b.pins (λ t. (ka t).2) (λ t. (kb t).2) honest stay.out stay.pins

pub has_read : (a b : StoreState) (ka : HasSite a) (kb : HasSite b) → StoreHasRead a b → sites.HasRead (site_state_of a ka) (site_state_of b kb)
has_read a b ka kb read = record {
  site = λ honest. site_is b kb (read.honest ∙ honest) (site_of a ka) (kept_after a b (site_of a ka) read honest (site_kept a ka honest));
  honest = read.honest;
  usable = read.same.usable;
  free = read.same.free;
  reads = read.reads;
  writes = read.writes;
  pins = pins_still a b ka kb read.honest (pins_stay_read a b read);
}

no_truth : (b : Bool) → IsTrue b → b ≡ false → ⊥
no_truth b t f = let clash : true ≡ false = sym t ∙ f in cc clash

pub read_fault_of : (may_lack_memory : Bool) (a b : StoreState) (ka : HasSite a) (kb : HasSite b) (fault : KeeperFault) → IsStoreReadFault a b fault → sites.IsReadFault may_lack_memory (site_state_of a ka) (site_state_of b kb) (store_site_fault_of fault)
read_fault_of may_lack_memory a b ka kb kinds.Device h = λ honest. rose_counted a.failed_reads b.failed_reads h
read_fault_of may_lack_memory a b ka kb kinds.NoImage h = absurd h
read_fault_of may_lack_memory a b ka kb kinds.Version h = absurd h
read_fault_of may_lack_memory a b ka kb (kinds.Damaged page) h = λ honest. absurd (no_truth a.honest honest h)
read_fault_of may_lack_memory a b ka kb kinds.Small h = absurd h
read_fault_of may_lack_memory a b ka kb kinds.Spent h = absurd h
read_fault_of may_lack_memory a b ka kb kinds.Deep h = absurd h
read_fault_of may_lack_memory a b ka kb (kinds.Full need free) h = absurd h
read_fault_of may_lack_memory a b ka kb kinds.Failed h = h
read_fault_of may_lack_memory a b ka kb kinds.Memory h = absurd h

pub read_fault_comes : (a b : StoreState) (ka : HasSite a) (kb : HasSite b) (fault : SiteOpenFault) (to_site_fault : SiteFault) → to_site_fault ≡ site_fault_of fault → IsSiteReadFault a b fault → sites.IsReadFault true (site_state_of a ka) (site_state_of b kb) to_site_fault
read_fault_comes a b ka kb fault to_site_fault is h = subst (sites.IsReadFault true (site_state_of a ka) (site_state_of b kb)) (sym is) (by fault h)
  where
    by : (fault : SiteOpenFault) → IsSiteReadFault a b fault → sites.IsReadFault true (site_state_of a ka) (site_state_of b kb) (site_fault_of fault)
    by BadRecord h = λ honest. absurd (h.1 honest (site_of a ka, site_kept a ka honest))
    by (Keeper fault) h = read_fault_of true a b ka kb fault h.0
    by Memory h = refl

pub quick_fault_comes : (a b : StoreState) (ka : HasSite a) (kb : HasSite b) (fault : SiteOpenFault) (to_site_fault : SiteFault) → to_site_fault ≡ site_fault_of fault → IsQuickFault a b fault → sites.IsReadFault false (site_state_of a ka) (site_state_of b kb) to_site_fault
quick_fault_comes a b ka kb fault to_site_fault is h = subst (sites.IsReadFault false (site_state_of a ka) (site_state_of b kb)) (sym is) (by fault h)
  where
    by : (fault : SiteOpenFault) → IsQuickFault a b fault → sites.IsReadFault false (site_state_of a ka) (site_state_of b kb) (site_fault_of fault)
    by BadRecord h = λ honest. absurd (h.1 honest (site_of a ka) (site_kept a ka honest))
    by (Keeper fault) h = read_fault_of false a b ka kb fault h.0
    by Memory h = absurd h

-- ---- what a change may lack

not_passed : (test : Bool) (site : IsTrue test → Site) → test ≡ false → where_passed test site ≡ no_site
not_passed true site h = absurd (cc h)
not_passed false site h = refl

pub site_still : (a b : StoreState) (ka : HasSite a) (kb : HasSite b) → b.honest ≡ a.honest → (IsTrue a.honest → site_of b kb ≡ site_of a ka) → site_of b kb ≡ site_of a ka
site_still a b ka kb same still = by a.honest refl
  where
    by : (test : Bool) → a.honest ≡ test → site_of b kb ≡ site_of a ka
    by true honest = still honest
    by false honest = not_passed b.honest (λ t. (kb t).0) (same ∙ honest) ∙ sym (not_passed a.honest (λ t. (ka t).0) honest)

-- a call that leaves banner and height
deep_later : (a b : StoreState) (edits : ℕ) → b.banner ≡ a.banner → b.height ≡ a.height → MayBeDeep a edits → MayBeDeep b edits
deep_later a b edits banner height deep = (subst (λ (x : Banner). 0 < x.version) (sym banner) deep.0, subst (λ (n : ℕ). edits_to_be_deep n ≤ edits) (sym height) deep.1)

lacks_later : {K : Type 0} → (store_state : K → StoreState) (may_need : K → List Edit → CommitNeed → Type 0) (k0 k1 : K) (s : Site) (changes : Changes) (fault : SiteFault) → ((batch : List Edit) (need : CommitNeed) → may_need k0 batch need → may_need k1 batch need) → (store_state k1).top ≡ (store_state k0).top → (store_state k1).banner ≡ (store_state k0).banner → (store_state k1).height ≡ (store_state k0).height
    → IsLacking store_state may_need k0 s changes fault → IsLacking store_state may_need k1 s changes fault
lacks_later store_state may_need k0 k1 s changes (faults.Refused r) need top banner height h = h
lacks_later store_state may_need k0 k1 s changes faults.Read need top banner height h = h
lacks_later store_state may_need k0 k1 s changes (faults.Full may_be_out_of_memory free) need top banner height (batch, t, applied, keys, makes, (is, needs)) = (batch, t, applied, keys, makes, (is, need batch (SoManyPages may_be_out_of_memory) needs))
lacks_later store_state may_need k0 k1 s changes faults.Spent need top banner height h = top ∙ h
lacks_later store_state may_need k0 k1 s changes faults.Deep need top banner height (many, (batch, t, applied, keys, makes, (is, needs))) =
    (deep_later (store_state k0) (store_state k1) (length (keys_of_all s changes)) banner height many, (batch, t, applied, keys, makes, (is, need batch TooManyLevels needs)))
lacks_later store_state may_need k0 k1 s changes faults.Failed need top banner height h = h
lacks_later store_state may_need k0 k1 s changes faults.Memory need top banner height h = h

-- what a change may lack stays where the site and these of the keeper do
pub lacks_still : {K : Type 0} → (store_state : K → StoreState) (may_need : K → List Edit → CommitNeed → Type 0) (k0 k1 : K) (s0 s1 : Site) → s1 ≡ s0 → NeedsTheSame (may_need k0) (may_need k1) → (store_state k1).top ≡ (store_state k0).top → (store_state k1).banner ≡ (store_state k0).banner → (store_state k1).height ≡ (store_state k0).height
    → sites.LacksTheSame (IsLacking store_state may_need k0 s0) (IsLacking store_state may_need k1 s1)
lacks_still store_state may_need k0 k1 s0 s1 still need top banner height = record {
  after = λ changes fault h. lacks_later store_state may_need k0 k1 s1 changes fault need.after top banner height (subst (λ (s : Site). IsLacking store_state may_need k0 s changes fault) (sym still) h);
  before = λ changes fault h. lacks_later store_state may_need k1 k0 s0 changes fault need.before (sym top) (sym banner) (sym height) (subst (λ (s : Site). IsLacking store_state may_need k1 s changes fault) still h);
}

-- a call that reads leaves it
pub lacks_same : {K L : Type 0} → (store_state : K → StoreState) (may_need : K → List Edit → CommitNeed → Type 0) (crash_states : K → CrashStates L) (k0 k1 : K) (ka : HasSite (store_state k0)) (kb : HasSite (store_state k1)) → StoreReadsOnly store_state may_need crash_states k0 k1
    → sites.LacksTheSame (IsLacking store_state may_need k0 (site_of (store_state k0) ka)) (IsLacking store_state may_need k1 (site_of (store_state k1) kb))
lacks_same store_state may_need crash_states k0 k1 ka kb reads_only =
    let still = site_still (store_state k0) (store_state k1) ka kb reads_only.read.honest (has_read (store_state k0) (store_state k1) ka kb reads_only.read).site in
    let same = reads_only.read.same in
    lacks_still store_state may_need k0 k1 (site_of (store_state k0) ka) (site_of (store_state k1) kb) still reads_only.need same.top same.banner same.height

-- ---- crash states

pub stands : {L : Type 0} → (has_content : L → List Pair → Banner → Type 0) (h : StoreState) (k : HasSite h) (c : L) → IsTrue h.honest → has_content c h.pairs h.banner → Represents has_content c (site_of h k)
stands has_content h k c honest content = (h.pairs, h.banner, content, site_kept h k honest)

-- a call that writes nothing leaves what one before it might have left, and that represents the site
pub none_added_crashes : {L : Type 0} → (s t : CrashStates L) (P : L → Type 0) → AddsNone s t → ((c : L) → may_crash_to s c → P c) → AddsOnly s t P
none_added_crashes s t P no_new_crash_state start = record {
  later = no_new_crash_state.later;
  keeps = no_new_crash_state.keeps;
  nothing_else = λ m c le left. ⊎_elim (λ o. inl o) (λ x. inr (start c x)) (no_new_crash_state.nothing_else m c le left);
  now = λ c left. start c (no_new_crash_state.now c left);
}

-- ---- changes

stayed : (a b : StoreState) (s : Site) → HasStayed a b → IsTrue a.honest → RepresentedBy a s → RepresentedBy b s
stayed a b s same honest kept = record {
  valid = kept.valid;
  all = same.pairs honest ∙ kept.all;
  host = ap (λ x. x.host) same.banner ∙ kept.host;
  port = ap (λ x. x.port) same.banner ∙ kept.port;
  admin = ap (λ x. x.admin) same.banner ∙ kept.admin;
  version = ap (λ x. x.version) same.banner ∙ kept.version;
}

failed : (a b : StoreState) (s : Site) → StoreHasFailed a b → IsTrue a.honest → RepresentedBy a s → RepresentedBy b s
failed a b s same honest kept = record {
  valid = kept.valid;
  all = same.pairs honest ∙ kept.all;
  host = ap (λ x. x.host) same.banner ∙ kept.host;
  port = ap (λ x. x.port) same.banner ∙ kept.port;
  admin = ap (λ x. x.admin) same.banner ∙ kept.admin;
  version = ap (λ x. x.version) same.banner ∙ kept.version;
}

pub not_changed : (a b : StoreState) (ka : HasSite a) (kb : HasSite b) → StoreHasRead a b → sites.HasNotChanged (site_state_of a ka) (site_state_of b kb)
not_changed a b ka kb read = let h = has_read a b ka kb read in record { site = h.site; usable = h.usable; free = h.free }

pub same_after : (a b c : StoreState) (ka : HasSite a) (kc : HasSite c) → StoreHasRead a b → HasStayed b c → c.honest ≡ b.honest → sites.HasNotChanged (site_state_of a ka) (site_state_of c kc)
same_after a b c ka kc read same honest_is = record {
  site = λ honest. site_is c kc (honest_is ∙ read.honest ∙ honest) (site_of a ka) (stayed b c (site_of a ka) same (read.honest ∙ honest) (kept_after a b (site_of a ka) read honest (site_kept a ka honest)));
  usable = same.usable ∙ read.same.usable;
  free = same.free ∙ read.same.free;
}

-- a change that was not planned
module _ {D K L : Type 0} (keeper : D → K) (store_state : K → StoreState) (may_need : K → List Edit → CommitNeed → Type 0) (crash_states : K → CrashStates L) where
  abbrev PlanFault : D → D → (Site → Result Site Refused) → SiteFault → Type 0
  PlanFault d0 d1 applied fault = IsPlanFault (ShowsValid (λ d. IsShown store_state (keeper d))) (λ a b. HasNotFound store_state may_need crash_states (keeper a) (keeper b)) d0 d1 applied fault

  pub plan_reads_only : (d0 d1 : D) (applied : Site → Result Site Refused) (fault : SiteFault) → PlanFault d0 d1 applied fault → IfRefused fault (HasFound store_state may_need crash_states (keeper d0) (keeper d1)) → StoreReadsOnly store_state may_need crash_states (keeper d0) (keeper d1)
  plan_reads_only d0 d1 applied (faults.Refused r) h found = found.reads_only
  plan_reads_only d0 d1 applied faults.Read h found = h.reads_only
  plan_reads_only d0 d1 applied (faults.Full need free) h found = h.reads_only
  plan_reads_only d0 d1 applied faults.Spent h found = h.reads_only
  plan_reads_only d0 d1 applied faults.Deep h found = h.reads_only
  plan_reads_only d0 d1 applied faults.Failed h found = h.reads_only
  plan_reads_only d0 d1 applied faults.Memory h found = h.reads_only

  pub plan_fault_comes : (lacks : SiteFault → Type 0) (d0 d1 : D) (ka : HasSite (store_state (keeper d0))) (kb : HasSite (store_state (keeper d1))) (changes : Changes) (fault : SiteFault) → StoreHasRead (store_state (keeper d0)) (store_state (keeper d1)) → (store_state (keeper d0)).usable ≡ true
      → PlanFault d0 d1 (λ s. one_refusal (all_applied s changes)) fault → sites.IsChangeFault lacks (site_state_of (store_state (keeper d0)) ka) (site_state_of (store_state (keeper d1)) kb) (one_refusal (all_applied (site_of (store_state (keeper d0)) ka) changes)) fault
  plan_fault_comes lacks d0 d1 ka kb changes (faults.Refused r) read up h =
      let a = store_state (keeper d0) in
      (not_changed a (store_state (keeper d1)) ka kb read, λ honest. let kept = site_kept a ka honest in h (site_of a ka) ((honest, kept), kept.valid))
  plan_fault_comes lacks d0 d1 ka kb changes faults.Read read up h =
      let a = store_state (keeper d0) in
      (not_changed a (store_state (keeper d1)) ka kb read, λ honest. rose_counted a.failed_reads (store_state (keeper d1)).failed_reads (h.cause honest (site_of a ka) (site_kept a ka honest)))
  plan_fault_comes lacks d0 d1 ka kb changes (faults.Full need free) read up h = absurd h.cause
  plan_fault_comes lacks d0 d1 ka kb changes faults.Spent read up h = absurd h.cause
  plan_fault_comes lacks d0 d1 ka kb changes faults.Deep read up h = absurd h.cause
  plan_fault_comes lacks d0 d1 ka kb changes faults.Failed read up h = absurd (no_truth (store_state (keeper d0)).usable up h.cause)
  plan_fault_comes lacks d0 d1 ka kb changes faults.Memory read up h = not_changed (store_state (keeper d0)) (store_state (keeper d1)) ka kb read

-- the site that a change makes of the one that is kept
pub record Makes (a b : StoreState) (ka : HasSite a) (changes : Changes) (replacements : List Replacement) (banner : Banner) : Type 0 where
  pub site : Site
  pub applied : all_applied (site_of a ka) changes ≡ Ok site
  pub keys : map edit_key (batch_of (edits_of replacements)) ≡ keys_of_all (site_of a ka) changes
  pub shows : PairsShowSite (updated b.pairs (batch_of (edits_of replacements))) banner site
  pub before : RepresentedBy b (site_of a ka)

same_layout : (s : Site) (banner : Banner) → layout s ≡ layout (named s banner)
unfolding layout
same_layout s banner = refl

pub after_version : (b : Banner) (host : Option (List ℕ × ℕ)) (admin : Option (List ℕ)) → (banner_after b host admin).version ≡ b.version
after_version b None None = refl
after_version b (Some name) None = refl
after_version b None (Some admin) = refl
after_version b (Some name) (Some admin) = refl

-- by a plan that was found
pub plan_makes : (a b : StoreState) (ka : HasSite a) (changes : Changes) (p : Plan) (replacements : List Replacement) (banner : Banner) → replacements ≡ p.replacements.items → banner ≡ banner_after b.banner p.host p.admin → StoreHasRead a b
    → ((s : Site) → (IsTrue a.honest × RepresentedBy a s) × ∥ IsSite s ∥₁ → IsPlanOfAll s changes p) → IsTrue a.honest → Makes a b ka changes replacements banner
plan_makes a b ka changes p replacements banner all name read plan honest =
    let s = site_of a ka in
    let kept = site_kept a ka honest in
    let before = kept_after a b s read honest kept in
    let found = plan s ((honest, kept), kept.valid) in
    let version : banner.version ≡ 2 = ap (λ (x : Banner). x.version) name ∙ after_version b.banner p.host p.admin ∙ before.version in
    let t = named (all_replaced s replacements) banner in
    let same : planned s p ≡ t =
    planned_named b s p before
    ∙ ap (λ (l : List Replacement). named (all_replaced s l) (banner_after b.banner p.host p.admin)) (sym all)
    ∙ ap (λ (x : Banner). named (all_replaced s replacements) x) (sym name) in
    let made : AreMadeBy s changes replacements (planned s p) = subst (λ (l : List Replacement). AreMadeBy s changes l (planned s p)) (sym all) found.made in
    record {
      site = t;
      applied = found.makes ∙ ap (λ (x : Site). Ok x) same;
      keys = all_changed_keys s (planned s p) changes replacements (kept_sorted s before.valid) made;
      shows = record {
        valid = subst (λ (x : Site). ∥ IsSite x ∥₁) same found.valid;
        all = replacements_make b.pairs s replacements (kept_sorted s before.valid) before.all (all_know changes replacements s (planned s p) made) ∙ same_layout (all_replaced s replacements) banner;
        host = refl;
        port = refl;
        admin = refl;
        version = version;
      };
      before = before;
    }

pub kept_made : (a b c : StoreState) (ka : HasSite a) (changes : Changes) (replacements : List Replacement) (banner : Banner) → (m : Makes a b ka changes replacements banner) → c.pairs ≡ updated b.pairs (batch_of (edits_of replacements)) → c.banner ≡ banner → RepresentedBy c m.site
kept_made a b c ka changes replacements banner m pairs named = record {
  valid = m.shows.valid;
  all = pairs ∙ m.shows.all;
  host = ap (λ x. x.host) named ∙ m.shows.host;
  port = ap (λ x. x.port) named ∙ m.shows.port;
  admin = ap (λ x. x.admin) named ∙ m.shows.admin;
  version = ap (λ x. x.version) named ∙ m.shows.version;
}

pub done_made : (a b c : StoreState) (ka : HasSite a) (kc : HasSite c) (changes : Changes) (replacements : List Replacement) (banner : Banner) → (m : Makes a b ka changes replacements banner) → IsTrue c.honest → c.pairs ≡ updated b.pairs (batch_of (edits_of replacements)) → c.banner ≡ banner
    → all_applied (site_of a ka) changes ≡ Ok (site_of c kc)
done_made a b c ka kc changes replacements banner m honest pairs named = m.applied ∙ ap (λ (t : Site). Ok t) (sym (site_is c kc honest m.site (kept_made a b c ka changes replacements banner m pairs named)))

is_ok : (r : Result Site (ℕ × Refused)) (t : Site) → r ≡ Ok t → IsOk (one_refusal r)
is_ok (Ok x) t e = refl
is_ok (Err x) t e = absurd (cc e)

-- a change that was not written
pub commit_fault_comes : {K : Type 0} → (store_state : K → StoreState) (may_need : K → List Edit → CommitNeed → Type 0) (k0 k1 k2 : K) (ka : HasSite (store_state k0)) (kc : HasSite (store_state k2)) (changes : Changes) (replacements : List Replacement) (banner : Banner) (fault : KeeperFault)
    → StoreHasRead (store_state k0) (store_state k1) → NeedsTheSame (may_need k0) (may_need k1) → StoreHasTried (store_state k1) (store_state k2) → (store_state k1).usable ≡ true → (IsTrue (store_state k0).honest → Makes (store_state k0) (store_state k1) ka changes replacements banner)
    → IsCommitFault (store_state k1) (store_state k2) (length (batch_of (edits_of replacements))) (MayNeedForEdits may_need k1 (batch_of (edits_of replacements))) fault
    → sites.IsChangeFault (IsLacking store_state may_need k0 (site_of (store_state k0) ka) changes) (site_state_of (store_state k0) ka) (site_state_of (store_state k2) kc) (one_refusal (all_applied (site_of (store_state k0) ka) changes)) (store_site_fault_of fault)
commit_fault_comes store_state may_need k0 k1 k2 ka kc changes replacements banner kinds.Device read need tried up m h =
    (same_after (store_state k0) (store_state k1) (store_state k2) ka kc read h.0 tried.honest, λ honest. rose_later (store_state k0).failed_reads (store_state k1).failed_reads (store_state k2).failed_reads read.reads tried.reads (rose_counted (store_state k1).failed_reads (store_state k2).failed_reads h.1))
commit_fault_comes store_state may_need k0 k1 k2 ka kc changes replacements banner kinds.NoImage read need tried up m h = absurd h
commit_fault_comes store_state may_need k0 k1 k2 ka kc changes replacements banner kinds.Version read need tried up m h = absurd h
commit_fault_comes store_state may_need k0 k1 k2 ka kc changes replacements banner (kinds.Damaged page) read need tried up m h =
    (same_after (store_state k0) (store_state k1) (store_state k2) ka kc read h.0 tried.honest, λ honest. absurd (no_truth (store_state k1).honest (read.honest ∙ honest) h.1))
commit_fault_comes store_state may_need k0 k1 k2 ka kc changes replacements banner kinds.Small read need tried up m h = absurd h
commit_fault_comes store_state may_need k0 k1 k2 ka kc changes replacements banner kinds.Spent read need tried up m h =
    (same_after (store_state k0) (store_state k1) (store_state k2) ka kc read h.0 tried.honest, λ honest. (is_ok (all_applied (site_of (store_state k0) ka) changes) (m honest).site (m honest).applied, sym read.same.top ∙ h.1))
commit_fault_comes store_state may_need k0 k1 k2 ka kc changes replacements banner kinds.Deep read need tried up m h = (
  same_after (store_state k0) (store_state k1) (store_state k2) ka kc read h.0 tried.honest,
  λ honest.
      let made = m honest in
      let deep = h.1 (read.honest ∙ honest) in
      let batch = batch_of (edits_of replacements) in
      let many : length batch ≡ length (keys_of_all (site_of (store_state k0) ka) changes) = sym (length-map batch edit_key) ∙ ap (λ (keys : List (List ℕ)). length keys) made.keys in (
        is_ok (all_applied (site_of (store_state k0) ka) changes) made.site made.applied,
        (
          subst (λ (n : ℕ). MayBeDeep (store_state k0) n) many (deep_later (store_state k1) (store_state k0) (length batch) (sym read.same.banner) (sym read.same.height) deep.0),
          (batch, made.site, made.applied, made.keys, ap (λ (ps : List Pair). updated ps batch) (sym made.before.all) ∙ made.shows.all, (deep.1.0, need.before batch TooManyLevels deep.1.1)),
        ),
      ),
)
commit_fault_comes store_state may_need k0 k1 k2 ka kc changes replacements banner (kinds.Full may_be_out_of_memory free) read need tried up m h = (
  same_after (store_state k0) (store_state k1) (store_state k2) ka kc read h.0 tried.honest,
  (h.1 ∙ read.same.free, h.2),
  λ honest.
      let made = m honest in
      let room = h.3 (read.honest ∙ honest) in (
        is_ok (all_applied (site_of (store_state k0) ka) changes) made.site made.applied,
        (
          batch_of (edits_of replacements),
          made.site,
          made.applied,
          made.keys,
          ap (λ (ps : List Pair). updated ps (batch_of (edits_of replacements))) (sym made.before.all) ∙ made.shows.all,
          (room.0, need.before (batch_of (edits_of replacements)) (SoManyPages may_be_out_of_memory) room.1),
        ),
      ),
)
commit_fault_comes store_state may_need k0 k1 k2 ka kc changes replacements banner kinds.Failed read need tried up m h =
    record {
      site = λ honest. site_is (store_state k2) kc (tried.honest ∙ read.honest ∙ honest) (site_of (store_state k0) ka) (failed (store_state k1) (store_state k2) (site_of (store_state k0) ka) h (read.honest ∙ honest) (kept_after (store_state k0) (store_state k1) (site_of (store_state k0) ka) read honest (site_kept (store_state k0) ka honest)));
      shut = h.shut;
      free = h.free ∙ read.same.free;
      cause = λ honest usable. subst (λ (n : ℕ). Rose n (store_state k2).failed_writes) read.writes (rose_counted (store_state k1).failed_writes (store_state k2).failed_writes (h.cause up));
      right = λ honest usable. is_ok (all_applied (site_of (store_state k0) ka) changes) (m honest).site (m honest).applied;
    }
commit_fault_comes store_state may_need k0 k1 k2 ka kc changes replacements banner kinds.Memory read need tried up m h = same_after (store_state k0) (store_state k1) (store_state k2) ka kc read h tried.honest

-- ---- faults of several changes

one_of_at : (place : ℕ) (fault : SiteFault) → one_fault (fault_at place fault) ≡ fault
one_of_at place (faults.Refused r) = refl
one_of_at place faults.Read = refl
one_of_at place (faults.Full need free) = refl
one_of_at place faults.Spent = refl
one_of_at place faults.Deep = refl
one_of_at place faults.Failed = refl
one_of_at place faults.Memory = refl

not_refused : (fault : KeeperFault) (place n : ℕ) (r : Refused) → fault_at place (store_site_fault_of fault) ≡ RefusedAt n r → ⊥
not_refused kinds.Device place n r told = cc told
not_refused kinds.NoImage place n r told = cc told
not_refused kinds.Version place n r told = cc told
not_refused (kinds.Damaged page) place n r told = cc told
not_refused kinds.Small place n r told = cc told
not_refused kinds.Spent place n r told = cc told
not_refused kinds.Deep place n r told = cc told
not_refused (kinds.Full need free) place n r told = cc told
not_refused kinds.Failed place n r told = cc told
not_refused kinds.Memory place n r told = cc told

-- a fault of the one commit of several changes
pub commit_fault_of_all : (lacks : SiteFault → Type 0) (old new : SiteState) (applied : Result Site (ℕ × Refused)) (place : ℕ) (fault : KeeperFault) → sites.IsChangeFault lacks old new (one_refusal applied) (store_site_fault_of fault) → IsChangesFault lacks old new applied (fault_at place (store_site_fault_of fault))
commit_fault_of_all lacks old new applied place fault h = record {
  cause = subst (sites.IsChangeFault lacks old new (one_refusal applied)) (sym (one_of_at place (store_site_fault_of fault))) h;
  place = λ n refused told honest. absurd (not_refused fault place n refused told);
}

pub one_commit_fault : (place : ℕ) (fault : KeeperFault) → one_fault (fault_at place (store_site_fault_of fault)) ≡ store_site_fault_of fault
one_commit_fault place fault = one_of_at place (store_site_fault_of fault)

-- ---- banners

pub after_port : (b : Banner) (host : Option (List ℕ × ℕ)) (admin : Option (List ℕ)) → 0 < b.port → IfSome host (λ name. 0 < name.1) → 0 < (banner_after b host admin).port
after_port b None None h given = h
after_port b (Some name) None h given = given
after_port b None (Some admin) h given = h
after_port b (Some name) (Some admin) h given = given

-- ---- what a commit leaves

err_kept : (b c : StoreState) (edits : ℕ) (may_need : CommitNeed → Type 0) (fault : KeeperFault) (s : Site) → IsCommitFault b c edits may_need fault → IsTrue b.honest → RepresentedBy b s → RepresentedBy c s
err_kept b c edits may_need kinds.Device s h honest kept = stayed b c s h.0 honest kept
err_kept b c edits may_need kinds.NoImage s h honest kept = absurd h
err_kept b c edits may_need kinds.Version s h honest kept = absurd h
err_kept b c edits may_need (kinds.Damaged page) s h honest kept = stayed b c s h.0 honest kept
err_kept b c edits may_need kinds.Small s h honest kept = absurd h
err_kept b c edits may_need kinds.Spent s h honest kept = stayed b c s h.0 honest kept
err_kept b c edits may_need kinds.Deep s h honest kept = stayed b c s h.0 honest kept
err_kept b c edits may_need (kinds.Full need free) s h honest kept = stayed b c s h.0 honest kept
err_kept b c edits may_need kinds.Failed s h honest kept = failed b c s h honest kept
err_kept b c edits may_need kinds.Memory s h honest kept = stayed b c s h honest kept

err_banner : (b c : StoreState) (edits : ℕ) (may_need : CommitNeed → Type 0) (fault : KeeperFault) → IsCommitFault b c edits may_need fault → c.banner ≡ b.banner
err_banner b c edits may_need kinds.Device h = h.0.banner
err_banner b c edits may_need kinds.NoImage h = absurd h
err_banner b c edits may_need kinds.Version h = absurd h
err_banner b c edits may_need (kinds.Damaged page) h = h.0.banner
err_banner b c edits may_need kinds.Small h = absurd h
err_banner b c edits may_need kinds.Spent h = h.0.banner
err_banner b c edits may_need kinds.Deep h = h.0.banner
err_banner b c edits may_need (kinds.Full need free) h = h.0.banner
err_banner b c edits may_need kinds.Failed h = h.banner
err_banner b c edits may_need kinds.Memory h = h.banner

have_twice : (a b c : StoreState) → HasSite a → StoreHasRead a b → PinsStay b c → IsTrue b.honest → AllHave c.pins
have_twice a b c ka read stay honest = let keeps = keeps_read a b read ka in have_still b c stay honest (keeps honest).2

pub keeps_written : {U : Type 0} → (r : Result U KeeperFault) (a b c : StoreState) (ka : HasSite a) (changes : Changes) (replacements : List Replacement) (banner : Banner) (edits : ℕ) (may_need : CommitNeed → Type 0) (needs now : List Edit → CommitNeed → Type 0) → StoreHasRead a b → c.honest ≡ b.honest → PinsStay b c
    → (IsTrue a.honest → Makes a b ka changes replacements banner) → OnOk r (CommitsBatch b c (batch_of (edits_of replacements)) banner may_need) → IfErr r (FailsToCommit b c edits may_need needs now) → HasSite c
keeps_written (Ok u) a b c ka changes replacements banner edits may_need needs now read same stay m done fault honest2 =
    let honest1 : IsTrue b.honest = sym same ∙ honest2 in
    let made = m (sym read.honest ∙ honest1) in
    (made.site, kept_made a b c ka changes replacements banner made (done.done honest1) done.banner, have_twice a b c ka read stay honest1)
keeps_written (Err e) a b c ka changes replacements banner edits may_need needs now read same stay m done fault honest2 =
    let honest1 : IsTrue b.honest = sym same ∙ honest2 in
    let made = m (sym read.honest ∙ honest1) in
    (site_of a ka, err_kept b c edits may_need e (site_of a ka) fault.cause honest1 made.before, have_twice a b c ka read stay honest1)

-- what a change leaves that was tried
pub has_tried : (a b c : StoreState) (ka : HasSite a) (kc : HasSite c) → StoreHasRead a b → StoreHasTried b c → PinsStay b c → sites.HasTried (site_state_of a ka) (site_state_of c kc)
has_tried a b c ka kc read tried stay =
    let kb = keeps_read a b read ka in
    record {
      honest = tried.honest ∙ read.honest;
      reads = omega (arith, read.reads, tried.reads);
      writes = omega (arith, read.writes, tried.writes);
      pins = pins_still b c kb kc tried.honest stay ∙ pins_still a b ka kb read.honest (pins_stay_read a b read);
    }

pub has_tried_reading : (a b : StoreState) (ka : HasSite a) (kb : HasSite b) → StoreHasRead a b → sites.HasTried (site_state_of a ka) (site_state_of b kb)
has_tried_reading a b ka kb read = record { honest = read.honest; reads = read.reads; writes = omega (arith, read.writes); pins = pins_still a b ka kb read.honest (pins_stay_read a b read) }

pub port_written : {U : Type 0} → (r : Result U KeeperFault) (a b c : StoreState) (batch : List Edit) (banner : Banner) (edits : ℕ) (may_need : CommitNeed → Type 0) (needs now : List Edit → CommitNeed → Type 0) → StoreHasRead a b → 0 < a.banner.port → 0 < banner.port
    → OnOk r (CommitsBatch b c batch banner may_need) → IfErr r (FailsToCommit b c edits may_need needs now) → 0 < c.banner.port
port_written (Ok u) a b c batch banner edits may_need needs now read old new done fault = subst (λ (x : Banner). 0 < x.port) (sym done.banner) new
port_written (Err e) a b c batch banner edits may_need needs now read old new done fault = subst (λ (x : Banner). 0 < x.port) (sym (err_banner b c edits may_need e fault.cause ∙ read.same.banner)) old

-- what a crash within a change may leave
abbrev pub EitherSite : {L R : Type 0} → (L → List Pair → Banner → Type 0) → Site → Result Site R → L → Type 0
EitherSite has_content s applied c = Represents has_content c s ⊎ ((t : Site) × (applied ≡ Ok t) × Represents has_content c t)

pub none_at_crash : {L R : Type 0} → (has_content : L → List Pair → Banner → Type 0) (a : StoreState) (ka : HasSite a) (applied : Result Site R) (s t : CrashStates L) → IsTrue a.honest → AddsNone s t → ((c : L) → may_crash_to s c → has_content c a.pairs a.banner) → AddsOnly s t (EitherSite has_content (site_of a ka) applied)
none_at_crash has_content a ka applied s t honest no_new_crash_state start = none_added_crashes s t (EitherSite has_content (site_of a ka) applied) no_new_crash_state (λ c left. inl (stands has_content a ka c honest (start c left)))

pub crash_states_made : {L : Type 0} → (has_content : L → List Pair → Banner → Type 0) (a b : StoreState) (ka : HasSite a) (changes : Changes) (replacements : List Replacement) (banner : Banner) (s0 s1 s2 : CrashStates L) → IsTrue a.honest → AddsNone s0 s1
    → ((c : L) → may_crash_to s0 c → has_content c a.pairs a.banner) → (m : Makes a b ka changes replacements banner)
    → AddsOnly s1 s2 (λ c. has_content c b.pairs b.banner ⊎ has_content c (updated b.pairs (batch_of (edits_of replacements))) banner)
    → AddsOnly s0 s2 (EitherSite has_content (site_of a ka) (all_applied (site_of a ka) changes))
crash_states_made has_content a b ka changes replacements banner s0 s1 s2 honest no_new_crash_state start m written =
    let P = EitherSite has_content (site_of a ka) (all_applied (site_of a ka) changes) in
    adds_both s0 s1 s2 (may_crash_to s0) (λ c. has_content c b.pairs b.banner ⊎ has_content c (updated b.pairs (batch_of (edits_of replacements))) banner) P no_new_crash_state written
    (λ c left. inl (stands has_content a ka c honest (start c left)))
    (λ c left. ⊎_elim (λ x. inl (b.pairs, b.banner, x, m.before)) (λ x. inr (m.site, m.applied, (updated b.pairs (batch_of (edits_of replacements)), banner, x, m.shows))) left)

-- ---- one change as several

one_made : (r : Result Site Refused) (t : Site) → then_at 0 (λ x. Ok x) r ≡ Ok t → r ≡ Ok t
one_made (Ok s) t h = ap (λ (x : Site). Ok x) (cc h)
one_made (Err refused) t h = absurd (cc h)

alone : {L : Type 0} → (has_content : L → List Pair → Banner → Type 0) (s : Site) (change : Change) (now : ℕ) (changes : Changes) → changes ≡ (change, now) ∷ [] → (c : L) → EitherSite has_content s (all_applied s changes) c → EitherSite has_content s (apply s change now) c
alone has_content s change now changes is c either = ⊎_elim (λ x. inl x) (λ made. inr (made.0, one_made (apply s change now) made.0 (ap (all_applied s) (sym is) ∙ made.1), made.2)) either

-- what a crash within one change may leave that is made alone
pub alone_at_crash : {L : Type 0} → (has_content : L → List Pair → Banner → Type 0) (s : Site) (change : Change) (now : ℕ) (changes : Changes) (states new : CrashStates L) → changes ≡ (change, now) ∷ [] → AddsOnly states new (EitherSite has_content s (all_applied s changes)) → AddsOnly states new (EitherSite has_content s (apply s change now))
alone_at_crash has_content s change now changes states new is h =
    record {
      later = h.later;
      keeps = h.keeps;
      nothing_else = λ m c le left. ⊎_elim (λ o. inl o) (λ x. inr (alone has_content s change now changes is c x)) (h.nothing_else m c le left);
      now = λ c left. alone has_content s change now changes is c (h.now c left);
    }

-- ---- look-ups for a plan

-- a fault of reading what is kept, as one of a look-up
pub look_up_failed : (a b : StoreState) (fault : SiteOpenFault) (to_site_fault : SiteFault) → to_site_fault ≡ site_fault_of fault → IsSiteReadFault a b fault → IsLookUpFault a b to_site_fault
look_up_failed a b fault to_site_fault is h = subst (IsLookUpFault a b) (sym is) (by fault h)
  where
    by_keeper : (fault : KeeperFault) → IsStoreReadFault a b fault → IsLookUpFault a b (store_site_fault_of fault)
    by_keeper kinds.Device h = λ honest s kept. h
    by_keeper kinds.NoImage h = absurd h
    by_keeper kinds.Version h = absurd h
    by_keeper (kinds.Damaged page) h = λ honest s kept. absurd (no_truth a.honest honest h)
    by_keeper kinds.Small h = absurd h
    by_keeper kinds.Spent h = h
    by_keeper kinds.Deep h = h
    by_keeper (kinds.Full need free) h = h
    by_keeper kinds.Failed h = h
    by_keeper kinds.Memory h = absurd h

    by : (fault : SiteOpenFault) → IsSiteReadFault a b fault → IsLookUpFault a b (site_fault_of fault)
    by BadRecord h = λ honest s kept. absurd (h.1 honest (s, kept))
    by (Keeper fault) h = by_keeper fault h.0
    by Memory h = h
