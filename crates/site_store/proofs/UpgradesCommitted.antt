-- What an upgrade answers, and what it leaves.
use Rattle.std.proofs.Common.{◌≤◌, ◌≡◌, ◌⊎◌, ◌<◌, ◌+◌, ◌/◌, ℕ, Bool, true, false, List, length, inl, inr, ⊎_elim, refl, sym, ap, subst, ◌∙◌}
use Rattle.std.specs.Prelude.{IsTrue, Vec, Result, Ok, Err, IfOk}
use mathlib.Core.Logic.{∥∥₁_elim}
use Rattle.common_types.specs.Counts.{counted}
use Rattle.common_types.specs.CrashStates.{CrashStates, AddsOnly, AddsNone, adds_both, may_crash_to}
use Rattle.host_types.specs.Site.{Site}
use Rattle.page_store.specs.Work.{WritesAtMost, nothing_then, nothing_at_most, writes_behind}
use Rattle.page_store.specs.Batch.{updated}
use Rattle.page_store.specs.Counting.{reads_after, writes_after}
use Rattle.page_store.specs.Pages.{Pair}
use Rattle.page_store.specs.StoreState.{numbers_out, StoreState, CommitNeed, SoManyPages, TooManyLevels, StoreHasRead, HasStayed, StoreHasFailed, StoreHasTried, NeedsTheSame, IsCommitFault, MayBeDeep, edits_to_be_deep}
use Rattle.page_store.specs.declared.banner.Banner.{Banner}
use Rattle.page_store.specs.declared.edit.Edit.{Edit}
use Rattle.page_store.specs.declared.fault.KeeperFault.{KeeperFault}
use Rattle.page_store.specs.declared.fault.KeeperFault.TheVariants as kinds
use Rattle.site_records.specs.Layout.{Pairs, layout}
use Rattle.site_store.proofs.PinsKept.{fault_pins}
use Rattle.site_store.proofs.RaisedPairs.{raises}
use Rattle.site_store.proofs.StoreAsSite.{none_added_crashes}
use Rattle.site_store.proofs.Upgrades.{shown_raised, makes_layout, one_for_each}
use Rattle.site_store.specs.Represented.{PairsShowSite, Represents, RepresentedBy, same_site, site_set}
use Rattle.site_store.specs.StoreReads.{NoneFailed, IsCountedFault}
use Rattle.site_store.specs.Upgrading.{AreRaised, ShowsFirst, FirstBy, RepresentsFirst, RepresentsEitherVersion, raised_banner, upgrade_batch, IsUpgradeOf, IsFirstReadFault, IsFirstWhole, IsUpgradeFault, IsUpgraded, IsNotUpgraded, commit_fault, reads_counted, writes_counted}
use Rattle.site_store.specs.declared.fault.SiteOpenFault.{SiteOpenFault}
use Rattle.site_store.specs.declared.fault.SiteOpenFault.TheVariants.{BadRecord, Keeper, Memory}

-- Pairs and a banner represent at most one site in version 1.
pub same_first : (pairs : List Pair) (banner : Banner) (s t : Site) → ShowsFirst pairs banner s → ShowsFirst pairs banner t → s ≡ t
same_first pairs banner s t first other =
    ∥∥₁_elim first.valid (site_set s t) (λ site.
    let are : AreRaised pairs (layout s) = subst (λ (ps : Pairs). AreRaised ps (layout s)) (sym first.all) (raises s site first.known) in
    same_site (layout s) (raised_banner banner) s t (shown_raised pairs (layout s) banner s are first) (shown_raised pairs (layout s) banner t are other))

-- what a site of version 1 was read of, where as many pairs were read as are counted
pub first_whole : (h : StoreState) (pairs : List Pair) (banner : Banner) (batch : List Edit) → banner ≡ h.banner → length pairs ≡ h.keys → IsUpgradeOf pairs banner batch → IsFirstWhole h (length batch)
first_whole h pairs banner batch is counted u = record {
  pairs = pairs;
  site = u.0;
  shows = subst (λ (b : Banner). ShowsFirst pairs b u.0) is u.1;
  counted = counted;
  items = ap length u.2 ∙ one_for_each u.0 u.1.valid;
}

pub upgrade_whole : {A : Type 0} (result : Result (Vec Edit A) SiteOpenFault) (h : StoreState) (pairs : List Pair) (banner : Banner) → banner ≡ h.banner → length pairs ≡ h.keys → IfOk result (λ batch. IsUpgradeOf pairs banner batch.items) → IfOk result (λ batch. IsFirstWhole h (length batch.items))
upgrade_whole (Ok batch) h pairs banner is counted u = first_whole h pairs banner batch.items is counted u
upgrade_whole (Err fault) h pairs banner is counted u = tt

-- ---- refused before the commit

not_shut : (b : Bool) → b ≡ true → b ≡ false → ⊥
not_shut b up shut = let clash : true ≡ false = sym up ∙ shut in absurd (cc clash)

uncounted : (usable : Bool) (fault : KeeperFault) (old new : ℕ) → usable ≡ true → (fault ≡ kinds.Failed → ⊥) → new ≡ old → new ≡ writes_after usable fault old
uncounted false fault old new up other same = absurd (cc up)
uncounted true kinds.Device old new up other same = same
uncounted true kinds.NoImage old new up other same = same
uncounted true kinds.Version old new up other same = same
uncounted true (kinds.Damaged page) old new up other same = same
uncounted true kinds.Small old new up other same = same
uncounted true kinds.Spent old new up other same = same
uncounted true kinds.Deep old new up other same = same
uncounted true (kinds.Full need free) old new up other same = same
uncounted true kinds.Failed old new up other same = absurd (other refl)
uncounted true kinds.Memory old new up other same = same

module _ (a b : StoreState) (may_need : List Edit → CommitNeed → Type 0) (up : a.usable ≡ true) (read : StoreHasRead a b) where
  keeper_refused : (fault : KeeperFault) → IsCountedFault a b fault → IsNotUpgraded a b may_need (Keeper fault)
  keeper_refused kinds.Device h = record { cause = read.same; honest = read.honest; reads = h.1; writes = uncounted a.usable kinds.Device a.failed_writes b.failed_writes up (λ is. absurd (cc is)) read.writes; out = read.same.out; calls = nothing_at_most read.same.calls a.free }
  keeper_refused kinds.NoImage h = absurd h.0
  keeper_refused kinds.Version h = absurd h.0
  keeper_refused (kinds.Damaged page) h = record { cause = (read.same, h.0); honest = read.honest; reads = h.1; writes = uncounted a.usable (kinds.Damaged page) a.failed_writes b.failed_writes up (λ is. absurd (cc is)) read.writes; out = read.same.out; calls = nothing_at_most read.same.calls a.free }
  keeper_refused kinds.Small h = absurd h.0
  keeper_refused kinds.Spent h = absurd h.0
  keeper_refused kinds.Deep h = absurd h.0
  keeper_refused (kinds.Full need free) h = absurd h.0
  keeper_refused kinds.Failed h = absurd (not_shut a.usable up h.0)
  keeper_refused kinds.Memory h = absurd h.0

  pub not_read : (fault : SiteOpenFault) → IsFirstReadFault a b fault → IsNotUpgraded a b may_need fault
  not_read BadRecord h = record { cause = (read.same, λ honest s first. h.1 honest (s, first)); honest = read.honest; reads = h.0; writes = read.writes; out = read.same.out; calls = nothing_at_most read.same.calls a.free }
  not_read (Keeper fault) h = keeper_refused fault h
  not_read Memory h = record { cause = read.same; honest = read.honest; reads = h; writes = read.writes; out = read.same.out; calls = nothing_at_most read.same.calls a.free }

-- ---- the commit

stay_on : (a b c : StoreState) → StoreHasRead a b → HasStayed b c → HasStayed a c
stay_on a b c x y = record {
  pairs = λ honest. y.pairs (x.honest ∙ honest) ∙ x.same.pairs honest;
  banner = y.banner ∙ x.same.banner;
  usable = y.usable ∙ x.same.usable;
  generation = y.generation ∙ x.same.generation;
  top = y.top ∙ x.same.top;
  free = y.free ∙ x.same.free;
  height = y.height ∙ x.same.height;
  keys = y.keys ∙ x.same.keys;
  out = y.out ∙ x.same.out;
  pins = λ honest. y.pins (x.honest ∙ honest) ∙ x.same.pins honest;
  calls = nothing_then x.same.calls y.calls;
}

fail_on : (a b c : StoreState) → StoreHasRead a b → StoreHasFailed b c → StoreHasFailed a c
fail_on a b c x y = record {
  pairs = λ honest. y.pairs (x.honest ∙ honest) ∙ x.same.pairs honest;
  banner = y.banner ∙ x.same.banner;
  shut = y.shut;
  generation = y.generation ∙ x.same.generation;
  free = y.free ∙ x.same.free;
  height = y.height ∙ x.same.height;
  keys = y.keys ∙ x.same.keys;
  out = y.out ∙ x.same.out;
  pins = λ honest. y.pins (x.honest ∙ honest) ∙ x.same.pins honest;
  cause = λ up. y.cause (x.same.usable ∙ up) ∙ ap counted x.writes;
  top = ⊎_elim (λ t. inl (t ∙ x.same.top)) (λ t. inr (t ∙ ap (λ (n : ℕ). n + 1) x.same.top)) y.top;
}

module _ (a b c : StoreState) (need_a need_b : List Edit → CommitNeed → Type 0) (batch : List Edit) (read : StoreHasRead a b) (none : NoneFailed a b) (needs : NeedsTheSame need_a need_b) (upgrade : IsTrue a.honest → IsUpgradeOf a.pairs a.banner batch) where
  deep : IsTrue a.honest → MayBeDeep b (length batch) × need_b batch TooManyLevels → (s : Site) × FirstBy a s × MayBeDeep a (length s.items) × need_a (upgrade_batch s) TooManyLevels
  deep honest h =
      let u = upgrade honest in
      let count : length batch ≡ length u.0.items = ap length u.2 ∙ one_for_each u.0 u.1.valid in (
        u.0,
        u.1,
        (
          subst (λ (x : Banner). 0 < x.version) read.same.banner h.0.0,
          subst (λ (n : ℕ). edits_to_be_deep a.height ≤ n) count (subst (λ (n : ℕ). edits_to_be_deep n ≤ length batch) read.same.height h.0.1),
        ),
        subst (λ (x : List Edit). need_a x TooManyLevels) u.2 (needs.before batch TooManyLevels h.1),
      )

  full : (need : ℕ) → IsTrue a.honest → need_b batch (SoManyPages need) → (s : Site) × FirstBy a s × need_a (upgrade_batch s) (SoManyPages need)
  full need honest h =
      let u = upgrade honest in
      (u.0, u.1, subst (λ (x : List Edit). need_a x (SoManyPages need)) u.2 (needs.before batch (SoManyPages need) h))

  commit_cause : (fault : KeeperFault) → IsCommitFault b c (length batch) (need_b batch) fault → IsUpgradeFault a c need_a (commit_fault fault)
  commit_cause kinds.Device h = stay_on a b c read h.0
  commit_cause kinds.NoImage h = absurd h
  commit_cause kinds.Version h = absurd h
  commit_cause (kinds.Damaged page) h = (stay_on a b c read h.0, sym read.honest ∙ h.1)
  commit_cause kinds.Small h = absurd h
  commit_cause kinds.Spent h = (stay_on a b c read h.0, sym read.same.top ∙ h.1)
  commit_cause kinds.Deep h = (stay_on a b c read h.0, λ honest. deep honest (h.1 (read.honest ∙ honest)))
  commit_cause (kinds.Full need free) h = (stay_on a b c read h.0, (h.1 ∙ read.same.free, h.2), λ honest. full need honest (h.3 (read.honest ∙ honest)))
  commit_cause kinds.Failed h = (fail_on a b c read h, λ honest up. let u = upgrade honest in (u.0, u.1))
  commit_cause kinds.Memory h = stay_on a b c read h

  reads_as : (fault : KeeperFault) (n : ℕ) → reads_after fault n ≡ reads_counted (commit_fault fault) n
  reads_as kinds.Device n = refl
  reads_as kinds.NoImage n = refl
  reads_as kinds.Version n = refl
  reads_as (kinds.Damaged page) n = refl
  reads_as kinds.Small n = refl
  reads_as kinds.Spent n = refl
  reads_as kinds.Deep n = refl
  reads_as (kinds.Full need free) n = refl
  reads_as kinds.Failed n = refl
  reads_as kinds.Memory n = refl

  writes_as : (usable : Bool) (fault : KeeperFault) (n : ℕ) → writes_after usable fault n ≡ writes_counted usable (commit_fault fault) n
  writes_as usable kinds.Device n = refl
  writes_as usable kinds.NoImage n = refl
  writes_as usable kinds.Version n = refl
  writes_as usable (kinds.Damaged page) n = refl
  writes_as usable kinds.Small n = refl
  writes_as usable kinds.Spent n = refl
  writes_as usable kinds.Deep n = refl
  writes_as usable (kinds.Full need free) n = refl
  writes_as usable kinds.Failed n = refl
  writes_as true kinds.Memory n = refl
  writes_as false kinds.Memory n = refl

  pub not_committed : (fault : KeeperFault) → IsCommitFault b c (length batch) (need_b batch) fault → StoreHasTried b c → c.failed_reads ≡ reads_after fault b.failed_reads → c.failed_writes ≡ writes_after b.usable fault b.failed_writes → WritesAtMost b.free b.made c.made → IsNotUpgraded a c need_a (commit_fault fault)
  not_committed fault h tried reads writes work = record {
    cause = commit_cause fault h;
    honest = tried.honest ∙ read.honest;
    reads = reads ∙ ap (reads_after fault) none ∙ reads_as fault a.failed_reads;
    writes = writes ∙ ap (λ (u : Bool). writes_after u fault b.failed_writes) read.same.usable ∙ ap (writes_after a.usable fault) read.writes ∙ writes_as a.usable fault a.failed_writes;
    out = (fault_pins b c (length batch) (need_b batch) fault h).out ∙ read.same.out;
    calls = subst (λ (free : ℕ). WritesAtMost free a.made c.made) read.same.free (writes_behind read.same.calls work);
  }

  -- what the commit makes represents the site
  made : (banner : Banner) (s : Site) → banner ≡ raised_banner b.banner → IsTrue a.honest → FirstBy a s → batch ≡ upgrade_batch s → PairsShowSite (updated b.pairs batch) banner s
  made banner s is honest first batch_is =
      let under : banner ≡ raised_banner a.banner = is ∙ ap raised_banner read.same.banner in
      record {
        valid = first.valid;
        all = ap (λ (ps : List Pair). updated ps batch) (read.same.pairs honest) ∙ ap (updated a.pairs) batch_is ∙ makes_layout a.pairs a.banner s first;
        host = ap (λ (x : Banner). x.host) under ∙ first.host;
        port = ap (λ (x : Banner). x.port) under ∙ first.port;
        admin = ap (λ (x : Banner). x.admin) under ∙ first.admin;
        version = ap (λ (x : Banner). x.version) under;
      }

  pub is_upgraded : (banner : Banner) (count : ℕ) → banner ≡ raised_banner b.banner → (IsTrue b.honest → c.pairs ≡ updated b.pairs batch) → c.banner ≡ banner → c.usable ≡ true → c.top ≡ b.top + 1 → c.generation ≡ b.top + 1 → StoreHasTried b c → c.failed_reads ≡ b.failed_reads → c.failed_writes ≡ b.failed_writes → numbers_out c ≡ numbers_out b → WritesAtMost b.free b.made c.made → count ≡ length batch → IsFirstWhole a count → IsUpgraded a c count
  is_upgraded banner count is pairs named usable top generation tried reads writes out work counted_is whole = record {
    site = λ honest.
        let u = upgrade honest in
        let shown = made banner u.0 is honest u.1 u.2 in (
          u.0,
          u.1,
          record {
            valid = shown.valid;
            all = pairs (read.honest ∙ honest) ∙ shown.all;
            host = ap (λ (x : Banner). x.host) named ∙ shown.host;
            port = ap (λ (x : Banner). x.port) named ∙ shown.port;
            admin = ap (λ (x : Banner). x.admin) named ∙ shown.admin;
            version = ap (λ (x : Banner). x.version) named ∙ shown.version;
          },
          counted_is ∙ ap length u.2 ∙ one_for_each u.0 u.1.valid,
        );
    whole = whole;
    banner = named ∙ is ∙ ap raised_banner read.same.banner;
    once = top ∙ ap (λ (n : ℕ). n + 1) read.same.top;
    generation = generation ∙ ap (λ (n : ℕ). n + 1) read.same.top;
    usable = usable;
    honest = tried.honest ∙ read.honest;
    reads = reads ∙ none;
    writes = writes ∙ read.writes;
    out = out ∙ read.same.out;
    calls = subst (λ (free : ℕ). WritesAtMost free a.made c.made) read.same.free (writes_behind read.same.calls work);
  }

  -- what a crash leaves represents the site, in version 1 or 2
  pub crashes_either : {L : Type 0} (has_content : L → List Pair → Banner → Type 0) (banner : Banner) (s : Site) (s0 s1 s2 : CrashStates L) → banner ≡ raised_banner b.banner → IsTrue a.honest → FirstBy a s → AddsNone s0 s1 → ((x : L) → may_crash_to s0 x → has_content x a.pairs a.banner)
      → AddsOnly s1 s2 (λ x. has_content x b.pairs b.banner ⊎ has_content x (updated b.pairs batch) banner) → AddsOnly s0 s2 (λ x. RepresentsEitherVersion has_content x s)
  crashes_either {L} has_content banner s s0 s1 s2 is honest first no_new start written =
      let u = upgrade honest in
      let same : u.0 ≡ s = same_first a.pairs a.banner u.0 s u.1 first in
      let batch_is : batch ≡ upgrade_batch s = u.2 ∙ ap upgrade_batch same in
      let before : ShowsFirst b.pairs b.banner s = subst (λ (x : Banner). ShowsFirst b.pairs x s) (sym read.same.banner) (subst (λ (ps : List Pair). ShowsFirst ps a.banner s) (sym (read.same.pairs honest)) first) in
      let after = made banner s is honest first batch_is in
      adds_both s0 s1 s2 (may_crash_to s0) (λ x. has_content x b.pairs b.banner ⊎ has_content x (updated b.pairs batch) banner) (λ x. RepresentsEitherVersion has_content x s) no_new written
      (λ x left. inl (a.pairs, a.banner, start x left, first))
      (λ x left. ⊎_elim (λ h. inl (b.pairs, b.banner, h, before)) (λ h. inr (updated b.pairs batch, banner, h, after)) left)

-- where nothing is written it is as before
pub none_either : {L : Type 0} (has_content : L → List Pair → Banner → Type 0) (a : StoreState) (s : Site) (s0 s1 : CrashStates L) → FirstBy a s → AddsNone s0 s1 → ((x : L) → may_crash_to s0 x → has_content x a.pairs a.banner) → AddsOnly s0 s1 (λ x. RepresentsEitherVersion has_content x s)
none_either has_content a s s0 s1 first no_new start = none_added_crashes s0 s1 (λ x. RepresentsEitherVersion has_content x s) no_new (λ x left. inl (a.pairs, a.banner, start x left, first))
