-- What a site that was read whole says of what is kept.
use Rattle.std.proofs.Common.{◌≡◌, Bool, true, false, List, length, map, Result, Ok, Err, refl, ap, sym, subst, ◌∙◌, arith}
use Rattle.std.specs.Prelude.{IsTrue, IsErrOf, IfOk, IfErr, OnOk, []}
use Rattle.common_types.specs.Counts.{counted, counted_below}
use Rattle.host_types.specs.Site.{Site}
use Rattle.page_store.specs.Keys.{rises}
use Rattle.page_store.specs.Pages.{Pair, key_of}
use Rattle.page_store.specs.StoreState.{StoreState, StoreHasRead}
use Rattle.site_store.specs.ReadLaws.{kept_after}
use Rattle.site_store.specs.Represented.{RepresentedBy, PairsShowSite, HasSite, site_of, site_kept}
use Rattle.page_store.specs.declared.banner.Banner.{Banner}
use Rattle.page_store.specs.declared.fault.KeeperFault.{KeeperFault}
use Rattle.page_store.specs.declared.fault.KeeperFault.TheVariants as kinds
use Rattle.site_store.specs.StoreReads.{IsSiteReadFault, IsCountedFault, NoneFailed}
use Rattle.site_store.specs.declared.fault.SiteOpenFault.{SiteOpenFault}
use Rattle.site_store.specs.declared.fault.SiteOpenFault.TheVariants.{BadRecord, Keeper, Memory}
use Rattle.site_store.specs.Opening.{IsSiteOpenFault, IsReadWhole, IsSitePairsFault, site_under, with_all_named, pairs_state, HasAddressOf, IsLayoutOf}
use Rattle.site_store.proofs.LayoutsCounted.{not_rising}
use Rattle.site_store.proofs.NamedItems.{not_kept}
use Rattle.site_store.proofs.PinsKept.{none_have}

-- ---- as many pairs as are counted

pub read_whole : {T : Type 0} (result : Result T SiteOpenFault) (h : StoreState) (pairs : List Pair) (banner : Banner) → banner ≡ h.banner → length pairs ≡ h.keys → OnOk result ((s : Site) × PairsShowSite pairs banner s) → OnOk result (IsReadWhole h)
read_whole (Ok x) h pairs banner is counted shown = record { pairs = pairs; site = shown.0; shows = subst (λ (b : Banner). PairsShowSite pairs b shown.0) is shown.1; counted = counted }
read_whole (Err fault) h pairs banner is counted shown = tt

-- ---- pairs in memory

-- The site that their keys name is theirs where they are its layout.
shown_site : (pairs : List Pair) (banner : Banner) (m : Site) → banner.version ≡ 2 → HasAddressOf m banner → IsLayoutOf pairs m → PairsShowSite pairs banner m
shown_site pairs banner m version address whole = record { valid = ∣ whole.0 ∣₁; all = whole.1; host = sym address.host; port = sym address.port; admin = sym address.admin; version = version }

-- Where they are not, or it breaks a rule, they are no site's.
none_shown : (pairs : List Pair) (banner : Banner) (m : Site) → ((s : Site) → PairsShowSite pairs banner s → m ≡ with_all_named s (site_under banner) pairs) → (IsLayoutOf pairs m → ⊥) → (s : Site) → PairsShowSite pairs banner s → ⊥
none_shown pairs banner m named bad s shown = not_kept (pairs_state pairs banner) s m pairs shown refl (named s shown) bad

-- the same of pairs that were looked up, and stayed
pub whole_site : (pairs : List Pair) (banner : Banner) (m : Site) (a b : List Pair × Banner) → banner.version ≡ 2 → a ≡ (pairs, banner) → b ≡ a → HasAddressOf m a.1 → IsLayoutOf b.0 m → PairsShowSite pairs banner m
whole_site pairs banner m a b version is same address whole = shown_site pairs banner m version (subst (λ (r : List Pair × Banner). HasAddressOf m r.1) is address) (subst (λ (r : List Pair × Banner). IsLayoutOf r.0 m) (same ∙ is) whole)

pub broken_site : (pairs : List Pair) (banner : Banner) (m : Site) (a b : List Pair × Banner) → a ≡ (pairs, banner) → b ≡ a → ((s : Site) → PairsShowSite a.0 a.1 s → m ≡ with_all_named s (site_under a.1) a.0) → (IsLayoutOf b.0 m → ⊥) → (s : Site) → PairsShowSite pairs banner s → ⊥
broken_site pairs banner m a b is same named bad = none_shown pairs banner m (subst (λ (r : List Pair × Banner). (s : Site) → PairsShowSite r.0 r.1 s → m ≡ with_all_named s (site_under r.1) r.0) is named) (λ whole. bad (subst (λ (r : List Pair × Banner). IsLayoutOf r.0 m) (sym (same ∙ is)) whole))

-- nor where their keys don't rise
pub none_rising : (pairs : List Pair) (banner : Banner) → rises (map key_of pairs) ≡ false → (s : Site) → PairsShowSite pairs banner s → ⊥
none_rising pairs banner falls s shown = not_rising pairs s falls shown.all

-- a look-up among them never fails by a read
no_read_fault : (pairs more : List Pair) (banner other : Banner) (fault : KeeperFault) → IsCountedFault (pairs_state pairs banner) (pairs_state more other) fault → ⊥
no_read_fault pairs more banner other kinds.Device h = let e : 0 ≡ counted 0 = h.0 in let more = counted_below 0 (omega arith) in omega (arith, e, more)
no_read_fault pairs more banner other kinds.NoImage h = h.0
no_read_fault pairs more banner other kinds.Version h = h.0
no_read_fault pairs more banner other (kinds.Damaged page) h = let e = h.0 in cc e
no_read_fault pairs more banner other kinds.Small h = h.0
no_read_fault pairs more banner other kinds.Spent h = h.0
no_read_fault pairs more banner other kinds.Deep h = h.0
no_read_fault pairs more banner other (kinds.Full need free) h = h.0
no_read_fault pairs more banner other kinds.Failed h = let e = h.0 in cc e
no_read_fault pairs more banner other kinds.Memory h = h.0

pub pairs_fault : (pairs more : List Pair) (banner other : Banner) (fault : SiteOpenFault) → IsSiteReadFault (pairs_state pairs banner) (pairs_state more other) fault → IsSitePairsFault pairs banner fault
pairs_fault pairs more banner other BadRecord h = λ s shown. h.1 refl (s, shown)
pairs_fault pairs more banner other (Keeper fault) h = no_read_fault pairs more banner other fault h
pairs_fault pairs more banner other Memory h = tt

-- they stay
pub pairs_stay : (a b : List Pair × Banner) → StoreHasRead (pairs_state a.0 a.1) (pairs_state b.0 b.1) → b ≡ a
pairs_stay a b read = let pairs = read.same.pairs refl in let banner = read.same.banner in λ i. (pairs i, banner i)

-- ---- the pairs that were read

shown_by : (h k : StoreState) (pairs : List Pair) (banner : Banner) → StoreHasRead h k → banner ≡ k.banner → pairs ≡ h.pairs → (s : Site) → PairsShowSite pairs banner s → RepresentedBy h s
shown_by h k pairs banner read same all s shown =
    let under : h.banner ≡ banner = sym read.same.banner ∙ sym same in
    record {
      valid = shown.valid;
      all = sym all ∙ shown.all;
      host = ap (λ b. b.host) under ∙ shown.host;
      port = ap (λ b. b.port) under ∙ shown.port;
      admin = ap (λ b. b.admin) under ∙ shown.admin;
      version = ap (λ b. b.version) under ∙ shown.version;
    }

shown_to : (h k : StoreState) (pairs : List Pair) (banner : Banner) → StoreHasRead h k → banner ≡ k.banner → pairs ≡ h.pairs → (s : Site) → RepresentedBy h s → PairsShowSite pairs banner s
shown_to h k pairs banner read same all s kept =
    let under : banner ≡ h.banner = same ∙ read.same.banner in
    record {
      valid = kept.valid;
      all = all ∙ kept.all;
      host = ap (λ b. b.host) under ∙ kept.host;
      port = ap (λ b. b.port) under ∙ kept.port;
      admin = ap (λ b. b.admin) under ∙ kept.admin;
      version = ap (λ b. b.version) under ∙ kept.version;
    }

-- What they say of a site the keeper says.
pub site_answered : {X : Type 0} → (r : Result X SiteOpenFault) (h k : StoreState) (pairs : List Pair) (banner : Banner) → StoreHasRead h k → banner ≡ k.banner → pairs ≡ h.pairs → OnOk r ((s : Site) × PairsShowSite pairs banner s) → IfOk r (λ _. (s : Site) × RepresentedBy h s)
site_answered (Ok x) h k pairs banner read same all site = (site.0, shown_by h k pairs banner read same all site.0 site.1)
site_answered (Err e) h k pairs banner read same all site = tt

pub site_refused : {X : Type 0} → (r : Result X SiteOpenFault) (h k : StoreState) (pairs : List Pair) (banner : Banner) → StoreHasRead h k → NoneFailed h k → banner ≡ k.banner → (IsTrue h.honest → pairs ≡ h.pairs) → IfErr r (IsSitePairsFault pairs banner) → IfErr r (IsSiteReadFault h k)
site_refused (Ok x) h k pairs banner read none same all fault = tt
site_refused (Err BadRecord) h k pairs banner read none same all fault = (none, λ honest known. fault known.0 (shown_to h k pairs banner read same (all honest) known.0 known.1))
site_refused (Err (Keeper e)) h k pairs banner read none same all fault = absurd fault
site_refused (Err Memory) h k pairs banner read none same all fault = none

-- what is kept once it was read was kept before
pub kept_before : (a b : StoreState) (s : Site) → StoreHasRead a b → IsTrue a.honest → RepresentedBy b s → RepresentedBy a s
kept_before a b s read honest kept = record {
  valid = kept.valid;
  all = sym (read.same.pairs honest) ∙ kept.all;
  host = ap (λ x. x.host) (sym read.same.banner) ∙ kept.host;
  port = ap (λ x. x.port) (sym read.same.banner) ∙ kept.port;
  admin = ap (λ x. x.admin) (sym read.same.banner) ∙ kept.admin;
  version = ap (λ x. x.version) (sym read.same.banner) ∙ kept.version;
}

pub site_before : (a b : StoreState) (keeps : HasSite b) → StoreHasRead a b → IsTrue a.honest → RepresentedBy a (site_of b keeps)
site_before a b keeps read honest = kept_before a b (site_of b keeps) read honest (site_kept b keeps (read.honest ∙ honest))

-- the site that was read is kept, and no pin is out
pub opened : (a b : StoreState) → StoreHasRead a b → a.pins ≡ [] → (IsTrue a.honest → (s : Site) × RepresentedBy a s) → HasSite b
opened a b read none kept honest1 =
    let honest0 : IsTrue a.honest = sym read.honest ∙ honest1 in
    let site = kept honest0 in
    (site.0, kept_after a b site.0 read honest0 site.1, none_have b.pins (read.same.pins honest0 ∙ none))

-- ---- why it isn't opened

either : (b : Bool) → (b ≡ false → ⊥) → b ≡ true
either true h = refl
either false h = absurd (h refl)

-- a keeper that isn't usable tells nothing else
pub told_apart : {T : Type 0} → (r : Result T SiteOpenFault) (old new : StoreState) (fault : SiteOpenFault) → r ≡ Err fault → old.banner.version ≡ 2 → (old.usable ≡ false → IsErrOf r (Keeper kinds.Failed)) → IsSiteReadFault old new fault → IsSiteOpenFault old new fault
told_apart {T} r old new fault is version closed h = by fault (λ shut. same r fault is (closed shut)) h
  where
    same : (r : Result T SiteOpenFault) (fault : SiteOpenFault) → r ≡ Err fault → IsErrOf r (Keeper kinds.Failed) → fault ≡ Keeper kinds.Failed
    same r fault is h = cc (is, h)

    by : (fault : SiteOpenFault) → (old.usable ≡ false → fault ≡ Keeper kinds.Failed) → IsSiteReadFault old new fault → IsSiteOpenFault old new fault
    by (Keeper kinds.Failed) shut h = (h.0, h.1)
    by (Keeper kinds.Device) shut h = (either old.usable (λ s. let e = shut s in absurd (cc e)), h.0)
    by (Keeper (kinds.Damaged page)) shut h = (either old.usable (λ s. let e = shut s in absurd (cc e)), h.1, h.0)
    by (Keeper kinds.NoImage) shut h = absurd h.0
    by (Keeper kinds.Version) shut h = absurd h.0
    by (Keeper kinds.Small) shut h = absurd h.0
    by (Keeper kinds.Spent) shut h = absurd h.0
    by (Keeper kinds.Deep) shut h = absurd h.0
    by (Keeper (kinds.Full need free)) shut h = absurd h.0
    by (Keeper kinds.Memory) shut h = absurd h.0
    by BadRecord shut h = (either old.usable (λ s. let e = shut s in absurd (cc e)), h.0, version, λ honest s kept. h.1 honest (s, kept))
    by Memory shut h = (either old.usable (λ s. let e = shut s in absurd (cc e)), h, version)
