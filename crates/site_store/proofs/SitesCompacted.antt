-- A site that is written anew stays the same.
use Rattle.std.proofs.Common.{◌≡◌, ◌<◌, inl, inr, ⊎_elim, ℕ, List, sym, ap, subst, ◌∙◌, IsTrue}
use Rattle.std.specs.Prelude.{Result, Ok, Err, OnOk, IfErr}
use Rattle.common_types.specs.CrashStates.{CrashStates, AddsOnly}
use Rattle.host_types.specs.Site.{Site}
use Rattle.page_store.specs.Pages.{Pair}
use Rattle.page_store.specs.StoreState.{StoreState, CommitNeed, HasStayed}
use Rattle.page_store.specs.Compaction.{IsCompactFault}
use Rattle.page_store.specs.CompactCalls.{WritesAnew, FailsToCompact}
use Rattle.page_store.specs.declared.edit.Edit.{Edit}
use Rattle.page_store.specs.declared.banner.Banner.{Banner}
use Rattle.page_store.specs.declared.fault.KeeperFault.{KeeperFault}
use Rattle.page_store.specs.declared.fault.KeeperFault.TheVariants as faults
use Rattle.site_store.proofs.PinsKept.{PinsStay, have_still, same_pins}
use Rattle.site_store.specs.Represented.{Represents, RepresentedBy, HasSite, site_of, site_state_of, site_kept, site_is}

-- the pairs and the banner are as before
pub record Stays (old new : StoreState) : Type 0 where
  pub pairs : IsTrue old.honest → new.pairs ≡ old.pairs
  pub banner : new.banner ≡ old.banner
  pub pins : PinsStay old new

stayed : (old new : StoreState) → HasStayed old new → Stays old new
stayed old new s = record { pairs = s.pairs; banner = s.banner; pins = record { out = s.out; pins = s.pins } }

fault_stays : (old new : StoreState) (may : ℕ → Type 0) (e : KeeperFault) → IsCompactFault old new may e → Stays old new
fault_stays old new may faults.Device f = stayed old new f.0
fault_stays old new may faults.NoImage f = absurd f
fault_stays old new may faults.Version f = absurd f
fault_stays old new may (faults.Damaged page) f = stayed old new f.0
fault_stays old new may faults.Small f = absurd f
fault_stays old new may faults.Spent f = stayed old new f.0
fault_stays old new may faults.Deep f = absurd f
fault_stays old new may (faults.Full need free) f = stayed old new f.0
fault_stays old new may faults.Failed f = record { pairs = f.pairs; banner = f.banner; pins = record { out = f.out; pins = f.pins } }
fault_stays old new may faults.Memory f = stayed old new f

pub stays : {K : Type 0} (store_state : K → StoreState) (takes : K → ℕ → Type 0) (may_need : K → List Edit → CommitNeed → Type 0) (filled : Type 0) (result : Result (Unit {0}) KeeperFault) (old new : K) → OnOk result (WritesAnew (store_state old) (store_state new) filled (takes old)) → IfErr result (FailsToCompact store_state takes may_need old new)
    → Stays (store_state old) (store_state new)
stays store_state takes may_need filled (Ok x) old new anew fault = record { pairs = anew.done.pairs; banner = anew.done.banner; pins = record { out = anew.done.out; pins = anew.done.pins } }
stays store_state takes may_need filled (Err e) old new anew fault = fault_stays (store_state old) (store_state new) (takes old) e fault.cause

shown_still : (old new : StoreState) (s : Site) → IsTrue old.honest → Stays old new → RepresentedBy old s → RepresentedBy new s
shown_still old new s honest same shown = record {
  valid = shown.valid;
  all = same.pairs honest ∙ shown.all;
  host = ap (λ (b : Banner). b.host) same.banner ∙ shown.host;
  port = ap (λ (b : Banner). b.port) same.banner ∙ shown.port;
  admin = ap (λ (b : Banner). b.admin) same.banner ∙ shown.admin;
  version = ap (λ (b : Banner). b.version) same.banner ∙ shown.version;
}

pub keeps_site : (old new : StoreState) → new.honest ≡ old.honest → Stays old new → HasSite old → HasSite new
keeps_site old new same stay keeps = λ honest.
    let before = subst IsTrue same honest in
    ((keeps before).0, shown_still old new (keeps before).0 before stay (keeps before).1, have_still old new stay.pins before (keeps before).2)

pub same_site_kept : (old new : StoreState) → new.honest ≡ old.honest → Stays old new → (keeps : HasSite old) (now : HasSite new) → IsTrue old.honest → site_of new now ≡ site_of old keeps
same_site_kept old new same stay keeps now honest = site_is new now (subst IsTrue (sym same) honest) (site_of old keeps) (shown_still old new (site_of old keeps) honest stay (site_kept old keeps honest))

pub pins_as_before : (old new : StoreState) → new.honest ≡ old.honest → Stays old new → (keeps : HasSite old) (now : HasSite new) → (site_state_of new now).pins ≡ (site_state_of old keeps).pins
pins_as_before old new same stay keeps now = same_pins old.honest new.honest old.pins new.pins (λ honest. (keeps honest).2) (λ honest. (now honest).2) same stay.pins.out stay.pins.pins

pub port_stays : (old new : StoreState) → Stays old new → 0 < old.banner.port → 0 < new.banner.port
port_stays old new stay port = subst (λ (b : Banner). 0 < b.port) (sym stay.banner) port

-- what has the pairs and the banner represents the site
pub content_represents : {L : Type 0} (has_content : L → List Pair → Banner → Type 0) (old : StoreState) (keeps : HasSite old) (before now : CrashStates L) → IsTrue old.honest → AddsOnly before now (λ c. has_content c old.pairs old.banner) → AddsOnly before now (λ c. Represents has_content c (site_of old keeps))
content_represents has_content old keeps before now honest adds = record {
  later = adds.later;
  keeps = adds.keeps;
  nothing_else = λ t c le left. ⊎_elim (λ m. inl m) (λ p. inr (old.pairs, old.banner, p, site_kept old keeps honest)) (adds.nothing_else t c le left);
  now = λ c left. (old.pairs, old.banner, adds.now c left, site_kept old keeps honest);
}

-- what holds of a refusal, once there is one
pub where_refused : {T E : Type 0} (P : Type 0) (result : Result T E) (e : E) → result ≡ Err e → IfErr result (λ e. P) → P
where_refused P result e is given = subst (λ r. IfErr r (λ e. P)) is given
