-- A pin more, and a pin less.
use Rattle.std.proofs.Common.{◌≡◌, ◌<◌, ℕ, Bool, true, false, List, [], Some, None, cond, refl, inl, inr, sym, ap, subst, ◌∙◌, IsTrue, arith, eq-eqb, ne_eqb}
use Rattle.std.specs.Prelude.{◌==◌, ◌||◌, ◌&&◌, not, IfSome, Result, Ok, Err, IfOk, IfErr}
use Rattle.std.proofs.lemmas.Bool.{cases_eq}
use Rattle.std.proofs.Props.{props}
use mathlib.Core.Logic.{∥∥₁_elim, ∥∥₁_prop}
use Rattle.host_types.specs.Site.{Site, Items, item_at}
use Rattle.host_types.specs.Card.{chunk_of, viewed_at}
use Rattle.host_types.specs.Counting.{IsReadCounted}
use Rattle.host_types.specs.SiteState.{SiteState}
use Rattle.host_types.specs.SiteState as sites
use Rattle.host_types.specs.Pins.{Numbered, HasNumbered, HasGivenBack, items_or_none, items_under_number, pinned_items, viewed_among}
use Rattle.host_types.specs.Pins as site_pins
use Rattle.host_types.specs.declared.pin_fault.SitePinFault.{SitePinFault}
use Rattle.host_types.specs.declared.site_fault.SiteFault.{SiteFault}
use Rattle.page_store.specs.Pins.{is_out, pairs_at, IsStorePinned, IsStorePinFault, IsStoreUnpinned}
use Rattle.page_store.specs.StoreState.{StoreState, CommitNeed, NeedsTheSame}
use Rattle.page_store.specs.declared.edit.Edit.{Edit}
use Rattle.page_store.specs.declared.pin_fault.PinFault.{PinFault}
use Rattle.page_store.specs.declared.pin_fault.PinFault.TheVariants as pin_faults
use Rattle.site_store.specs.Lacking.{IsLacking}
use Rattle.site_store.specs.Pinned.{StoodAt, IsPinnedFault}
use Rattle.site_store.specs.PinnedItems.{IsLaidOut, HasItems, AllHave, items_at, same_items}
use Rattle.site_store.specs.Represented.{RepresentedBy, HasSite, HasSite-prop, site_of, site_state_of, site_kept, site_is}
use Rattle.site_store.specs.StoreReads.{is_document}
use Rattle.site_store.specs.StoreFault.{site_fault_of, site_pin_fault_of}
use Rattle.site_store.specs.declared.fault.SiteOpenFault.{SiteOpenFault}
use Rattle.site_store.specs.declared.fault.SiteOpenFault.TheVariants.{BadRecord, Keeper, Memory}
use Rattle.site_store.proofs.Chunking.{has_bytes}
use Rattle.site_store.proofs.PinsKept.{length_of, out_of, found_of, none_kept_under, some_kept_under, are_laid_out, same_items_at}
use Rattle.site_store.proofs.SiteCounts.{store_read_counted}
use Rattle.site_store.proofs.StoreAsSite.{site_still, lacks_still, read_fault_of}

-- ---- a keeper of which the pins and what is free have changed

abbrev pub Repinned : StoreState → StoreState → Type 0
Repinned old new = new ≡ record old { pins = new.pins; free = new.free }

honest_still : (old new : StoreState) → Repinned old new → new.honest ≡ old.honest
honest_still old new same = ap (λ (h : StoreState). h.honest) same

site_kept_still : (old new : StoreState) (ko : HasSite old) (kn : HasSite new) → Repinned old new → site_of new kn ≡ site_of old ko
site_kept_still old new ko kn same =
    site_still old new ko kn (honest_still old new same) (λ honest. site_is new kn (honest_still old new same ∙ honest) (site_of old ko) (subst (λ h. RepresentedBy h (site_of old ko)) (sym same) (site_kept old ko honest)))

state_still : (old new : StoreState) (ko : HasSite old) (kn : HasSite new) → Repinned old new → site_state_of new kn ≡ record (site_state_of old ko) { pins = (site_state_of new kn).pins; free = new.free }
state_still old new ko kn same =
    let still = site_kept_still old new ko kn same in
    λ i. record { site = still i; honest = (same i).honest; usable = (same i).usable; free = new.free; failed_reads = (same i).failed_reads; failed_writes = (same i).failed_writes; pins = (site_state_of new kn).pins }

pub lacks_repinned : {K : Type 0} (store_state : K → StoreState) (may_need : K → List Edit → CommitNeed → Type 0) (k0 k1 : K) (ko : HasSite (store_state k0)) (kn : HasSite (store_state k1)) → NeedsTheSame (may_need k0) (may_need k1) → Repinned (store_state k0) (store_state k1)
    → sites.LacksTheSame (IsLacking store_state may_need k0 (site_of (store_state k0) ko)) (IsLacking store_state may_need k1 (site_of (store_state k1) kn))
lacks_repinned store_state may_need k0 k1 ko kn need same =
    lacks_still store_state may_need k0 k1 (site_of (store_state k0) ko) (site_of (store_state k1) kn) (site_kept_still (store_state k0) (store_state k1) ko kn same) need (ap (λ (h : StoreState). h.top) same) (ap (λ (h : StoreState). h.banner) same) (ap (λ (h : StoreState). h.height) same)

same_state : (old new : StoreState) (ko : HasSite old) (kn : HasSite new) → new ≡ old → site_state_of new kn ≡ site_state_of old ko
same_state old new ko kn same = subst (λ (h : StoreState). (k : HasSite h) → site_state_of h k ≡ site_state_of old ko) (sym same) (λ k. ap (site_state_of old) (HasSite-prop old k ko)) kn

-- ---- a pin more

pinned_repins : (old new : StoreState) (number : ℕ) → IsStorePinned old new number → Repinned old new
pinned_repins old new number pinned = pinned.same ∙ (λ i. record old { pins = new.pins; free = (sym (ap (λ (h : StoreState). h.free) pinned.same)) i })

unchanged_repins : (old new : StoreState) → new ≡ old → Repinned old new
unchanged_repins old new same = same ∙ (λ i. record old { pins = (sym same i).pins; free = (sym same i).free })

own_items : (h : StoreState) (s : Site) → RepresentedBy h s → IsLaidOut h.pairs s.items
own_items h s shown = ∥∥₁_elim shown.valid ∥∥₁_prop (λ site. ∣ (s, site, shown.all, refl) ∣₁)

have_more : (old new : StoreState) (number : ℕ) → IsStorePinned old new number → IsTrue old.honest → HasItems old.pairs → AllHave old.pins → AllHave new.pins
have_more old new number pinned honest own have n = elim (cases_eq n number) [
  | inl e ↦ subst (λ o. IfSome o HasItems) (sym (ap (pairs_at new) e ∙ pinned.keeps honest)) own
  | inr ne ↦ subst (λ o. IfSome o HasItems) (sym (pinned.others honest n ne)) (have n)
]

pub keeps_pinned : (old new : StoreState) (number : ℕ) → IsStorePinned old new number → HasSite old → HasSite new
keeps_pinned old new number pinned keeps = λ t.
    let same = pinned_repins old new number pinned in
    let honest : IsTrue old.honest = sym (honest_still old new same) ∙ t in
    let kept = keeps honest in
    (kept.0, subst (λ h. RepresentedBy h kept.0) (sym same) kept.1, have_more old new number pinned honest (kept.0.items, own_items old kept.0 kept.1) kept.2)

-- what stands whether a pin is given or not
pub pin_repins : {P : Type 0} (r : Result P PinFault) (number : P → ℕ) (old new : StoreState) → IfOk r (λ pin. IsStorePinned old new (number pin)) → IfErr r (IsStorePinFault old new) → Repinned old new
pin_repins (Ok pin) number old new pinned fault = pinned_repins old new (number pin) pinned
pin_repins (Err pin_faults.Failed) number old new pinned fault = unchanged_repins old new fault.1
pin_repins (Err pin_faults.Crowded) number old new pinned fault = unchanged_repins old new fault.2

pub pin_keeps : {P : Type 0} (r : Result P PinFault) (number : P → ℕ) (old new : StoreState) → IfOk r (λ pin. IsStorePinned old new (number pin)) → IfErr r (IsStorePinFault old new) → HasSite old → HasSite new
pin_keeps (Ok pin) number old new pinned fault keeps = keeps_pinned old new (number pin) pinned keeps
pin_keeps (Err pin_faults.Failed) number old new pinned fault keeps = subst HasSite (sym fault.1) keeps
pin_keeps (Err pin_faults.Crowded) number old new pinned fault keeps = subst HasSite (sym fault.2) keeps

pub pin_port : (old new : StoreState) → Repinned old new → 0 < old.banner.port → 0 < new.banner.port
pin_port old new same port = subst (λ (h : StoreState). 0 < h.banner.port) (sym same) port

pub pin_fault_comes : (old new : StoreState) (ko : HasSite old) (kn : HasSite new) (fault : PinFault) (comes : SitePinFault) → comes ≡ site_pin_fault_of fault → IsStorePinFault old new fault → site_pins.IsPinFault (site_state_of old ko) (site_state_of new kn) comes
pin_fault_comes old new ko kn fault comes is h = subst (site_pins.IsPinFault (site_state_of old ko) (site_state_of new kn)) (sym is) (by fault h)
  where
    by : (fault : PinFault) → IsStorePinFault old new fault → site_pins.IsPinFault (site_state_of old ko) (site_state_of new kn) (site_pin_fault_of fault)
    by pin_faults.Failed h = (h.0, same_state old new ko kn h.1)
    by pin_faults.Crowded h = (h.0, length_of old.honest old.pins (λ t. (ko t).2) ∙ h.1, same_state old new ko kn h.2)

among_more : (a b c : Bool) → a ≡ true → b ≡ (a || c) → b ≡ true
among_more a b c is e = e ∙ ap (λ (x : Bool). x || c) is

module _ (old new : StoreState) (ko : HasSite old) (kn : HasSite new) where
  out_before : (n : ℕ) → site_pins.is_among n (sites.numbers_out (site_state_of old ko)) ≡ is_out old n
  out_before n = out_of old.honest old.pins (λ t. (ko t).2) n

  out_after : (n : ℕ) → site_pins.is_among n (sites.numbers_out (site_state_of new kn)) ≡ is_out new n
  out_after n = out_of new.honest new.pins (λ t. (kn t).2) n

  found_before : (n : ℕ) → items_under_number (site_state_of old ko) n ≡ cond (is_out old n) (Some (items_at old.honest old.pins (λ t. (ko t).2) n)) None
  found_before n = found_of old.honest old.pins (λ t. (ko t).2) n

  found_after : (n : ℕ) → items_under_number (site_state_of new kn) n ≡ cond (is_out new n) (Some (items_at new.honest new.pins (λ t. (kn t).2) n)) None
  found_after n = found_of new.honest new.pins (λ t. (kn t).2) n

  other_stays : (n : ℕ) → new.honest ≡ old.honest → is_out new n ≡ is_out old n → (IsTrue old.honest → pairs_at new n ≡ pairs_at old n) → items_under_number (site_state_of new kn) n ≡ items_under_number (site_state_of old ko) n
  other_stays n honest out pairs =
      let items = same_items_at old.honest new.honest old.pins new.pins (λ t. (ko t).2) (λ t. (kn t).2) n honest pairs in
      found_after n ∙ (λ i. cond (out i) (Some (items i)) None) ∙ sym (found_before n)

  pub has_numbered : (number : ℕ) → IsStorePinned old new number → HasNumbered (site_state_of old ko) (site_state_of new kn) number
  has_numbered number pinned =
      let same = pinned_repins old new number pinned in
      let before = length_of old.honest old.pins (λ t. (ko t).2) in
      let after = length_of new.honest new.pins (λ t. (kn t).2) in
      let is_new : is_out new number ≡ true = among_more (number == number) (is_out new number) (is_out old number) (eq-eqb number number refl) (pinned.out number) in
      record {
        room = omega (arith, pinned.room, before);
        fresh = out_before number ∙ pinned.fresh;
        out = λ n. out_after n ∙ pinned.out n ∙ ap (λ (b : Bool). n == number || b) (sym (out_before n));
        count = omega (arith, pinned.count, before, after);
        keeps = λ honest.
            let items = items_at new.honest new.pins (λ t. (kn t).2) number in
            let laid = are_laid_out new.honest new.pins (λ t. (kn t).2) number old.pairs (honest_still old new same ∙ honest) (pinned.keeps honest) in
            found_after number ∙ ap (λ (b : Bool). cond b (Some items) None) is_new ∙ ap (λ (l : Items). Some l) (same_items old.pairs items (site_of old ko).items laid (own_items old (site_of old ko) (site_kept old ko honest)));
        others = λ n ne. other_stays n (honest_still old new same) (pinned.out n ∙ ap (λ (b : Bool). b || is_out old n) (ne_eqb n number ne)) (λ honest. pinned.others honest n ne);
        same = state_still old new ko kn same ∙ (λ i. record (site_state_of old ko) { pins = (site_state_of new kn).pins; free = (pinned.same i).free });
      }

  -- ---- a pin less

  pub has_given_back : (number : ℕ) → IsStoreUnpinned old new number → HasGivenBack (site_state_of old ko) (site_state_of new kn) number
  has_given_back number unpinned =
      let before = length_of old.honest old.pins (λ t. (ko t).2) in
      let after = length_of new.honest new.pins (λ t. (kn t).2) in
      record {
        out = λ n. out_after n ∙ unpinned.out n ∙ ap (λ (b : Bool). not (n == number) && b) (sym (out_before n));
        count = omega (arith, unpinned.count, before, after);
        others = λ n ne. other_stays n (honest_still old new unpinned.same) (unpinned.out n ∙ ap (λ (b : Bool). not b && is_out old n) (ne_eqb n number ne)) (λ honest. unpinned.others honest n ne);
        free = unpinned.free;
        same = state_still old new ko kn unpinned.same;
      }

have_less : (old new : StoreState) (number : ℕ) → IsStoreUnpinned old new number → IsTrue old.honest → AllHave old.pins → AllHave new.pins
have_less old new number unpinned honest have n = elim (cases_eq n number) [
  | inl e ↦
      let gone : is_out new n ≡ false = unpinned.out n ∙ ap (λ (b : Bool). not b && is_out old n) (eq-eqb n number e) in
      subst (λ o. IfSome o HasItems) (sym (none_kept_under n new.pins gone)) tt
  | inr ne ↦ subst (λ o. IfSome o HasItems) (sym (unpinned.others honest n ne)) (have n)
]

pub keeps_unpinned : (old new : StoreState) (number : ℕ) → IsStoreUnpinned old new number → HasSite old → HasSite new
keeps_unpinned old new number unpinned keeps = λ t.
    let honest : IsTrue old.honest = sym (honest_still old new unpinned.same) ∙ t in
    let kept = keeps honest in
    (kept.0, subst (λ h. RepresentedBy h kept.0) (sym unpinned.same) kept.1, have_less old new number unpinned honest kept.2)

-- ---- what a pin keeps is read

-- a number of the site's that is out is one of the keeper's
pub out_there : (h : StoreState) (keeps : HasSite h) (number : ℕ) → IsTrue (site_pins.is_out (site_state_of h keeps) (Numbered number)) → IsTrue (is_out h number)
out_there h keeps number out = sym (out_of h.honest h.pins (λ t. (keeps t).2) number) ∙ out

-- a site stood there, of the items that the pin keeps
stood : (h : StoreState) (keeps : HasSite h) (number : ℕ) → IsTrue h.honest → IsTrue (is_out h number) → ∥ ((s : Site) × StoodAt number h s × (s.items ≡ pinned_items (site_state_of h keeps) (Numbered number))) ∥₁
stood h keeps number honest out =
    let have = λ (t : IsTrue h.honest). (keeps t).2 in
    let kept = some_kept_under number h.pins out in
    let items = items_at h.honest h.pins have number in
    let found : items_under_number (site_state_of h keeps) number ≡ Some items = found_of h.honest h.pins have number ∙ ap (λ (b : Bool). cond b (Some items) None) out in
    ∥∥₁_elim (are_laid_out h.honest h.pins have number kept.0 honest kept.1) ∥∥₁_prop (λ s. ∣ (s.0, record { pairs = kept.0; keeps = kept.1; valid = ∣ s.1 ∣₁; all = s.2 }, s.3 ∙ sym (ap items_or_none found)) ∣₁)

pub pinned_chunk : (h : StoreState) (keeps : HasSite h) (number : ℕ) (chunk selector : List ℕ) (view k : ℕ) → IsTrue h.honest → IsTrue (is_out h number) → ((s : Site) → StoodAt number h s → chunk ≡ chunk_of (viewed_at s selector view) k)
    → chunk ≡ chunk_of (viewed_among (pinned_items (site_state_of h keeps) (Numbered number)) selector view) k
pinned_chunk h keeps number chunk selector view k honest out gives =
    let prop : IsProp (chunk ≡ chunk_of (viewed_among (pinned_items (site_state_of h keeps) (Numbered number)) selector view) k) = hlevel props in
    ∥∥₁_elim (stood h keeps number honest out) prop (λ s. gives s.0 s.1 ∙ ap (λ (items : Items). chunk_of (viewed_among items selector view) k) s.2)

-- the same of a chunk that is right where a document stood, for a view that has bytes
pub known_chunk : (h : StoreState) (keeps : HasSite h) (number : ℕ) (chunk selector : List ℕ) (view k : ℕ) → IsTrue h.honest → IsTrue (is_out h number) → ((s : Site) → StoodAt number h s → is_document (item_at s selector) ≡ true → chunk ≡ chunk_of (viewed_at s selector view) k)
    → (viewed_among (pinned_items (site_state_of h keeps) (Numbered number)) selector view ≡ [] → ⊥) → chunk ≡ chunk_of (viewed_among (pinned_items (site_state_of h keeps) (Numbered number)) selector view) k
known_chunk h keeps number chunk selector view k honest out gives some =
    let prop : IsProp (chunk ≡ chunk_of (viewed_among (pinned_items (site_state_of h keeps) (Numbered number)) selector view) k) = hlevel props in
    ∥∥₁_elim (stood h keeps number honest out) prop (λ s.
    let same : viewed_at s.0 selector view ≡ viewed_among (pinned_items (site_state_of h keeps) (Numbered number)) selector view = ap (λ (items : Items). viewed_among items selector view) s.2 in
    gives s.0 s.1 (has_bytes s.0 selector view (λ none. some (sym same ∙ none))) ∙ ap (λ (bytes : List ℕ). chunk_of bytes k) same)

pub pinned_fault_comes : (a b : StoreState) (ka : HasSite a) (kb : HasSite b) (number : ℕ) (fault : SiteOpenFault) (to_site_fault : SiteFault) → IsTrue (is_out a number) → to_site_fault ≡ site_fault_of fault → IsPinnedFault number a b fault → sites.IsReadFault false (site_state_of a ka) (site_state_of b kb) to_site_fault
pinned_fault_comes a b ka kb number fault to_site_fault out is h = subst (sites.IsReadFault false (site_state_of a ka) (site_state_of b kb)) (sym is) (by fault h)
  where
    by : (fault : SiteOpenFault) → IsPinnedFault number a b fault → sites.IsReadFault false (site_state_of a ka) (site_state_of b kb) (site_fault_of fault)
    by BadRecord h = λ honest. absurd (let none : IsProp ⊥ = hlevel props in ∥∥₁_elim (stood a ka number honest out) none (λ s. h.1 honest s.0 s.1))
    by (Keeper fault) h = read_fault_of false a b ka kb fault h.0
    by Memory h = absurd h

pub pinned_counted : (a b : StoreState) (ka : HasSite a) (number : ℕ) (fault : SiteOpenFault) (to_site_fault : SiteFault) → IsTrue (is_out a number) → to_site_fault ≡ site_fault_of fault → IsPinnedFault number a b fault → IsReadCounted a.honest to_site_fault a.failed_reads b.failed_reads
pinned_counted a b ka number fault to_site_fault out is h = subst (λ (f : SiteFault). IsReadCounted a.honest f a.failed_reads b.failed_reads) (sym is) (by fault h)
  where
    by : (fault : SiteOpenFault) → IsPinnedFault number a b fault → IsReadCounted a.honest (site_fault_of fault) a.failed_reads b.failed_reads
    by BadRecord h = λ honest. absurd (let none : IsProp ⊥ = hlevel props in ∥∥₁_elim (stood a ka number honest out) none (λ s. h.1 honest s.0 s.1))
    by (Keeper fault) h = store_read_counted a b fault h.0 h.1
    by Memory h = absurd h
