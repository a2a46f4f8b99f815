-- What a key-value store holds, seen as a site.
use Rattle.std.specs.Prelude.{◌≡◌, Bool, true, false, List, [], refl, IsTrue}
use Rattle.std.proofs.Common.{ap, sym, subst, ◌∙◌}
use Rattle.std.specs.Coded.{Π_prop, ×_prop, Coded-set}
use Rattle.std.proofs.Props.{props}
use mathlib.Core.Logic.{∥∥₁_elim, ∥∥₁_prop}
use mathlib.Core.HLevel.{Σ_prop_path}
use Rattle.host_types.specs.Site.{Site, IsSite}
use Rattle.host_types.specs.SiteState.{SiteState}
use Rattle.mem_site.specs.contracts.mem_site.MemSite as mem
use Rattle.page_store.specs.Pages.{Pair}
use Rattle.page_store.specs.StoreState.{StoreState}
use Rattle.page_store.specs.declared.banner.Banner.{Banner}
use Rattle.site_records.specs.Layout.{layout}
use Rattle.site_records.proofs.LayoutTells.{layout_tells}
use Rattle.site_store.specs.PinnedItems.{Pins, AllHave, AllHave-prop, pins_of}

-- These pairs and this banner represent a valid site: its layout, and its host, port and administrator, in version 2 of images.
pub record PairsShowSite (pairs : List Pair) (banner : Banner) (s : Site) : Type 0 where
  pub valid : ∥ IsSite s ∥₁
  pub all : pairs ≡ layout s
  pub host : banner.host ≡ s.host
  pub port : banner.port ≡ s.port
  pub admin : banner.admin ≡ s.admin
  pub version : banner.version ≡ 2

-- What is left has the pairs and the banner of a site; `has_content` says which it has.
abbrev pub Represents : {L : Type 0} → (L → List Pair → Banner → Type 0) → L → Site → Type 0
Represents has_content c s = (pairs : List Pair) × (banner : Banner) × has_content c pairs banner × PairsShowSite pairs banner s

-- the site that a key-value store holds
abbrev pub RepresentedBy : StoreState → Site → Type 0
RepresentedBy h s = PairsShowSite h.pairs h.banner s

-- An honest keeper holds a site, and what each of its pins keeps are the items of one.
abbrev pub HasSite : StoreState → Type 0
HasSite h = IsTrue h.honest → (s : Site) × RepresentedBy h s × AllHave h.pins

-- that of no items
abbrev pub no_site : Site
no_site = record { items = []; host = []; port = 0; admin = [] }

-- what is known where the test passes, or else no site
abbrev pub where_passed : (test : Bool) → (IsTrue test → Site) → Site
where_passed true site = site refl
where_passed false site = no_site

-- the site that is kept
abbrev pub site_of : (h : StoreState) → HasSite h → Site
site_of h keeps = where_passed h.honest (λ honest. (keeps honest).0)

-- a key-value store as a keeper of its site
abbrev pub site_state_of : (h : StoreState) → HasSite h → SiteState
site_state_of h keeps = record {
  site = site_of h keeps;
  honest = h.honest;
  usable = h.usable;
  free = h.free;
  failed_reads = h.failed_reads;
  failed_writes = h.failed_writes;
  pins = pins_of h.honest h.pins (λ honest. (keeps honest).2);
}

-- ---- a keeper holds at most one site

pub site_set : (s t : Site) → IsProp (s ≡ t)
site_set s t = Coded-set (mem.the_row).coded s t

pub same_site : (pairs : List Pair) (banner : Banner) (s t : Site) → PairsShowSite pairs banner s → PairsShowSite pairs banner t → s ≡ t
same_site pairs banner s t x y =
    ∥∥₁_elim x.valid (site_set s t) (λ a. ∥∥₁_elim y.valid (site_set s t) (λ b. layout_tells s t a b (sym x.host ∙ y.host) (sym x.port ∙ y.port) (sym x.admin ∙ y.admin) (sym x.all ∙ y.all)))

Shows-prop : (pairs : List Pair) (banner : Banner) (s : Site) → IsProp (PairsShowSite pairs banner s)
Shows-prop pairs banner s x y =
    let valid_prop : IsProp ∥ IsSite s ∥₁ = ∥∥₁_prop in
    let all_prop : IsProp (pairs ≡ layout s) = hlevel props in
    let host_prop : IsProp (banner.host ≡ s.host) = hlevel props in
    let port_prop : IsProp (banner.port ≡ s.port) = hlevel props in
    let admin_prop : IsProp (banner.admin ≡ s.admin) = hlevel props in
    let version_prop : IsProp (banner.version ≡ 2) = hlevel props in
    λ i. record {
      valid = valid_prop x.valid y.valid i;
      all = all_prop x.all y.all i;
      host = host_prop x.host y.host i;
      port = port_prop x.port y.port i;
      admin = admin_prop x.admin y.admin i;
      version = version_prop x.version y.version i;
    }

site_prop : (pairs : List Pair) (banner : Banner) (pins : Pins) → IsProp ((s : Site) × PairsShowSite pairs banner s × AllHave pins)
site_prop pairs banner pins x y =
    let a : (s : Site) × (PairsShowSite pairs banner s × AllHave pins) = (x.0, (x.1, x.2)) in
    let b : (s : Site) × (PairsShowSite pairs banner s × AllHave pins) = (y.0, (y.1, y.2)) in
    let same : a ≡ b = Σ_prop_path (λ (s : Site). ×_prop (Shows-prop pairs banner s) (AllHave-prop pins)) (same_site pairs banner x.0 y.0 x.1 y.1) in
    λ i. ((same i).0, (same i).1.0, (same i).1.1)

pub HasSite-prop : (h : StoreState) → IsProp (HasSite h)
HasSite-prop h = Π_prop (λ honest. site_prop h.pairs h.banner h.pins)

-- what is kept is that site
passed : (test : Bool) (site : IsTrue test → Site) (h : IsTrue test) → where_passed test site ≡ site h
passed true site h = let set : IsProp (true ≡ true) = hlevel props in ap site (set refl h)
passed false site h = absurd (cc h)

pub site_kept : (h : StoreState) (keeps : HasSite h) → IsTrue h.honest → RepresentedBy h (site_of h keeps)
site_kept h keeps honest = subst (λ (s : Site). RepresentedBy h s) (sym (passed h.honest (λ t. (keeps t).0) honest)) (keeps honest).1

pub site_is : (h : StoreState) (keeps : HasSite h) → IsTrue h.honest → (s : Site) → RepresentedBy h s → site_of h keeps ≡ s
site_is h keeps honest s kept = same_site h.pairs h.banner (site_of h keeps) s (site_kept h keeps honest) kept
