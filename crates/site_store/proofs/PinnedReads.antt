-- What a pin keeps, as a key-value store that holds it.
use Rattle.std.proofs.Common.{◌≡◌, ℕ, List, Option, refl, ap, subst, ◌∙◌}
use Rattle.std.specs.Prelude.{◌==◌, IsTrue, IfSome}
use Rattle.std.specs.Map.{lookup}
use Rattle.host_types.specs.Site.{Site}
use Rattle.page_store.specs.Batch.{value_at}
use Rattle.page_store.specs.Pages.{Pair}
use Rattle.page_store.specs.Pins.{pairs_at}
use Rattle.page_store.specs.StoreState.{StoreState, StoreHasRead}
use Rattle.site_store.specs.Pinned.{StoodAt, IsPinnedFault}
use Rattle.site_store.specs.Represented.{RepresentedBy}
use Rattle.site_store.specs.StoreReads.{NoneFailed}
use Rattle.site_store.specs.declared.fault.SiteOpenFault.{SiteOpenFault}
use Rattle.site_store.specs.declared.fault.SiteOpenFault.TheVariants.{BadRecord, Keeper, Memory}
use Rattle.site_store.proofs.LocalReads.{counted_later}

-- a store of these pairs, under the names of a site
abbrev pub holding : StoreState → List Pair → Site → StoreState
holding h pairs s = record h { pairs = pairs; banner = record { version = 2; host = s.host; port = s.port; admin = s.admin } }

pub stands_there : (h : StoreState) (number : ℕ) (s : Site) (stood : StoodAt number h s) → RepresentedBy (holding h stood.pairs s) s
stands_there h number s stood = record { valid = stood.valid; all = stood.all; host = refl; port = refl; admin = refl; version = refl }

pub stood_after : (a b : StoreState) (number : ℕ) (s : Site) → StoreHasRead a b → IsTrue a.honest → StoodAt number a s → StoodAt number b s
stood_after a b number s read honest stood = record { pairs = stood.pairs; keeps = ap (lookup (λ n. n == number)) (read.same.pins honest) ∙ stood.keeps; valid = stood.valid; all = stood.all }

pub found_there : (h : StoreState) (number : ℕ) (s : Site) (stood : StoodAt number h s) (value : Option (List ℕ)) (key : List ℕ) → IfSome (pairs_at h number) (λ pairs. value ≡ value_at pairs key) → value ≡ value_at stood.pairs key
found_there h number s stood value key found = subst (λ (o : Option (List Pair)). IfSome o (λ pairs. value ≡ value_at pairs key)) stood.keeps found

-- a fault of a later call is one of both together
pub pinned_fault_later : (number : ℕ) (a b c : StoreState) (fault : SiteOpenFault) → StoreHasRead a b → NoneFailed a b → IsPinnedFault number b c fault → IsPinnedFault number a c fault
pinned_fault_later number a b c BadRecord read none h = (h.0 ∙ none, λ honest s stood. h.1 (read.honest ∙ honest) s (stood_after a b number s read honest stood))
pinned_fault_later number a b c (Keeper fault) read none h = counted_later a b c fault read none h
pinned_fault_later number a b c Memory read none h = h
