-- A site stays one when an item is removed, its host or its administrator changes.
use Rattle.std.proofs.Common.{◌≡◌, ℕ, ◌<◌, ◌^◌, Bool, true, false, List, [], Option, Some, refl, ap, sym, subst, ◌∙◌, inl, inr, ◌==◌, arith}
use Rattle.std.specs.Prelude.{IsTrue, Result, Ok}
use Rattle.std.proofs.lemmas.Bool.{both_ways, eqb-false, cases_eq}
use Rattle.host_types.specs.Items.{is_host, is_admin}
use Rattle.host_types.specs.Site.{Site, item_at, without_item, board_in, IsSite, IsMenuIn, MayStand}
use Rattle.host_types.specs.SiteLaws.{is_sorted-remove_entry}
use Rattle.host_types.specs.Change.{◌when◌else◌, is_empty, remove, set_host, set_admin}
use Rattle.common_types.specs.declared.refused.Refused.{Refused}
use Rattle.common_types.specs.declared.refused.Refused.TheVariants as refusals
use Rattle.host_types.specs.declared.item.Item.{Item}
use Rattle.host_types.proofs.LookUps.{cases_selector, they_differ, taken_here, taken_elsewhere, some_is_none}
use Rattle.host_types.proofs.Boards.{HasNoPosts, no_posts, stays_post}

-- a change that is made was refused by no test
pub not_refused : (r : Refused) (b : Bool) (rest : Result Site Refused) (t : Site) → (r when b else rest) ≡ Ok t → (b ≡ false) × (rest ≡ Ok t)
not_refused r true rest t h = absurd (cc h)
not_refused r false rest t h = (refl, h)

-- the site that was made
pub made : (r : Result Site Refused) (s t : Site) → r ≡ Ok s → r ≡ Ok t → IsSite s → IsSite t
made r s t is h site =
    let same : s ≡ t = cc (is, h) in
    subst (λ (u : Site). IsSite u) same site

each_without : (s : Site) (k : List ℕ) → IsSite s → HasNoPosts s k → (q : List ℕ) (item : Item) → item_at (without_item s k) q ≡ Some item → MayStand (without_item s k) q item
each_without s k site none q item stands =
    elim (cases_selector q k) [
      | inl same ↦ absurd (some_is_none item (item_at (without_item s k) q) stands (ap (item_at (without_item s k)) same ∙ taken_here s k site.sorted))
      | inr apart ↦
          let stood : item_at s q ≡ Some item = sym (taken_elsewhere s k q site.sorted apart) ∙ stands in
          let may = site.each q item stood in
          record {
            name = may.name;
            valid = may.valid;
            no_url = may.no_url;
            counted = may.counted;
            post = λ is. stays_post s (without_item s k) k q item (λ b d. ap board_in (taken_elsewhere s k b site.sorted d)) (inl none) stood (may.post is);
          }
    ]

pub without_is_site : (s : Site) (k : List ℕ) → IsSite s → (k ≡ [] → ⊥) → HasNoPosts s k → IsSite (without_item s k)
without_is_site s k site not_top none = record {
  sorted = is_sorted-remove_entry s.items k site.sorted;
  host = site.host;
  port_given = site.port_given;
  port_fits = site.port_fits;
  admin = site.admin;
  top = subst (λ (o : Option Item). IsMenuIn o) (sym (taken_elsewhere s k [] site.sorted (they_differ [] k (λ same. not_top (sym same))))) site.top;
  each = each_without s k site none;
}

pub not_empty : (k : List ℕ) → is_empty k ≡ false → k ≡ [] → ⊥
not_empty k h same = both_ways (is_empty k) h (ap is_empty same)

pub remove_keeps : (s t : Site) (k : List ℕ) → IsSite s → remove s k ≡ Ok t → IsSite t
unfolding remove
remove_keeps s t k site h =
    let root = not_refused refusals.Root _ _ t h in
    let missing = not_refused refusals.Missing _ _ t root.1 in
    let full = not_refused refusals.NotEmpty _ _ t missing.1 in
    made _ (without_item s k) t refl full.1 (without_is_site s k site (not_empty k root.0) (no_posts s k full.0))

-- ---- the fields

same_items : (s : Site) (host : List ℕ) (port : ℕ) (admin : List ℕ) → IsSite s → IsTrue (is_host host) → 0 < port → port < 2 ^ 16 → IsTrue (is_admin admin) → IsSite (record { items = s.items; host = host; port = port; admin = admin })
same_items s host port admin site named given fits keeper =
    let t : Site = record { items = s.items; host = host; port = port; admin = admin } in
    record {
      sorted = site.sorted;
      host = named;
      port_given = given;
      port_fits = fits;
      admin = keeper;
      top = site.top;
      each = λ q item stands. let may = site.each q item stands in record {
        name = may.name;
        valid = may.valid;
        no_url = may.no_url;
        counted = may.counted;
        post = λ is. stays_post s t [] q item (λ b d. refl) (inr refl) stands (may.post is);
      };
    }

pub host_keeps : (s t : Site) (host : List ℕ) (port : ℕ) → IsSite s → IsTrue (is_host host) → port < 2 ^ 16 → set_host s host port ≡ Ok t → IsSite t
host_keeps s t host port site named fits h =
    let bad = not_refused refusals.BadName (port == 0) _ t h in
    let given : 0 < port = elim (cases_eq port 0) [ inl none ↦ absurd (eqb-false port 0 bad.0 none) | inr more ↦ omega (arith, more) ] in
    made _ _ t refl bad.1 (same_items s host port s.admin site named given fits site.admin)

pub admin_keeps : (s t : Site) (admin : List ℕ) → IsSite s → IsTrue (is_admin admin) → set_admin s admin ≡ Ok t → IsSite t
admin_keeps s t admin site keeper h = made _ _ t refl h (same_items s s.host s.port admin site site.host site.port_given site.port_fits keeper)
