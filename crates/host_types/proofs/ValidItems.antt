-- A site goes on to be one where a valid item is put.
use Rattle.std.proofs.Common.{◌≡◌, ℕ, ◌<◌, false, List, [], Option, Some, ap, sym, subst, ◌∙◌, inl, inr, ◌⊎◌}
use Rattle.std.specs.Prelude.{IsTrue}
use Rattle.std.proofs.lemmas.Bool.{both_ways}
use Rattle.common_types.specs.Names.{is_post_name, is_url_name}
use Rattle.host_types.specs.Items.{is_selector, is_valid_item}
use Rattle.host_types.specs.Site.{Site, item_at, with_item, board_of, board_in, board_at, IsSite, IsMenuBody, IsMenuIn, MayStand}
use Rattle.host_types.specs.SiteLaws.{is_sorted-insert_entry}
use Rattle.host_types.specs.declared.item.Item.{Item}
use Rattle.host_types.proofs.LookUps.{cases_selector, put_here, put_elsewhere, same_some}
use Rattle.host_types.proofs.Boards.{HasNoPosts, stays_post}

-- all that is asked of an item but of a post
pub record FitsThere (selector : List ℕ) (item : Item) : Type 0 where
  pub name : IsTrue (is_selector selector)
  pub valid : IsTrue (is_valid_item selector item)
  pub no_url : is_url_name selector ≡ false
  pub counted : (cap next : ℕ) → board_of item.body ≡ Some (cap, next) → 0 < next

pub may_stand : (s : Site) (selector : List ℕ) (item : Item) → FitsThere selector item → is_post_name selector ≡ false → MayStand s selector item
may_stand s selector item fits other = record {
  name = fits.name;
  valid = fits.valid;
  no_url = fits.no_url;
  counted = fits.counted;
  post = λ is. absurd (both_ways (is_post_name selector) other is);
}

each_with : (s : Site) (k : List ℕ) (v : Item) → IsSite s → FitsThere k v → is_post_name k ≡ false → (HasNoPosts s k ⊎ (board_of v.body ≡ board_at s k))
    → (q : List ℕ) (item : Item) → item_at (with_item s k v) q ≡ Some item → MayStand (with_item s k v) q item
each_with s k v site fits other own q item stands =
    elim (cases_selector q k) [
      | inl same ↦
          let is : v ≡ item = same_some v item (sym (put_here s k v) ∙ ap (item_at (with_item s k v)) (sym same) ∙ stands) in
          subst (λ x. MayStand (with_item s k v) x item) (sym same) (subst (λ (i : Item). MayStand (with_item s k v) k i) is (may_stand (with_item s k v) k v fits other))
      | inr apart ↦
          let stood : item_at s q ≡ Some item = sym (put_elsewhere s k v q apart) ∙ stands in
          let may = site.each q item stood in
          let kept : HasNoPosts s k ⊎ (board_at (with_item s k v) k ≡ board_at s k) = elim own [ inl none ↦ inl none | inr same ↦ inr (ap board_in (put_here s k v) ∙ same) ] in
          record {
            name = may.name;
            valid = may.valid;
            no_url = may.no_url;
            counted = may.counted;
            post = λ is. stays_post s (with_item s k v) k q item (λ b d. ap board_in (put_elsewhere s k v b d)) kept stood (may.post is);
          }
    ]

pub with_is_site : (s : Site) (k : List ℕ) (v : Item) → IsSite s → FitsThere k v → is_post_name k ≡ false → (k ≡ [] → IsMenuBody v.body) → (HasNoPosts s k ⊎ (board_of v.body ≡ board_at s k)) → IsSite (with_item s k v)
with_is_site s k v site fits other menu own = record {
  sorted = is_sorted-insert_entry s.items k v site.sorted;
  host = site.host;
  port_given = site.port_given;
  port_fits = site.port_fits;
  admin = site.admin;
  top = elim (cases_selector [] k) [
    | inl same ↦ subst (λ (o : Option Item). IsMenuIn o) (sym (ap (item_at (with_item s k v)) same ∙ put_here s k v)) (menu (sym same))
    | inr apart ↦ subst (λ (o : Option Item). IsMenuIn o) (sym (put_elsewhere s k v [] apart)) site.top
  ];
  each = each_with s k v site fits other own;
}
