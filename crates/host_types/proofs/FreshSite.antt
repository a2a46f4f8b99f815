-- A site of which only the top menu is there keeps the rules of a site.
use Rattle.std.proofs.Common.{◌≡◌, ℕ, ◌<◌, ◌≤◌, ◌^◌, List, [], ◌∷◌, length, Some, refl, sym, subst}
use Rattle.std.specs.Prelude.{IsTrue}
use Rattle.std.proofs.lemmas.Bool.{le-leb}
use Rattle.common_types.specs.Names.{is_field, is_word}
use Rattle.host_types.specs.Site.{Site, item_at, fresh_site, empty_menu, IsSite, MayStand}
use Rattle.host_types.specs.declared.item.Item.{Item}

empty_menu_may_stand : (s : Site) (title : List ℕ) (stamp : ℕ) → length title ≤ 69 → IsTrue (is_field title) → stamp ≤ 253402300799 → MayStand s [] (empty_menu title stamp)
empty_menu_may_stand s title stamp fits field early = record {
  name = refl;
  valid = rw (le-leb (length title) 69 fits, field, le-leb stamp 253402300799 early) refl;
  no_url = refl;
  counted = λ cap next is. absurd (cc is);
  post = λ is. absurd (cc is);
}

only_top : (host : List ℕ) (port : ℕ) (admin title : List ℕ) (stamp : ℕ) → length title ≤ 69 → IsTrue (is_field title) → stamp ≤ 253402300799
    → (selector : List ℕ) (item : Item) → item_at (fresh_site host port admin title stamp) selector ≡ Some item → MayStand (fresh_site host port admin title stamp) selector item
only_top host port admin title stamp fits field early [] item found =
    let same : empty_menu title stamp ≡ item = cc found in
    subst (λ (i : Item). MayStand (fresh_site host port admin title stamp) [] i) same (empty_menu_may_stand (fresh_site host port admin title stamp) title stamp fits field early)
only_top host port admin title stamp fits field early (b ∷ bs) item found = absurd (cc found)

pub fresh_keeps : (host : List ℕ) (port : ℕ) (admin title : List ℕ) (stamp : ℕ) → length host ≤ 100 → IsTrue (is_word host) → 0 < port → port < 2 ^ 16 → length admin ≤ 100 → IsTrue (is_field admin)
    → length title ≤ 69 → IsTrue (is_field title) → stamp ≤ 253402300799 → IsSite (fresh_site host port admin title stamp)
fresh_keeps host port admin title stamp host_fits word given fits admin_fits admin_field title_fits title_field early = record {
  sorted = refl;
  host = rw (le-leb (length host) 100 host_fits, word) refl;
  port_given = given;
  port_fits = fits;
  admin = rw (le-leb (length admin) 100 admin_fits, admin_field) refl;
  top = tt;
  each = only_top host port admin title stamp title_fits title_field early;
}

pub fresh_is_site : (s : Site) (host : List ℕ) (port : ℕ) (admin title : List ℕ) (stamp : ℕ) → s ≡ fresh_site host port admin title stamp → length host ≤ 100 → IsTrue (is_word host) → 0 < port → port < 2 ^ 16
    → length admin ≤ 100 → IsTrue (is_field admin) → length title ≤ 69 → IsTrue (is_field title) → stamp ≤ 253402300799 → IsSite s
fresh_is_site s host port admin title stamp is host_fits word given fits admin_fits admin_field title_fits title_field early =
    subst (λ (t : Site). IsSite t) (sym is) (fresh_keeps host port admin title stamp host_fits word given fits admin_fits admin_field title_fits title_field early)
