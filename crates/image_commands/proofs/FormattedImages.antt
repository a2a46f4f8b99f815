-- An image that was made represents its site and no other.
use Rattle.std.proofs.Common.{◌≡◌, ℕ, ◌<◌, ◌≤◌, ◌^◌, List, length, Result, Ok, Err, refl}
use Rattle.std.specs.Prelude.{IsTrue, OnOk, IfErr}
use Rattle.common_types.specs.Names.{is_field, is_word}
use Rattle.host_types.specs.Site.{Site, fresh_site}
use Rattle.host_types.proofs.FreshSite.{fresh_keeps}
use Rattle.page_store.specs.Sectors.{Image}
use Rattle.page_store.specs.Pages.{Pair}
use Rattle.page_store.specs.Content.{is_tree_version, HasContent}
use Rattle.page_store.specs.Formatting.{IsFirst}
use Rattle.page_store.specs.declared.banner.Banner.{Banner}
use Rattle.site_records.specs.Layout.{layout}
use Rattle.site_store.specs.Represented.{PairsShowSite}
use Rattle.host_on_disk.proofs.Images.{kept_stands, one_site}
use Rattle.image_commands.specs.Formatted.{IsFormatted}

-- the banner of a tree with these names
abbrev pub banner_of : List ℕ → ℕ → List ℕ → Banner
banner_of host port admin = record { version = 2; host = host; port = port; admin = admin }

-- a fresh site's layout under its banner
pub fresh_shows : (pairs : List Pair) (host : List ℕ) (port : ℕ) (admin title : List ℕ) (now : ℕ) → pairs ≡ layout (fresh_site host port admin title now) → length host ≤ 100 → IsTrue (is_word host) → 0 < port → port < 2 ^ 16 → length admin ≤ 100 → IsTrue (is_field admin)
    → length title ≤ 69 → IsTrue (is_field title) → now ≤ 253402300799 → PairsShowSite pairs (banner_of host port admin) (fresh_site host port admin title now)
fresh_shows pairs host port admin title now all host_fits word given fits admin_fits admin_field title_fits title_field early = record {
  valid = ∣ fresh_keeps host port admin title now host_fits word given fits admin_fits admin_field title_fits title_field early ∣₁;
  all = all;
  host = refl;
  port = refl;
  admin = refl;
  version = refl;
}

pub is_formatted : {T E : Type 0} (r : Result T E) (image : Image) (pages : ℕ) (pairs : List Pair) (banner : Banner) (s : Site) → OnOk r (HasContent image pairs banner) → OnOk r (IsFirst pages image) → IsTrue (is_tree_version banner.version) → PairsShowSite pairs banner s → OnOk r (IsFormatted image pages s)
is_formatted (Ok x) image pages pairs banner s content first version shows =
    let stands = kept_stands image pairs banner s content version shows in
    record { stands = stands; alone = λ t other. one_site image t s other stands; first = first }
is_formatted (Err e) image pages pairs banner s content first version shows = tt

-- more of what holds of an answer, or of a fault
pub done_more : {T E P Q : Type 0} (r : Result T E) → OnOk r P → (P → Q) → OnOk r Q
done_more (Ok x) p more = more p
done_more (Err e) p more = tt

pub failed_more : {T E : Type 0} {P Q : E → Type 0} (r : Result T E) → IfErr r P → ((e : E) → P e → Q e) → IfErr r Q
failed_more (Ok x) p more = tt
failed_more (Err e) p more = more e p
