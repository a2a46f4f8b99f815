-- Which site an image represents.
use Rattle.std.proofs.Common.{◌≡◌, ℕ, ◌<◌, ◌≤◌, ◌*◌, Bool, true, List, Option, Some, None, length, refl, sym, ap, subst, ◌∙◌, arith}
use Rattle.std.specs.Prelude.{false, IsTrue, ◌&&◌, nat_le}
use Rattle.std.specs.Int.{w16, w32, w64}
use Rattle.std.proofs.lemmas.Bool.{leb-true}
use Rattle.host_types.specs.Names.{name_of, is_word, is_field}
use Rattle.host_types.specs.Site.{Site, IsSite}
use Rattle.page_store.specs.Reading.{◌>>=◌, number_at}
use Rattle.page_store.specs.Sectors.{Image, page_of}
use Rattle.page_store.specs.Roots.{if_valid, short_text_at, root_at, slot_in, slot_of, newer, current, record_from, shared_seal}
use Rattle.page_store.specs.Pages.{Pair}
use Rattle.page_store.specs.Content.{is_tree_version, Found, content, content_under, pairs_and_banner, pairs_and_banner_of, HasContent}
use Rattle.page_store.specs.declared.banner.Banner.{Banner}
use Rattle.page_store.specs.declared.slot.Root.{Root}
use Rattle.page_store.specs.declared.slot.Slot.{Slot}
use Rattle.page_store.proofs.Fields.{bind_some, test_passed}
use Rattle.page_store.proofs.CommitImages.{both_true}
use Rattle.cow_tree.specs.KeeperLaws.{opens_trees}
use Rattle.site_store.specs.Represented.{PairsShowSite, same_site}
use Rattle.host_on_disk.specs.ImageSites.{ImageRepresents, RepresentsNone}

-- one image, one content
pub same_pairs_and_banner : (o : Option (List Pair × Banner)) (pairs more : List Pair) (banner other : Banner) → o ≡ Some (pairs, banner) → o ≡ Some (more, other) → (pairs ≡ more) × (banner ≡ other)
same_pairs_and_banner o pairs more banner other x y = let same : (pairs, banner) ≡ (more, other) = cc in (ap (λ (t : List Pair × Banner). t.0) same, ap (λ (t : List Pair × Banner). t.1) same)

-- what an image represents is what its content shows
pub shown : (image : Image) (pairs : List Pair) (banner : Banner) (s : Site) → HasContent image pairs banner → ImageRepresents image s → PairsShowSite pairs banner s
shown image pairs banner s content (more, other, (is, opened), shows) =
    let same = same_pairs_and_banner _ more pairs other banner is content in
    subst (λ (b : Banner). PairsShowSite pairs b s) same.1 (subst (λ (p : List Pair). PairsShowSite p other s) same.0 shows)

pub one_site : (image : Image) (s t : Site) → ImageRepresents image s → ImageRepresents image t → s ≡ t
one_site image s t (pairs, banner, (is, opened), shows) y = same_site pairs banner s t shows (shown image pairs banner t is y)

-- what is kept under an image is what it represents
pub kept_stands : (image : Image) (pairs : List Pair) (banner : Banner) (s : Site) → HasContent image pairs banner → IsTrue (is_tree_version banner.version) → PairsShowSite pairs banner s → ImageRepresents image s
kept_stands image pairs banner s has version shows = (pairs, banner, (has, opens_trees banner.version version), shows)

-- ---- images without a site

pub no_content : (image : Image) → content image ≡ None → RepresentsNone image
no_content image none s (pairs, banner, (is, opened), shows) = absurd (none_is (content image) pairs banner none is)
  where
    none_is : (o : Option (Slot × Found)) (pairs : List Pair) (banner : Banner) → o ≡ None → pairs_and_banner o ≡ Some (pairs, banner) → ⊥
    none_is (Some c) pairs banner e f = absurd cc
    none_is None pairs banner e f = absurd cc

-- the slot whose banner it is
pub slot_there : (image : Image) (pairs : List Pair) (banner : Banner) → HasContent image pairs banner → (slot : Slot) × (current image ≡ Some slot) × (banner ≡ slot.root.banner)
unfolding content
slot_there image pairs banner is = some_is (current image) (content image) (λ c e. let f = bind_some (current image) (λ slot. content_under slot (page_of image) >>= λ found. Some (slot, found)) c e in let g = bind_some (content_under f.0 (page_of image)) (λ found. Some (f.0, found)) c f.2 in
    (f.1 ∙ ap Some (first_is f.0 g.0 c g.2))) pairs banner is
  where
    first_is : (slot : Slot) (found : Found) (c : Slot × Found) → Some (slot, found) ≡ Some c → slot ≡ c.0
    first_is slot found c e = let same : (slot, found) ≡ c = cc in ap (λ (t : Slot × Found). t.0) same

    some_is : (at : Option Slot) (o : Option (Slot × Found)) → ((c : Slot × Found) → o ≡ Some c → at ≡ Some c.0) → (pairs : List Pair) (banner : Banner) → pairs_and_banner o ≡ Some (pairs, banner) → (slot : Slot) × (at ≡ Some slot) × (banner ≡ slot.root.banner)
    some_is at None from pairs banner is = absurd cc
    some_is at (Some c) from pairs banner is = let same : (pairs, banner) ≡ pairs_and_banner_of c = cc in (c.0, from c refl, ap (λ (t : List Pair × Banner). t.1) same)

pub no_slot : (image : Image) → current image ≡ None → RepresentsNone image
no_slot image none s (pairs, banner, (is, opened), shows) = let there = slot_there image pairs banner is in absurd (none_is (current image) there.0 none there.1)
  where
    none_is : (o : Option Slot) (slot : Slot) → o ≡ None → o ≡ Some slot → ⊥
    none_is (Some c) slot e f = absurd cc
    none_is None slot e f = absurd cc

pub other_version : (image : Image) (slot : Slot) → current image ≡ Some slot → (is_tree_version slot.root.banner.version ≡ false) → RepresentsNone image
other_version image slot is other s (pairs, banner, (has, opened), shows) =
    let there = slot_there image pairs banner has in
    let same : slot ≡ there.0 = some_one (current image) slot there.0 is there.1 in
    let clash : false ≡ true = sym other ∙ ap (λ (x : Slot). is_tree_version x.root.banner.version) same ∙ sym (ap (λ (b : Banner). is_tree_version b.version) there.2) ∙ opened in
    absurd (cc clash)
  where
    some_one : (o : Option Slot) (a b : Slot) → o ≡ Some a → o ≡ Some b → a ≡ b
    some_one o a b e f = cc

-- ---- an image is large

sizes : (pages sectors : ℕ) (others : Bool) → nat_le 16 pages && (nat_le pages 65536 && (nat_le (8 * pages) sectors && others)) ≡ true → 128 ≤ sectors
sizes pages sectors others is =
    let a = both_true (nat_le 16 pages) (nat_le pages 65536 && (nat_le (8 * pages) sectors && others)) is in
    let b = both_true (nat_le pages 65536) (nat_le (8 * pages) sectors && others) a.1 in
    let c = both_true (nat_le (8 * pages) sectors) others b.1 in
    omega (arith, leb-true 16 pages a.0, leb-true (8 * pages) sectors c.0)

under : {A B P : Type 0} (r : Option A) (f : A → Option B) (y : B) → (r >>= f) ≡ Some y → ((x : A) → f x ≡ Some y → P) → P
under (Some x) f y e next = next x e
under None f y e next = absurd cc

root_large : (sectors : ℕ) (bytes : List ℕ) (root : Root) → root_at sectors bytes ≡ Some root → 128 ≤ sectors
unfolding root_at
root_large sectors bytes root e =
    under (number_at w16 bytes) _ root e (λ version e1.
    under (number_at w32 version.1) _ root e1 (λ pages e2.
    under (number_at w32 pages.1) _ root e2 (λ tree e3.
    under (number_at w16 tree.1) _ root e3 (λ height e4.
    under (number_at w64 height.1) _ root e4 (λ keys e5.
    under (short_text_at keys.1) _ root e5 (λ host_text e6.
    under (number_at w16 host_text.1) _ root e6 (λ port e7.
    under (short_text_at port.1) _ root e7 (λ admin_text e8.
    under (if_valid (name_of is_word 100 host_text.0)) _ root e8 (λ host e9.
    under (if_valid (name_of is_field 100 admin_text.0)) _ root e9 (λ admin e10.
    sizes pages.0 sectors _ (test_passed _ _ root e10).0))))))))))

slot_large : (sectors : ℕ) (image : Image) (s : ℕ) (slot : Slot) → slot_in sectors image s ≡ Some slot → 128 ≤ sectors
unfolding slot_in
slot_large sectors image s slot e =
    let f = bind_some (shared_seal image (8 * s) 8) (λ seal. root_at sectors (record_from image (8 * s) 8) >>= λ root. Some (record { number = s; seal = seal; root = root })) slot e in
    let g = bind_some (root_at sectors (record_from image (8 * s) 8)) (λ root. Some (record { number = s; seal = f.0; root = root })) slot f.2 in
    root_large sectors (record_from image (8 * s) 8) g.0 g.1

newer_large : (sectors : ℕ) (a b : Option Slot) (slot : Slot) → ((x : Slot) → a ≡ Some x → 128 ≤ sectors) → ((x : Slot) → b ≡ Some x → 128 ≤ sectors) → newer a b ≡ Some slot → 128 ≤ sectors
newer_large sectors (Some a) b slot p q is = p a refl
newer_large sectors None (Some b) slot p q is = q b refl
newer_large sectors None None slot p q is = absurd cc

pub too_small : (image : Image) → length image < 128 → RepresentsNone image
too_small image small s (pairs, banner, (is, opened), shows) =
    let there = slot_there image pairs banner is in
    let large = newer_large (length image) (slot_of image 0) (slot_of image 1) there.0 (slot_large (length image) image 0) (slot_large (length image) image 1) there.1 in
    absurd (omega (arith, small, large))

-- the site that an image represents is a valid one
pub valid_site : (image : Image) (s : Site) → ImageRepresents image s → ∥ IsSite s ∥₁
valid_site image s (pairs, banner, has, shows) = shows.valid
