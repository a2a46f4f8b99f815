-- No item of a site is too long, and no part of one.
use Rattle.std.proofs.Common.{◌≡◌, ℕ, true, false, cond, ◌&&◌, not, List, [], ◌∷◌, Some, refl, ap, sym, subst, ◌∙◌}
use Rattle.std.specs.Prelude.{length, nat_lt}
use Rattle.std.specs.List.{AllByRecursion}
use Rattle.std.specs.Map.{lookup}
use Rattle.std.specs.BTreeMap.{is_at}
use Rattle.std.specs.FinMap.{is_sorted}
use Rattle.std.specs.FinMap.Entries.{below_all}
use Rattle.std.specs.declared.cmp.Ordering.{Ordering}
use Rattle.std.specs.declared.cmp.Ordering.TheVariants.{Less, Equal, Greater}
use Rattle.std.specs.Ordering.{is_eq, is_lt}
use Rattle.std.proofs.lemmas.Bool.{and_parts, or_parts, not-true, cond-true}
use Rattle.host_types.specs.Items.{is_bad_body, is_long_body, is_long_item, is_typed_item, is_valid_item}
use Rattle.host_types.specs.Site.{Site, byte_cmp, item_at, IsSite, MayStand}
use Rattle.host_types.specs.declared.item.Item.{Item}
use Rattle.site_records.specs.Limits.{is_short}
use Rattle.site_records.specs.LayoutLaws.{at_itself, not_at}
use Rattle.site_store.specs.Opening.{ItemsAreShort}
use Rattle.site_records.specs.Records.{parts_of}
use Rattle.site_records.proofs.Sizes.{short_anywhere}
use Rattle.site_records.proofs.ChunkLaws.{AreSmall, HasSmallParts}
use Rattle.site_records.proofs.LayoutTells.{found_small}

abbrev StandsIn : List (List ℕ × Item) → List ℕ × Item → Type 0
StandsIn es e = lookup (is_at (byte_cmp e.0)) es ≡ Some e.1

clash : (o : Ordering) → is_eq o ≡ true → is_lt o ≡ true → ⊥
clash Less p h = absurd (cc p)
clash Equal p h = absurd (cc h)
clash Greater p h = absurd (cc p)

not_below : (k q : List ℕ) → is_lt (byte_cmp k q) ≡ true → is_at (byte_cmp q) k ≡ false
not_below k q below = not_at q k (λ same. clash (byte_cmp k k) (at_itself k) (ap (λ x. is_lt (byte_cmp k x)) (sym same) ∙ below))

stand_behind : (k : List ℕ) (v : Item) (es fs : List (List ℕ × Item)) → below_all byte_cmp k fs ≡ true → AllByRecursion (StandsIn es) fs → AllByRecursion (StandsIn ((k, v) ∷ es)) fs
stand_behind k v es [] below all = tt
stand_behind k v es (f ∷ fs) below all =
    let parts = and_parts (is_lt (byte_cmp k f.0)) (below_all byte_cmp k fs) below in
    (ap (λ b. cond b (Some v) (lookup (is_at (byte_cmp f.0)) es)) (not_below k f.0 parts.0) ∙ all.0, stand_behind k v es fs parts.1 all.1)

-- entries in order stand at their keys
all_stand : (es : List (List ℕ × Item)) → is_sorted byte_cmp es ≡ true → AllByRecursion (StandsIn es) es
all_stand [] sorted = tt
all_stand (e ∷ es) sorted =
    let parts = and_parts (below_all byte_cmp e.0 es) (is_sorted byte_cmp es) sorted in
    (cond-true (is_at (byte_cmp e.0) e.0) (Some e.1) (lookup (is_at (byte_cmp e.0)) es) (at_itself e.0), stand_behind e.0 e.1 es es parts.0 (all_stand es parts.1))

short_item : (selector : List ℕ) (item : Item) → is_valid_item selector item ≡ true → is_short item ≡ true
short_item selector item valid =
    let parts = and_parts (is_typed_item item) (not (is_bad_body item.body) && not (is_long_item selector item)) valid in
    let limits = and_parts (not (is_bad_body item.body)) (not (is_long_item selector item)) parts.1 in
    let sizes = or_parts (nat_lt 400 (length item.summary)) (is_long_body selector item.body) (not-true (is_long_item selector item) limits.1) in
    rw (sizes.0, short_anywhere selector item.body sizes.1) refl

each_short : (s : Site) (es : List (List ℕ × Item)) → AllByRecursion (StandsIn s.items) es → ((selector : List ℕ) (item : Item) → item_at s selector ≡ Some item → MayStand s selector item) → ItemsAreShort es
each_short s [] all each = tt
each_short s (e ∷ es) all each = (short_item e.0 e.1 (each e.0 e.1 all.0).valid, each_short s es all.1 each)

pub valid_short : (s : Site) → IsSite s → ItemsAreShort s.items
valid_short s site = each_short s s.items (all_stand s.items site.sorted) site.each

-- the parts of each item are small
abbrev pub AllSmall : List (List ℕ × Item) → Type 0
AllSmall es = AllByRecursion (λ e. AreSmall (parts_of e.1.body)) es

each_small : (s : Site) (es : List (List ℕ × Item)) → AllByRecursion (StandsIn s.items) es → ((selector : List ℕ) → HasSmallParts (item_at s selector)) → AllSmall es
each_small s [] all each = tt
each_small s (e ∷ es) all each = (subst HasSmallParts all.0 (each e.0), each_small s es all.1 each)

pub valid_small : (s : Site) → IsSite s → AllSmall s.items
valid_small s site = each_small s s.items (all_stand s.items site.sorted) (found_small s site)
