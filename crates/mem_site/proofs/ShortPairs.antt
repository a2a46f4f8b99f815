-- What holds of each pair of a site in memory goes on to hold.
use Rattle.std.proofs.Common.{◌≡◌, ℕ, ◌<◌, ◌≤◌, true, false, cond, List, [], ◌∷◌, length, Some, None, refl, ap, sym, ◌∙◌, arith}
use Rattle.std.specs.Prelude.{IsTrue}
use Rattle.std.specs.List.{AllByRecursion}
use Rattle.std.specs.Map.{lookup, remove_entry}
use Rattle.std.specs.BTreeMap.{is_at, insert_entry}
use Rattle.std.specs.declared.cmp.Ordering.TheVariants.{Less, Equal, Greater}
use Rattle.std.specs.Ordering.{is_eq, match_ordering}
use Rattle.std.specs.FinMap.{slice_cmp-IsAntisymmetric, nat_cmp-IsAntisymmetric}
use Rattle.host_types.specs.Site.{byte_cmp}
use Rattle.host_types.specs.Card.{has_short_views}
use Rattle.mem_site.specs.ShortEntries.{IsShortEntry}
use Rattle.host_types.specs.declared.item.Item.{Item}

abbrev pub AreShortEntries : List (List ℕ × Item) → Type 0
AreShortEntries es = AllByRecursion IsShortEntry es

pub kept_insert : (es : List (List ℕ × Item)) (k : List ℕ) (v : Item) → AreShortEntries es → length k ≤ 255 → IsTrue (has_short_views v.body) → AreShortEntries (insert_entry byte_cmp es k v)
kept_insert [] k v h fit short = (record { name = fit; views = short }, tt)
kept_insert (e ∷ es) k v h fit short =
    elim (byte_cmp k e.0) as (λ o. AreShortEntries (match_ordering o ((k, v) ∷ e ∷ es) ((e.0, v) ∷ es) (e ∷ insert_entry byte_cmp es k v))) [
      | Less ↦ (record { name = fit; views = short }, h)
      | Equal ↦ (record { name = h.0.name; views = short }, h.1)
      | Greater ↦ (h.0, kept_insert es k v h.1 fit short)
    ]

pub kept_remove : (es : List (List ℕ × Item)) (k : List ℕ) → AreShortEntries es → AreShortEntries (remove_entry (is_at (byte_cmp k)) es)
kept_remove [] k h = tt
kept_remove (e ∷ es) k h =
    elim (is_at (byte_cmp k) e.0) as (λ b. AreShortEntries (cond b es (e ∷ remove_entry (is_at (byte_cmp k)) es))) [
      | true ↦ h.1
      | false ↦ (h.0, kept_remove es k h.1)
    ]

-- nothing stands at a selector that is too long
pub lookup-long : (es : List (List ℕ × Item)) (q : List ℕ) → AreShortEntries es → 255 < length q → lookup (is_at (byte_cmp q)) es ≡ None
lookup-long [] q h long = refl
lookup-long (e ∷ es) q h long =
    elim (byte_cmp q e.0) as (λ o. byte_cmp q e.0 ≡ o → cond (is_eq o) (Some e.1) (lookup (is_at (byte_cmp q)) es) ≡ None) [
      | Less ↦ λ _. lookup-long es q h.1 long
      | Equal ↦ λ t. let same : q ≡ e.0 = slice_cmp-IsAntisymmetric nat_cmp-IsAntisymmetric q e.0 t in absurd (omega (arith, ap length same, h.0.name))
      | Greater ↦ λ _. lookup-long es q h.1 long
    ] refl

-- the views of what stands somewhere are short
pub found_short : (es : List (List ℕ × Item)) (q : List ℕ) (item : Item) → AreShortEntries es → lookup (is_at (byte_cmp q)) es ≡ Some item → IsTrue (has_short_views item.body)
found_short [] q item h found = absurd (cc found)
found_short (e ∷ es) q item h found =
    elim (is_at (byte_cmp q) e.0) as (λ b. cond b (Some e.1) (lookup (is_at (byte_cmp q)) es) ≡ Some item → IsTrue (has_short_views item.body)) [
      | true ↦ λ is. let same : e.1 ≡ item = cc is in short_of e.1 item same h.0.views
      | false ↦ λ rest. found_short es q item h.1 rest
    ] found
  where
    short_of : (x y : Item) → x ≡ y → IsTrue (has_short_views x.body) → IsTrue (has_short_views y.body)
    short_of x y same s = ap (λ (i : Item). has_short_views i.body) (sym same) ∙ s
