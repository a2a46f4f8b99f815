-- What the replacements of several changes make, one change after another.
use Rattle.std.proofs.Common.{◌≡◌, ℕ, Bool, true, false, List, [], ◌∷◌, ◌++◌, map, Option, Some, None, Result, Ok, refl, sym, ap, subst, ◌∙◌}
use Rattle.std.specs.Prelude.{IsTrue, ◌&&◌, ◌||◌, fold}
use Rattle.std.proofs.lemmas.List.Sums.{fold-append}
use Rattle.std.specs.Map.{lookup}
use Rattle.std.specs.BTreeMap.{is_at}
use Rattle.std.specs.FinMap.{is_sorted}
use Rattle.host_types.specs.Site.{Site, Items, byte_cmp, item_at}
use Rattle.host_types.specs.Change.{touched}
use Rattle.host_types.specs.AllChanges.{Changes}
use Rattle.host_types.specs.Words.{is_among}
use Rattle.host_types.specs.declared.item.Item.{Item}
use Rattle.common_types.specs.declared.refused.Refused.{Refused}
use Rattle.page_store.specs.Batch.{edit_key}
use Rattle.site_records.specs.Keys.{owner}
use Rattle.site_pairs.specs.ChangeKeys.{keys_in, keys_between, keys_behind, keys_of_each, keys_of_all}
use Rattle.site_pairs.specs.KeyLaws.{has_key, has_beside, keys_once, keys_in-among, among-append}
use Rattle.site_pairs.specs.Edits.{Edits, with_replacement, edits_of, batch_of}
use Rattle.change_plan.specs.AllPlans.{AreMadeBy}
use Rattle.change_plan.specs.AheadLaws as ahead
use Rattle.change_plan.specs.Replacements.{replaced_at, replaced, all_replaced, AreReplacements}
use Rattle.change_plan.specs.declared.replacement.Replacement.{Replacement}
use Rattle.site_store.proofs.EditsMakeLayouts.{sorted_replacements}
use Rattle.site_store.proofs.ChangedKeys.{batch_keys, made_keys, stands_beside}

-- ---- each knows what stood at its selector

know_append : (front rest : List Replacement) (s : Site) → AreReplacements s front → AreReplacements (all_replaced s front) rest → AreReplacements s (front ++ rest)
know_append [] rest s first others = others
know_append (r ∷ front) rest s first others = (first.0, know_append front rest (replaced s r) first.1 others)

same_replaced : (s t : Site) (selector : List ℕ) (item : Option Item) → s.items ≡ t.items → (replaced_at s selector item).items ≡ (replaced_at t selector item).items
same_replaced s t selector None same = ap (λ (es : Items). (replaced_at (record s { items = es }) selector None).items) same
same_replaced s t selector (Some item) same = ap (λ (es : Items). (replaced_at (record s { items = es }) selector (Some item)).items) same

-- they know the items alone
know_same : (rs : List Replacement) (s t : Site) → s.items ≡ t.items → AreReplacements s rs → AreReplacements t rs
know_same [] s t same know = tt
know_same (r ∷ rs) s t same know = (know.0 ∙ ap (lookup (is_at (byte_cmp r.selector))) same, know_same rs (replaced s r) (replaced t r) (same_replaced s t r.selector r.after same) know.1)

pub all_know : (changes : Changes) (rs : List Replacement) (s t : Site) → AreMadeBy s changes rs t → AreReplacements s rs
all_know [] rs s t (none, same) = subst (AreReplacements s) (sym none) tt
all_know (c ∷ changes) rs s t (m, front, rest, parts, by, others) =
    subst (AreReplacements s) (sym parts) (know_append front rest s by.at.know (know_same rest m (all_replaced s front) by.items (all_know changes rest m t others)))

-- ---- their keys

both_sides : (a b c : Bool) → (a && (b || c)) ≡ ((a && b) || (a && c))
both_sides true b c = refl
both_sides false b c = refl

in_turn : (a b c : Bool) → (a || (b || c)) ≡ ((b || a) || c)
in_turn true true c = refl
in_turn true false c = refl
in_turn false true c = refl
in_turn false false c = refl

or_no : (a : Bool) → (a || false) ≡ a
or_no true = refl
or_no false = refl

-- the keys of one change
between : (s m : Site) (selectors : List (List ℕ)) (q : List ℕ) → is_among (keys_between s (Ok m) selectors) q ≡ (is_among selectors (owner q) && (stands_beside s m q || stands_beside m s q))
between s m selectors q =
    among-append (keys_in s m selectors) (keys_in m s selectors) q
    ∙ ap (λ (b : Bool). b || is_among (keys_in m s selectors) q) (keys_in-among s m selectors q)
    ∙ ap (λ (b : Bool). (is_among selectors (owner q) && stands_beside s m q) || b) (keys_in-among m s selectors q)
    ∙ sym (both_sides (is_among selectors (owner q)) (stands_beside s m q) (stands_beside m s q))

each_keys : (changes : Changes) (rs : List Replacement) (edits : Edits) (s t : Site) (q : List ℕ) → IsTrue (is_sorted byte_cmp s.items) → AreMadeBy s changes rs t
    → has_key (fold with_replacement edits rs) q ≡ (is_among (keys_of_each s changes) q || has_key edits q)
each_keys [] rs edits s t q sorted (none, same) = ap (λ (l : List Replacement). has_key (fold with_replacement edits l) q) none
each_keys (c ∷ changes) rs edits s t q sorted (m, front, rest, parts, by, others) =
    let k = owner q in
    let selectors = touched s c.0 in
    let u = all_replaced s front in
    let more = keys_of_each m changes in
    let sorted_m : IsTrue (is_sorted byte_cmp m.items) = subst (λ (es : Items). IsTrue (is_sorted byte_cmp es)) (sym by.items) (ahead.sorted_replacements s front sorted) in
    let same : item_at u k ≡ item_at m k = ap (lookup (is_at (byte_cmp k))) (sym by.items) in
    ap (λ (l : List Replacement). has_key (fold with_replacement edits l) q) parts
    ∙ ap (λ (e : Edits). has_key e q) (fold-append with_replacement edits front rest)
    ∙ each_keys changes rest (fold with_replacement edits front) m t q sorted_m others
    ∙ ap (λ (b : Bool). is_among more q || b) (
    made_keys front edits s q sorted by.at.know by.at.apart
    ∙ ap (λ (b : Bool). (b && (stands_beside s u q || stands_beside u s q)) || has_key edits q) (by.at.at k)
    ∙ ap (λ (o : Option Item). (is_among selectors k && (has_beside k (item_at s k) o q || has_beside k o (item_at s k) q)) || has_key edits q) same
    ∙ ap (λ (b : Bool). b || has_key edits q) (sym (between s m selectors q))
    )
    ∙ in_turn (is_among more q) (is_among (keys_between s (Ok m) selectors) q) (has_key edits q)
    ∙ ap (λ (b : Bool). b || has_key edits q) (sym (among-append (keys_between s (Ok m) selectors) more q))
    ∙ ap (λ (r : Result Site Refused). is_among (keys_between s r selectors ++ keys_behind (λ x. keys_of_each x changes) r) q || has_key edits q) (sym by.applied)

-- The batch of the replacements of several changes has just their keys, in order.
pub all_changed_keys : (s t : Site) (changes : Changes) (rs : List Replacement) → IsTrue (is_sorted byte_cmp s.items) → AreMadeBy s changes rs t → map edit_key (batch_of (edits_of rs)) ≡ keys_of_all s changes
unfolding keys_of_all
all_changed_keys s t changes rs sorted made =
    batch_keys (edits_of rs) ∙ keys_once (edits_of rs) (keys_of_each s changes) (sorted_replacements rs [] refl) (λ q. each_keys changes rs [] s t q sorted made ∙ or_no (is_among (keys_of_each s changes) q))
