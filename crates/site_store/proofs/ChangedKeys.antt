-- The keys that the batch of a change has.
use Rattle.std.proofs.Common.{◌≡◌, ◌≢◌, ℕ, Bool, true, false, cond, List, [], ◌∷◌, map, Option, Some, None, refl, sym, ap, ◌∙◌}
use Rattle.std.specs.Prelude.{IsTrue, ◌&&◌, ◌||◌, is_some, bytes_eq, fold}
use Rattle.std.specs.Map.{lookup}
use Rattle.std.specs.BTreeMap.{is_at}
use Rattle.std.specs.FinMap.{is_sorted}
use Rattle.std.proofs.lemmas.Slice.Eq.{bytes_eq-Decides}
use Rattle.std.proofs.lemmas.Map.Text.{is_eq-slice_cmp}
use Rattle.host_types.specs.Site.{Site, byte_cmp, item_at}
use Rattle.host_types.specs.SiteLaws.{lookup-insert_entry, item_at-with_item, item_at-without_item}
use Rattle.host_types.specs.Words.{is_among}
use Rattle.host_types.specs.declared.item.Item.{Item}
use Rattle.page_store.specs.Batch.{edit_key}
use Rattle.site_records.specs.Keys.{owner}
use Rattle.site_records.specs.Layout.{Pairs}
use Rattle.site_pairs.specs.KeyLaws.{entry_keys, has_key, has_beside, not_its_own}
use Rattle.site_pairs.specs.Edits.{Edits, with_all, without_all, pairs_beside, with_replacement, batch_of}
use Rattle.change_plan.specs.Replacements.{replaced_at, replaced, all_replaced, selectors_of, AreReplacements, AreApart}
use Rattle.change_plan.specs.declared.replacement.Replacement.{Replacement}
use Rattle.site_store.proofs.EditsMakeLayouts.{sorted_replacement}

clash : false ≡ true → ⊥
clash h = cc h

-- ---- the keys of edits

put_keys : (edits : Edits) (ps : Pairs) (q : List ℕ) → has_key (with_all edits ps) q ≡ (has_key ps q || has_key edits q)
put_keys edits [] q = refl
put_keys edits (p ∷ ps) q =
    ap (λ (o : Option (Option (List ℕ))). is_some o) (lookup-insert_entry (with_all edits ps) p.0 (Some p.1) q)
    ∙ elim (is_at (byte_cmp q) p.0) as (λ b. is_some (cond b (Some (Some p.1)) (lookup (is_at (byte_cmp q)) (with_all edits ps))) ≡ (is_some (cond b (Some p.1) (lookup (is_at (byte_cmp q)) ps)) || has_key edits q)) [
      | true ↦ refl
      | false ↦ put_keys edits ps q
    ]

gone_keys : (edits : Edits) (ps : Pairs) (q : List ℕ) → has_key (without_all edits ps) q ≡ (has_key ps q || has_key edits q)
gone_keys edits [] q = refl
gone_keys edits (p ∷ ps) q =
    ap (λ (o : Option (Option (List ℕ))). is_some o) (lookup-insert_entry (without_all edits ps) p.0 None q)
    ∙ elim (is_at (byte_cmp q) p.0) as (λ b. is_some (cond b (Some None) (lookup (is_at (byte_cmp q)) (without_all edits ps))) ≡ (is_some (cond b (Some p.1) (lookup (is_at (byte_cmp q)) ps)) || has_key edits q)) [
      | true ↦ refl
      | false ↦ gone_keys edits ps q
    ]

replacement_keys : (edits : Edits) (r : Replacement) (q : List ℕ) → has_key (with_replacement edits r) q ≡ (has_beside r.selector r.after r.before q || (has_beside r.selector r.before r.after q || has_key edits q))
replacement_keys edits r q =
    let old = pairs_beside r.selector r.before r.after in
    let new = pairs_beside r.selector r.after r.before in
    put_keys (without_all edits old) new q ∙ ap (λ b. has_key new q || b) (gone_keys edits old q)

-- ---- what stands at a selector once replacements are made

replaced_stands : (s : Site) (replacement : Replacement) (k : List ℕ) → IsTrue (is_sorted byte_cmp s.items) → item_at (replaced s replacement) k ≡ cond (bytes_eq k replacement.selector) replacement.after (item_at s k)
replaced_stands s replacement k sorted = at replacement.after ∙ ap (λ (b : Bool). cond b replacement.after (item_at s k)) (is_eq-slice_cmp k replacement.selector)
  where
    at : (new : Option Item) → item_at (replaced_at s replacement.selector new) k ≡ cond (is_at (byte_cmp k) replacement.selector) new (item_at s k)
    at None = item_at-without_item s replacement.selector k sorted
    at (Some item) = item_at-with_item s replacement.selector item k

not_first : (a b : Bool) → (a || b) ≡ false → (a ≡ false) × (b ≡ false)
not_first true b h = absurd (clash (sym h))
not_first false b h = (refl, h)

-- elsewhere all stands as before
made_elsewhere : (replacements : List Replacement) (s : Site) (k : List ℕ) → IsTrue (is_sorted byte_cmp s.items) → is_among (selectors_of replacements) k ≡ false → item_at (all_replaced s replacements) k ≡ item_at s k
made_elsewhere [] s k sorted apart = refl
made_elsewhere (replacement ∷ replacements) s k sorted apart =
    let parts = not_first (bytes_eq k replacement.selector) (is_among (selectors_of replacements) k) apart in
    made_elsewhere replacements (replaced s replacement) k (sorted_replacement s replacement.selector replacement.after sorted) parts.1
    ∙ replaced_stands s replacement k sorted ∙ ap (λ (b : Bool). cond b replacement.after (item_at s k)) parts.0

-- a key of what stands at its selector, but of no word that what stands there in another site has too
abbrev pub stands_beside : Site → Site → List ℕ → Bool
stands_beside s other q = has_beside (owner q) (item_at s (owner q)) (item_at other (owner q)) q

here : (new old edit : Bool) → (new || (old || edit)) ≡ ((old || new) || edit)
here true true edit = refl
here true false edit = refl
here false true edit = refl
here false false edit = refl

abbrev pub all_keys : Bool → Bool → Bool → Bool → Bool
all_keys among before after edit = (among && (before || after)) || edit

pub made_keys : (replacements : List Replacement) (edits : Edits) (s : Site) (q : List ℕ) → IsTrue (is_sorted byte_cmp s.items) → AreReplacements s replacements → AreApart replacements
    → has_key (fold with_replacement edits replacements) q ≡ all_keys (is_among (selectors_of replacements) (owner q)) (stands_beside s (all_replaced s replacements) q) (stands_beside (all_replaced s replacements) s q) (has_key edits q)
made_keys [] edits s q sorted know apart = refl
made_keys (r ∷ replacements) edits s q sorted know apart =
    let k = owner q in
    let s1 = replaced s r in
    let t = all_replaced s1 replacements in
    let sorted1 = sorted_replacement s r.selector r.after sorted in
    let rest = made_keys replacements (with_replacement edits r) s1 q sorted1 know.1 apart.1 in
    let among = is_among (selectors_of replacements) k in
    let edited = has_key (with_replacement edits r) q in
    rest ∙ elim (bytes_eq k r.selector) as (λ b. bytes_eq k r.selector ≡ b → all_keys among (stands_beside s1 t q) (stands_beside t s1 q) edited ≡ all_keys (b || among) (stands_beside s t q) (stands_beside t s q) (has_key edits q)) [
      | true ↦ λ is.
          let own : k ≡ r.selector = (bytes_eq-Decides k r.selector).0 is in
          let none : among ≡ false = ap (is_among (selectors_of replacements)) own ∙ apart.0 in
          let was : r.before ≡ item_at s k = know.0 ∙ ap (item_at s) (sym own) in
          let stands : r.after ≡ item_at t k = sym (made_elsewhere replacements s1 k sorted1 none ∙ replaced_stands s r k sorted ∙ ap (λ (b : Bool). cond b r.after (item_at s k)) is) in
          let goes : has_beside r.selector r.before r.after q ≡ stands_beside s t q = λ i. has_beside (sym own i) (was i) (stands i) q in
          let comes : has_beside r.selector r.after r.before q ≡ stands_beside t s q = λ i. has_beside (sym own i) (stands i) (was i) q in
          ap (λ (b : Bool). all_keys b (stands_beside s1 t q) (stands_beside t s1 q) edited) none
          ∙ replacement_keys edits r q
          ∙ ap (λ (b : Bool). b || (has_beside r.selector r.before r.after q || has_key edits q)) comes
          ∙ ap (λ (b : Bool). stands_beside t s q || (b || has_key edits q)) goes
          ∙ here (stands_beside t s q) (stands_beside s t q) (has_key edits q)
      | false ↦ λ is.
          let apart1 : k ≢ r.selector = λ same. clash (sym is ∙ (bytes_eq-Decides k r.selector).1 same) in
          let stands : item_at s1 k ≡ item_at s k = replaced_stands s r k sorted ∙ ap (λ (b : Bool). cond b r.after (item_at s k)) is in
          ap (λ (o : Option Item). all_keys among (has_beside k o (item_at t k) q) (has_beside k (item_at t k) o q) edited) stands
          ∙ ap (all_keys among (stands_beside s t q) (stands_beside t s q)) (
          replacement_keys edits r q
          ∙ ap (λ (b : Bool). b || (has_beside r.selector r.before r.after q || has_key edits q)) (not_its_own r.after r.before r.selector q apart1)
          ∙ ap (λ (b : Bool). b || has_key edits q) (not_its_own r.before r.after r.selector q apart1)
          )
    ] refl

-- ---- the keys of the batch

pub batch_keys : (edits : Edits) → map edit_key (batch_of edits) ≡ entry_keys edits
batch_keys [] = refl
batch_keys (e ∷ es) = ap (λ l. e.0 ∷ l) (batch_keys es)
