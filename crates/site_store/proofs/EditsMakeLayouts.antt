-- The edits of some replacements make the layout of the site that the replacements make.
use Rattle.std.proofs.Common.{◌≡◌, ◌≢◌, ℕ, Bool, true, false, cond, List, [], ◌∷◌, map, Option, Some, None, inl, inr, refl, sym, ap, subst, ◌∙◌}
use Rattle.std.specs.Prelude.{IsTrue, ◌&&◌, not, fold}
use Rattle.std.specs.declared.cmp.Ordering.{Ordering}
use Rattle.std.specs.declared.cmp.Ordering.TheVariants.{Less, Equal, Greater}
use Rattle.std.specs.Ordering.{is_eq, is_lt}
use Rattle.std.specs.BTreeMap.{is_at}
use Rattle.std.specs.FinMap.{is_sorted}
use Rattle.std.specs.FinMap.Entries.{below_all}
use Rattle.host_types.specs.Site.{Site, byte_cmp, item_at}
use Rattle.host_types.specs.SiteLaws.{lookup-insert_entry, lookup-remove_entry, is_sorted-insert_entry, is_sorted-remove_entry}
use Rattle.host_types.specs.declared.item.Item.{Item}
use Rattle.page_store.specs.Keys.{precedes, rises}
use Rattle.page_store.specs.Batch.{updated, with_value, edit_key, is_edit, is_batch}
use Rattle.page_store.specs.declared.edit.Edit.{Edit}
use Rattle.std.specs.List.{list_all}
use Rattle.site_records.specs.Keys.{owner}
use Rattle.site_records.specs.Layout.{Pairs, layout, value_at, value_in, has_word}
use Rattle.site_records.specs.LayoutLaws.{value_at-not_owned, is_at-Decides, value_at-layout, value_at-with_item, value_at-without_item, layout_from_values, is_sorted-layout}
use Rattle.site_records.proofs.ChunkLaws.{word_value}
use Rattle.site_pairs.specs.Edits.{Edits, with_all, without_all, pairs_beside, with_replacement, edits_of, batch_of}
use Rattle.site_pairs.specs.KeyLaws.{owned_beside}
use Rattle.site_pairs.proofs.EditValues.{Value, edit_at, or_put, or_gone, replacement-at}
use Rattle.site_pairs.proofs.WordKeys.{empty_where, word_or_none, word_beside, no_word_beside}
use Rattle.change_plan.specs.Replacements.{replaced_at, replaced, all_replaced, AreReplacements}
use Rattle.change_plan.specs.declared.replacement.Replacement.{Replacement}

-- the value after an edit, if there is one
abbrev pub after : Option Value → Value → Value
after None old = old
after (Some value) old = value

-- ---- single edits

pub sorted_with : (edits : Edits) (ps : Pairs) → IsTrue (is_sorted byte_cmp edits) → IsTrue (is_sorted byte_cmp (with_all edits ps))
sorted_with edits [] h = h
sorted_with edits (p ∷ ps) h = is_sorted-insert_entry (with_all edits ps) p.0 (Some p.1) (sorted_with edits ps h)

pub sorted_without : (edits : Edits) (ps : Pairs) → IsTrue (is_sorted byte_cmp edits) → IsTrue (is_sorted byte_cmp (without_all edits ps))
sorted_without edits [] h = h
sorted_without edits (p ∷ ps) h = is_sorted-insert_entry (without_all edits ps) p.0 None (sorted_without edits ps h)

pub sorted_replacements : (replacements : List Replacement) (edits : Edits) → IsTrue (is_sorted byte_cmp edits) → IsTrue (is_sorted byte_cmp (fold with_replacement edits replacements))
sorted_replacements [] edits h = h
sorted_replacements (r ∷ replacements) edits h =
    let old = pairs_beside r.selector r.before r.after in
    sorted_replacements replacements (with_replacement edits r) (sorted_with (without_all edits old) (pairs_beside r.selector r.after r.before) (sorted_without edits old h))

-- ---- one replacement

replaced_at-value : (t : Site) (selector : List ℕ) (item : Option Item) (q : List ℕ) → IsTrue (is_sorted byte_cmp t.items) →
    value_at (layout (replaced_at t selector item)) q ≡ cond (is_at (byte_cmp (owner q)) selector) (value_in selector item q) (value_at (layout t) q)
replaced_at-value t selector None q h = value_at-without_item t selector q h
replaced_at-value t selector (Some item) q h = value_at-with_item t selector item q h

pub sorted_replacement : (t : Site) (selector : List ℕ) (item : Option Item) → IsTrue (is_sorted byte_cmp t.items) → IsTrue (is_sorted byte_cmp (replaced_at t selector item).items)
sorted_replacement t selector None h = is_sorted-remove_entry t.items selector h
sorted_replacement t selector (Some item) h = is_sorted-insert_entry t.items selector item h

-- what edits and a replacement after them make of a key
abbrev remade : List ℕ → Option Item → Option Item → Option Value → Value → List ℕ → Value
remade selector old new edit was q = after (or_put (value_at (pairs_beside selector new old) q) (or_gone (value_at (pairs_beside selector old new) q) edit)) was

-- a key of the data
data_key : (new old : Value) (edit : Option Value) (was : Value) → after edit was ≡ old → after (or_put new (or_gone old edit)) was ≡ new
data_key (Some v) old edit was h = refl
data_key None (Some v) edit was h = refl
data_key None None edit was h = h

-- the key of a word, which the old item has, or not, and the new one has, or not: that of a word of both keeps its value
one_word : (new old : Bool) (edit : Option Value) (was : Value) → after edit was ≡ empty_where old → after (or_put (empty_where (new && not old)) (or_gone (empty_where (old && not new)) edit)) was ≡ empty_where new
one_word true true edit was h = h
one_word true false edit was h = refl
one_word false true edit was h = refl
one_word false false edit was h = h

own_key : (selector : List ℕ) (old new : Option Item) (edit : Option Value) (was : Value) (q : List ℕ) → after edit was ≡ value_in selector old q → remade selector old new edit was q ≡ value_in selector new q
own_key selector old new edit was q h =
    elim (word_or_none selector q) [
      | inl named ↦
          let word = named.0 in
          let comes : value_at (pairs_beside selector new old) q ≡ empty_where (has_word new word && not (has_word old word)) = ap (value_at (pairs_beside selector new old)) named.1 ∙ word_beside selector new old word in
          let goes : value_at (pairs_beside selector old new) q ≡ empty_where (has_word old word && not (has_word new word)) = ap (value_at (pairs_beside selector old new)) named.1 ∙ word_beside selector old new word in
          let stood : value_in selector old q ≡ empty_where (has_word old word) = ap (value_in selector old) named.1 ∙ word_value selector old word in
          let stands : value_in selector new q ≡ empty_where (has_word new word) = ap (value_in selector new) named.1 ∙ word_value selector new word in
          rw (comes, goes) (one_word (has_word new word) (has_word old word) edit was (h ∙ stood)) ∙ sym stands
      | inr other ↦ rw (no_word_beside selector q new old other, no_word_beside selector q old new other) (data_key (value_in selector new q) (value_in selector old q) edit was h)
    ]

other_key : (new old : Value) (edit : Option Value) (was is : Value) → new ≡ None → old ≡ None → after edit was ≡ is → after (or_put new (or_gone old edit)) was ≡ is
other_key new old edit was is n o h = rw (n, o) h

-- the edits make the layout of a site out of some pairs
abbrev Make : Edits → Pairs → Site → Type 0
Make edits pairs t = (q : List ℕ) → after (edit_at edits q) (value_at pairs q) ≡ value_at (layout t) q

one_replacement : (edits : Edits) (pairs : Pairs) (t : Site) (r : Replacement) → IsTrue (is_sorted byte_cmp t.items) → r.before ≡ item_at t r.selector → Make edits pairs t → Make (with_replacement edits r) pairs (replaced t r)
one_replacement edits pairs t r sorted is make q =
    let edit = edit_at edits q in
    let was = value_at pairs q in
    ap (λ (e : Option Value). after e was) (replacement-at edits r q)
    ∙ elim (is_at (byte_cmp (owner q)) r.selector) as (λ b. is_at (byte_cmp (owner q)) r.selector ≡ b → remade r.selector r.before r.after edit was q ≡ cond b (value_in r.selector r.after q) (value_at (layout t) q)) [
      | true ↦ λ t1.
          let own : owner q ≡ r.selector = (is_at-Decides (owner q) r.selector).0 t1 in
          let there : value_at (layout t) q ≡ value_in r.selector r.before q = value_at-layout t q sorted ∙ ap (λ (k : List ℕ). value_in k (item_at t k) q) own ∙ ap (λ (o : Option Item). value_in r.selector o q) (sym is) in
          own_key r.selector r.before r.after edit was q (make q ∙ there)
      | false ↦ λ t1.
          let apart : owner q ≢ r.selector = λ same. absurd (clash (sym t1 ∙ (is_at-Decides (owner q) r.selector).1 same)) in
          let none = λ (item other : Option Item). value_at-not_owned r.selector (pairs_beside r.selector item other) q (owned_beside r.selector item other) apart in
          other_key (value_at (pairs_beside r.selector r.after r.before) q) (value_at (pairs_beside r.selector r.before r.after) q) edit was (value_at (layout t) q) (none r.after r.before) (none r.before r.after) (make q)
    ] refl
    ∙ sym (replaced_at-value t r.selector r.after q sorted)
  where
    clash : false ≡ true → ⊥
    clash h = cc h

all_replacements : (replacements : List Replacement) (edits : Edits) (pairs : Pairs) (t : Site) → IsTrue (is_sorted byte_cmp t.items) → AreReplacements t replacements → Make edits pairs t → Make (fold with_replacement edits replacements) pairs (all_replaced t replacements)
all_replacements [] edits pairs t sorted are make = make
all_replacements (replacement ∷ replacements) edits pairs t sorted are make =
    all_replacements replacements (with_replacement edits replacement) pairs (replaced t replacement) (sorted_replacement t replacement.selector replacement.after sorted) are.1 (one_replacement edits pairs t replacement sorted are.0 make)

-- ---- a batch

above_all : (k : List ℕ) (es : Edits) → below_all byte_cmp k es ≡ true → edit_at es k ≡ None
above_all k [] h = refl
above_all k (e ∷ es) h =
    elim (byte_cmp k e.0) as (λ (r : Ordering). (is_lt r && below_all byte_cmp k es) ≡ true → cond (is_eq r) (Some e.1) (edit_at es k) ≡ None) [
      | Less ↦ λ h. above_all k es h
      | Equal ↦ λ h. absurd cc
      | Greater ↦ λ h. absurd cc
    ] h

first_true : (a b : Bool) → (a && b) ≡ true → a ≡ true
first_true true b h = refl
first_true false b h = h

second_true : (a b : Bool) → (a && b) ≡ true → b ≡ true
second_true true b h = h
second_true false b h = absurd cc

pub with_value-at : (pairs : Pairs) (key : List ℕ) (value : Value) (q : List ℕ) → IsTrue (is_sorted byte_cmp pairs) → value_at (with_value pairs key value) q ≡ cond (is_at (byte_cmp q) key) value (value_at pairs q)
with_value-at pairs key None q h = lookup-remove_entry pairs key q h
with_value-at pairs key (Some value) q h = lookup-insert_entry pairs key value q

pub sorted_value : (pairs : Pairs) (key : List ℕ) (value : Value) → IsTrue (is_sorted byte_cmp pairs) → IsTrue (is_sorted byte_cmp (with_value pairs key value))
sorted_value pairs key None h = is_sorted-remove_entry pairs key h
sorted_value pairs key (Some value) h = is_sorted-insert_entry pairs key value h

pub sorted_updated : (edits : Edits) (pairs : Pairs) → IsTrue (is_sorted byte_cmp pairs) → IsTrue (is_sorted byte_cmp (updated pairs (batch_of edits)))
sorted_updated [] pairs h = h
sorted_updated (e ∷ es) pairs h = sorted_updated es (with_value pairs e.0 e.1) (sorted_value pairs e.0 e.1 h)

pub updated-at : (edits : Edits) (pairs : Pairs) (q : List ℕ) → is_sorted byte_cmp edits ≡ true → IsTrue (is_sorted byte_cmp pairs) → value_at (updated pairs (batch_of edits)) q ≡ after (edit_at edits q) (value_at pairs q)
updated-at [] pairs q sorted h = refl
updated-at (e ∷ es) pairs q sorted h =
    updated-at es (with_value pairs e.0 e.1) q (second_true (below_all byte_cmp e.0 es) (is_sorted byte_cmp es) sorted) (sorted_value pairs e.0 e.1 h)
    ∙ ap (after (edit_at es q)) (with_value-at pairs e.0 e.1 q h)
    ∙ elim (is_at (byte_cmp q) e.0) as (λ b. is_at (byte_cmp q) e.0 ≡ b → after (edit_at es q) (cond b e.1 (value_at pairs q)) ≡ after (cond b (Some e.1) (edit_at es q)) (value_at pairs q)) [
      | true ↦ λ t.
          let none : edit_at es q ≡ None = ap (edit_at es) ((is_at-Decides q e.0).0 t) ∙ above_all e.0 es (first_true (below_all byte_cmp e.0 es) (is_sorted byte_cmp es) sorted) in
          ap (λ (o : Option Value). after o e.1) none
      | false ↦ λ t. refl
    ] refl

-- The batch of some replacements makes the layout of the site that they make.
pub replacements_make : (pairs : Pairs) (s : Site) (replacements : List Replacement) → IsTrue (is_sorted byte_cmp s.items) → pairs ≡ layout s → AreReplacements s replacements → updated pairs (batch_of (edits_of replacements)) ≡ layout (all_replaced s replacements)
replacements_make pairs s replacements sorted is are =
    let in_order : IsTrue (is_sorted byte_cmp pairs) = subst (λ (ps : Pairs). IsTrue (is_sorted byte_cmp ps)) (sym is) (is_sorted-layout s) in
    let edits_in_order : IsTrue (is_sorted byte_cmp (edits_of replacements)) = sorted_replacements replacements [] refl in
    layout_from_values (updated pairs (batch_of (edits_of replacements))) (all_replaced s replacements) (sorted_updated (edits_of replacements) pairs in_order)
    (λ q. updated-at (edits_of replacements) pairs q edits_in_order in_order ∙ all_replacements replacements [] pairs s sorted are (λ k. ap (λ (ps : Pairs). value_at ps k) is) q)

pub rises_from : (edits : Edits) → is_sorted byte_cmp edits ≡ true → IsTrue (rises (map edit_key (batch_of edits)))
rises_from [] h = refl
rises_from (e ∷ []) h = refl
rises_from (e ∷ f ∷ es) h =
    let rest = second_true (below_all byte_cmp e.0 (f ∷ es)) (is_sorted byte_cmp (f ∷ es)) h in
    let below = first_true (below_all byte_cmp e.0 (f ∷ es)) (is_sorted byte_cmp (f ∷ es)) h in
    let first : precedes e.0 f.0 ≡ true = first_true (is_lt (byte_cmp e.0 f.0)) (below_all byte_cmp e.0 es) below in
    rw first (rises_from (f ∷ es) rest)

-- The keys of the batch rise.
pub keys_rise : (replacements : List Replacement) → IsTrue (rises (map edit_key (batch_of (edits_of replacements))))
keys_rise replacements = rises_from (edits_of replacements) (sorted_replacements replacements [] refl)

-- It is a batch that a keeper takes.
pub is_batch_of : (replacements : List Replacement) (batch : List Edit) → batch ≡ batch_of (edits_of replacements) → IsTrue (list_all is_edit batch) → IsTrue (is_batch batch)
is_batch_of replacements batch is sizes = rw (ap (λ (b : List Edit). rises (map edit_key b)) is ∙ keys_rise replacements, sizes) refl
