-- A layout is made of another by one batch at most that has these keys.
use Rattle.std.proofs.Common.{◌≡◌, ℕ, Bool, true, false, cond, List, [], ◌∷◌, map, Result, Ok, Err, Ordering, refl, sym, ap, subst, ◌∙◌, IsTrue}
use Rattle.std.specs.Prelude.{◌&&◌}
use Rattle.std.specs.Ordering.{is_eq, is_lt}
use Rattle.std.specs.declared.cmp.Ordering.TheVariants.{Less, Equal, Greater}
use Rattle.std.specs.BTreeMap.{is_at}
use Rattle.std.specs.FinMap.{is_sorted}
use Rattle.std.proofs.lemmas.Cmp.{nat_list_cmp_total}
use Rattle.host_types.specs.Site.{Site, byte_cmp}
use Rattle.host_types.specs.AllChanges.{Changes}
use Rattle.common_types.specs.declared.refused.Refused.{Refused}
use Rattle.page_store.specs.Keys.{precedes, rises}
use Rattle.page_store.specs.Batch.{updated, edited, edit_key, is_edit}
use Rattle.std.specs.List.{list_all}
use Rattle.page_store.specs.StoreState.{CommitNeed}
use Rattle.page_store.specs.declared.edit.Edit.{Edit}
use Rattle.site_records.specs.Layout.{Pairs, layout, value_at}
use Rattle.site_records.specs.LayoutLaws.{at_itself, is_sorted-layout}
use Rattle.site_pairs.proofs.EditValues.{Value}
use Rattle.site_store.specs.Lacking.{ChangesMayNeed}
use Rattle.site_store.proofs.EditsMakeLayouts.{with_value-at, sorted_value}

first_true : (a b : Bool) → (a && b) ≡ true → a ≡ true
first_true true b h = refl
first_true false b h = h

second_true : (a b : Bool) → (a && b) ≡ true → b ≡ true
second_true true b h = h
second_true false b h = absurd (cc h)

is_less : (o : Ordering) → is_lt o ≡ true → o ≡ Less
is_less Less h = refl
is_less Equal h = absurd (cc h)
is_less Greater h = absurd (cc h)

less_than_both : (a b c : List ℕ) → precedes a b ≡ true → precedes b c ≡ true → precedes a c ≡ true
less_than_both a b c h k = ap is_lt (nat_list_cmp_total.trans a b c (is_less (byte_cmp a b) h) (is_less (byte_cmp b c) k))

-- a key below is another key
below_is_other : (a b : List ℕ) → precedes a b ≡ true → is_at (byte_cmp a) b ≡ false
below_is_other a b h = ap is_eq (is_less (byte_cmp a b) h)

-- without the second key
without_second : (q k : List ℕ) (ks : List (List ℕ)) → rises (q ∷ k ∷ ks) ≡ true → rises (q ∷ ks) ≡ true
without_second q k [] rise = refl
without_second q k (j ∷ ks) rise =
    let above = second_true (precedes q k) (rises (k ∷ j ∷ ks)) rise in
    let less = less_than_both q k j (first_true (precedes q k) (rises (k ∷ j ∷ ks)) rise) (first_true (precedes k j) (rises (j ∷ ks)) above) in
    rw less (second_true (precedes k j) (rises (j ∷ ks)) above)

rises_behind : (k : List ℕ) (ks : List (List ℕ)) → rises (k ∷ ks) ≡ true → rises ks ≡ true
rises_behind k [] rise = refl
rises_behind k (j ∷ ks) rise = second_true (precedes k j) (rises (j ∷ ks)) rise

sorted_edited : (pairs : Pairs) (e : Edit) → IsTrue (is_sorted byte_cmp pairs) → IsTrue (is_sorted byte_cmp (edited pairs e))
sorted_edited pairs e sorted = sorted_value pairs e.key e.value sorted

-- a key below those of a batch keeps its value
kept_below : (q : List ℕ) (batch : List Edit) (pairs : Pairs) → rises (q ∷ map edit_key batch) ≡ true → IsTrue (is_sorted byte_cmp pairs) → value_at (updated pairs batch) q ≡ value_at pairs q
kept_below q [] pairs rise sorted = refl
kept_below q (e ∷ es) pairs rise sorted =
    kept_below q es (edited pairs e) (without_second q e.key (map edit_key es) rise) (sorted_edited pairs e sorted)
    ∙ with_value-at pairs e.key e.value q sorted
    ∙ ap (λ (b : Bool). cond b e.value (value_at pairs q)) (below_is_other q e.key (first_true (precedes q e.key) (rises (e.key ∷ map edit_key es)) rise))

-- the first edit's value stands at its key afterwards
first_stands : (e : Edit) (es : List Edit) (pairs : Pairs) → rises (map edit_key (e ∷ es)) ≡ true → IsTrue (is_sorted byte_cmp pairs) → value_at (updated (edited pairs e) es) e.key ≡ e.value
first_stands e es pairs rise sorted =
    kept_below e.key es (edited pairs e) rise (sorted_edited pairs e sorted)
    ∙ with_value-at pairs e.key e.value e.key sorted
    ∙ ap (λ (b : Bool). cond b e.value (value_at pairs e.key)) (at_itself e.key)

abbrev edit_of : List ℕ → Value → Edit
edit_of key value = record { key = key; value = value }

one_edit : (e f : Edit) → e.key ≡ f.key → e.value ≡ f.value → e ≡ f
one_edit e f key value = ap (λ (k : List ℕ). edit_of k e.value) key ∙ ap (λ (v : Value). edit_of f.key v) value

abbrev head_or : List (List ℕ) → List ℕ
head_or [] = []
head_or (k ∷ ks) = k

abbrev behind : List (List ℕ) → List (List ℕ)
behind [] = []
behind (k ∷ ks) = ks

no_keys : (f : Edit) (fs : List Edit) → [] ≡ map edit_key (f ∷ fs) → ⊥
no_keys f fs same = cc same

-- batches with the same keys that make the same of the same pairs
pub one_batch : (a b : List Edit) (pairs : Pairs) → rises (map edit_key a) ≡ true → IsTrue (is_sorted byte_cmp pairs) → map edit_key a ≡ map edit_key b → updated pairs a ≡ updated pairs b → a ≡ b
one_batch [] [] pairs rise sorted keys made = refl
one_batch [] (f ∷ fs) pairs rise sorted keys made = absurd (no_keys f fs keys)
one_batch (e ∷ es) [] pairs rise sorted keys made = absurd (no_keys e es (sym keys))
one_batch (e ∷ es) (f ∷ fs) pairs rise sorted keys made =
    let key : e.key ≡ f.key = ap head_or keys in
    let rise_too : rises (map edit_key (f ∷ fs)) ≡ true = ap rises (sym keys) ∙ rise in
    let value : e.value ≡ f.value =
    sym (first_stands e es pairs rise sorted)
    ∙ ap (λ (ps : Pairs). value_at ps e.key) made
    ∙ ap (λ (k : List ℕ). value_at (updated (edited pairs f) fs) k) key
    ∙ first_stands f fs pairs rise_too sorted in
    let same : e ≡ f = one_edit e f key value in
    let rest : es ≡ fs =
    one_batch es fs (edited pairs e) (rises_behind e.key (map edit_key es) rise) (sorted_edited pairs e sorted) (ap behind keys)
    (made ∙ ap (λ (x : Edit). updated (edited pairs x) fs) (sym same)) in
    ap (λ (x : Edit). x ∷ es) same ∙ ap (λ (xs : List Edit). f ∷ xs) rest

abbrev ok_site : Site → Result Site (ℕ × Refused)
ok_site s = Ok s

abbrev or_this : Site → Result Site (ℕ × Refused) → Site
or_this t (Ok s) = s
or_this t (Err e) = t

one_site : (t u : Site) → ok_site t ≡ ok_site u → t ≡ u
one_site t u is = ap (or_this t) is

-- changes need one thing, where a batch does
pub one_changes_need : {K : Type 0} (may_need : K → List Edit → CommitNeed → Type 0) (k : K) (s : Site) (changes : Changes) → ((batch : List Edit) (a b : CommitNeed) → may_need k batch a → may_need k batch b → a ≡ b)
    → (a b : CommitNeed) → ChangesMayNeed may_need k s changes a → ChangesMayNeed may_need k s changes b → a ≡ b
one_changes_need may_need k s changes one a b (first, t, applied, keys, makes, (is, need)) (second, u, applied_too, keys_too, makes_too, (is_too, need_too)) =
    let same_site : t ≡ u = one_site t u (sym applied ∙ applied_too) in
    let rise : rises (map edit_key first) ≡ true = first_true (rises (map edit_key first)) (list_all is_edit first) is in
    let same : first ≡ second = one_batch first second (layout s) rise (is_sorted-layout s) (keys ∙ sym keys_too) (makes ∙ ap layout same_site ∙ sym makes_too) in
    one second a b (subst (λ (batch : List Edit). may_need k batch a) same need) need_too
