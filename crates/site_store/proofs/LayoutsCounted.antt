-- Pairs are a layout where they hold the pairs of all items, and as many.
use Rattle.std.proofs.Common.{◌≡◌, ◌≢◌, ℕ, zero, suc, ◌+◌, ◌-◌, ◌<◌, ◌≤◌, ◌^◌, Bool, true, false, cond, List, [], ◌∷◌, ◌++◌, length, take, drop, map, Some, None, Result, Ok, Err, Ordering, refl, ap, sym, subst, ◌∙◌, arith}
use Rattle.std.specs.Prelude.{All, Decides, IfOk, slice_index_or, bytes_eq, filter, not, ◌||◌}
use Rattle.std.specs.List.{AllByRecursion}
use Rattle.std.specs.Ordering.{is_eq, match_ordering}
use Rattle.std.specs.declared.cmp.Ordering.TheVariants.{Less, Equal, Greater}
use Rattle.std.specs.BTreeMap.{insert_entry, is_at}
use Rattle.std.specs.FinMap.Entries.{below_all, is_sorted}
use Rattle.std.proofs.lemmas.Bool.{and_parts}
use Rattle.std.proofs.lemmas.List.{length-append, take_all}
use Rattle.host_types.specs.Site.{Site, IsSite, byte_cmp}
use Rattle.host_types.specs.Card.{chunk_of}
use Rattle.host_types.specs.Words.{is_among, distinct, first_words, words_of}
use Rattle.host_types.specs.declared.item.Item.{Item}
use Rattle.page_store.specs.Batch.{value_at}
use Rattle.page_store.specs.Keys.{rises}
use Rattle.page_store.specs.Pages.{Pair, key_of}
use Rattle.site_records.specs.Keys.{Key, Record, Chunk, Word, item_key, chunk_key, word_key, keys_one_to_one, same_part, owner}
use Rattle.site_records.specs.Records.{parts_of}
use Rattle.site_records.specs.Layout.{chunk_count, chunk_pairs, part_pairs, word_pairs, data_pairs, item_pairs, in_order, layout}
use Rattle.site_records.specs.LayoutLaws.{OwnedBy, OwnedBy-item_pairs, is_at-Decides, at_itself, not_at, value_at-append, value_at-not_owned, value_at-in_order, is_sorted-in_order, is_sorted-layout}
use Rattle.site_records.proofs.ChunkLaws.{AreSmall, no_word_among_data, among_words, empty_value, count_within}
use Rattle.site_store.specs.Opening.{AreCounted, CountsItem, ItemsAreShort, IsLayoutOf, StandAmong, pairs_in}
use Rattle.site_store.proofs.PairsFound.{rises_sorted, sorted_rises}
use Rattle.site_store.proofs.RisingKeys.{is_below, below_later_all, not_itself, found_below, clash}
use Rattle.site_store.proofs.ShortSites.{AllSmall, valid_small}

-- no key stands twice
abbrev pub AreApart : List Pair → Type 0
AreApart [] = Unit {0}
AreApart (p ∷ ps) = (value_at ps p.0 ≡ None) × AreApart ps

abbrev pub NoneAt : List Pair → List Pair → Type 0
NoneAt qs ps = AllByRecursion (λ p. value_at qs p.0 ≡ None) ps

apart_append : (ps qs : List Pair) → AreApart ps → AreApart qs → NoneAt qs ps → AreApart (ps ++ qs)
apart_append [] qs h k none = k
apart_append (p ∷ ps) qs h k none = (value_at-append ps qs p.0 h.0 ∙ none.0, apart_append ps qs h.1 k none.1)

-- ---- the chunks of an item

number_of : Key → ℕ
number_of (Record selector) = 0
number_of (Chunk selector part k) = k
number_of (Word word selector) = 0

same_number : (a : List ℕ) (v k l : ℕ) → k < 2 ^ 16 → l < 2 ^ 16 → chunk_key a v k ≡ chunk_key a v l → k ≡ l
unfolding number_of
same_number a v k l f g e = ap number_of (keys_one_to_one (Chunk a v k) (Chunk a v l) f g e)

head_of : List ℕ → ℕ
head_of [] = 0
head_of (b ∷ bs) = b

-- no earlier chunk
none_before : (a : List ℕ) (v : ℕ) (part : List ℕ) (n l k : ℕ) → k < l → l + n ≤ 65536 → value_at (chunk_pairs a v part n l) (chunk_key a v k) ≡ None
none_before a v part zero l k before room = refl
none_before a v part (suc n) l k before room =
    let apart : chunk_key a v k ≢ chunk_key a v l = λ e. (let is = same_number a v k l (omega (arith, before, room)) (omega (arith, room)) e in omega (arith, is, before)) in
    ap (λ (b : Bool). cond b (Some (chunk_of part l)) (value_at (chunk_pairs a v part n (l + 1)) (chunk_key a v k))) (not_at (chunk_key a v k) (chunk_key a v l) apart)
    ∙ none_before a v part n (l + 1) k (omega (arith, before)) (omega (arith, room))

chunks_apart : (a : List ℕ) (v : ℕ) (part : List ℕ) (n l : ℕ) → l + n ≤ 65536 → AreApart (chunk_pairs a v part n l)
chunks_apart a v part zero l room = tt
chunks_apart a v part (suc n) l room = (none_before a v part n (l + 1) l (omega arith) (omega (arith, room)), chunks_apart a v part n (l + 1) (omega (arith, room)))

-- no chunk of another part
no_other_part : (a : List ℕ) (v : ℕ) (part : List ℕ) (n l w k : ℕ) → w ≢ v → value_at (chunk_pairs a v part n l) (chunk_key a w k) ≡ None
no_other_part a v part zero l w k apart = refl
no_other_part a v part (suc n) l w k apart =
    ap (λ (b : Bool). cond b (Some (chunk_of part l)) (value_at (chunk_pairs a v part n (l + 1)) (chunk_key a w k))) (not_at (chunk_key a w k) (chunk_key a v l) (λ e. apart (same_part a w v k l e)))
    ∙ no_other_part a v part n (l + 1) w k apart

no_later_part : (a : List ℕ) (v : ℕ) (parts : List (List ℕ)) (w k : ℕ) → w < v → value_at (part_pairs a v parts) (chunk_key a w k) ≡ None
no_later_part a v [] w k before = refl
no_later_part a v (part ∷ parts) w k before =
    value_at-append (chunk_pairs a v part (chunk_count (length part)) 0) (part_pairs a (v + 1) parts) (chunk_key a w k) (no_other_part a v part (chunk_count (length part)) 0 w k (λ e. omega (arith, before, e)))
    ∙ no_later_part a (v + 1) parts w k (omega (arith, before))

each_part : (a : List ℕ) (v : ℕ) (part : List ℕ) (parts : List (List ℕ)) (n l : ℕ) → NoneAt (part_pairs a (v + 1) parts) (chunk_pairs a v part n l)
each_part a v part parts zero l = tt
each_part a v part parts (suc n) l = (no_later_part a (v + 1) parts v l (omega arith), each_part a v part parts n (l + 1))

parts_apart : (a : List ℕ) (v : ℕ) (parts : List (List ℕ)) → AreSmall parts → AreApart (part_pairs a v parts)
parts_apart a v [] small = tt
parts_apart a v (part ∷ parts) small =
    let room : chunk_count (length part) ≤ 65536 = count_within (length part) 65536 (let h = small.0 in omega (arith, h)) in
    apart_append (chunk_pairs a v part (chunk_count (length part)) 0) (part_pairs a (v + 1) parts) (chunks_apart a v part (chunk_count (length part)) 0 (omega (arith, room))) (parts_apart a (v + 1) parts small.1)
    (each_part a v part parts (chunk_count (length part)) 0)

-- the record's key is no chunk's
no_chunk : (a : List ℕ) (v l : ℕ) → item_key a ≢ chunk_key a v l
unfolding head_of
no_chunk a v l e = let h : 73 ≡ 67 = ap head_of e in omega (arith, h)

no_record_among_chunks : (a : List ℕ) (v : ℕ) (part : List ℕ) (n l : ℕ) → value_at (chunk_pairs a v part n l) (item_key a) ≡ None
no_record_among_chunks a v part zero l = refl
no_record_among_chunks a v part (suc n) l =
    ap (λ (b : Bool). cond b (Some (chunk_of part l)) (value_at (chunk_pairs a v part n (l + 1)) (item_key a))) (not_at (item_key a) (chunk_key a v l) (no_chunk a v l))
    ∙ no_record_among_chunks a v part n (l + 1)

no_record_among_parts : (a : List ℕ) (v : ℕ) (parts : List (List ℕ)) → value_at (part_pairs a v parts) (item_key a) ≡ None
no_record_among_parts a v [] = refl
no_record_among_parts a v (part ∷ parts) =
    value_at-append (chunk_pairs a v part (chunk_count (length part)) 0) (part_pairs a (v + 1) parts) (item_key a) (no_record_among_chunks a v part (chunk_count (length part)) 0)
    ∙ no_record_among_parts a (v + 1) parts

data_apart : (a : List ℕ) (item : Item) → AreSmall (parts_of item.body) → AreApart (data_pairs a item)
data_apart a item small = (no_record_among_parts a 0 (parts_of item.body), parts_apart a 0 (parts_of item.body) small)

-- ---- the words of an item

abbrev AreDifferent : List (List ℕ) → Type 0
AreDifferent [] = Unit {0}
AreDifferent (w ∷ ws) = (is_among ws w ≡ false) × AreDifferent ws

not_first : (a b : Bool) → (a || b) ≡ false → (a ≡ false) × (b ≡ false)
not_first true b h = absurd (let e : true ≡ false = h in cc e)
not_first false b h = (refl, h)

none_filtered : (p : List ℕ → Bool) (ws : List (List ℕ)) (w : List ℕ) → is_among ws w ≡ false → is_among (filter p ws) w ≡ false
none_filtered p [] w h = refl
none_filtered p (v ∷ ws) w h =
    let parts = not_first (bytes_eq w v) (is_among ws w) h in
    elim (p v) as (λ b. is_among (cond b (v ∷ filter p ws) (filter p ws)) w ≡ false) [
      | true ↦ rw parts.0 (none_filtered p ws w parts.1)
      | false ↦ none_filtered p ws w parts.1
    ]

different_filtered : (p : List ℕ → Bool) (ws : List (List ℕ)) → AreDifferent ws → AreDifferent (filter p ws)
different_filtered p [] h = tt
different_filtered p (w ∷ ws) h = elim (p w) as (λ b. AreDifferent (cond b (w ∷ filter p ws) (filter p ws))) [
  | true ↦ (none_filtered p ws w h.0, different_filtered p ws h.1)
  | false ↦ different_filtered p ws h.1
]

none_taken : (n : ℕ) (ws : List (List ℕ)) (w : List ℕ) → is_among ws w ≡ false → is_among (take n ws) w ≡ false
none_taken zero ws w h = refl
none_taken (suc n) [] w h = refl
none_taken (suc n) (v ∷ ws) w h = let parts = not_first (bytes_eq w v) (is_among ws w) h in rw parts.0 (none_taken n ws w parts.1)

different_taken : (n : ℕ) (ws : List (List ℕ)) → AreDifferent ws → AreDifferent (take n ws)
different_taken zero ws h = tt
different_taken (suc n) [] h = tt
different_taken (suc n) (w ∷ ws) h = (none_taken n ws w h.0, different_taken n ws h.1)

-- the word itself is filtered out
gone : (w : List ℕ) (ws : List (List ℕ)) → is_among (filter (λ other. not (bytes_eq w other)) ws) w ≡ false
gone w [] = refl
gone w (v ∷ ws) = elim (bytes_eq w v) as (λ b. bytes_eq w v ≡ b → is_among (cond (not b) (v ∷ filter (λ other. not (bytes_eq w other)) ws) (filter (λ other. not (bytes_eq w other)) ws)) w ≡ false) [
  | true ↦ λ t. gone w ws
  | false ↦ λ t. rw t (gone w ws)
] refl

distinct_different : (ws : List (List ℕ)) → AreDifferent (distinct ws)
distinct_different [] = tt
distinct_different (w ∷ ws) = (gone w (distinct ws), different_filtered (λ other. not (bytes_eq w other)) (distinct ws) (distinct_different ws))

first_different : (ws : List (List ℕ)) → AreDifferent (first_words ws)
unfolding first_words
first_different ws = different_taken 200 (distinct ws) (distinct_different ws)

words_apart : (a : List ℕ) (ws : List (List ℕ)) → AreDifferent ws → AreApart (word_pairs a ws)
words_apart a [] h = tt
words_apart a (w ∷ ws) h = (among_words a ws w ∙ ap (λ (b : Bool). cond b empty_value None) h.0, words_apart a ws h.1)

-- ---- all items

some_none : (v : List ℕ) → Some v ≡ None → ⊥
some_none v e = cc e

-- where a key stands among these pairs, it has a value
is_there : (ps : List Pair) (p : Pair) (q : List ℕ) → value_at (p ∷ ps) q ≡ None → (q ≢ p.0) × (value_at ps q ≡ None)
is_there ps p q none =
    elim (is_at (byte_cmp q) p.0) as (λ b. is_at (byte_cmp q) p.0 ≡ b → cond b (Some p.1) (value_at ps q) ≡ None → (q ≢ p.0) × (value_at ps q ≡ None)) [
      | true ↦ λ t some. absurd (some_none p.1 some)
      | false ↦ λ t none. (λ same. clash (is_at (byte_cmp q) p.0) ((is_at-Decides q p.0).1 same) t, none)
    ] refl none

-- no key of the data is a word's
no_words : (a : List ℕ) (ps : List Pair) (ws : List (List ℕ)) → ((w : List ℕ) → value_at ps (word_key w a) ≡ None) → NoneAt (word_pairs a ws) ps
no_words a [] ws none = tt
no_words a (p ∷ ps) ws none = (each p ws (λ w. (is_there ps p (word_key w a) (none w)).0), no_words a ps ws (λ w. (is_there ps p (word_key w a) (none w)).1))
  where
    each : (p : Pair) (ws : List (List ℕ)) → ((w : List ℕ) → word_key w a ≢ p.0) → value_at (word_pairs a ws) p.0 ≡ None
    each p [] other = refl
    each p (w ∷ ws) other = ap (λ (b : Bool). cond b empty_value (value_at (word_pairs a ws) p.0)) (not_at p.0 (word_key w a) (λ same. other w (sym same))) ∙ each p ws other

item_apart : (a : List ℕ) (item : Item) → AreSmall (parts_of item.body) → AreApart (item_pairs a item)
unfolding item_pairs
item_apart a item small =
    apart_append (data_pairs a item) (word_pairs a (words_of item)) (data_apart a item small) (words_apart a (words_of item) (first_different _)) (no_words a (data_pairs a item) (words_of item) (no_word_among_data a item))

none_of_others : (q : List ℕ) (es : List (List ℕ × Item)) → below_all byte_cmp (owner q) es ≡ true → value_at (pairs_in es) q ≡ None
none_of_others q [] below = refl
none_of_others q (e ∷ es) below =
    let parts = and_parts (is_below (owner q) e.0) (below_all byte_cmp (owner q) es) below in
    let apart : owner q ≢ e.0 = λ same. clash (is_below (owner q) e.0) parts.0 (ap (λ (k : List ℕ). is_below k e.0) same ∙ not_itself e.0) in
    value_at-append (item_pairs e.0 e.1) (pairs_in es) q (value_at-not_owned e.0 (item_pairs e.0 e.1) q (OwnedBy-item_pairs e.0 e.1) apart) ∙ none_of_others q es parts.1

others_apart : (a : List ℕ) (ps : List Pair) (es : List (List ℕ × Item)) → OwnedBy a ps → below_all byte_cmp a es ≡ true → NoneAt (pairs_in es) ps
others_apart a [] es owned below = tt
others_apart a (p ∷ ps) es owned below = (none_of_others p.0 es (ap (λ (k : List ℕ). below_all byte_cmp k es) owned.0 ∙ below), others_apart a ps es owned.1 below)

-- no two pairs of items in order have one key
items_apart : (es : List (List ℕ × Item)) → is_sorted byte_cmp es ≡ true → AllSmall es → AreApart (pairs_in es)
items_apart [] sorted small = tt
items_apart (e ∷ es) sorted small =
    let parts = and_parts (below_all byte_cmp e.0 es) (is_sorted byte_cmp es) sorted in
    apart_append (item_pairs e.0 e.1) (pairs_in es) (item_apart e.0 e.1 small.0) (items_apart es parts.1 small.1) (others_apart e.0 (item_pairs e.0 e.1) es (OwnedBy-item_pairs e.0 e.1) parts.0)

-- ---- pairs in order

length_insert : (ps : List Pair) (k v : List ℕ) → value_at ps k ≡ None → length (insert_entry byte_cmp ps k v) ≡ suc (length ps)
length_insert [] k v none = refl
length_insert (p ∷ ps) k v none =
    elim (byte_cmp k p.0) as (λ (o : Ordering). cond (is_eq o) (Some p.1) (value_at ps k) ≡ None → length (match_ordering o ((k, v) ∷ p ∷ ps) ((p.0, v) ∷ ps) (p ∷ insert_entry byte_cmp ps k v)) ≡ suc (suc (length ps))) [
      | Less ↦ λ h. refl
      | Equal ↦ λ h. absurd (some_none p.1 h)
      | Greater ↦ λ h. ap suc (length_insert ps k v h)
    ] none

length_in_order : (ps : List Pair) → AreApart ps → length (in_order ps) ≡ length ps
length_in_order [] apart = refl
length_in_order (p ∷ ps) apart = length_insert (in_order ps) p.0 p.1 (value_at-in_order ps p.0 ∙ apart.0) ∙ ap suc (length_in_order ps apart.1)

stand_inserted : (all ps : List Pair) (k v : List ℕ) → value_at all k ≡ Some v → StandAmong all ps → StandAmong all (insert_entry byte_cmp ps k v)
stand_inserted all [] k v here stand = (here, tt)
stand_inserted all (p ∷ ps) k v here stand =
    elim (byte_cmp k p.0) as (λ (o : Ordering). byte_cmp k p.0 ≡ o → StandAmong all (match_ordering o ((k, v) ∷ p ∷ ps) ((p.0, v) ∷ ps) (p ∷ insert_entry byte_cmp ps k v))) [
      | Less ↦ λ e. (here, stand)
      | Equal ↦ λ e. (subst (λ (q : List ℕ). value_at all q ≡ Some v) ((is_at-Decides k p.0).0 (ap is_eq e)) here, stand.1)
      | Greater ↦ λ e. (stand.0, stand_inserted all ps k v here stand.1)
    ] refl

stand_in_order : (all ps : List Pair) → StandAmong all ps → StandAmong all (in_order ps)
stand_in_order all [] stand = tt
stand_in_order all (p ∷ ps) stand = stand_inserted all (in_order ps) p.0 p.1 stand.0 (stand_in_order all ps stand.1)

-- where no key stands twice, each pair stands
stand_behind : (p : Pair) (ps qs : List Pair) → value_at ps p.0 ≡ None → StandAmong ps qs → StandAmong (p ∷ ps) qs
stand_behind p ps [] none stand = tt
stand_behind p ps (q ∷ qs) none stand =
    let apart : q.0 ≢ p.0 = λ same. some_none q.1 (sym stand.0 ∙ ap (value_at ps) same ∙ none) in
    (ap (λ (b : Bool). cond b (Some p.1) (value_at ps q.0)) (not_at q.0 p.0 apart) ∙ stand.0, stand_behind p ps qs none stand.1)

apart_stand : (ps : List Pair) → AreApart ps → StandAmong ps ps
apart_stand [] apart = tt
apart_stand (p ∷ ps) apart = (ap (λ (b : Bool). cond b (Some p.1) (value_at ps p.0)) (at_itself p.0), stand_behind p ps ps apart.0 (apart_stand ps apart.1))

stand_ordered : (ps qs : List Pair) → StandAmong ps qs → StandAmong (in_order ps) qs
stand_ordered ps [] stand = tt
stand_ordered ps (q ∷ qs) stand = (value_at-in_order ps q.0 ∙ stand.0, stand_ordered ps qs stand.1)

-- what is above the first stands among the others
stand_above : (p : Pair) (ps qs : List Pair) → below_all byte_cmp p.0 qs ≡ true → StandAmong (p ∷ ps) qs → StandAmong ps qs
stand_above p ps [] below stand = tt
stand_above p ps (q ∷ qs) below stand =
    let parts = and_parts (is_below p.0 q.0) (below_all byte_cmp p.0 qs) below in
    let apart : q.0 ≢ p.0 = λ same. clash (is_below p.0 q.0) parts.0 (ap (is_below p.0) same ∙ not_itself p.0) in
    (sym (ap (λ (b : Bool). cond b (Some p.1) (value_at ps q.0)) (not_at q.0 p.0 apart)) ∙ stand.0, stand_above p ps qs parts.1 stand.1)

same_value : (v w : List ℕ) → Some v ≡ Some w → v ≡ w
same_value v w e = cc e

-- Of two maps whose keys rise, one holds no more than the other in which each of its pairs stands; where it holds as many, it is the same.
contained : (ps qs : List Pair) → is_sorted byte_cmp ps ≡ true → is_sorted byte_cmp qs ≡ true → StandAmong ps qs → (length qs ≤ length ps) × (length ps ≡ length qs → ps ≡ qs)
contained [] [] g h stand = (omega arith, λ same. refl)
contained [] (q ∷ qs) g h stand = absurd (some_none q.1 (sym stand.0))
contained (p ∷ ps) [] g h stand = (omega arith, λ same. absurd (omega (arith, same)))
contained (p ∷ ps) (q ∷ qs) g h stand =
    let first = and_parts (below_all byte_cmp p.0 ps) (is_sorted byte_cmp ps) g in
    let second = and_parts (below_all byte_cmp q.0 qs) (is_sorted byte_cmp qs) h in
    elim (is_at (byte_cmp q.0) p.0) as (λ b. is_at (byte_cmp q.0) p.0 ≡ b → cond b (Some p.1) (value_at ps q.0) ≡ Some q.1 → (length (q ∷ qs) ≤ length (p ∷ ps)) × (length (p ∷ ps) ≡ length (q ∷ qs) → p ∷ ps ≡ q ∷ qs)) [
      | true ↦ λ t here.
          let key : p.0 ≡ q.0 = sym ((is_at-Decides q.0 p.0).0 t) in
          let value = same_value p.1 q.1 here in
          let rest = contained ps qs first.1 second.1 (stand_above p ps qs (ap (λ (k : List ℕ). below_all byte_cmp k qs) key ∙ second.0) stand.1) in
          let most = rest.0 in
          (omega (arith, most), λ same. (let others = rest.1 (omega (arith, same)) in λ i. (key i, value i) ∷ others i))
      | false ↦ λ t there.
          let above = found_below p.0 ps q.0 q.1 first.0 there in
          let rest = contained ps (q ∷ qs) first.1 h (there, stand_above p ps qs (below_later_all qs p.0 q.0 above second.0) stand.1) in
          let most = rest.0 in
          (omega (arith, most), λ same. absurd (omega (arith, same, most)))
    ] refl stand.0

-- ---- the layout

pub counted_layout : (pairs : List Pair) (s : Site) → IsSite s → is_sorted byte_cmp pairs ≡ true → AreCounted pairs (length pairs) s.items → pairs ≡ layout s
unfolding layout
counted_layout pairs s site sorted counted =
    let all = pairs_in s.items in
    let apart = items_apart s.items site.sorted (valid_small s site) in
    (contained pairs (in_order all) sorted (is_sorted-in_order all) (stand_in_order pairs all counted.0)).1 (counted.1 ∙ sym (length_in_order all apart))

layout_itself : (s : Site) → IsSite s → AreCounted (layout s) (length (layout s)) s.items
unfolding layout
layout_itself s site =
    let all = pairs_in s.items in
    let apart = items_apart s.items site.sorted (valid_small s site) in
    (stand_ordered all all (apart_stand all apart), length_in_order all apart)

pub layout_counted : (pairs : List Pair) (s : Site) → IsSite s → pairs ≡ layout s → AreCounted pairs (length pairs) s.items
layout_counted pairs s site is = subst (λ (ps : List Pair). AreCounted ps (length ps) s.items) (sym is) (layout_itself s site)

-- Counted items decide.
pub counts_decide : (b : Bool) (pairs : List Pair) (s : Site) → IsSite s → rises (map key_of pairs) ≡ true → Decides b (AreCounted pairs (length pairs) s.items) → Decides b (IsLayoutOf pairs s)
counts_decide b pairs s site rise decides = (
  λ y. (site, counted_layout pairs s site (rises_sorted pairs rise) (decides.0 y)),
  λ is. decides.1 (layout_counted pairs s site is.1),
)

-- A layout's keys rise.
pub not_rising : (pairs : List Pair) (s : Site) → rises (map key_of pairs) ≡ false → pairs ≡ layout s → ⊥
not_rising pairs s falls all = clash (rises (map key_of pairs)) (sorted_rises pairs (ap (is_sorted byte_cmp) all ∙ is_sorted-layout s)) falls

-- ---- one item after the other

abbrev pub AllStand : List Pair → List Pair → Type 0
AllStand all some = All (λ p. value_at all p.0 ≡ Some p.1) some

one_by_one : (all some : List Pair) → AllStand all some → StandAmong all some
one_by_one all [] h = tt
one_by_one all (p ∷ ps) h = (h 0 p (omega arith), one_by_one all ps (λ k d less. h (suc k) d (omega (arith, less))))

each_one : (all some : List Pair) → StandAmong all some → AllStand all some
each_one all [] h k d less = absurd (omega (arith, less))
each_one all (p ∷ ps) h zero d less = h.0
each_one all (p ∷ ps) h (suc k) d less = each_one all ps h.1 k d (omega (arith, less))

joined : (all ps qs : List Pair) → StandAmong all ps → StandAmong all qs → StandAmong all (ps ++ qs)
joined all [] qs g h = h
joined all (p ∷ ps) qs g h = (g.0, joined all ps qs g.1 h)

split : (all ps qs : List Pair) → StandAmong all (ps ++ qs) → StandAmong all ps × StandAmong all qs
split all [] qs h = (tt, h)
split all (p ∷ ps) qs h = let rest = split all ps qs h.1 in ((h.0, rest.0), rest.1)

-- ---- the pairs of one item

abbrev pub AllWords : List Pair → List ℕ → List (List ℕ) → Type 0
AllWords all selector words = All (λ w. value_at all (word_key w selector) ≡ Some []) words

words_stand : (all : List Pair) (selector : List ℕ) (words : List (List ℕ)) → AllWords all selector words → StandAmong all (word_pairs selector words)
words_stand all selector [] h = tt
words_stand all selector (w ∷ ws) h = (h 0 w (omega arith), words_stand all selector ws (λ k d less. h (suc k) d (omega (arith, less))))

each_word : (all : List Pair) (selector : List ℕ) (words : List (List ℕ)) → StandAmong all (word_pairs selector words) → AllWords all selector words
each_word all selector [] h k d less = absurd (omega (arith, less))
each_word all selector (w ∷ ws) h zero d less = h.0
each_word all selector (w ∷ ws) h (suc k) d less = each_word all selector ws h.1 k d (omega (arith, less))

words_many : (selector : List ℕ) (words : List (List ℕ)) → length (word_pairs selector words) ≡ length words
words_many selector [] = refl
words_many selector (w ∷ ws) = ap suc (words_many selector ws)

pub data_lacks : (all : List Pair) (selector : List ℕ) (item : Item) (some : List Pair) → some ≡ data_pairs selector item → (AllStand all some → ⊥) → StandAmong all (item_pairs selector item) → ⊥
unfolding item_pairs
data_lacks all selector item some is bad stand = bad (each_one all some (subst (StandAmong all) (sym is) (split all (data_pairs selector item) (word_pairs selector (words_of item)) stand).0))

pub word_lacks : (all : List Pair) (selector : List ℕ) (item : Item) (words : List (List ℕ)) → words ≡ words_of item → (AllWords all selector words → ⊥) → StandAmong all (item_pairs selector item) → ⊥
unfolding item_pairs
word_lacks all selector item words is bad stand =
    bad (each_word all selector words (subst (λ (ws : List (List ℕ)). StandAmong all (word_pairs selector ws)) (sym is) (split all (data_pairs selector item) (word_pairs selector (words_of item)) stand).1))

pub item_stands : (all : List Pair) (selector : List ℕ) (item : Item) (some : List Pair) (words : List (List ℕ)) (n : ℕ) → some ≡ data_pairs selector item → words ≡ words_of item → AllStand all some → AllWords all selector words → n ≡ length some + length words
    → StandAmong all (item_pairs selector item) × (n ≡ length (item_pairs selector item))
unfolding item_pairs
item_stands all selector item some words n is are data_there words_there count =
    let first = subst (StandAmong all) is (one_by_one all some data_there) in
    let second = subst (λ (ws : List (List ℕ)). StandAmong all (word_pairs selector ws)) are (words_stand all selector words words_there) in
    let size = length-append (data_pairs selector item) (word_pairs selector (words_of item)) in
    let many = words_many selector (words_of item) in
    let data_size : length some ≡ length (data_pairs selector item) = ap length is in
    let words_size : length words ≡ length (words_of item) = ap length are in
    (joined all (data_pairs selector item) (word_pairs selector (words_of item)) first second, omega (arith, size, many, data_size, words_size, count))

-- the pairs of the first item are taken from the count
count_on : (all : List Pair) (n m : ℕ) (e : List ℕ × Item) (es : List (List ℕ × Item)) → m ≡ length (item_pairs e.0 e.1) → AreCounted all n (e ∷ es) → AreCounted all (n - m) es
count_on all n m e es is counted =
    let parts = split all (item_pairs e.0 e.1) (pairs_in es) counted.0 in
    let size = length-append (item_pairs e.0 e.1) (pairs_in es) in
    let count = counted.1 in
    (parts.1, omega (arith, size, is, count))

count_back : (all : List Pair) (n m : ℕ) (e : List ℕ × Item) (es : List (List ℕ × Item)) → m ≡ length (item_pairs e.0 e.1) → m ≤ n → StandAmong all (item_pairs e.0 e.1) → AreCounted all (n - m) es → AreCounted all n (e ∷ es)
count_back all n m e es is room stand counted =
    let size = length-append (item_pairs e.0 e.1) (pairs_in es) in
    let count = counted.1 in
    (joined all (item_pairs e.0 e.1) (pairs_in es) stand counted.0, omega (arith, size, is, count, room))

-- an item whose pairs aren't all there, or are too many
not_there : (all : List Pair) (n : ℕ) (e : List ℕ × Item) (es : List (List ℕ × Item)) → (StandAmong all (item_pairs e.0 e.1) → ⊥) → AreCounted all n (e ∷ es) → ⊥
not_there all n e es bad counted = bad (split all (item_pairs e.0 e.1) (pairs_in es) counted.0).0

too_many : (all : List Pair) (n m : ℕ) (e : List ℕ × Item) (es : List (List ℕ × Item)) → m ≡ length (item_pairs e.0 e.1) → n < m → AreCounted all n (e ∷ es) → ⊥
too_many all n m e es is less counted =
    let size = length-append (item_pairs e.0 e.1) (pairs_in es) in
    let count = counted.1 in
    omega (arith, size, is, less, count)

-- What is left to count decides.
pub record IsLeft (all : List Pair) (items rest : List (List ℕ × Item)) (left : ℕ) : Type 0 where
  pub short : ItemsAreShort rest
  pub on : AreCounted all (length all) items → AreCounted all left rest
  pub back : AreCounted all left rest → AreCounted all (length all) items

module _ {R : Type 0} (entry : R → List ℕ × Item) (all : List Pair) (items : List (List ℕ × Item)) where
  -- the first of some, and the others
  parted : (rest : List R) (x : R) → 1 ≤ length rest → x ≡ slice_index_or rest 0 x → rest ≡ x ∷ take (length rest - 1) (drop 1 rest)
  parted [] x some first = absurd (omega (arith, some))
  parted (y ∷ ys) x some first =
      let others : take (length (y ∷ ys) - 1) ys ≡ ys = take_all (length (y ∷ ys) - 1) ys (omega arith) in
      λ i. sym first i ∷ sym others i

  -- one item more is counted
  pub next_item : (rest : List R) (left behind n : ℕ) (x : R) → 1 ≤ length rest → x ≡ slice_index_or rest 0 x → CountsItem all (entry x).0 (entry x).1 (Some n) → n ≤ left → behind ≡ left - n
      → IsLeft all items (map entry rest) left → IsLeft all items (map entry (take (length rest - 1) (drop 1 rest))) behind
  next_item rest left behind n x is_some first counts room size before =
      let others = take (length rest - 1) (drop 1 rest) in
      let now = subst (λ (r : List R). IsLeft all items (map entry r) left) (parted rest x is_some first) before in
      subst (IsLeft all items (map entry others)) (sym size) (record {
        short = now.short.1;
        on = λ counted. count_on all left n (entry x) (map entry others) counts.1 (now.on counted);
        back = λ counted. now.back (count_back all left n (entry x) (map entry others) counts.1 room counts.0 counted);
      })

  pub item_lacks : (rest : List R) (left : ℕ) (x : R) → 1 ≤ length rest → x ≡ slice_index_or rest 0 x → CountsItem all (entry x).0 (entry x).1 None → IsLeft all items (map entry rest) left → Decides false (AreCounted all (length all) items)
  item_lacks rest left x is_some first bad before =
      let others = take (length rest - 1) (drop 1 rest) in
      let now = subst (λ (r : List R). IsLeft all items (map entry r) left) (parted rest x is_some first) before in (
        λ t. absurd (let e : false ≡ true = t in cc e),
        λ counted. absurd (not_there all left (entry x) (map entry others) bad (now.on counted)),
      )

  pub item_overflows : (rest : List R) (left n : ℕ) (x : R) → 1 ≤ length rest → x ≡ slice_index_or rest 0 x → CountsItem all (entry x).0 (entry x).1 (Some n) → left < n → IsLeft all items (map entry rest) left → Decides false (AreCounted all (length all) items)
  item_overflows rest left n x is_some first counts less before =
      let others = take (length rest - 1) (drop 1 rest) in
      let now = subst (λ (r : List R). IsLeft all items (map entry r) left) (parted rest x is_some first) before in (
        λ t. absurd (let e : false ≡ true = t in cc e),
        λ counted. absurd (too_many all left n (entry x) (map entry others) counts.1 less (now.on counted)),
      )

-- ---- what is answered

pub answered : {E : Type 0} → (r : Result Bool E) (pairs : List Pair) (s : Site) → IsSite s → rises (map key_of pairs) ≡ true → IfOk r (λ b. Decides b (AreCounted pairs (length pairs) s.items)) → IfOk r (λ b. Decides b (IsLayoutOf pairs s))
answered (Ok b) pairs s site rise counted = counts_decide b pairs s site rise counted
answered (Err e) pairs s site rise counted = counted
