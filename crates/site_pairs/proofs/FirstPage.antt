-- The pairs of a site of which only the top menu is there: in order, and within one page.
use Rattle.std.proofs.Common.{◌≡◌, ℕ, zero, suc, ◌+◌, ◌-◌, ◌*◌, ◌≤◌, Bool, true, false, cond, List, [], ◌∷◌, ◌++◌, length, map, take, drop, refl, ap, sym, ◌∙◌, arith}
use Rattle.std.specs.Prelude.{IsTrue, filter, sum_by, not, bytes_eq, nat_le}
use Rattle.std.specs.List.{list_all, slice_split}
use Rattle.std.specs.Ordering.{is_lt, match_ordering}
use Rattle.std.specs.declared.cmp.Ordering.{Ordering}
use Rattle.std.specs.declared.cmp.Ordering.TheVariants.{Less, Equal, Greater}
use Rattle.std.specs.BTreeMap.{insert_entry}
use Rattle.std.specs.FinMap.{is_sorted}
use Rattle.std.specs.FinMap.Entries.{below_all}
use Rattle.std.proofs.lemmas.Bool.{and_parts, le-leb}
use Rattle.std.proofs.lemmas.List.{length-append, length-map}
use Rattle.std.proofs.lemmas.List.Sums.{sum_by-cons, count_by-le-length}
use Rattle.std.proofs.lemmas.List.Splits.{length-slice_split}
use Rattle.host_types.specs.Site.{byte_cmp, empty_menu, fresh_site}
use Rattle.host_types.specs.Words.{words_in, word_of, is_gap, is_some_run, distinct, first_words, words_of}
use Rattle.page_store.specs.Keys.{rises}
use Rattle.page_store.specs.Pages.{Pair, key_of}
use Rattle.page_store.specs.Batch.{is_map, is_pair}
use Rattle.page_store.specs.Flat.{entry_size}
use Rattle.page_store.specs.Encoding.{fitting, page_room, paged, pages_needed}
use Rattle.site_records.specs.Records.{item_bytes, record_bytes}
use Rattle.site_records.specs.Layout.{Pairs, chunk_count, word_pairs, item_pairs, in_order, layout}
use Rattle.site_records.specs.LayoutLaws.{is_sorted-layout, is_at-Decides}
use Rattle.site_pairs.proofs.ShortWords.{AreShort, short_all}

-- ---- order

above_rises : (k : List ℕ) (ps : Pairs) → below_all byte_cmp k ps ≡ true → is_sorted byte_cmp ps ≡ true → rises (k ∷ map key_of ps) ≡ true
above_rises k [] below sorted = refl
above_rises k (e ∷ es) below sorted =
    let first = and_parts (is_lt (byte_cmp k e.0)) (below_all byte_cmp k es) below in
    let rest = and_parts (below_all byte_cmp e.0 es) (is_sorted byte_cmp es) sorted in
    rw (first.0, above_rises e.0 es rest.0 rest.1) refl

sorted_rises : (ps : Pairs) → is_sorted byte_cmp ps ≡ true → rises (map key_of ps) ≡ true
sorted_rises [] sorted = refl
sorted_rises (e ∷ es) sorted =
    let rest = and_parts (below_all byte_cmp e.0 es) (is_sorted byte_cmp es) sorted in
    above_rises e.0 es rest.0 rest.1

-- ---- how many bytes the pairs take

abbrev bytes_of : Pairs → ℕ
bytes_of ps = sum_by entry_size ps

one_more : (p : Pair) (ps : Pairs) → bytes_of (p ∷ ps) ≡ entry_size p + bytes_of ps
one_more p ps = sum_by-cons entry_size p ps

insert_bytes : (ps : Pairs) (k v : List ℕ) → bytes_of (insert_entry byte_cmp ps k v) ≤ bytes_of ps + entry_size (k, v)
insert_bytes [] k v = omega (arith, one_more (k, v) [])
insert_bytes (e ∷ es) k v =
    elim (byte_cmp k e.0) as (λ (o : Ordering). byte_cmp k e.0 ≡ o → bytes_of (match_ordering o ((k, v) ∷ e ∷ es) ((e.0, v) ∷ es) (e ∷ insert_entry byte_cmp es k v)) ≤ bytes_of (e ∷ es) + entry_size (k, v)) [
      | Less ↦ λ _. omega (arith, one_more (k, v) (e ∷ es))
      | Equal ↦ λ t.
          let same : k ≡ e.0 = (is_at-Decides k e.0).0 (rw t refl) in
          omega (arith, one_more (e.0, v) es, one_more e es, ap length same)
      | Greater ↦ λ _. let rest = insert_bytes es k v in omega (arith, one_more e (insert_entry byte_cmp es k v), one_more e es, rest)
    ] refl

order_bytes : (ps : Pairs) → bytes_of (in_order ps) ≤ bytes_of ps
order_bytes [] = omega arith
order_bytes (p ∷ ps) =
    let put = insert_bytes (in_order ps) p.0 p.1 in
    let rest = order_bytes ps in
    omega (arith, put, rest, one_more p ps)

-- ---- words

fewer_in : (p : List ℕ → Bool) (ws : List (List ℕ)) → length (filter p ws) ≤ length ws
fewer_in p [] = omega arith
fewer_in p (w ∷ ws) = elim (p w) as (λ b. length (cond b (w ∷ filter p ws) (filter p ws)) ≤ suc (length ws)) [
  | true ↦ let rest = fewer_in p ws in omega (arith, rest)
  | false ↦ let rest = fewer_in p ws in omega (arith, rest)
]

fewer_distinct : (ws : List (List ℕ)) → length (distinct ws) ≤ length ws
fewer_distinct [] = omega arith
fewer_distinct (w ∷ ws) =
    let rest = fewer_distinct ws in
    let left = fewer_in (λ other. not (bytes_eq w other)) (distinct ws) in
    omega (arith, rest, left)

fewer_taken : (n : ℕ) (ws : List (List ℕ)) → length (take n ws) ≤ length ws
fewer_taken zero ws = omega arith
fewer_taken (suc n) [] = omega arith
fewer_taken (suc n) (w ∷ ws) = let rest = fewer_taken n ws in omega (arith, rest)

few_runs : (p : ℕ → Bool) (bytes : List ℕ) → length (slice_split p bytes) ≤ suc (length bytes)
few_runs p bytes = let count = length-slice_split p bytes in let most = count_by-le-length p bytes in omega (arith, count, most)

few_words : (bytes : List ℕ) → length (words_in bytes) ≤ suc (length bytes)
few_words bytes =
    let runs = few_runs is_gap bytes in
    let some = fewer_in is_some_run (slice_split is_gap bytes) in
    omega (arith, runs, some, length-map (filter is_some_run (slice_split is_gap bytes)) word_of)

few_first : (ws : List (List ℕ)) → length (first_words ws) ≤ length ws
unfolding first_words
few_first ws = let taken = fewer_taken 200 (distinct ws) in let rest = fewer_distinct ws in omega (arith, taken, rest)

title_words : (title : List ℕ) (stamp : ℕ) → length (words_of (empty_menu title stamp)) ≤ suc (length title)
title_words title stamp =
    let first = few_first (words_in title ++ words_in [] ++ words_in []) in
    let here = few_words title in
    omega (arith, first, here, length-append (words_in title ++ words_in []) (words_in []), length-append (words_in title) (words_in []))

-- a word takes at most 38 bytes
words_bytes : (ws : List (List ℕ)) → AreShort ws → bytes_of (word_pairs [] ws) ≤ 38 * length ws
words_bytes [] short = omega arith
words_bytes (w ∷ ws) short =
    let rest = words_bytes ws short.1 in
    let first = short.0 in
    omega (arith, rest, first, one_more (87 ∷ length w ∷ w ++ [], []) (word_pairs [] ws), length-append w [])

-- ---- the record

record_bytes_of : (title : List ℕ) (stamp : ℕ) → length (item_bytes (empty_menu title stamp)) ≡ 24 + length title
unfolding record_bytes
record_bytes_of title stamp = omega (arith, length-append (title ++ 0 ∷ 0 ∷ []) (0 ∷ 0 ∷ 0 ∷ 0 ∷ []), length-append title (0 ∷ 0 ∷ []))

first_bytes : (title : List ℕ) (stamp : ℕ) → length title ≤ 69 → bytes_of (item_pairs [] (empty_menu title stamp)) ≤ 4072
unfolding item_pairs chunk_count
first_bytes title stamp few =
    let words = words_of (empty_menu title stamp) in
    let all = words_bytes words (short_all (empty_menu title stamp)) in
    let count = title_words title stamp in
    omega (arith, few, all, count, record_bytes_of title stamp, one_more (73 ∷ [], item_bytes (empty_menu title stamp)) (word_pairs [] words))

-- ---- one page

all_fit : (room : ℕ) (ps : Pairs) → bytes_of ps ≤ room → fitting room ps ≡ length ps
all_fit room [] most = refl
all_fit room (p ∷ ps) most =
    let sum = one_more p ps in
    let here : nat_le (entry_size p) room ≡ true = le-leb (entry_size p) room (omega (arith, most, sum)) in
    rw here (ap suc (all_fit (room - entry_size p) ps (omega (arith, most, sum))))

none_left : (n : ℕ) (ps : Pairs) → n ≡ length ps → drop n ps ≡ []
none_left n [] is = rw is refl
none_left zero (p ∷ ps) is = absurd (omega (arith, is))
none_left (suc n) (p ∷ ps) is = none_left n ps (omega (arith, is))

no_page : (most : ℕ) (ps : Pairs) → ps ≡ [] → length (paged most ps) ≡ 0
no_page zero ps is = refl
no_page (suc most) ps is = rw is refl

one_page : (ps : Pairs) → bytes_of ps ≤ 4072 → pages_needed ps ≤ 1
unfolding page_room
one_page [] most = omega arith
one_page (p ∷ ps) most =
    let rest = no_page (length ps) (drop (fitting page_room (p ∷ ps)) (p ∷ ps)) (none_left (fitting page_room (p ∷ ps)) (p ∷ ps) (all_fit 4072 (p ∷ ps) most)) in
    omega (arith, rest)

-- ---- the layout

append_none : (ps : Pairs) → ps ++ [] ≡ ps
append_none [] = refl
append_none (p ∷ ps) = ap (λ l. p ∷ l) (append_none ps)

pub is_first_layout : (host admin title : List ℕ) (port stamp : ℕ) → in_order (item_pairs [] (empty_menu title stamp)) ≡ layout (fresh_site host port admin title stamp)
unfolding layout
is_first_layout host admin title port stamp = ap in_order (sym (append_none (item_pairs [] (empty_menu title stamp))))

pub first_map : (ps : Pairs) (title : List ℕ) (stamp : ℕ) → ps ≡ in_order (item_pairs [] (empty_menu title stamp)) → IsTrue (list_all is_pair ps) → is_map ps ≡ true
first_map ps title stamp is sizes =
    let sorted : is_sorted byte_cmp ps ≡ true = ap (is_sorted byte_cmp) (is ∙ is_first_layout [] [] title 0 stamp) ∙ is_sorted-layout (fresh_site [] 0 [] title stamp) in
    rw (sorted_rises ps sorted, sizes) refl

pub first_page : (ps : Pairs) (title : List ℕ) (stamp : ℕ) → ps ≡ in_order (item_pairs [] (empty_menu title stamp)) → length title ≤ 69 → pages_needed ps ≤ 1
first_page ps title stamp is few =
    let most = order_bytes (item_pairs [] (empty_menu title stamp)) in
    let all = first_bytes title stamp few in
    one_page ps (omega (arith, ap bytes_of is, most, all))
