-- The layout tells the site.
use Rattle.std.proofs.lemmas.Slice.Eq.{bytes_eq-Decides}
use Rattle.host_types.specs.Words.{words_of, is_among}
use Rattle.std.proofs.Common.{◌≡◌, ℕ, suc, ◌<◌, ◌≤◌, ◌*◌, ◌/◌, ◌%◌, Bool, cond, List, [], ◌∷◌, length, map, drop, Option, Some, None, refl, sym, ap, ◌∙◌, arith, zero, ◌+◌, true, ◌++◌, false}
use Rattle.std.specs.Prelude.{IsTrue, slice_get, get_or, nat_lt, bytes_eq, ◌||◌}
use Rattle.std.specs.Option.{option_map}
use Rattle.std.specs.List.{list_any, AllByRecursion}
use Rattle.std.proofs.Math.Nat.{div-add-mod, mod-lt}
use Rattle.std.proofs.lemmas.Bool.{lt-ltb, ltb-false}
use Rattle.std.proofs.lemmas.List.{get_or-take, get_or-drop}
use Rattle.std.proofs.lemmas.Grind.{same_number_lists}
use Rattle.std.proofs.lemmas.List.Sums.{sum_by-cons}
use Rattle.host_types.specs.Site.{Site, IsSite, item_at}
use Rattle.host_types.specs.SiteLaws.{same_pairs}
use Rattle.host_types.specs.Card.{card_view, chunk_of}
use Rattle.host_types.specs.Items.{is_valid_item, view_bytes, most_view_bytes, is_long_view}
use Rattle.host_types.specs.declared.view.View.{View}
use Rattle.host_types.specs.declared.card.CardView.{CardView}
use Rattle.host_types.specs.declared.item.Item.{Item}
use Rattle.host_types.specs.declared.item.Body.{Body}
use Rattle.host_types.specs.declared.item.Body.TheVariants.{Views, Menu, Board, Form, Search, Moved}
use Rattle.site_records.specs.Records.{parts_of, recorded_body, recorded, item_bytes}
use Rattle.site_records.specs.Reading.{entries_at, questions_at}
use Rattle.site_records.specs.Keys.{item_key, chunk_key}
use Rattle.site_records.specs.Layout.{layout, value_at, chunk_in, kept_chunk, chunk_count, chunk_pairs, part_pairs, word_pairs, item_pairs}
use Rattle.site_records.specs.LayoutLaws.{record_in-layout, value_in-record}
use Rattle.site_records.specs.declared.record.Record.{Record}
use Rattle.site_records.specs.declared.record.RecordBody.{RecordBody}
use Rattle.site_records.specs.declared.record.RecordBody.TheVariants as kept
use Rattle.site_records.proofs.EntryLaws.{entries_again}
use Rattle.site_records.proofs.QuestionLaws.{questions_again}
use Rattle.site_records.proofs.RecordLaws.{same_record}
use Rattle.site_records.proofs.Lengths.{or_first, or_second}
use Rattle.site_records.proofs.Sizes.{IsValid, valid_body, item_record, menu_entries, form_questions, entries_size, questions_size}
use Rattle.site_records.proofs.ChunkLaws.{AreSmall, HasSmallParts, chunks_law, chunk_value, word_value, empty_value, count_within, in_range}

-- ---- the parts of a valid item

small_views : (vs : List View) → view_bytes vs ≤ 262144 → AreSmall (map (λ v. v.bytes) vs)
small_views [] h = tt
small_views (v ∷ vs) h = let sum = sum_by-cons (λ (w : View). length w.bytes) v vs in (omega (arith, h, sum), small_views vs (omega (arith, h, sum)))

pub small_parts : (body : Body) → IsValid body → AreSmall (parts_of body)
unfolding most_view_bytes
small_parts (Views kind vs) h = small_views vs (ltb-false 262144 (view_bytes vs) (or_first _ (list_any is_long_view vs) (or_second (nat_lt 8 (length vs)) _ h.not_long)))
small_parts (Menu es) h = (omega (arith, entries_size es (menu_entries es h.typed h.not_bad h.not_long)), tt)
small_parts (Board many next) h = tt
small_parts (Form board qs) h = (omega (arith, (questions_size qs (form_questions board qs h.typed h.not_bad h.not_long)).1), tt)
small_parts (Search scope) h = tt
small_parts (Moved target) h = tt

-- ---- a body from its record and its parts

abbrev joined : List CardView → List (List ℕ) → List View
joined [] parts = []
joined (c ∷ cs) [] = []
joined (c ∷ cs) (part ∷ parts) = record { name = c.name; language = c.language; bytes = part } ∷ joined cs parts

joined_again : (vs : List View) → joined (map card_view vs) (map (λ v. v.bytes) vs) ≡ vs
joined_again [] = refl
joined_again (v ∷ vs) = ap (λ (l : List View). v ∷ l) (joined_again vs)

abbrev first_part : List (List ℕ) → List ℕ
first_part [] = []
first_part (part ∷ parts) = part

abbrev rebuilt : RecordBody → List (List ℕ) → Option Body
rebuilt (kept.Views kind views) parts = Some (Views kind (joined views parts))
rebuilt (kept.Menu size) parts = option_map (λ es. Menu es) (entries_at (first_part parts))
rebuilt (kept.Board many next) parts = Some (Board many next)
rebuilt (kept.Form board size) parts = option_map (λ qs. Form board qs) (questions_at (first_part parts))
rebuilt (kept.Search scope) parts = Some (Search scope)
rebuilt (kept.Moved target) parts = Some (Moved target)

rebuilt_again : (body : Body) → IsValid body → rebuilt (recorded_body body) (parts_of body) ≡ Some body
rebuilt_again (Views kind vs) h = ap (λ (l : List View). Some (Views kind l)) (joined_again vs)
rebuilt_again (Menu es) h = ap (option_map (λ es. Menu es)) (entries_again es (menu_entries es h.typed h.not_bad h.not_long))
rebuilt_again (Board many next) h = refl
rebuilt_again (Form board qs) h = ap (option_map (λ qs. Form board qs)) (questions_again qs (form_questions board qs h.typed h.not_bad h.not_long))
rebuilt_again (Search scope) h = refl
rebuilt_again (Moved target) h = refl

abbrev sizes_of : RecordBody → List ℕ
sizes_of (kept.Views kind views) = map (λ v. v.length) views
sizes_of (kept.Menu size) = size ∷ []
sizes_of (kept.Board many next) = []
sizes_of (kept.Form board size) = size ∷ []
sizes_of (kept.Search scope) = []
sizes_of (kept.Moved target) = []

view_sizes : (vs : List View) → map length (map (λ v. v.bytes) vs) ≡ map (λ v. v.length) (map card_view vs)
view_sizes [] = refl
view_sizes (v ∷ vs) = ap (λ (l : List ℕ). length v.bytes ∷ l) (view_sizes vs)

part_sizes : (body : Body) → map length (parts_of body) ≡ sizes_of (recorded_body body)
part_sizes (Views kind vs) = view_sizes vs
part_sizes (Menu es) = refl
part_sizes (Board many next) = refl
part_sizes (Form board qs) = refl
part_sizes (Search scope) = refl
part_sizes (Moved target) = refl

-- ---- parts by their chunks

byte_of_chunk : (a : List ℕ) (i : ℕ) → get_or (chunk_of a (i / 1000)) (i % 1000) 0 ≡ get_or a i 0
unfolding chunk_of
byte_of_chunk a i =
    get_or-take 1000 (drop (1000 * (i / 1000)) a) (i % 1000) 0 (mod-lt i {m = 1000} (omega arith))
    ∙ get_or-drop (1000 * (i / 1000)) a (i % 1000) 0
    ∙ ap (λ (k : ℕ). get_or a k 0) (div-add-mod i 1000)

abbrev a_chunk : List ℕ → Option (List ℕ)
a_chunk c = Some c

same_chunks : (a b : List ℕ) (k : ℕ) → 1000 * k < length a → length a ≡ length b → chunk_in (Some a) k ≡ chunk_in (Some b) k → chunk_of a k ≡ chunk_of b k
same_chunks a b k within len same =
    let here : chunk_in (Some a) k ≡ a_chunk (chunk_of a k) = ap (λ (t : Bool). cond t (a_chunk (chunk_of a k)) None) (lt-ltb (1000 * k) (length a) within) in
    let there : chunk_in (Some b) k ≡ a_chunk (chunk_of b k) = ap (λ (t : Bool). cond t (a_chunk (chunk_of b k)) None) (lt-ltb (1000 * k) (length b) (omega (arith, within, len))) in
    unwrapped (sym here ∙ same ∙ there)
  where
    unwrapped : {x y : List ℕ} → a_chunk x ≡ a_chunk y → x ≡ y
    unwrapped e = cc e

same_part : (a b : List ℕ) → length a ≡ length b → length a ≤ 262144 → ((k : ℕ) → k < 65536 → chunk_in (Some a) k ≡ chunk_in (Some b) k) → a ≡ b
same_part a b len small same =
    same_number_lists a b len (λ i less.
    let d = div-add-mod i 1000 in
    let k : i / 1000 < 65536 = omega (arith, less, small, d) in
    let within : 1000 * (i / 1000) < length a = omega (arith, less, d) in
    sym (byte_of_chunk a i) ∙ ap (λ (c : List ℕ). get_or c (i % 1000) 0) (same_chunks a b (i / 1000) within len (same (i / 1000) k)) ∙ byte_of_chunk b i)

same_parts : (ps qs : List (List ℕ)) → map length ps ≡ map length qs → AreSmall ps → ((v k : ℕ) → k < 65536 → chunk_in (slice_get ps v) k ≡ chunk_in (slice_get qs v) k) → ps ≡ qs
same_parts [] [] e small same = refl
same_parts [] (q ∷ qs) e small same = absurd cc
same_parts (p ∷ ps) [] e small same = absurd cc
same_parts (p ∷ ps) (q ∷ qs) e small same =
    let heads : p ≡ q = same_part p q (first_len e) small.0 (λ k fits. same 0 k fits) in
    let tails : ps ≡ qs = same_parts ps qs (other_lens e) small.1 (λ v k fits. same (suc v) k fits) in
    λ i. heads i ∷ tails i
  where
    first_len : {m n : ℕ} {ms ns : List ℕ} → m ∷ ms ≡ n ∷ ns → m ≡ n
    first_len e = cc e

    other_lens : {m n : ℕ} {ms ns : List ℕ} → m ∷ ms ≡ n ∷ ns → ms ≡ ns
    other_lens e = cc e

-- ---- items

abbrev a_body : Body → Option Body
a_body b = Some b

same_body : (b c : Body) → IsValid b → IsValid c → recorded_body b ≡ recorded_body c → parts_of b ≡ parts_of c → b ≡ c
same_body b c g h bodies parts =
    let same : a_body b ≡ a_body c = sym (rebuilt_again b g) ∙ (λ i. rebuilt (bodies i) (parts i)) ∙ rebuilt_again c h in
    cc same

abbrev IsValidAt : List ℕ → Option Item → Type 0
IsValidAt selector None = Unit {0}
IsValidAt selector (Some item) = IsTrue (is_valid_item selector item)

same_item : (selector : List ℕ) (x y : Item) → IsTrue (is_valid_item selector x) → IsTrue (is_valid_item selector y) → item_bytes x ≡ item_bytes y
    → ((v k : ℕ) → k < 65536 → kept_chunk (Some x) v k ≡ kept_chunk (Some y) v k) → x ≡ y
same_item selector x y g h bytes chunks =
    let r : recorded x ≡ recorded y = same_record (recorded x) (recorded y) (item_record selector x g) (item_record selector y h) bytes in
    let bodies : recorded_body x.body ≡ recorded_body y.body = ap (λ (z : Record). z.body) r in
    let lens : map length (parts_of x.body) ≡ map length (parts_of y.body) = part_sizes x.body ∙ ap sizes_of bodies ∙ sym (part_sizes y.body) in
    let parts = same_parts (parts_of x.body) (parts_of y.body) lens (small_parts x.body (valid_body selector x g)) chunks in
    let body = same_body x.body y.body (valid_body selector x g) (valid_body selector y h) bodies parts in
    λ i. record { title = (r i).title; stamp = (r i).stamp; until = (r i).until; summary = (r i).summary; body = body i }

abbrev no_bytes : Option (List ℕ)
no_bytes = None

same_found : (selector : List ℕ) (o p : Option Item) → IsValidAt selector o → IsValidAt selector p → option_map item_bytes o ≡ option_map item_bytes p
    → ((v k : ℕ) → k < 65536 → kept_chunk o v k ≡ kept_chunk p v k) → o ≡ p
same_found selector None None g h bytes chunks = refl
same_found selector None (Some y) g h bytes chunks = absurd (apart bytes)
  where
    apart : {x : List ℕ} → no_bytes ≡ a_chunk x → ⊥
    apart e = cc e
same_found selector (Some x) None g h bytes chunks = absurd (apart bytes)
  where
    apart : {x : List ℕ} → a_chunk x ≡ no_bytes → ⊥
    apart e = cc e
same_found selector (Some x) (Some y) g h bytes chunks = ap (λ (z : Item). Some z) (same_item selector x y g h (unwrapped bytes) chunks)
  where
    unwrapped : {x y : List ℕ} → a_chunk x ≡ a_chunk y → x ≡ y
    unwrapped e = cc e

-- ---- sites

found_valid : (s : Site) → IsSite s → (selector : List ℕ) → IsValidAt selector (item_at s selector)
found_valid s site selector = by_cases (item_at s selector) (λ item e. (site.each selector item e).valid)
  where
    by_cases : (o : Option Item) → ((item : Item) → o ≡ Some item → IsTrue (is_valid_item selector item)) → IsValidAt selector o
    by_cases None h = tt
    by_cases (Some item) h = h item refl

pub found_small : (s : Site) → IsSite s → (selector : List ℕ) → HasSmallParts (item_at s selector)
found_small s site selector = by_cases (item_at s selector) (found_valid s site selector)
  where
    by_cases : (o : Option Item) → IsValidAt selector o → HasSmallParts o
    by_cases None h = tt
    by_cases (Some item) h = small_parts item.body (valid_body selector item h)

-- the layout tells the items
pub items_told : (s t : Site) → IsSite s → IsSite t → layout s ≡ layout t → s.items ≡ t.items
items_told s t g h e =
    same_pairs s.items t.items g.sorted h.sorted (λ selector.
    same_found selector (item_at s selector) (item_at t selector) (found_valid s g selector) (found_valid t h selector)
    (sym (record_in-layout s selector g.sorted) ∙ ap (λ (ps : List (List ℕ × List ℕ)). value_at ps (item_key selector)) e ∙ record_in-layout t selector h.sorted)
    (λ v k fits. sym (chunks_law s selector v k g.sorted (found_small s g selector) fits) ∙ ap (λ (ps : List (List ℕ × List ℕ)). value_at ps (chunk_key selector v k)) e ∙ chunks_law t selector v k h.sorted (found_small t h selector) fits))

pub layout_tells : (s t : Site) → IsSite s → IsSite t → s.host ≡ t.host → s.port ≡ t.port → s.admin ≡ t.admin → layout s ≡ layout t → s ≡ t
layout_tells s t g h host port admin e =
    let items = items_told s t g h e in
    λ i. record { items = items i; host = host i; port = port i; admin = admin i }

-- ---- each pair of an item is what stands at its key

abbrev Stands : List ℕ → Item → List ℕ × List ℕ → Type 0
Stands selector item p = value_at (item_pairs selector item) p.0 ≡ Some p.1

all_append : (P : List ℕ × List ℕ → Type 0) (ps qs : List (List ℕ × List ℕ)) → AllByRecursion P ps → AllByRecursion P qs → AllByRecursion P (ps ++ qs)
all_append P [] qs g h = h
all_append P (p ∷ ps) qs g h = (g.0, all_append P ps qs g.1 h)

or_later : (a b : Bool) → b ≡ true → (a || b) ≡ true
or_later true b h = refl
or_later false b h = h

module _ (selector : List ℕ) (item : Item) (small : AreSmall (parts_of item.body)) where
  chunk_stands : (v k : ℕ) (part : List ℕ) → slice_get (parts_of item.body) v ≡ Some part → length part ≤ 262144 → k < chunk_count (length part) → Stands selector item (chunk_key selector v k, chunk_of part k)
  chunk_stands v k part there len less =
      let most = count_within (length part) 65536 (omega (arith, len)) in
      chunk_value selector (Some item) v k small (omega (arith, less, most))
      ∙ ap (λ (o : Option (List ℕ)). chunk_in o k) there
      ∙ ap (λ (b : Bool). cond b (a_chunk (chunk_of part k)) None) (lt-ltb (1000 * k) (length part) (in_range (length part) k less))

  chunks_stand : (v : ℕ) (part : List ℕ) (n k : ℕ) → slice_get (parts_of item.body) v ≡ Some part → length part ≤ 262144 → k + n ≤ chunk_count (length part) → AllByRecursion (Stands selector item) (chunk_pairs selector v part n k)
  chunks_stand v part zero k there len room = tt
  chunks_stand v part (suc n) k there len room = (chunk_stands v k part there len (omega (arith, room)), chunks_stand v part n (k + 1) there len (omega (arith, room)))

  parts_stand : (v : ℕ) (parts : List (List ℕ)) → AreSmall parts → ((d : ℕ) → slice_get parts d ≡ slice_get (parts_of item.body) (v + d)) → AllByRecursion (Stands selector item) (part_pairs selector v parts)
  parts_stand v [] len same = tt
  parts_stand v (part ∷ parts) len same =
      let there : slice_get (parts_of item.body) v ≡ Some part = ap (slice_get (parts_of item.body)) (let e : v ≡ v + 0 = omega arith in e) ∙ sym (same 0) in
      all_append (Stands selector item) (chunk_pairs selector v part (chunk_count (length part)) 0) (part_pairs selector (v + 1) parts) (chunks_stand v part (chunk_count (length part)) 0 there len.0 (omega arith))
      (parts_stand (v + 1) parts len.1 (λ d. same (suc d) ∙ ap (slice_get (parts_of item.body)) (let e : v + suc d ≡ v + 1 + d = omega arith in e)))

  words_stand : (words : List (List ℕ)) → ((w : List ℕ) → is_among words w ≡ true → is_among (words_of item) w ≡ true) → AllByRecursion (Stands selector item) (word_pairs selector words)
  words_stand [] among = tt
  words_stand (w ∷ words) among =
      (word_value selector (Some item) w ∙ ap (λ (b : Bool). cond b empty_value None) (among w (ap (λ (b : Bool). b || is_among words w) (itself w))), words_stand words (λ u h. among u (later u h)))
    where
      itself : (w : List ℕ) → bytes_eq w w ≡ true
      itself w = (bytes_eq-Decides w w).1 refl

      later : (u : List ℕ) → is_among words u ≡ true → (bytes_eq u w || is_among words u) ≡ true
      later u h = or_later (bytes_eq u w) (is_among words u) h

  pairs_stand : AllByRecursion (Stands selector item) (item_pairs selector item)
  unfolding item_pairs
  pairs_stand =
      (value_in-record selector (Some item), all_append (Stands selector item) (part_pairs selector 0 (parts_of item.body)) (word_pairs selector (words_of item)) (parts_stand 0 (parts_of item.body) small (λ d. ap (slice_get (parts_of item.body)) (let e : d ≡ 0 + d = omega arith in e))) (words_stand (words_of item) (λ w h. h)))

pub each_pair_stands : (selector : List ℕ) (item : Item) → IsTrue (is_valid_item selector item) → AllByRecursion (Stands selector item) (item_pairs selector item)
each_pair_stands selector item h = pairs_stand selector item (small_parts item.body (valid_body selector item h))
