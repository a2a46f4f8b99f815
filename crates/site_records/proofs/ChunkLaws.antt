-- What stands at the keys of chunks and of words.
use Rattle.std.proofs.Common.{◌≡◌, ◌≢◌, ℕ, zero, suc, ◌<◌, ◌≤◌, ◌+◌, ◌*◌, ◌^◌, Bool, true, false, cond, eqb, List, [], ◌∷◌, ◌++◌, length, Option, Some, None, refl, sym, ap, ◌∙◌, arith}
use Rattle.std.specs.Prelude.{IsTrue, bytes_eq, slice_get, nat_lt, ◌||◌}
use Rattle.std.specs.List.{AllByRecursion}
use Rattle.std.specs.Bool.{Decides, one_answer}
use Rattle.std.specs.BTreeMap.{is_at}
use Rattle.std.specs.FinMap.{is_sorted}
use Rattle.std.proofs.Math.Nat.{div-add-mod, mod-lt}
use Rattle.std.proofs.lemmas.Bool.{ltb-true, ltb-false, eqb-true, eqb-false}
use Rattle.std.proofs.lemmas.Slice.Eq.{bytes_eq-Decides}
use Rattle.host_types.specs.Site.{Site, byte_cmp, item_at}
use Rattle.host_types.specs.Card.{chunk_of}
use Rattle.host_types.specs.Words.{words_of, is_among}
use Rattle.host_types.specs.declared.item.Item.{Item}
use Rattle.site_records.specs.Keys.{Key, Record, Chunk, Word, item_key, chunk_key, word_key, keys_one_to_one, same_part, owner-key_bytes}
use Rattle.site_records.specs.Records.{item_bytes, parts_of}
use Rattle.site_records.specs.Layout.{chunk_count, chunk_pairs, part_pairs, word_pairs, data_pairs, item_pairs, layout, value_at, value_in, chunk_in, kept_chunk, has_word}
use Rattle.site_records.specs.LayoutLaws.{is_at-Decides, at_itself, not_at, value_at-append, value_at-before, value_at-layout}

-- ---- keys of other sorts

abbrev sort_of : Key → ℕ
sort_of (Record selector) = 0
sort_of (Chunk selector part k) = 1
sort_of (Word word selector) = 2

abbrev number_of : Key → ℕ
number_of (Record selector) = 0
number_of (Chunk selector part k) = k
number_of (Word word selector) = 0

abbrev word_in : Key → List ℕ
word_in (Record selector) = []
word_in (Chunk selector part k) = []
word_in (Word word selector) = word

one_sort : (a b : Key) → sort_of a ≢ sort_of b → a ≢ b
one_sort a b apart e = absurd (apart (ap sort_of e))

word_no_record : (w a b : List ℕ) → word_key w a ≢ item_key b
word_no_record w a b e = one_sort (Word w a) (Record b) (λ h. omega (arith, h)) (keys_one_to_one (Word w a) (Record b) tt tt e)

head_of : List ℕ → ℕ
head_of [] = 0
head_of (b ∷ bs) = b

word_no_chunk : (w a b : List ℕ) (v k : ℕ) → word_key w a ≢ chunk_key b v k
unfolding head_of
word_no_chunk w a b v k e = let h : 87 ≡ 67 = ap head_of e in omega (arith, h)

chunk_no_record : (a b : List ℕ) (v k : ℕ) → chunk_key a v k ≢ item_key b
unfolding head_of
chunk_no_record a b v k e = let h : 67 ≡ 73 = ap head_of e in omega (arith, h)

same_number : (a : List ℕ) (v k l : ℕ) → k < 2 ^ 16 → l < 2 ^ 16 → chunk_key a v k ≡ chunk_key a v l → k ≡ l
same_number a v k l f g e = ap number_of (keys_one_to_one (Chunk a v k) (Chunk a v l) f g e)

same_word : (w u a : List ℕ) → word_key w a ≡ word_key u a → w ≡ u
same_word w u a e = ap word_in (keys_one_to_one (Word w a) (Word u a) tt tt e)

-- ---- words

no_word_among_chunks : (a : List ℕ) (v : ℕ) (part : List ℕ) (n k : ℕ) (w : List ℕ) → value_at (chunk_pairs a v part n k) (word_key w a) ≡ None
no_word_among_chunks a v part zero k w = refl
no_word_among_chunks a v part (suc n) k w =
    ap (λ (b : Bool). cond b (Some (chunk_of part k)) (value_at (chunk_pairs a v part n (k + 1)) (word_key w a))) (not_at (word_key w a) (chunk_key a v k) (word_no_chunk w a a v k))
    ∙ no_word_among_chunks a v part n (k + 1) w

no_word_among_parts : (a : List ℕ) (v : ℕ) (parts : List (List ℕ)) (w : List ℕ) → value_at (part_pairs a v parts) (word_key w a) ≡ None
no_word_among_parts a v [] w = refl
no_word_among_parts a v (part ∷ parts) w =
    value_at-append (chunk_pairs a v part (chunk_count (length part)) 0) (part_pairs a (v + 1) parts) (word_key w a) (no_word_among_chunks a v part (chunk_count (length part)) 0 w)
    ∙ no_word_among_parts a (v + 1) parts w

-- no key of an item's data is one of a word
pub no_word_among_data : (a : List ℕ) (item : Item) (w : List ℕ) → value_at (data_pairs a item) (word_key w a) ≡ None
no_word_among_data a item w =
    ap (λ (b : Bool). cond b (Some (item_bytes item)) (value_at (part_pairs a 0 (parts_of item.body)) (word_key w a))) (not_at (word_key w a) (item_key a) (word_no_record w a a))
    ∙ no_word_among_parts a 0 (parts_of item.body) w

abbrev pub empty_value : Option (List ℕ)
empty_value = Some []

pub among_words : (a : List ℕ) (words : List (List ℕ)) (w : List ℕ) → value_at (word_pairs a words) (word_key w a) ≡ cond (is_among words w) empty_value None
among_words a [] w = refl
among_words a (u ∷ words) w =
    let both : Decides (is_at (byte_cmp (word_key w a)) (word_key u a)) (w ≡ u) =
    (λ h. same_word w u a ((is_at-Decides (word_key w a) (word_key u a)).0 h), λ e. (is_at-Decides (word_key w a) (word_key u a)).1 (ap (λ (x : List ℕ). word_key x a) e)) in
    let same : is_at (byte_cmp (word_key w a)) (word_key u a) ≡ bytes_eq w u = one_answer {P = w ≡ u} _ _ both (bytes_eq-Decides w u) in
    ap (λ (b : Bool). cond b empty_value (value_at (word_pairs a words) (word_key w a))) same
    ∙ ap (cond (bytes_eq w u) empty_value) (among_words a words w)
    ∙ either (bytes_eq w u) (is_among words w)
  where
    either : (b c : Bool) → cond b empty_value (cond c empty_value None) ≡ cond (b || c) empty_value None
    either true c = refl
    either false c = refl

pub word_value : (a : List ℕ) (o : Option Item) (w : List ℕ) → value_in a o (word_key w a) ≡ cond (has_word o w) empty_value None
unfolding item_pairs
word_value a None w = refl
word_value a (Some item) w = value_at-append (data_pairs a item) (word_pairs a (words_of item)) (word_key w a) (no_word_among_data a item w) ∙ among_words a (words_of item) w

pub words_law : (s : Site) (w a : List ℕ) → IsTrue (is_sorted byte_cmp s.items) → value_at (layout s) (word_key w a) ≡ cond (has_word (item_at s a) w) empty_value None
words_law s w a h =
    value_at-layout s (word_key w a) h ∙ ap (λ (k : List ℕ). value_in k (item_at s k) (word_key w a)) (owner-key_bytes (Word w a)) ∙ word_value a (item_at s a) w

-- ---- chunks

no_chunk_among_words : (a : List ℕ) (words : List (List ℕ)) (v k : ℕ) → value_at (word_pairs a words) (chunk_key a v k) ≡ None
no_chunk_among_words a [] v k = refl
no_chunk_among_words a (w ∷ words) v k =
    ap (λ (b : Bool). cond b empty_value (value_at (word_pairs a words) (chunk_key a v k))) (not_at (chunk_key a v k) (word_key w a) (λ e. word_no_chunk w a a v k (sym e)))
    ∙ no_chunk_among_words a words v k

another_part : (a : List ℕ) (v : ℕ) (part : List ℕ) (n l w k : ℕ) → w ≢ v → value_at (chunk_pairs a v part n l) (chunk_key a w k) ≡ None
another_part a v part zero l w k apart = refl
another_part a v part (suc n) l w k apart =
    ap (λ (b : Bool). cond b (Some (chunk_of part l)) (value_at (chunk_pairs a v part n (l + 1)) (chunk_key a w k))) (not_at (chunk_key a w k) (chunk_key a v l) (λ e. apart (same_part a w v k l e)))
    ∙ another_part a v part n (l + 1) w k apart

later_parts : (a : List ℕ) (v : ℕ) (parts : List (List ℕ)) (w k : ℕ) → w < v → value_at (part_pairs a v parts) (chunk_key a w k) ≡ None
later_parts a v [] w k before = refl
later_parts a v (part ∷ parts) w k before =
    value_at-append (chunk_pairs a v part (chunk_count (length part)) 0) (part_pairs a (v + 1) parts) (chunk_key a w k) (another_part a v part (chunk_count (length part)) 0 w k (λ e. omega (arith, before, e)))
    ∙ later_parts a (v + 1) parts w k (omega (arith, before))

there : (a : List ℕ) (v : ℕ) (part : List ℕ) (n l k : ℕ) → l + n ≤ 65536 → l ≤ k → k < l + n → value_at (chunk_pairs a v part n l) (chunk_key a v k) ≡ Some (chunk_of part k)
there a v part zero l k room low high = absurd (omega (arith, low, high))
there a v part (suc n) l k room low high =
    elim (eqb k l) as (λ b. eqb k l ≡ b → value_at (chunk_pairs a v part (suc n) l) (chunk_key a v k) ≡ Some (chunk_of part k)) [
      | true ↦ λ t.
          let is : k ≡ l = eqb-true k l t in
          ap (λ (x : ℕ). value_at (chunk_pairs a v part (suc n) x) (chunk_key a v k)) (sym is)
          ∙ ap (λ (b : Bool). cond b (Some (chunk_of part k)) (value_at (chunk_pairs a v part n (k + 1)) (chunk_key a v k))) (at_itself (chunk_key a v k))
      | false ↦ λ t.
          let apart : chunk_key a v k ≢ chunk_key a v l = λ e. eqb-false k l t (same_number a v k l (omega (arith, high, room)) (omega (arith, room)) e) in
          ap (λ (b : Bool). cond b (Some (chunk_of part l)) (value_at (chunk_pairs a v part n (l + 1)) (chunk_key a v k))) (not_at (chunk_key a v k) (chunk_key a v l) apart)
          ∙ there a v part n (l + 1) k (omega (arith, room)) (above k l low (eqb-false k l t)) (omega (arith, high))
    ] refl
  where
    above : (k l : ℕ) → l ≤ k → (k ≡ l → ⊥) → l + 1 ≤ k
    above k l low apart = omega (arith, low, apart)

past : (a : List ℕ) (v : ℕ) (part : List ℕ) (n l k : ℕ) → l + n ≤ 65536 → k < 65536 → l + n ≤ k → value_at (chunk_pairs a v part n l) (chunk_key a v k) ≡ None
past a v part zero l k room fits high = refl
past a v part (suc n) l k room fits high =
    let apart : chunk_key a v k ≢ chunk_key a v l = λ e. (let is = same_number a v k l (omega (arith, fits)) (omega (arith, room)) e in omega (arith, is, high)) in
    ap (λ (b : Bool). cond b (Some (chunk_of part l)) (value_at (chunk_pairs a v part n (l + 1)) (chunk_key a v k))) (not_at (chunk_key a v k) (chunk_key a v l) apart)
    ∙ past a v part n (l + 1) k (omega (arith, room)) fits (omega (arith, high))

count_covers : (n k : ℕ) → 1000 * k < n → k < chunk_count n
unfolding chunk_count
count_covers n k h = omega (arith, h, div-add-mod (n + 999) 1000, mod-lt (n + 999) {m = 1000} (omega arith))

pub count_within : (n k : ℕ) → n ≤ 1000 * k → chunk_count n ≤ k
unfolding chunk_count
count_within n k h = omega (arith, h, div-add-mod (n + 999) 1000, mod-lt (n + 999) {m = 1000} (omega arith))

pub in_range : (n k : ℕ) → k < chunk_count n → 1000 * k < n
unfolding chunk_count
in_range n k h = omega (arith, h, div-add-mod (n + 999) 1000, mod-lt (n + 999) {m = 1000} (omega arith))

one_part : (a : List ℕ) (v : ℕ) (part : List ℕ) (k : ℕ) → length part ≤ 262144 → k < 65536 → value_at (chunk_pairs a v part (chunk_count (length part)) 0) (chunk_key a v k) ≡ chunk_in (Some part) k
one_part a v part k small fits =
    let room : chunk_count (length part) ≤ 65536 = count_within (length part) 65536 (omega (arith, small)) in
    elim (nat_lt (1000 * k) (length part)) as (λ b. nat_lt (1000 * k) (length part) ≡ b → value_at (chunk_pairs a v part (chunk_count (length part)) 0) (chunk_key a v k) ≡ cond b (Some (chunk_of part k)) None) [
      | true ↦ λ t. there a v part (chunk_count (length part)) 0 k (omega (arith, room)) (omega arith) (omega (arith, count_covers (length part) k (ltb-true (1000 * k) (length part) t)))
      | false ↦ λ t. past a v part (chunk_count (length part)) 0 k (omega (arith, room)) fits (omega (arith, count_within (length part) k (ltb-false (1000 * k) (length part) t)))
    ] refl

abbrev pub AreSmall : List (List ℕ) → Type 0
AreSmall parts = AllByRecursion (λ part. length part ≤ 262144) parts

some_part : (a : List ℕ) (parts : List (List ℕ)) (v d w k : ℕ) → AreSmall parts → k < 65536 → w ≡ v + d → value_at (part_pairs a v parts) (chunk_key a w k) ≡ chunk_in (slice_get parts d) k
some_part a [] v d w k small fits is = refl
some_part a (part ∷ parts) v zero w k small fits is =
    ap (λ (x : ℕ). value_at (part_pairs a v (part ∷ parts)) (chunk_key a x k)) (let e : w ≡ v = omega (arith, is) in e)
    ∙ value_at-before (chunk_pairs a v part (chunk_count (length part)) 0) (part_pairs a (v + 1) parts) (chunk_key a v k) (later_parts a (v + 1) parts v k (omega arith))
    ∙ one_part a v part k small.0 fits
some_part a (part ∷ parts) v (suc d) w k small fits is =
    value_at-append (chunk_pairs a v part (chunk_count (length part)) 0) (part_pairs a (v + 1) parts) (chunk_key a w k) (another_part a v part (chunk_count (length part)) 0 w k (λ e. omega (arith, is, e)))
    ∙ some_part a parts (v + 1) d w k small.1 fits (omega (arith, is))

abbrev pub HasSmallParts : Option Item → Type 0
HasSmallParts None = Unit {0}
HasSmallParts (Some item) = AreSmall (parts_of item.body)

pub chunk_value : (a : List ℕ) (o : Option Item) (v k : ℕ) → HasSmallParts o → k < 65536 → value_in a o (chunk_key a v k) ≡ kept_chunk o v k
unfolding item_pairs
chunk_value a None v k small fits = refl
chunk_value a (Some item) v k small fits =
    ap (λ (b : Bool). cond b (Some (item_bytes item)) (value_at (part_pairs a 0 (parts_of item.body) ++ word_pairs a (words_of item)) (chunk_key a v k))) (not_at (chunk_key a v k) (item_key a) (chunk_no_record a a v k))
    ∙ value_at-before (part_pairs a 0 (parts_of item.body)) (word_pairs a (words_of item)) (chunk_key a v k) (no_chunk_among_words a (words_of item) v k)
    ∙ some_part a (parts_of item.body) 0 v v k small fits (omega arith)

pub chunks_law : (s : Site) (a : List ℕ) (v k : ℕ) → IsTrue (is_sorted byte_cmp s.items) → HasSmallParts (item_at s a) → k < 65536 → value_at (layout s) (chunk_key a v k) ≡ kept_chunk (item_at s a) v k
chunks_law s a v k h small fits =
    value_at-layout s (chunk_key a v k) h ∙ ap (λ (x : List ℕ). value_in x (item_at s x) (chunk_key a v k)) (owner-key_bytes (Chunk a v k)) ∙ chunk_value a (item_at s a) v k small fits
