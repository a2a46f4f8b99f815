-- Of two items the words that differ: what stands at the keys of words, and at all others.
use Rattle.std.proofs.Common.{◌≡◌, ◌≢◌, ◌⊎◌, ℕ, Bool, true, false, cond, List, [], ◌∷◌, take, drop, length, Option, Some, None, inl, inr, refl, sym, ap, ◌∙◌}
use Rattle.std.specs.Prelude.{◌&&◌, not, slice_index}
use Rattle.std.specs.BTreeMap.{is_at}
use Rattle.std.proofs.lemmas.Bool.{cases_Bool}
use Rattle.std.proofs.lemmas.List.{take_at}
use Rattle.host_types.specs.Site.{byte_cmp}
use Rattle.host_types.specs.Words.{words_of, is_among}
use Rattle.host_types.specs.declared.item.Item.{Item}
use Rattle.site_records.specs.Keys.{word_key}
use Rattle.site_records.specs.Layout.{word_pairs, data_pairs, item_pairs, value_at, value_in, has_word}
use Rattle.site_records.specs.LayoutLaws.{is_at-Decides, not_at, value_at-append, value_at-before}
use Rattle.site_records.proofs.ChunkLaws.{among_words, no_word_among_data}
use Rattle.word_search.specs.WordChange.{dropped}
use Rattle.word_search.proofs.Changes.{is_dropped}
use Rattle.site_pairs.specs.Edits.{data_at, words_at, pairs_beside}

-- the empty value, where a word is there
abbrev pub empty_where : Bool → Option (List ℕ)
empty_where there = cond there (Some []) None

-- ---- keys of words

-- the word that a key of a word names
abbrev word_named : List ℕ → List ℕ
word_named [] = []
word_named (tag ∷ rest) = take (slice_index rest 0) (drop 1 rest)

named_again : (word selector : List ℕ) → word_named (word_key word selector) ≡ word
named_again word selector = take_at word selector (length word) refl

-- A key is that of a word of what stands at a selector, or of no word.
pub word_or_none : (selector q : List ℕ) → ((word : List ℕ) × (q ≡ word_key word selector)) ⊎ ((word : List ℕ) → q ≢ word_key word selector)
word_or_none selector q =
    elim (cases_Bool (is_at (byte_cmp q) (word_key (word_named q) selector))) [
      | inl same ↦ inl (word_named q, (is_at-Decides q (word_key (word_named q) selector)).0 same)
      | inr other ↦ inr (λ word is.
          let name : word_named q ≡ word = ap word_named is ∙ named_again word selector in
          let again : q ≡ word_key (word_named q) selector = is ∙ ap (λ (w : List ℕ). word_key w selector) (sym name) in
          absurd (clash (sym other ∙ (is_at-Decides q (word_key (word_named q) selector)).1 again)))
    ]
  where
    clash : false ≡ true → ⊥
    clash h = cc h

-- ---- at the key of a word

words_are : (item : Option Item) (word : List ℕ) → is_among (words_at item) word ≡ has_word item word
words_are None word = refl
words_are (Some item) word = refl

no_word_among : (selector : List ℕ) (item : Option Item) (word : List ℕ) → value_at (data_at selector item) (word_key word selector) ≡ None
no_word_among selector None word = refl
no_word_among selector (Some item) word = no_word_among_data selector item word

-- there a word is written where one has it and the other lacks it
pub word_beside : (selector : List ℕ) (item other : Option Item) (word : List ℕ) → value_at (pairs_beside selector item other) (word_key word selector) ≡ empty_where (has_word item word && not (has_word other word))
word_beside selector item other word =
    let words = dropped (words_at item) (words_at other) in
    value_at-append (data_at selector item) (word_pairs selector words) (word_key word selector) (no_word_among selector item word)
    ∙ among_words selector words word
    ∙ ap empty_where (is_dropped (words_at item) (words_at other) word)
    ∙ ap (λ b. empty_where (b && not (is_among (words_at other) word))) (words_are item word)
    ∙ ap (λ b. empty_where (has_word item word && not b)) (words_are other word)

-- ---- at all other keys

no_word_at : (selector q : List ℕ) (words : List (List ℕ)) → ((word : List ℕ) → q ≢ word_key word selector) → value_at (word_pairs selector words) q ≡ None
no_word_at selector q [] other = refl
no_word_at selector q (word ∷ words) other = ap (λ b. cond b (Some []) (value_at (word_pairs selector words) q)) (not_at q (word_key word selector) (other word)) ∙ no_word_at selector q words other

data_alone : (selector q : List ℕ) (item : Option Item) → ((word : List ℕ) → q ≢ word_key word selector) → value_in selector item q ≡ value_at (data_at selector item) q
unfolding item_pairs
data_alone selector q None other = refl
data_alone selector q (Some item) other = value_at-before (data_pairs selector item) (word_pairs selector (words_of item)) q (no_word_at selector q (words_of item) other)

-- there stands what stands there in the layout
pub no_word_beside : (selector q : List ℕ) (item other : Option Item) → ((word : List ℕ) → q ≢ word_key word selector) → value_at (pairs_beside selector item other) q ≡ value_in selector item q
no_word_beside selector q item other no_word =
    let words = dropped (words_at item) (words_at other) in
    value_at-before (data_at selector item) (word_pairs selector words) q (no_word_at selector q words no_word) ∙ sym (data_alone selector q item no_word)
