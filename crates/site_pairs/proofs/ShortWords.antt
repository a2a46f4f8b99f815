-- No word of an item is longer than a key may hold.
use Rattle.std.proofs.Common.{◌≡◌, ℕ, zero, suc, ◌≤◌, Bool, true, false, cond, List, [], ◌∷◌, ◌++◌, length, map, take, Option, Some, None, arith, subst, sym}
use Rattle.std.specs.Prelude.{filter, not, bytes_eq, All}
use Rattle.std.specs.List.{AllByRecursion, slice_split}
use Rattle.std.proofs.lemmas.List.{length-map}
use Rattle.std.specs.Char.{to_ascii_lowercase}
use Rattle.host_types.specs.Words.{is_among, word_of, words_in, is_some_run, is_gap, distinct, first_words, said_in, searched, words_of}
use Rattle.host_types.specs.Card.{card_of, viewed}
use Rattle.host_types.specs.declared.card.Card.{Card}
use Rattle.host_types.specs.declared.item.Item.{Item}
use Rattle.word_search.specs.WordChange.{dropped}
use Rattle.site_pairs.specs.Edits.{words_at}

abbrev pub AreShort : List (List ℕ) → Type 0
AreShort words = AllByRecursion (λ w. length w ≤ 32) words

within : (n : ℕ) (xs : List ℕ) → length (take n xs) ≤ n
within zero xs = omega arith
within (suc n) [] = omega arith
within (suc n) (x ∷ xs) = let h = within n xs in omega (arith, h)

short_word : (run : List ℕ) → length (word_of run) ≤ 32
unfolding word_of
short_word run = let short = within 32 run in omega (arith, length-map (take 32 run) to_ascii_lowercase, short)

short_append : (vs ws : List (List ℕ)) → AreShort vs → AreShort ws → AreShort (vs ++ ws)
short_append [] ws g h = h
short_append (v ∷ vs) ws g h = (g.0, short_append vs ws g.1 h)

short_filter : (p : List ℕ → Bool) (ws : List (List ℕ)) → AreShort ws → AreShort (filter p ws)
short_filter p [] h = tt
short_filter p (w ∷ ws) h = elim (p w) as (λ b. AreShort (cond b (w ∷ filter p ws) (filter p ws))) [
  | true ↦ (h.0, short_filter p ws h.1)
  | false ↦ short_filter p ws h.1
]

short_take : (n : ℕ) (ws : List (List ℕ)) → AreShort ws → AreShort (take n ws)
short_take zero ws h = tt
short_take (suc n) [] h = tt
short_take (suc n) (w ∷ ws) h = (h.0, short_take n ws h.1)

short_distinct : (ws : List (List ℕ)) → AreShort ws → AreShort (distinct ws)
short_distinct [] h = tt
short_distinct (w ∷ ws) h = (h.0, short_filter (λ other. not (bytes_eq w other)) (distinct ws) (short_distinct ws h.1))

short_runs : (runs : List (List ℕ)) → AreShort (map word_of runs)
short_runs [] = tt
short_runs (run ∷ runs) = (short_word run, short_runs runs)

short_in : (bytes : List ℕ) → AreShort (words_in bytes)
short_in bytes = short_runs (filter is_some_run (slice_split is_gap bytes))

short_said : (card : Card) (text : Option (List ℕ)) → AreShort (said_in card text)
short_said card None = tt
short_said card (Some text) = short_append (words_in card.title ++ words_in card.summary) (words_in text) (short_append (words_in card.title) (words_in card.summary) (short_in card.title) (short_in card.summary)) (short_in text)

short_first : (ws : List (List ℕ)) → AreShort ws → AreShort (first_words ws)
unfolding first_words
short_first ws h = short_take 200 (distinct ws) (short_distinct ws h)

each : (ws : List (List ℕ)) → AreShort ws → All (λ w. length w ≤ 32) ws
each [] h k d less = absurd (omega (arith, less))
each (w ∷ ws) h zero d less = h.0
each (w ∷ ws) h (suc k) d less = each ws h.1 k d (omega (arith, less))

pub short_all : (item : Item) → AreShort (words_of item)
short_all item = short_first _ (short_said (card_of item) (searched (card_of item).body (viewed item.body 0)))

pub short_words : (ws : List (List ℕ)) (item : Item) → ws ≡ words_of item → All (λ w. length w ≤ 32) ws
short_words ws item is = subst (λ (l : List (List ℕ)). All (λ w. length w ≤ 32) l) (sym is) (each (words_of item) (short_all item))

pub short_dropped : (ws : List (List ℕ)) (item other : Option Item) → ws ≡ dropped (words_at item) (words_at other) → All (λ w. length w ≤ 32) ws
short_dropped ws item other is = subst (λ (l : List (List ℕ)). All (λ w. length w ≤ 32) l) (sym is) (each _ (short_filter (λ w. not (is_among (words_at other) w)) (words_at item) (short_at item)))
  where
    short_at : (item : Option Item) → AreShort (words_at item)
    short_at None = tt
    short_at (Some item) = short_all item
