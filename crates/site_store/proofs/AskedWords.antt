-- The words that are asked for, and the longest of them.
use Rattle.std.proofs.Common.{◌≡◌, ℕ, ◌<◌, ◌≤◌, zero, suc, Bool, true, false, cond, List, [], ◌∷◌, ◌++◌, length, map, take, Option, Some, None, inl, inr, refl, ap, sym, subst, ◌∙◌, arith}
use Rattle.std.proofs.lemmas.Bool.{cases_lt, lt-ltb, le-ltb}
use Rattle.std.specs.Prelude.{All, ◌||◌, bytes_eq, filter}
use Rattle.std.specs.List.{AllByRecursion, slice_split}
use Rattle.std.specs.Char.{to_ascii_lowercase}
use Rattle.std.proofs.lemmas.List.{length-map}
use Rattle.std.proofs.lemmas.Slice.Eq.{bytes_eq-Decides}
use Rattle.host_types.specs.Words.{word_of, words_in, is_some_run, is_gap, is_among}
use Rattle.site_store.specs.Searching.{IsLongest, IsLongestIn, longer}

-- ---- each fits into a key

within : (n : ℕ) (xs : List ℕ) → length (take n xs) ≤ n
within zero xs = omega arith
within (suc n) [] = omega arith
within (suc n) (x ∷ xs) = let h = within n xs in omega (arith, h)

short_word : (run : List ℕ) → length (word_of run) ≤ 32
unfolding word_of
short_word run = let short = within 32 run in omega (arith, length-map (take 32 run) to_ascii_lowercase, short)

short_runs : (runs : List (List ℕ)) → All (λ w. length w ≤ 32) (map word_of runs)
short_runs [] k d less = absurd (omega (arith, less))
short_runs (run ∷ runs) zero d less = short_word run
short_runs (run ∷ runs) (suc k) d less = short_runs runs k d (omega (arith, less))

pub short_words : (bytes : List ℕ) (words : List (List ℕ)) → words ≡ words_in bytes → All (λ w. length w ≤ 32) words
short_words bytes words is = subst (λ (l : List (List ℕ)). All (λ w. length w ≤ 32) l) (sym is) (short_runs (filter is_some_run (slice_split is_gap bytes)))

middle : (before after : List (List ℕ)) (word : List ℕ) → All (λ w. length w ≤ 32) (before ++ word ∷ after) → length word ≤ 32
middle [] after word short = short 0 word (omega arith)
middle (w ∷ before) after word short = middle before after word (λ k d less. short (suc k) d (omega (arith, less)))

-- ---- the longest

pub longest_short : (words : List (List ℕ)) (word : List ℕ) → All (λ w. length w ≤ 32) words → IsLongest words word → length word ≤ 32
longest_short words word short longest = middle longest.before longest.after word (subst (λ (l : List (List ℕ)). All (λ w. length w ≤ 32) l) longest.stands short)

among_middle : (word : List ℕ) (before after : List (List ℕ)) → is_among (before ++ word ∷ after) word ≡ true
among_middle word [] after = ap (λ (b : Bool). b || is_among after word) ((bytes_eq-Decides word word).1 refl)
among_middle word (w ∷ before) after = either (bytes_eq word w) (is_among (before ++ word ∷ after) word) (among_middle word before after)
  where
    either : (b c : Bool) → c ≡ true → (b || c) ≡ true
    either true c h = refl
    either false c h = h

pub longest_among : (words : List (List ℕ)) (word : List ℕ) → IsLongest words word → is_among words word ≡ true
longest_among words word longest = ap (λ (l : List (List ℕ)). is_among l word) longest.stands ∙ among_middle word longest.before longest.after

-- ---- one word more

pub one_alone : (word : List ℕ) → IsLongest (word ∷ []) word
one_alone word = record { before = []; after = []; stands = refl; shorter = tt; no_longer = tt }

one_behind : (before after : List (List ℕ)) (one word : List ℕ) → (before ++ one ∷ after) ++ word ∷ [] ≡ before ++ one ∷ (after ++ word ∷ [])
one_behind [] after one word = refl
one_behind (w ∷ before) after one word = ap (λ (l : List (List ℕ)). w ∷ l) (one_behind before after one word)

no_longer_too : (n : ℕ) (after : List (List ℕ)) (word : List ℕ) → AllByRecursion (λ w. length w ≤ n) after → length word ≤ n → AllByRecursion (λ w. length w ≤ n) (after ++ word ∷ [])
no_longer_too n [] word h less = (less, tt)
no_longer_too n (w ∷ after) word h less = (h.0, no_longer_too n after word h.1 less)

pub stays_longest : (words : List (List ℕ)) (one word : List ℕ) → IsLongest words one → length word ≤ length one → IsLongest (words ++ word ∷ []) one
stays_longest words one word longest less = record {
  before = longest.before;
  after = longest.after ++ word ∷ [];
  stands = ap (λ (l : List (List ℕ)). l ++ word ∷ []) longest.stands ∙ one_behind longest.before longest.after one word;
  shorter = longest.shorter;
  no_longer = no_longer_too (length one) longest.after word longest.no_longer less;
}

shorter_after : (n m : ℕ) (after : List (List ℕ)) → n < m → AllByRecursion (λ w. length w ≤ n) after → AllByRecursion (λ w. length w < m) after
shorter_after n m [] more h = tt
shorter_after n m (w ∷ after) more h = let first = h.0 in (omega (arith, first, more), shorter_after n m after more h.1)

all_shorter : (n m : ℕ) (before after : List (List ℕ)) (one : List ℕ) → length one ≡ n → n < m → AllByRecursion (λ w. length w < n) before → AllByRecursion (λ w. length w ≤ n) after → AllByRecursion (λ w. length w < m) (before ++ one ∷ after)
all_shorter n m [] after one is more h k = (omega (arith, is, more), shorter_after n m after more k)
all_shorter n m (w ∷ before) after one is more h k = let first = h.0 in (omega (arith, first, more), all_shorter n m before after one is more h.1 k)

pub longer_yet : (words : List (List ℕ)) (one word : List ℕ) → IsLongest words one → length one < length word → IsLongest (words ++ word ∷ []) word
longer_yet words one word longest more = record {
  before = words;
  after = [];
  stands = refl;
  shorter = subst (λ (l : List (List ℕ)). AllByRecursion (λ w. length w < length word) l) (sym longest.stands) (all_shorter (length one) (length word) longest.before longest.after one refl more longest.shorter longest.no_longer);
  no_longer = tt;
}

pub next_longest : (words : List (List ℕ)) (found : Option (List ℕ)) (word : List ℕ) → IsLongestIn words found → IsLongest (words ++ word ∷ []) (longer found word)
next_longest words None word none = subst (λ (l : List (List ℕ)). IsLongest (l ++ word ∷ []) word) (sym none) (one_alone word)
next_longest words (Some one) word longest = elim (cases_lt (length one) (length word)) [
  | inl more ↦ subst (λ (b : Bool). IsLongest (words ++ word ∷ []) (cond b word one)) (sym (lt-ltb (length one) (length word) more)) (longer_yet words one word longest more)
  | inr less ↦ subst (λ (b : Bool). IsLongest (words ++ word ∷ []) (cond b word one)) (sym (le-ltb (length one) (length word) less)) (stays_longest words one word longest less)
]
