-- Walking over the pairs of a leaf from a place on.
use Rattle.std.proofs.Common.{◌≡◌, ℕ, zero, suc, ◌+◌, ◌-◌, ◌≤◌, ◌<◌, ◌⊎◌, inl, inr, Bool, true, false, List, [], ◌∷◌, length, drop, Option, Some, None, refl, sym, ap, ◌∙◌, cond, arith, length-drop, IsTrue, subst, MatchOption}
use Rattle.std.specs.Prelude.{◌&&◌, not, nat_le}
use Rattle.std.specs.List.{slice_range}
use Rattle.std.proofs.lemmas.List.{take_all}
use Rattle.std.specs.Int.{w16}
use Rattle.std.specs.Option.{is_some, unwrap_or}
use Rattle.page_store.specs.Reading.{◌>>=◌, where_true, number_at, piece_at}
use Rattle.page_store.specs.Keys.{precedes}
use Rattle.page_store.specs.Pages.{Pair, pair_at}
use Rattle.page_store.specs.Batch.{pair_after}
use Rattle.page_store.proofs.Fields.{bind_some, test_passed}
use Rattle.page_store.proofs.DecodedPages.{pair_sizes}
use Rattle.tree_nodes.specs.PageViews.{pairs_in, then_more}
use Rattle.tree_nodes.proofs.KeyOrder.{below_upto, itself, not_back, upto_upto}
use Rattle.tree_nodes.proofs.SizesRead.{some_is, number_size, piece_size, pair_read}
use Rattle.cow_tree.specs.KeptLeaves.{begins_by, has_next, next_in, TellsAsAll, IsWalkedPast, IsBehind, IsReachedAfter}
use Rattle.cow_tree.proofs.LeafBytes.{number_rest, piece_rest, then_rest}

-- ---- bytes

-- what is left behind a pair is so many bytes further
rest_of : (bytes : List ℕ) (x : Pair × List ℕ) → pair_at bytes ≡ Some x → (n : ℕ) × (x.1 ≡ drop n bytes) × (length x.1 + n ≡ length bytes)
unfolding pair_at
rest_of bytes x e =
    let a = bind_some (number_at w16 bytes) (λ key_length. number_at w16 key_length.1 >>= λ value_length. piece_at key_length.0 value_length.1 >>= λ key. piece_at value_length.0 key.1 >>= λ value.
    where_true (nat_le 1 key_length.0 && (nat_le key_length.0 300 && nat_le value_length.0 1024)) (Some ((key.0, value.0), value.1))) x e in
    let b = bind_some (number_at w16 a.0.1) (λ value_length. piece_at a.0.0 value_length.1 >>= λ key. piece_at value_length.0 key.1 >>= λ value.
    where_true (nat_le 1 a.0.0 && (nat_le a.0.0 300 && nat_le value_length.0 1024)) (Some ((key.0, value.0), value.1))) x a.2 in
    let c = bind_some (piece_at a.0.0 b.0.1) (λ key. piece_at b.0.0 key.1 >>= λ value. where_true (nat_le 1 a.0.0 && (nat_le a.0.0 300 && nat_le b.0.0 1024)) (Some ((key.0, value.0), value.1))) x b.2 in
    let d = bind_some (piece_at b.0.0 c.0.1) (λ value. where_true (nat_le 1 a.0.0 && (nat_le a.0.0 300 && nat_le b.0.0 1024)) (Some ((c.0.0, value.0), value.1))) x c.2 in
    let t = test_passed (nat_le 1 a.0.0 && (nat_le a.0.0 300 && nat_le b.0.0 1024)) (Some ((c.0.0, d.0.0), d.0.1)) x d.2 in
    let is : d.0.1 ≡ x.1 = ap (λ (y : Pair × List ℕ). y.1) (some_is ((c.0.0, d.0.0), d.0.1) x t.1) in
    let at2 = number_rest w16 bytes a.0 a.1 in
    let at4 = then_rest 2 2 bytes a.0.1 b.0.1 at2 (number_rest w16 a.0.1 b.0 b.1) in
    let behind_key = then_rest a.0.0 4 bytes b.0.1 c.0.1 at4 (piece_rest a.0.0 b.0.1 c.0 c.1) in
    let behind = then_rest b.0.0 (4 + a.0.0) bytes c.0.1 d.0.1 behind_key (piece_rest b.0.0 c.0.1 d.0 d.1) in
    let m = number_size w16 bytes a.0 a.1 in
    let n = number_size w16 a.0.1 b.0 b.1 in
    let k = (piece_size a.0.0 b.0.1 c.0 c.1).1 in
    let v = (piece_size b.0.0 c.0.1 d.0 d.1).1 in
    (4 + a.0.0 + b.0.0, sym is ∙ behind, omega (arith, ap length is, m, n, k, v))

-- The bytes behind a pair of a page, by how many they are.
pub rest_place : (bytes : List ℕ) (at size : ℕ) (x : Pair × List ℕ) → length bytes ≡ size → at ≤ size → pair_at (drop at bytes) ≡ Some x → (x.1 ≡ drop (size - length x.1) bytes) × (length x.1 ≤ size)
rest_place bytes at size x long inside e =
    let r = rest_of (drop at bytes) x e in
    let left = length-drop at bytes in
    let place : at + r.0 ≡ size - length x.1 = omega (arith, r.2, left, long, inside) in
    (then_rest r.0 at bytes (drop at bytes) x.1 refl r.1 ∙ ap (λ (n : ℕ). drop n bytes) place, omega (arith, r.2, left, long, inside))

-- ---- pairs

-- A pair has been read, and others stand behind it.
pub one_more : (m n : ℕ) (bytes rest : List ℕ) (p : Pair) → m ≡ suc n → pair_at bytes ≡ Some (p, rest) → pairs_in m bytes ≡ p ∷ pairs_in n rest
one_more m n bytes rest p is read = ap (λ (k : ℕ). pairs_in k bytes) is ∙ ap (then_more (pairs_in n)) read

-- None has been read.
pub no_more_pairs : (n : ℕ) (bytes : List ℕ) → pair_at bytes ≡ None → pairs_in n bytes ≡ []
no_more_pairs zero bytes read = refl
no_more_pairs (suc n) bytes read = ap (then_more (pairs_in n)) read

past_the_end : (n : ℕ) (bytes : List ℕ) → length bytes ≡ 0 → pairs_in n bytes ≡ []
unfolding pair_at
past_the_end zero bytes none = refl
past_the_end (suc n) [] none = refl
past_the_end (suc n) (b ∷ bytes) none = absurd (cc none)

-- A place behind the end of a page has no pairs.
pub out_of_page : (bytes : List ℕ) (at left : ℕ) → (length bytes < at) ⊎ (length bytes < length bytes) → pairs_in left (drop at bytes) ≡ []
out_of_page bytes at left (inl behind) = past_the_end left (drop at bytes) (omega (arith, behind, length-drop at bytes))
out_of_page bytes at left (inr never) = absurd (omega (arith, never))

to_the_end : (bytes entries : List ℕ) (at : ℕ) → entries ≡ slice_range bytes at (length bytes) → entries ≡ drop at bytes
to_the_end bytes entries at is = is ∙ take_all (length bytes - at) (drop at bytes) (omega (arith, length-drop at bytes))

-- What is read at a place of a page: the pairs there, how many bytes are left, and the sizes of the pair.
pub pair_there : (bytes entries rest : List ℕ) (at left size : ℕ) (p : Pair) → length bytes ≡ size → at ≤ length bytes → entries ≡ slice_range bytes at (length bytes) → Some (p, rest) ≡ pair_at entries → 1 ≤ left
    → (pairs_in left (drop at bytes) ≡ p ∷ pairs_in (left - 1) (drop (size - length rest) bytes)) × (length rest ≤ size) × (length p.0 ≤ 300) × (length p.1 ≤ 1024)
pair_there bytes entries rest at left size p long inside is read some =
    let there = to_the_end bytes entries at is in
    let here : pair_at (drop at bytes) ≡ Some (p, rest) = ap pair_at (sym there) ∙ sym read in
    let behind = rest_place bytes at size (p, rest) long (omega (arith, long, inside)) here in
    let sizes = pair_sizes p (pair_read (drop at bytes) (p, rest) here).0 in
    (one_more left (left - 1) (drop at bytes) rest p (omega (arith, some)) here ∙ ap (λ (l : List ℕ). p ∷ pairs_in (left - 1) l) behind.0, behind.1, sizes.0, sizes.1)

-- ---- keys

pub walked_nowhere : (key : List ℕ) (pairs : List Pair) → IsWalkedPast key pairs pairs
walked_nowhere key pairs = record { tells = λ other above. refl; begins = λ other above begins. begins }

-- the first isn't above a key
pub upto_begins : (key : List ℕ) (p : Pair) (others here : List Pair) → here ≡ p ∷ others → precedes key p.0 ≡ false → begins_by key here ≡ true
upto_begins key p others here is upto = ap (begins_by key) is ∙ ap not upto

skipped : (key : List ℕ) (p : Pair) (others : List Pair) → precedes key p.0 ≡ false → pair_after (p ∷ others) key ≡ pair_after others key
skipped key p others upto = ap (λ (b : Bool). cond b (Some p) (pair_after others key)) upto

-- One pair more that isn't above the key.
pub walked_on : (key : List ℕ) (p : Pair) (others here pairs : List Pair) → here ≡ p ∷ others → precedes key p.0 ≡ false → IsWalkedPast key here pairs → IsWalkedPast key others pairs
walked_on key p others here pairs is upto w = record {
  tells = λ other above. w.tells other above ∙ ap (λ (l : List Pair). pair_after l other) is ∙ skipped other p others (upto_upto p.0 key other upto above);
  begins = λ other above begins. w.begins other above (upto_begins other p others here is (upto_upto p.0 key other upto above));
}

itself_upto : (key : List ℕ) → precedes key key ≡ false
itself_upto key = itself key

-- The walk has come to the pair after the key.
pub found_here : (key : List ℕ) (p : Pair) (others here pairs : List Pair) → here ≡ p ∷ others → precedes key p.0 ≡ true → IsWalkedPast key here pairs → IsReachedAfter key p here pairs
found_here key p others here pairs is above w = record { walked = w; others = others; first = is; above = above }

pub found_nowhere : (key : List ℕ) (here pairs : List Pair) → here ≡ [] → IsWalkedPast key here pairs → pair_after pairs key ≡ None
found_nowhere key here pairs none w = w.tells key (itself_upto key) ∙ ap (λ (l : List Pair). pair_after l key) none

-- what the walk began with has that pair after the key
pub reached_pair : (key : List ℕ) (found : Pair) (later pairs : List Pair) → IsReachedAfter key found later pairs → pair_after pairs key ≡ Some found
reached_pair key found later pairs r =
    r.walked.tells key (itself_upto key) ∙ ap (λ (l : List Pair). pair_after l key) r.first ∙ ap (λ (b : Bool). cond b (Some found) (pair_after r.others key)) r.above

not_true : (b : Bool) → not b ≡ true → b ≡ false
not_true true h = absurd (cc h)
not_true false h = refl

-- What begins with the pair after a key tells as all do, where what the walk began with does.
pub reached_tells : (key : List ℕ) (found : Pair) (later from pairs : List Pair) → IsReachedAfter key found later from → TellsAsAll from pairs → TellsAsAll later pairs
reached_tells key found later from pairs r t other begins =
    let upto : precedes other found.0 ≡ false = not_true (precedes other found.0) (sym (ap (begins_by other) r.first) ∙ begins) in
    let above : precedes other key ≡ false = not_back key other (below_upto key found.0 other r.above upto) in
    let there = t other (r.walked.begins other above begins) in
    (there.0, there.1 ∙ r.walked.tells other above)

-- all tell as all do
pub all_tell : (pairs : List Pair) → TellsAsAll pairs pairs
all_tell pairs key begins = (begins, refl)

-- no pair begins by a key
pub nothing_tells : (later pairs : List Pair) → later ≡ [] → TellsAsAll later pairs
nothing_tells later pairs none key begins = absurd (cc (sym (ap (begins_by key) none) ∙ begins))

-- what begins by a key has a next pair where another is above it
pub next_there : (pairs : List Pair) (key : List ℕ) → is_some (next_in pairs key) ≡ has_next pairs key
next_there [] key = refl
next_there (p ∷ others) key = here (precedes key p.0) refl
  where
    here : (t : Bool) → precedes key p.0 ≡ t → is_some (next_in (p ∷ others) key) ≡ has_next (p ∷ others) key
    here true t = rw t refl
    here false t = rw t refl

-- A next pair is the one after the key.
pub next_known : (pairs : List Pair) (key : List ℕ) (p : Pair) → Some p ≡ next_in pairs key → (has_next pairs key ≡ true) × (next_in pairs key ≡ pair_after pairs key)
next_known pairs key p is = (sym (next_there pairs key) ∙ ap is_some (sym is), here (begins_by key pairs) is)
  where
    here : (b : Bool) → Some p ≡ cond b (pair_after pairs key) None → cond b (pair_after pairs key) None ≡ pair_after pairs key
    here true e = refl
    here false e = absurd (cc e)

-- what begins by a key has as its next pair the one after it
pub next_begins : (pairs : List Pair) (key : List ℕ) → begins_by key pairs ≡ true → next_in pairs key ≡ pair_after pairs key
next_begins pairs key begins = ap (λ (b : Bool). cond b (pair_after pairs key) None) begins

pub next_nowhere : (pairs : List Pair) (key : List ℕ) → begins_by key pairs ≡ false → next_in pairs key ≡ None
next_nowhere pairs key begins = ap (λ (b : Bool). cond b (pair_after pairs key) None) begins

-- ---- where to look from

pub first_is : (bytes : List ℕ) (at left count : ℕ) → at ≡ 24 → left ≡ count → pairs_in left (drop at bytes) ≡ pairs_in count (drop 24 bytes)
first_is bytes at left count here many = ap (λ (n : ℕ). pairs_in left (drop n bytes)) here ∙ ap (λ (n : ℕ). pairs_in n (drop 24 bytes)) many

-- the pair at a place, which isn't above the key, or is
pub behind_first : (key : List ℕ) (p : Pair) (later pairs : List Pair) → pairs ≡ p ∷ later → precedes key p.0 ≡ false → IsBehind key later pairs
behind_first key p later pairs is upto = (upto_begins key p later pairs is upto, sym (ap (drop 1) is))

pub begins_above : (key : List ℕ) (p : Pair) (later pairs : List Pair) → pairs ≡ p ∷ later → precedes key p.0 ≡ true → begins_by key pairs ≡ false
begins_above key p later pairs is above = ap (begins_by key) is ∙ ap not above

pub begins_nowhere : (key : List ℕ) (pairs : List Pair) → pairs ≡ [] → begins_by key pairs ≡ false
begins_nowhere key pairs none = ap (begins_by key) none

behind_walked : (key : List ℕ) (later pairs : List Pair) → IsBehind key later pairs → IsWalkedPast key later pairs
behind_walked key later [] b = absurd (cc b.0)
behind_walked key later (p ∷ others) b =
    let upto = not_true (precedes key p.0) b.0 in
    subst (λ (l : List Pair). IsWalkedPast key l (p ∷ others)) (sym b.1) (walked_on key p others (p ∷ others) (p ∷ others) refl upto (walked_nowhere key (p ∷ others)))

reached_behind : (key : List ℕ) (found : Pair) (later behind pairs : List Pair) → IsBehind key behind pairs → IsReachedAfter key found later behind → IsReachedAfter key found later pairs
reached_behind key found later behind pairs b r =
    let w = behind_walked key behind pairs b in
    record {
      walked = record {
        tells = λ other above. w.tells other above ∙ r.walked.tells other above;
        begins = λ other above begins. w.begins other above (r.walked.begins other above begins);
      };
      others = r.others;
      first = r.first;
      above = r.above;
    }

module _ {P : Type 0} (pairs_at : P → List Pair) (one first : P) (all : List Pair) (tells : TellsAsAll (pairs_at one) all) (is : pairs_at first ≡ all) where
  -- what is walked to from behind one of two pairs tells as all do
  pub behind_tells : (key : List ℕ) (found : Pair) (later behind : List Pair) → IsBehind key behind (pairs_at one) ⊎ IsBehind key behind (pairs_at first) → IsReachedAfter key found later behind → TellsAsAll later all
  behind_tells key found later behind (inl b) r = reached_tells key found later (pairs_at one) all (reached_behind key found later behind (pairs_at one) b r) tells
  behind_tells key found later behind (inr b) r =
      reached_tells key found later (pairs_at first) all (reached_behind key found later behind (pairs_at first) b r) (subst (λ (l : List Pair). TellsAsAll l all) (sym is) (all_tell all))

  -- the pair after a key stands behind the one that isn't above it
  pub behind_after : (key : List ℕ) (behind : List Pair) → IsBehind key behind (pairs_at one) ⊎ IsBehind key behind (pairs_at first) → IsTrue (begins_by key all) × (pair_after all key ≡ pair_after behind key)
  behind_after key behind (inl b) =
      let t = tells key b.0 in
      (t.0, t.1 ∙ (behind_walked key behind (pairs_at one) b).tells key (itself_upto key))
  behind_after key behind (inr b) = (
    subst (λ (l : List Pair). IsTrue (begins_by key l)) is b.0,
    ap (λ (l : List Pair). pair_after l key) (sym is) ∙ (behind_walked key behind (pairs_at first) b).tells key (itself_upto key),
  )

  -- From behind a pair that isn't above the key, or else from the first one, the pair after the key is that of all.
  pub place_tells : (key : List ℕ) (found : Option P) (from : P) → MatchOption found (begins_by key (pairs_at first) ≡ false) (λ place. IsBehind key (pairs_at place) (pairs_at one) ⊎ IsBehind key (pairs_at place) (pairs_at first)) → from ≡ unwrap_or found first
      → (pair_after all key ≡ pair_after (pairs_at from) key) × ((pair : Pair) (later : List Pair) → IsReachedAfter key pair later (pairs_at from) → TellsAsAll later all)
  place_tells key None from r e = (
    ap (λ (l : List Pair). pair_after l key) (sym is) ∙ ap (λ (p : P). pair_after (pairs_at p) key) (sym e),
    λ pair later reached. reached_tells key pair later (pairs_at from) all reached (subst (λ (l : List Pair). TellsAsAll l all) (sym is ∙ ap pairs_at (sym e)) (all_tell all)),
  )
  place_tells key (Some place) from r e =
      let same = ap pairs_at e in (
        (behind_after key (pairs_at place) r).1 ∙ ap (λ (l : List Pair). pair_after l key) (sym same),
        λ pair later reached. behind_tells key pair later (pairs_at place) r (subst (λ (l : List Pair). IsReachedAfter key pair later l) same reached),
      )
