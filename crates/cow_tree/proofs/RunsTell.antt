-- What a run of pairs tells of the pair after a key.
use Rattle.std.proofs.Common.{◌≡◌, ℕ, Bool, true, false, List, [], ◌∷◌, ◌++◌, map, Option, Some, None, refl, sym, ap, subst, ◌∙◌, cond}
use Rattle.std.specs.Prelude.{not}
use Rattle.std.specs.Option.{option_or, is_some}
use Rattle.std.specs.List.{list_all}
use Rattle.page_store.specs.Keys.{precedes, rises}
use Rattle.page_store.specs.Pages.{Pair, key_of}
use Rattle.page_store.specs.Batch.{pair_after, is_map, is_pair}
use Rattle.tree_nodes.proofs.KeyOrder.{both_true, below_upto, by_bool, itself, not_back}
use Rattle.tree_nodes.proofs.JoinedPairs.{AllKeys, keys_wider, follows}
use Rattle.tree_nodes.proofs.RisingPairs.{front_below, precedes_it, above_all}
use Rattle.cow_tree.specs.KeptLeaves.{IsRun, has_next}
use Rattle.cow_tree.proofs.OnTheWay.{after_right, after_both}

not_true : (b : Bool) → not b ≡ true → b ≡ false
not_true true h = absurd (cc h)
not_true false h = refl

or_here : (o rest : Option Pair) → is_some o ≡ true → option_or o rest ≡ o
or_here None rest h = absurd (cc h)
or_here (Some p) rest h = refl

-- what has a pair above a key has its first
pub next_is_some : (run : List Pair) (key : List ℕ) → has_next run key ≡ true → is_some (pair_after run key) ≡ true
next_is_some [] key h = absurd (cc h)
next_is_some (first ∷ others) key h =
    let b = both_true (not (precedes key first.0)) (is_some (pair_after others key)) h in
    ap (λ (t : Bool). is_some (cond t (Some first) (pair_after others key))) (not_true (precedes key first.0) b.0) ∙ b.1

front_stands_below : (key : List ℕ) (front run rest : List Pair) → rises (map key_of (front ++ (run ++ rest))) ≡ true → has_next run key ≡ true → AllKeys (follows key) front
front_stands_below key front [] rest r h = absurd (cc h)
front_stands_below key front (first ∷ others) rest r h =
    let b = both_true (not (precedes key first.0)) (is_some (pair_after others key)) h in
    keys_wider (precedes_it first.0) (follows key) (λ k below. below_upto k first.0 key below (not_true (precedes key first.0) b.0)) front (front_below front first (others ++ rest) r)

-- The pair after a key is known by a run of the pairs that has one above it, and whose first isn't.
pub run_tells : (pairs run : List Pair) (key : List ℕ) → is_map pairs ≡ true → IsRun run pairs → has_next run key ≡ true → pair_after pairs key ≡ pair_after run key
run_tells pairs run key map_is is h =
    let rising = (both_true (rises (map key_of pairs)) (list_all is_pair pairs) map_is).0 in
    let r = subst (λ (l : List Pair). rises (map key_of l) ≡ true) is.is rising in
    ap (λ (l : List Pair). pair_after l key) is.is
    ∙ after_right key is.front (run ++ is.rest) (front_stands_below key is.front run is.rest r h)
    ∙ after_both key run is.rest
    ∙ or_here (pair_after run key) (pair_after is.rest key) (next_is_some run key h)

some_pair : (x y : Pair) → Some x ≡ Some y → x ≡ y
some_pair x y e = cc

-- what all keys are, that of the pair after a key is
next_key : (p : List ℕ → Bool) (pairs : List Pair) (key : List ℕ) (found : Pair) → AllKeys p pairs → pair_after pairs key ≡ Some found → p found.0 ≡ true
next_key p [] key found h e = absurd (cc e)
next_key p (first ∷ others) key found h e =
    by_bool (precedes key first.0)
    (λ above. let e1 : Some first ≡ Some found = rw above at e in ap (λ (x : Pair). p x.0) (sym (some_pair first found e1)) ∙ h.0)
    (λ most. let e1 : pair_after others key ≡ Some found = rw most at e in next_key p others key found h.1 e1)

-- of pairs that rise, the first isn't above the one after a key
first_upto : (first : Pair) (others : List Pair) (key : List ℕ) (found : Pair) → rises (map key_of (first ∷ others)) ≡ true → pair_after (first ∷ others) key ≡ Some found → precedes found.0 first.0 ≡ false
first_upto first others key found r e =
    by_bool (precedes key first.0)
    (λ above. let e1 : Some first ≡ Some found = rw above at e in ap (λ (x : Pair). precedes x.0 first.0) (sym (some_pair first found e1)) ∙ itself first.0)
    (λ most. let e1 : pair_after others key ≡ Some found = rw most at e in not_back first.0 found.0 (next_key (precedes first.0) others key found (above_all first.0 others r) e1))

-- Pairs that rise tell the pair after the one that is after a key.
pub run_goes_on : (run : List Pair) (key : List ℕ) (found : Pair) → rises (map key_of run) ≡ true → pair_after run key ≡ Some found → is_some (pair_after run found.0) ≡ true → has_next run found.0 ≡ true
run_goes_on [] key found r e some = absurd (cc e)
run_goes_on (first ∷ others) key found r e some =
    let upto = first_upto first others key found r e in
    let later : is_some (pair_after others found.0) ≡ true = rw upto at some in
    rw (upto, later) refl
