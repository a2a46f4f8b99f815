-- Whether the bytes of a page have its form.
use Rattle.std.proofs.Common.{◌≡◌, ℕ, Bool, true, false, List, [], ◌∷◌, map, drop, Option, Some, None, refl, sym, ap, ◌∙◌}
use Rattle.std.specs.Prelude.{◌&&◌}
use Rattle.std.specs.List.{list_all}
use Rattle.page_store.specs.Reading.{◌>>=◌, where_true}
use Rattle.page_store.specs.Roots.{is_zero}
use Rattle.page_store.specs.Keys.{rises, is_between}
use Rattle.page_store.specs.Pages.{Pair, Child, Head, Place, key_of, child_key, page_word, head_at, pair_at, child_at, entries_at, entries_of, fits_place, leaf_of, branch_of, are_leaf, are_branch}
use Rattle.page_store.proofs.Fields.{bind_again, bind_some, test_passed}
use Rattle.tree_nodes.specs.PageViews.{in_row, row_behind, entries_by_head, after_entries, are_children}
use Rattle.tree_nodes.proofs.KeyOrder.{between_from}
use Rattle.tree_nodes.proofs.WalksWithinBounds.{not_below_nothing}
use Rattle.tree_nodes.proofs.EntriesOneByOne.{in_row_all}
use Rattle.tree_nodes.proofs.SizesRead.{some_is}

everywhere : (keys : List (List ℕ)) → list_all (is_between [] None) keys ≡ true
everywhere [] = refl
everywhere (key ∷ keys) = rw (between_from [] None key (not_below_nothing key) refl) (everywhere keys)

pub after_some : {E : Type 0} (r : Option (List E × List ℕ)) (rest : List ℕ) → Some rest ≡ after_entries r → (x : List E × List ℕ) × (r ≡ Some x) × (x.1 ≡ rest)
after_some None rest e = absurd (cc e)
after_some (Some x) rest e = (x, refl, sym (some_is rest x.1 e))

after_nothing : {E : Type 0} (r : Option (List E × List ℕ)) → None ≡ after_entries r → r ≡ None
after_nothing None e = refl
after_nothing (Some x) e = absurd (cc e)

-- ---- entries

pub no_head : {E : Type 0} (entry_at : List ℕ → Option (E × List ℕ)) (place : Place) (bytes : List ℕ) → None ≡ head_at page_word bytes → entries_of entry_at place bytes ≡ None
unfolding entries_of
no_head entry_at place bytes e = rw (sym e) refl

pub no_entries : {E : Type 0} (entry_at : List ℕ → Option (E × List ℕ)) (place : Place) (bytes : List ℕ) (head : Head × List ℕ) → Some head ≡ head_at page_word bytes → None ≡ after_entries (entries_at entry_at head.0.count head.1) → entries_of entry_at place bytes ≡ None
unfolding entries_of
no_entries entry_at place bytes head e n =
    bind_again (head_at page_word bytes) (λ h. entries_at entry_at h.0.count h.1 >>= λ es. where_true (fits_place place h.0 && list_all is_zero es.1) (Some es.0)) head None (sym e) (rw (after_nothing (entries_at entry_at head.0.count head.1) n) refl)

-- what is read where the head and the bytes after the entries pass a test, or don't
tested : {E : Type 0} (entry_at : List ℕ → Option (E × List ℕ)) (place : Place) (bytes : List ℕ) (head : Head × List ℕ) (rest : List ℕ) → Some head ≡ head_at page_word bytes → Some rest ≡ after_entries (entries_at entry_at head.0.count head.1)
    → entries_of entry_at place bytes ≡ where_true (fits_place place head.0 && list_all is_zero rest) (Some (in_row entry_at head.0.count head.1))
unfolding entries_of
tested entry_at place bytes head rest e a =
    let x = after_some (entries_at entry_at head.0.count head.1) rest a in
    let row = in_row_all entry_at head.0.count head.1 x.0 x.1 in
    bind_again (head_at page_word bytes) (λ h. entries_at entry_at h.0.count h.1 >>= λ es. where_true (fits_place place h.0 && list_all is_zero es.1) (Some es.0)) head _ (sym e)
    (bind_again (entries_at entry_at head.0.count head.1) (λ es. where_true (fits_place place head.0 && list_all is_zero es.1) (Some es.0)) x.0 _ x.1 (rw (row, x.2) refl))

pub entries_formed : {E : Type 0} (entry_at : List ℕ → Option (E × List ℕ)) (place : Place) (bytes : List ℕ) (head : Head × List ℕ) (rest : List ℕ) → Some head ≡ head_at page_word bytes → Some rest ≡ after_entries (entries_at entry_at head.0.count head.1)
    → fits_place place head.0 ≡ true → list_all is_zero rest ≡ true → entries_of entry_at place bytes ≡ Some (in_row entry_at head.0.count head.1)
entries_formed entry_at place bytes head rest e a f z = tested entry_at place bytes head rest e a ∙ rw (f, z) refl

pub other_place : {E : Type 0} (entry_at : List ℕ → Option (E × List ℕ)) (place : Place) (bytes : List ℕ) (head : Head × List ℕ) (rest : List ℕ) → Some head ≡ head_at page_word bytes → Some rest ≡ after_entries (entries_at entry_at head.0.count head.1)
    → fits_place place head.0 ≡ false → entries_of entry_at place bytes ≡ None
other_place entry_at place bytes head rest e a f = tested entry_at place bytes head rest e a ∙ rw f refl

and_false : (b : Bool) → b && false ≡ false
and_false true = refl
and_false false = refl

pub more_bytes : {E : Type 0} (entry_at : List ℕ → Option (E × List ℕ)) (place : Place) (bytes : List ℕ) (head : Head × List ℕ) (rest : List ℕ) → Some head ≡ head_at page_word bytes → Some rest ≡ after_entries (entries_at entry_at head.0.count head.1)
    → list_all is_zero rest ≡ false → entries_of entry_at place bytes ≡ None
more_bytes entry_at place bytes head rest e a z = tested entry_at place bytes head rest e a ∙ rw (z, and_false (fits_place place head.0)) refl

-- ---- a leaf

pub no_leaf : (place : Place) (bytes : List ℕ) → entries_of pair_at place bytes ≡ None → leaf_of place [] None bytes ≡ None
unfolding leaf_of
no_leaf place bytes e = rw e refl

leaf_tested : (place : Place) (bytes : List ℕ) (pairs : List Pair) → entries_of pair_at place bytes ≡ Some pairs → leaf_of place [] None bytes ≡ where_true (rises (map key_of pairs)) (Some pairs)
unfolding leaf_of
leaf_tested place bytes pairs e =
    bind_again (entries_of pair_at place bytes) (λ ps. where_true (are_leaf [] None ps) (Some ps)) pairs _ e (rw (everywhere (map key_of pairs)) (ap (λ (b : Bool). where_true b (Some pairs)) (and_true (rises (map key_of pairs)))))
  where
    and_true : (b : Bool) → b && true ≡ b
    and_true true = refl
    and_true false = refl

pub leaf_formed : (place : Place) (bytes : List ℕ) (pairs : List Pair) → entries_of pair_at place bytes ≡ Some pairs → rises (map key_of pairs) ≡ true → leaf_of place [] None bytes ≡ Some pairs
leaf_formed place bytes pairs e r = leaf_tested place bytes pairs e ∙ rw r refl

pub leaf_falls : (place : Place) (bytes : List ℕ) (pairs : List Pair) → entries_of pair_at place bytes ≡ Some pairs → rises (map key_of pairs) ≡ false → leaf_of place [] None bytes ≡ None
leaf_falls place bytes pairs e r = leaf_tested place bytes pairs e ∙ rw r refl

-- ---- a branch

pub no_branch : (place : Place) (bytes : List ℕ) → entries_of child_at place bytes ≡ None → branch_of place [] None bytes ≡ None
unfolding branch_of
no_branch place bytes e = rw e refl

branch_tested : (place : Place) (bytes : List ℕ) (children : List Child) → entries_of child_at place bytes ≡ Some children → branch_of place [] None bytes ≡ where_true (are_children place.pages children) (Some children)
unfolding branch_of
branch_tested place bytes children e =
    bind_again (entries_of child_at place bytes) (λ cs. where_true (are_branch place.pages [] None cs) (Some cs)) children _ e (rw (everywhere (drop 1 (map child_key children))) refl)

pub branch_formed : (place : Place) (bytes : List ℕ) (children : List Child) → entries_of child_at place bytes ≡ Some children → are_children place.pages children ≡ true → branch_of place [] None bytes ≡ Some children
branch_formed place bytes children e r = branch_tested place bytes children e ∙ rw r refl

pub branch_unformed : (place : Place) (bytes : List ℕ) (children : List Child) → entries_of child_at place bytes ≡ Some children → are_children place.pages children ≡ false → branch_of place [] None bytes ≡ None
branch_unformed place bytes children e r = branch_tested place bytes children e ∙ rw r refl

-- ---- what the head alone tells

by_head : {E : Type 0} (entry_at : List ℕ → Option (E × List ℕ)) (place : Place) (bytes : List ℕ) (entries : List E) → entries_of entry_at place bytes ≡ Some entries → entries_by_head entry_at bytes ≡ entries
unfolding entries_of
by_head entry_at place bytes entries e =
    let h = bind_some (head_at page_word bytes) (λ head. entries_at entry_at head.0.count head.1 >>= λ es. where_true (fits_place place head.0 && list_all is_zero es.1) (Some es.0)) entries e in
    let r = bind_some (entries_at entry_at h.0.0.count h.0.1) (λ es. where_true (fits_place place h.0.0 && list_all is_zero es.1) (Some es.0)) entries h.2 in
    let t = test_passed (fits_place place h.0.0 && list_all is_zero r.0.1) (Some r.0.0) entries r.2 in
    ap (row_behind entry_at) h.1 ∙ in_row_all entry_at h.0.0.count h.0.1 r.0 r.1 ∙ some_is r.0.0 entries t.1

-- the pairs of a leaf
pub leaf_told : (place : Place) (low : List ℕ) (high : Option (List ℕ)) (bytes : List ℕ) (pairs : List Pair) → leaf_of place low high bytes ≡ Some pairs → entries_by_head pair_at bytes ≡ pairs
unfolding leaf_of
leaf_told place low high bytes pairs e =
    let f = bind_some (entries_of pair_at place bytes) (λ ps. where_true (are_leaf low high ps) (Some ps)) pairs e in
    let t = test_passed (are_leaf low high f.0) (Some f.0) pairs f.2 in
    by_head pair_at place bytes f.0 f.1 ∙ some_is f.0 pairs t.1

-- the children of a branch
pub branch_told : (place : Place) (low : List ℕ) (high : Option (List ℕ)) (bytes : List ℕ) (children : List Child) → branch_of place low high bytes ≡ Some children → entries_by_head child_at bytes ≡ children
unfolding branch_of
branch_told place low high bytes children e =
    let f = bind_some (entries_of child_at place bytes) (λ cs. where_true (are_branch place.pages low high cs) (Some cs)) children e in
    let t = test_passed (are_branch place.pages low high f.0) (Some f.0) children f.2 in
    by_head child_at place bytes f.0 f.1 ∙ some_is f.0 children t.1
