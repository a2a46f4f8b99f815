-- Trees that pins keep, and what is known of the pins.
use Rattle.std.proofs.Common.{◌≡◌, ◌<◌, ◌≤◌, ◌+◌, inl, inr, ℕ, zero, suc, Bool, true, false, List, [], ◌∷◌, length, map, Option, Some, None, get_or, set, replicate, cond, is_some, refl, sym, ap, subst, ◌∙◌, arith, eq-eqb, ne_eqb}
use Rattle.std.specs.Prelude.{is_none, ◌||◌, ◌&&◌, ◌==◌, nat_le, nat_lt, option_map, IfSome}
use Rattle.std.specs.List.{list_any, list_all}
use Rattle.std.specs.Map.{lookup}
use Rattle.std.proofs.lemmas.Bool.{cases_lt}
use Rattle.std.proofs.lemmas.List.{get_or_past}
use Rattle.page_alloc.specs.declared.life.Life.{Life}
use Rattle.page_alloc.specs.declared.life.Life.TheVariants.{Never}
use Rattle.page_alloc.specs.Lives.{lives_at}
use Rattle.page_alloc.specs.LedgerState.{LedgerState, pinned, has_page, have_page, is_held, is_some as is_pin}
use Rattle.page_store.specs.Reading.{where_true}
use Rattle.page_store.specs.Sectors.{Image, page_of}
use Rattle.page_store.specs.Pages.{Pair}
use Rattle.page_store.specs.Same.{Agree}
use Rattle.page_store.specs.Content.{Found, Bounds, walk, tree_of, is_among}
use Rattle.page_store.proofs.Fields.{test_passed}
use Rattle.page_store.proofs.ReachedPages.{walk-local}
use Rattle.cow_tree.specs.Drafts.{OnlyMarks}
use Rattle.cow_tree.specs.PinnedTrees.{or_nothing, bounds_at, tree_at, found_at, seal_of, pins_from, IsKeptTree, PinnedTreesAreKept, HeldPagesStay, PinnedStay}
use Rattle.cow_tree.specs.declared.tree_root.TreeRoot.{TreeRoot}
use Rattle.cow_tree.proofs.Finding.{tree_inside}
use Rattle.cow_tree.proofs.Reaching.{among_within}

abbrev pub Pin : Type 0
Pin = ℕ × List Pair

-- ---- the pins that are out, by their numbers

pub same_numbers : (a b : Image) (n : ℕ) (trees : List (Option TreeRoot)) → map (λ (pin : Pin). pin.0) (pins_from a n trees) ≡ map (λ (pin : Pin). pin.0) (pins_from b n trees)
same_numbers a b n [] = refl
same_numbers a b n (None ∷ trees) = same_numbers a b (suc n) trees
same_numbers a b n (Some tree ∷ trees) = ap (λ (l : List ℕ). n ∷ l) (same_numbers a b (suc n) trees)

pub same_pins : (a b : Image) (n : ℕ) (trees : List (Option TreeRoot)) → ((number : ℕ) (tree : TreeRoot) → get_or trees number None ≡ Some tree → found_at tree a ≡ found_at tree b) → pins_from a n trees ≡ pins_from b n trees
same_pins a b n [] same = refl
same_pins a b n (None ∷ trees) same = same_pins a b (suc n) trees (λ number tree is. same (suc number) tree is)
same_pins a b n (Some tree ∷ trees) same =
    ap (λ (found : Found). (n, found.pairs) ∷ pins_from a (suc n) trees) (same zero tree refl) ∙ ap (λ (l : List Pin). (n, (found_at tree b).pairs) ∷ l) (same_pins a b (suc n) trees (λ number t is. same (suc number) t is))

not_below : (a : Image) (n m : ℕ) (trees : List (Option TreeRoot)) → m < n → is_among m (map (λ (pin : Pin). pin.0) (pins_from a n trees)) ≡ false
not_below a n m [] lt = refl
not_below a n m (None ∷ trees) lt = not_below a (suc n) m trees (omega (arith, lt))
not_below a n m (Some tree ∷ trees) lt =
    ap (λ (b : Bool). b || is_among m (map (λ (pin : Pin). pin.0) (pins_from a (suc n) trees))) (ne_eqb m n (λ e. absurd (omega (arith, e, lt)))) ∙ not_below a (suc n) m trees (omega (arith, lt))

-- the pin of a number is out exactly where a tree stands there
pub out_at : (a : Image) (n k m : ℕ) (trees : List (Option TreeRoot)) → m ≡ n + k → is_among m (map (λ (pin : Pin). pin.0) (pins_from a n trees)) ≡ is_some (get_or trees k None)
out_at a n zero m [] e = refl
out_at a n (suc k) m [] e = refl
out_at a n zero m (None ∷ trees) e = not_below a (suc n) m trees (omega (arith, e))
out_at a n zero m (Some tree ∷ trees) e = ap (λ (b : Bool). b || is_among m (map (λ (pin : Pin). pin.0) (pins_from a (suc n) trees))) (eq-eqb m n (omega (arith, e)))
out_at a n (suc k) m (None ∷ trees) e = out_at a (suc n) k m trees (omega (arith, e))
out_at a n (suc k) m (Some tree ∷ trees) e =
    ap (λ (b : Bool). b || is_among m (map (λ (pin : Pin). pin.0) (pins_from a (suc n) trees))) (ne_eqb m n (λ s. absurd (omega (arith, e, s)))) ∙ out_at a (suc n) k m trees (omega (arith, e))

none_below : (a : Image) (n m : ℕ) (trees : List (Option TreeRoot)) → m < n → lookup (λ j. j == m) (pins_from a n trees) ≡ None
none_below a n m [] lt = refl
none_below a n m (None ∷ trees) lt = none_below a (suc n) m trees (omega (arith, lt))
none_below a n m (Some tree ∷ trees) lt =
    ap (λ (b : Bool). cond b (Some (found_at tree a).pairs) (lookup (λ j. j == m) (pins_from a (suc n) trees))) (ne_eqb n m (λ e. absurd (omega (arith, e, lt)))) ∙ none_below a (suc n) m trees (omega (arith, lt))

-- what a pin keeps is what its tree has
pub pairs_of_pin : (a : Image) (n k m : ℕ) (trees : List (Option TreeRoot)) → m ≡ n + k → lookup (λ j. j == m) (pins_from a n trees) ≡ option_map (λ tree. (found_at tree a).pairs) (get_or trees k None)
pairs_of_pin a n zero m [] e = refl
pairs_of_pin a n (suc k) m [] e = refl
pairs_of_pin a n zero m (None ∷ trees) e = none_below a (suc n) m trees (omega (arith, e))
pairs_of_pin a n zero m (Some tree ∷ trees) e = ap (λ (b : Bool). cond b (Some (found_at tree a).pairs) (lookup (λ j. j == m) (pins_from a (suc n) trees))) (eq-eqb n m (omega (arith, e)))
pairs_of_pin a n (suc k) m (None ∷ trees) e = pairs_of_pin a (suc n) k m trees (omega (arith, e))
pairs_of_pin a n (suc k) m (Some tree ∷ trees) e =
    ap (λ (b : Bool). cond b (Some (found_at tree a).pairs) (lookup (λ j. j == m) (pins_from a (suc n) trees))) (ne_eqb n m (λ s. absurd (omega (arith, e, s)))) ∙ pairs_of_pin a (suc n) k m trees (omega (arith, e))

-- ---- how many are out

pub one_more : (a : Image) (n k : ℕ) (trees : List (Option TreeRoot)) (tree : TreeRoot) → k < length trees → get_or trees k None ≡ None → length (pins_from a n (set trees k (Some tree))) ≡ length (pins_from a n trees) + 1
one_more a n k [] tree lt e = absurd (omega (arith, lt))
one_more a n zero (None ∷ trees) tree lt e = omega arith
one_more a n zero (Some t ∷ trees) tree lt e = absurd (cc e)
one_more a n (suc k) (None ∷ trees) tree lt e = one_more a (suc n) k trees tree (omega (arith, lt)) e
one_more a n (suc k) (Some t ∷ trees) tree lt e = let rest = one_more a (suc n) k trees tree (omega (arith, lt)) e in omega (arith, rest)

pub one_less : (a : Image) (n k : ℕ) (trees : List (Option TreeRoot)) (tree : TreeRoot) → get_or trees k None ≡ Some tree → length (pins_from a n (set trees k None)) + 1 ≡ length (pins_from a n trees)
one_less a n k [] tree e = absurd (none_there k e)
  where
    none_there : (k : ℕ) → get_or [] k None ≡ Some tree → ⊥
    none_there zero e = absurd (cc e)
    none_there (suc k) e = absurd (cc e)
one_less a n zero (None ∷ trees) tree e = absurd (cc e)
one_less a n zero (Some t ∷ trees) tree e = omega arith
one_less a n (suc k) (None ∷ trees) tree e = one_less a (suc n) k trees tree e
one_less a n (suc k) (Some t ∷ trees) tree e = let rest = one_less a (suc n) k trees tree e in omega (arith, rest)

pub at_most : (a : Image) (n : ℕ) (trees : List (Option TreeRoot)) → length (pins_from a n trees) ≤ length trees
at_most a n [] = omega arith
at_most a n (None ∷ trees) = let rest = at_most a (suc n) trees in omega (arith, rest)
at_most a n (Some t ∷ trees) = let rest = at_most a (suc n) trees in omega (arith, rest)

pub room_left : (a : Image) (n k : ℕ) (trees : List (Option TreeRoot)) → k < length trees → get_or trees k None ≡ None → length (pins_from a n trees) < length trees
room_left a n k [] lt e = absurd (omega (arith, lt))
room_left a n zero (None ∷ trees) lt e = let rest = at_most a (suc n) trees in omega (arith, rest)
room_left a n zero (Some t ∷ trees) lt e = absurd (cc e)
room_left a n (suc k) (None ∷ trees) lt e = let rest = room_left a (suc n) k trees (omega (arith, lt)) e in omega (arith, rest)
room_left a n (suc k) (Some t ∷ trees) lt e = let rest = room_left a (suc n) k trees (omega (arith, lt)) e in omega (arith, rest)

pub all_out : (a : Image) (n : ℕ) (trees : List (Option TreeRoot)) → list_all is_pin (map seal_of trees) ≡ true → length (pins_from a n trees) ≡ length trees
all_out a n [] all = refl
all_out a n (None ∷ trees) all = absurd (cc all)
all_out a n (Some t ∷ trees) all = let rest = all_out a (suc n) trees all in omega (arith, rest)

-- no tree is kept where no pin is out
pub no_tree : (count k : ℕ) (tree : TreeRoot) → get_or (replicate count None) k None ≡ Some tree → ⊥
no_tree zero zero tree e = cc e
no_tree zero (suc k) tree e = cc e
no_tree (suc n) zero tree e = cc e
no_tree (suc n) (suc k) tree e = no_tree n k tree e

-- ---- the generations of the ledger's pins

pub seal_at : (trees : List (Option TreeRoot)) (k : ℕ) → get_or (map seal_of trees) k None ≡ seal_of (get_or trees k None)
seal_at [] zero = refl
seal_at [] (suc k) = refl
seal_at (tree ∷ trees) zero = refl
seal_at (tree ∷ trees) (suc k) = seal_at trees k

pub seals_set : (trees : List (Option TreeRoot)) (k : ℕ) (tree : Option TreeRoot) → map seal_of (set trees k tree) ≡ set (map seal_of trees) k (seal_of tree)
seals_set [] k tree = refl
seals_set (t ∷ trees) zero tree = refl
seals_set (t ∷ trees) (suc k) tree = ap (λ (l : List (Option ℕ)). seal_of t ∷ l) (seals_set trees k tree)

some_passes : (f : ℕ → Bool) (pins : List (Option ℕ)) (k kept : ℕ) → get_or pins k None ≡ Some kept → f kept ≡ true → list_any f (pinned pins) ≡ true
some_passes f [] zero kept is h = absurd (cc is)
some_passes f [] (suc k) kept is h = absurd (cc is)
some_passes f (None ∷ pins) zero kept is h = absurd (cc is)
some_passes f (Some g ∷ pins) zero kept is h =
    let same : g ≡ kept = some_is g kept is in
    ap (λ (b : Bool). b || list_any f (pinned pins)) (ap f same ∙ h)
  where
    some_is : (x y : ℕ) → Some x ≡ Some y → x ≡ y
    some_is x y e = cc
some_passes f (None ∷ pins) (suc k) kept is h = some_passes f pins k kept is h
some_passes f (Some g ∷ pins) (suc k) kept is h = later (f g) (list_any f (pinned pins)) (some_passes f pins k kept is h)
  where
    later : (a b : Bool) → b ≡ true → (a || b) ≡ true
    later true b h = refl
    later false b h = h

-- a page that a pinned generation has is held
pub page_is_held : (s : LedgerState) (trees : List (Option TreeRoot)) (k : ℕ) (tree : TreeRoot) → s.pins ≡ map seal_of trees → get_or trees k None ≡ Some tree → (n : ℕ) → has_page s tree.seal n ≡ true → is_held s n ≡ true
page_is_held s trees k tree seals is n has =
    later (has_page s s.generation n) (have_page s (pinned s.pins) n)
    (some_passes (λ g. has_page s g n) s.pins k tree.seal (ap (λ (l : List (Option ℕ)). get_or l k None) seals ∙ seal_at trees k ∙ ap seal_of is) has)
  where
    later : (a b : Bool) → b ≡ true → (a || b) ≡ true
    later true b h = refl
    later false b h = h

-- ---- a tree whose pages stay

tree-local : (a b : ℕ → List ℕ) (bounds : Bounds) (height page : ℕ) (found : Found) → tree_of a bounds height page ≡ Some found → Agree found.pages a b → tree_of b bounds height page ≡ Some found
tree-local a b bounds zero page found e stay = e
tree-local a b bounds (suc level) page found e stay =
    let test = nat_le level 15 && (nat_le 2 page && nat_lt page bounds.pages) in
    let t = test_passed test (walk a bounds level page [] None) found e in
    ap (λ (c : Bool). where_true c (walk b bounds level page [] None)) t.0 ∙ walk-local a b bounds level page [] None found t.1 stay

module _ (a b : Image) (s : LedgerState) (trees : List (Option TreeRoot)) (seals : s.pins ≡ map seal_of trees) (stay : HeldPagesStay s (page_of a) (page_of b)) (kept : PinnedTreesAreKept a s trees) (k : ℕ) (tree : TreeRoot) (is : get_or trees k None ≡ Some tree) where
  abbrev there : IsKeptTree a s tree
  there = kept k tree is

  pages_stay : Agree (found_at tree a).pages (page_of a) (page_of b)
  pages_stay n among =
      stay n (among_within tree.pages n (found_at tree a).pages (tree_inside (page_of a) (bounds_at tree) tree.height tree.tree (found_at tree a) there.found_is) among).0 (page_is_held s trees k tree seals is n (there.has n ∙ among))

  still_found : tree_at tree (page_of b) ≡ Some (found_at tree a)
  still_found = tree-local (page_of a) (page_of b) (bounds_at tree) tree.height tree.tree (found_at tree a) there.found_is pages_stay

  pub still_at : found_at tree b ≡ found_at tree a
  still_at = ap or_nothing still_found

  pub still_kept : IsKeptTree b s tree
  still_kept = record {
    found_is = still_found ∙ ap (λ (x : Found). some_found x) (sym still_at);
    has = λ n. there.has n ∙ ap (λ (x : Found). is_among n x.pages) (sym still_at);
  }
    where
      some_found : Found → Option Found
      some_found x = Some x

-- ---- a ledger in which the pinned generations have their pages

pub kept_by_ledger : (a : Image) (old new : LedgerState) (trees : List (Option TreeRoot)) → ((k : ℕ) (tree : TreeRoot) → get_or trees k None ≡ Some tree → (n : ℕ) → has_page new tree.seal n ≡ has_page old tree.seal n) → PinnedTreesAreKept a old trees → PinnedTreesAreKept a new trees
kept_by_ledger a old new trees same kept k tree is = record { found_is = (kept k tree is).found_is; has = λ n. same k tree is n ∙ (kept k tree is).has n }

no_page : (s : LedgerState) (seal n : ℕ) → length s.lives ≤ n → has_page s seal n ≡ false
no_page s seal n le = ap (λ (l : Life). lives_at seal l) (get_or_past s.lives n Never le)

-- a commit keeps the pages of each pinned generation
pub pinned_pages : (old mid new : LedgerState) (trees : List (Option TreeRoot)) → old.pins ≡ map seal_of trees → OnlyMarks old mid → PinnedStay mid new → length new.lives ≡ length mid.lives → (k : ℕ) (tree : TreeRoot) → get_or trees k None ≡ Some tree → (n : ℕ) → has_page new tree.seal n ≡ has_page old tree.seal n
pinned_pages old mid new trees seals marks stay size k tree is n =
    let pin : get_or mid.pins k None ≡ Some tree.seal = ap (λ (l : List (Option ℕ)). get_or l k None) (marks.pins ∙ seals) ∙ seal_at trees k ∙ ap seal_of is in
    let same : has_page mid tree.seal n ≡ has_page old tree.seal n = ap (λ (l : List Life). lives_at tree.seal (get_or l n Never)) marks.lives in
    elim (cases_lt n (length mid.lives)) [
      | inl lt ↦ subst (λ (o : Option ℕ). IfSome o (λ kept. (page : ℕ) → page < length mid.lives → has_page new kept page ≡ has_page mid kept page)) pin (stay k) n lt ∙ same
      | inr ge ↦ no_page new tree.seal n (omega (arith, ge, size)) ∙ sym (no_page mid tree.seal n ge) ∙ same
    ]

-- marks have no part in what is held
pub held_again : (old new : LedgerState) → OnlyMarks old new → (n : ℕ) → is_held new n ≡ is_held old n
held_again old new marks n =
    ap (λ (lives : List Life). list_any (λ g. lives_at g (get_or lives n Never)) (new.generation ∷ pinned new.pins)) marks.lives
    ∙ ap (λ (generation : ℕ). list_any (λ g. lives_at g (get_or old.lives n Never)) (generation ∷ pinned new.pins)) marks.generation
    ∙ ap (λ (pins : List (Option ℕ)). list_any (λ g. lives_at g (get_or old.lives n Never)) (old.generation ∷ pinned pins)) marks.pins

-- no pin is out where no tree is pinned
pub no_pins : (a : Image) (n : ℕ) (trees : List (Option TreeRoot)) → list_all is_none trees ≡ true → pins_from a n trees ≡ []
no_pins a n [] all = refl
no_pins a n (None ∷ trees) all = no_pins a (suc n) trees all
no_pins a n (Some t ∷ trees) all = absurd (cc all)

pub no_trees : (a : Image) (n : ℕ) (trees : List (Option TreeRoot)) → pins_from a n trees ≡ [] → list_all is_none trees ≡ true
no_trees a n [] none = refl
no_trees a n (None ∷ trees) none = no_trees a (suc n) trees none
no_trees a n (Some t ∷ trees) none = absurd (cc none)
