-- Between two commits a page is free exactly where neither the tree reaches it nor one that a pin keeps.
use Rattle.std.proofs.Common.{◌≡◌, ◌<◌, ℕ, zero, suc, Bool, true, false, List, [], ◌∷◌, Option, Some, None, length, map, refl, sym, ap, ◌∙◌, arith}
use Rattle.std.specs.Prelude.{◌&&◌, ◌||◌, not, nat_le, nat_lt}
use Rattle.std.proofs.lemmas.Bool.{lt-ltb}
use Rattle.page_alloc.specs.LedgerState.{LedgerState, Mark, has_page, have_page, pinned, is_taken, is_retired, is_held, is_free, count_below, free_count}
use Rattle.page_store.specs.Sectors.{Image}
use Rattle.page_store.specs.Content.{is_among}
use Rattle.page_store.specs.declared.slot.Slot.{Slot}
use Rattle.cow_tree.specs.PinnedTrees.{found_at, seal_of, pins_from, keep_page, PinnedTreesAreKept}
use Rattle.cow_tree.specs.declared.tree_root.TreeRoot.{TreeRoot}
use Rattle.cow_tree.specs.TreeState.{IsAtRest, IsThere, found_under, unreached}
use Rattle.cow_tree.proofs.Taken.{untaken_at_rest}

and_true : (b : Bool) → (b && true) ≡ b
and_true true = refl
and_true false = refl

-- what pass the same below a number are as many
same_count : (f g : ℕ → Bool) (n : ℕ) → ((k : ℕ) → k < n → f k ≡ g k) → count_below f n ≡ count_below g n
same_count f g zero each = refl
same_count f g (suc n) each = rw (each n (omega arith), same_count f g n (λ k lt. each k (omega (arith, lt)))) refl

module _ (image : Image) (slot : Slot) (ledger : LedgerState) (trees : List (Option TreeRoot)) (rest : IsAtRest slot ledger) (seals : ledger.pins ≡ map seal_of trees) (kept : PinnedTreesAreKept image ledger trees) (there : IsThere image slot ledger) where
  pinned_have : (some : List (Option TreeRoot)) → PinnedTreesAreKept image ledger some → (n : ℕ) → have_page ledger (pinned (map seal_of some)) n ≡ keep_page image some n
  pinned_have [] k n = refl
  pinned_have (None ∷ some) k n = pinned_have some (λ number tree is. k (suc number) tree is) n
  pinned_have (Some tree ∷ some) k n =
      ap (λ (b : Bool). b || have_page ledger (pinned (map seal_of some)) n) ((k zero tree refl).has n) ∙ ap (λ (b : Bool). is_among n (found_at tree image).pages || b) (pinned_have some (λ number t is. k (suc number) t is) n)

  pub held_is : (n : ℕ) → is_held ledger n ≡ (keep_page image trees n || is_among n (found_under slot image).pages)
  held_is n =
      ap (λ (pins : List (Option ℕ)). have_page ledger (ledger.generation ∷ pinned pins) n) seals
      ∙ ap (λ (b : Bool). has_page ledger ledger.generation n || b) (pinned_have trees kept n)
      ∙ ap (λ (b : Bool). b || keep_page image trees n) (sym (ap (λ (m : Mark). has_page ledger ledger.generation n && not (is_retired m)) (untaken_at_rest ledger rest.unmarked n) ∙ and_true (has_page ledger ledger.generation n)) ∙ there.alive n)
      ∙ swap (is_among n (found_under slot image).pages) (keep_page image trees n)
    where
      swap : (a b : Bool) → (a || b) ≡ (b || a)
      swap true true = refl
      swap true false = refl
      swap false true = refl
      swap false false = refl

  page_is_free : (n : ℕ) → is_free ledger n ≡ (nat_le 2 n && (nat_lt n slot.root.pages && not (keep_page image trees n || is_among n (found_under slot image).pages)))
  page_is_free n =
      ap (λ (m : Mark). nat_le 2 n && (nat_lt n (length ledger.lives) && (not (is_taken m) && not (is_held ledger n)))) (untaken_at_rest ledger rest.unmarked n)
      ∙ ap (λ (b : Bool). nat_le 2 n && (nat_lt n (length ledger.lives) && not b)) (held_is n)
      ∙ ap (λ (size : ℕ). nat_le 2 n && (nat_lt n size && not (keep_page image trees n || is_among n (found_under slot image).pages))) rest.pages

  pub free_is : free_count ledger ≡ unreached slot trees image
  free_is =
      ap (λ (size : ℕ). count_below (is_free ledger) size) rest.pages
      ∙ same_count (is_free ledger) (λ n. nat_le 2 n && not (keep_page image trees n || is_among n (found_under slot image).pages)) slot.root.pages
      (λ n lt. page_is_free n ∙ ap (λ (b : Bool). nat_le 2 n && (b && not (keep_page image trees n || is_among n (found_under slot image).pages))) (lt-ltb n slot.root.pages lt))

-- where no pin is out, no tree keeps a page
none_keeps : (image : Image) (number : ℕ) (trees : List (Option TreeRoot)) (n : ℕ) → pins_from image number trees ≡ [] → keep_page image trees n ≡ false
none_keeps image number [] n e = refl
none_keeps image number (None ∷ trees) n e = none_keeps image (suc number) trees n e
none_keeps image number (Some tree ∷ trees) n e = absurd (cc e)

pub unreached_alone : (image : Image) (slot : Slot) (trees : List (Option TreeRoot)) → pins_from image 0 trees ≡ [] → unreached slot trees image ≡ unreached slot [] image
unreached_alone image slot trees e =
    same_count (λ n. nat_le 2 n && not (keep_page image trees n || is_among n (found_under slot image).pages)) (λ n. nat_le 2 n && not (is_among n (found_under slot image).pages)) slot.root.pages
    (λ n lt. ap (λ (b : Bool). nat_le 2 n && not (b || is_among n (found_under slot image).pages)) (none_keeps image 0 trees n e))
