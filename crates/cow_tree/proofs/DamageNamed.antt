-- The page that a walk tells as damaged is the one that is named.
use Rattle.std.proofs.Common.{◌≡◌, ◌≢◌, ℕ, ◌-◌, true, List, [], ◌∷◌, ◌++◌, length, Option, Some, None, sym, subst, IsTrue}
use Rattle.std.specs.Prelude.{Result, Ok, Err, IfErr}
use Rattle.sector_device.specs.Device.{State}
use Rattle.sector_device.specs.Disk.{Disk}
use Rattle.page_alloc.specs.LedgerState.{LedgerState, is_free}
use Rattle.page_alloc.specs.Calls.{fresh, holding}
use Rattle.page_store.specs.Sectors.{page_of}
use Rattle.page_store.specs.Pages.{Child, branch_of}
use Rattle.page_store.specs.Content.{Found, Bounds, walk, low_of, high_of, place_in, tree_of}
use Rattle.page_store.specs.declared.slot.Slot.{Slot}
use Rattle.cow_tree.specs.NamedWalks.{fan_or_name, walk_or_name, root_or_name, tree_or_name}
use Rattle.cow_tree.specs.Walks.{AreHeld, NamesFrom, Names, NamesAfter, IsWalked}
use Rattle.cow_tree.specs.Opening.{bounds_under, IsNamed}
use Rattle.cow_tree.specs.declared.page_fault.PageFault.{PageFault}
use Rattle.cow_tree.specs.declared.page_fault.PageFault.TheVariants.{Device, Damaged}
use Rattle.cow_tree.proofs.Reaching.{fresh_are_distinct}
use Rattle.cow_tree.proofs.NamedPages.{held_at_first, free_is_new, held_more, held_all_more, fresh_are_new}
use Rattle.cow_tree.proofs.NamedWalks.{walk_finds, branch_named, under_named, child_named, rest_named, tree_named, count_named}

-- ---- a page and what stands under it

module _ (a : ℕ → List ℕ) (bounds : Bounds) (level page : ℕ) (low : List ℕ) (high : Option (List ℕ)) (held : LedgerState) where
  pub no_branch_named : level ≢ 0 → branch_of (place_in bounds level page) low high (a page) ≡ None → NamesFrom (walk_or_name a bounds level page low high) held page
  no_branch_named ne none = λ reached are. branch_named a bounds level page low high reached ne none

  -- what the children of a branch name
  pub branch_names : (now : LedgerState) (children : List Child) (wrong : ℕ) → level ≢ 0 → is_free held page ≡ true → now ≡ holding page held → branch_of (place_in bounds level page) low high (a page) ≡ Some children
      → NamesFrom (fan_or_name (walk_or_name a bounds (level - 1)) low high children) now wrong → NamesFrom (walk_or_name a bounds level page low high) held wrong
  branch_names now children wrong ne free is e h = λ reached are.
      under_named a bounds level page low high reached children wrong ne (free_is_new held reached page are free) e
      (h (reached ++ page ∷ []) (subst (λ (s : LedgerState). AreHeld s (reached ++ page ∷ [])) (sym is) (held_more held reached page are free)))

-- ---- children one after another

module _ (a : ℕ → List ℕ) (bounds : Bounds) (level : ℕ) (low : List ℕ) (high : Option (List ℕ)) (children : List Child) (child : Child) (rest : List Child) (old now : LedgerState)
    (so_far : NamesAfter (fan_or_name (walk_or_name a bounds level) low high) children (child ∷ rest) old now) where
  -- what a child names
  pub child_names : (wrong : ℕ) → NamesFrom (walk_or_name a bounds level child.page (low_of low child.key) (high_of rest high)) now wrong → NamesFrom (fan_or_name (walk_or_name a bounds level) low high children) old wrong
  child_names wrong h = so_far wrong (λ reached are. child_named (walk_or_name a bounds level) low high reached child rest wrong (h reached are))

  -- what the others name after a child that is right
  pub others_name : (new : LedgerState) (count : ℕ) → IsWalked (walk a bounds level child.page (low_of low child.key) (high_of rest high)) now new count → NamesAfter (fan_or_name (walk_or_name a bounds level) low high) children rest old new
  others_name new count one = λ wrong h. so_far wrong (λ reached are.
      rest_named (walk_or_name a bounds level) low high reached child rest one.found wrong
      (walk_finds a bounds level child.page (low_of low child.key) (high_of rest high) reached one.found one.is (fresh_are_new now reached one.found.pages are one.fresh))
      (h (reached ++ one.found.pages) (subst (λ (s : LedgerState). AreHeld s (reached ++ one.found.pages)) (sym one.held) (held_all_more now reached one.found.pages are one.fresh))))

-- ---- a call within a call

-- what a call names on a device that shows the same, the call around it names
pub names_again : (old mid : State) (what more : (ℕ → List ℕ) → List ℕ → Result Found ℕ) (held now : LedgerState) (e : PageFault) → (IsTrue old.honest → IsTrue mid.honest) → (IsTrue old.honest → mid.disk ≡ old.disk)
    → ((wrong : ℕ) → IsTrue old.honest → NamesFrom (more (page_of old.disk.view)) now wrong → NamesFrom (what (page_of old.disk.view)) held wrong) → Names mid more now e → Names old what held e
names_again old mid what more held now Device keeps same step h = tt
names_again old mid what more held now (Damaged wrong) keeps same step h = λ honest. step wrong honest (subst (λ (d : Disk). NamesFrom (more (page_of d.view)) now wrong) (same honest) (h (keeps honest)))

-- what is named of a branch's children is named of the branch
pub under_names : (old mid : State) (bounds : Bounds) (level page : ℕ) (low : List ℕ) (high : Option (List ℕ)) (held now : LedgerState) (children : List Child) (r : Result ℕ PageFault) → (IsTrue old.honest → IsTrue mid.honest) → (IsTrue old.honest → mid.disk ≡ old.disk)
    → level ≢ 0 → is_free held page ≡ true → now ≡ holding page held → (IsTrue old.honest → branch_of (place_in bounds level page) low high (page_of old.disk.view page) ≡ Some children)
    → IfErr r (Names mid (λ bytes. fan_or_name (walk_or_name bytes bounds (level - 1)) low high children) now) → IfErr r (Names old (λ bytes. walk_or_name bytes bounds level page low high) held)
under_names old mid bounds level page low high held now children (Ok count) keeps same ne free is e h = tt
under_names old mid bounds level page low high held now children (Err fault) keeps same ne free is e h =
    names_again old mid (λ bytes. walk_or_name bytes bounds level page low high) (λ bytes. fan_or_name (walk_or_name bytes bounds (level - 1)) low high children) held now fault keeps same
    (λ wrong honest k. branch_names (page_of old.disk.view) bounds level page low high held now children wrong ne free is (e honest) k) h

-- the child that a step of a loop walks
pub at_named_child : (a : ℕ → List ℕ) (bounds : Bounds) (level page : ℕ) (low low_is : List ℕ) (high high_is : Option (List ℕ)) (held : LedgerState) (wrong : ℕ) → low ≡ low_is → high ≡ high_is
    → NamesFrom (walk_or_name a bounds level page low high) held wrong → NamesFrom (walk_or_name a bounds level page low_is high_is) held wrong
at_named_child a bounds level page low low_is high high_is held wrong is_low is_high h =
    subst (λ (x : List ℕ). NamesFrom (walk_or_name a bounds level page x high_is) held wrong) is_low
    (subst (λ (x : Option (List ℕ)). NamesFrom (walk_or_name a bounds level page low x) held wrong) is_high h)

-- ---- the tree under a slot

module _ (slot : Slot) (a : ℕ → List ℕ) where
  abbrev first : LedgerState
  first = fresh slot.root.pages slot.seal

  -- what is named of the root, before any page was reached
  pub root_names : (state : State) (e : PageFault) → IsTrue state.honest → a ≡ page_of state.disk.view → Names state (λ bytes. root_or_name slot.number bytes (bounds_under slot) slot.root.height slot.root.tree) first e
      → IsNamed (tree_or_name slot a) e
  root_names state Device honest is h = tt
  root_names state (Damaged wrong) honest is h =
      subst (λ (b : ℕ → List ℕ). tree_or_name slot b ≡ Err wrong) (sym is) (tree_named slot (page_of state.disk.view) wrong (h honest [] (held_at_first slot.root.pages slot.seal)))

  -- another count of pairs
  pub count_names : (new : LedgerState) (count : ℕ) → (w : IsWalked (tree_of a (bounds_under slot) slot.root.height slot.root.tree) first new count) → (length w.found.pairs ≡ slot.root.keys → ⊥) → tree_or_name slot a ≡ Err slot.number
  count_names new count w differ = count_named slot a w.found w.is (fresh_are_distinct first w.found.pages w.fresh) differ
