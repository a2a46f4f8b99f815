-- Reading the pages on a key's path, one below another.
use Rattle.std.proofs.Common.{◌≡◌, ◌≤◌, ◌<◌, ◌+◌, ◌-◌, ℕ, suc, Bool, false, List, [], Option, Some, None, Result, Ok, Err, refl, sym, ap, subst, ◌∙◌, arith}
use Rattle.std.specs.Prelude.{IfSome, IsSome, IsSomeAnd, IfOk}
use Rattle.std.specs.Result.{is_err}
use Rattle.page_alloc.specs.LedgerState.{LedgerState}
use Rattle.page_store.specs.Sectors.{Image}
use Rattle.page_store.specs.Pages.{Pair}
use Rattle.page_store.specs.declared.slot.Slot.{Slot}
use Rattle.page_store.specs.Content.{Bounds}
use Rattle.tree_nodes.specs.Tree.{Tree, OldPages}
use Rattle.tree_nodes.specs.Image.{old_of}
use Rattle.tree_nodes.specs.Supply.{tree_in, path_depth}
use Rattle.tree_nodes.specs.Valid.{IsOld}
use Rattle.tree_nodes.specs.Steps.{RootState, IsValidRoot, needed_under, depth_under, stepped, supply_step, where_needed, read_under}
use Rattle.tree_nodes.specs.Needs.{needed_level, ShowsNeeded, IsNodeReadFault}
use Rattle.tree_nodes.specs.declared.fault.NodeFault.TheVariants.{Damaged}
use Rattle.tree_nodes.proofs.SupplyKeepsPairs.{supply_tree}
use Rattle.page_store.specs.declared.fault.KeeperFault.{KeeperFault}
use Rattle.page_store.specs.declared.fault.KeeperFault.TheVariants as faults
use Rattle.cow_tree.specs.Drafts.{IsDraft, IsOnPath, OnlyMarks, OnlyRetires, TellsDraft}
use Rattle.tree_nodes.proofs.PathsDown.{leads_down}
use Rattle.cow_tree.proofs.DraftSteps.{needed_low}

-- how many levels are left to read, where a page is needed
abbrev pub levels_left : Option ℕ → ℕ → ℕ
levels_left None level = 0
levels_left (Some page) level = suc level

pub left_less : (before now : Option ℕ) (n : ℕ) (level after : ℕ) → before ≡ Some n → ((m : ℕ) → now ≡ Some m → after < level) → levels_left now after < levels_left before level
left_less before None n level after is down = rw is (omega arith)
left_less before (Some m) n level after is down = let d = down m refl in rw is (omega (arith, d))

module _ (slot : Slot) (image : Image) (edits : ℕ) (pairs : List Pair) (key : List ℕ) where
  at_first : (ledger : LedgerState) (tree : RootState) (needed : Option ℕ) → needed_under key tree.root ≡ needed → IsDraft slot image edits 0 pairs ledger tree → IfSome needed (λ page. 0 + needed_level key tree + 1 ≤ slot.root.height)
  at_first ledger tree None is d = tt
  at_first ledger tree (Some n) is d = let low = needed_low slot image edits 0 pairs ledger tree key n d is in omega (arith, low)

  pub path_begins : (ledger : LedgerState) (tree : RootState) → IsDraft slot image edits 0 pairs ledger tree → IsOnPath slot key 0 tree
  path_begins ledger tree d = record { so_far = omega arith; to_come = at_first ledger tree (needed_under key tree.root) refl d }

  after_read : (read : ℕ) (tree now : RootState) (needed : Option ℕ) → needed_under key now.root ≡ needed → read + needed_level key tree + 1 ≤ slot.root.height → ((m : ℕ) → needed_under key now.root ≡ Some m → needed_level key now < needed_level key tree)
      → IfSome needed (λ page. read + 1 + needed_level key now + 1 ≤ slot.root.height)
  after_read read tree now None is le down = tt
  after_read read tree now (Some m) is le down = let d = down m is in omega (arith, d, le)

  pub path_goes_on : (read n : ℕ) (tree now : RootState) → IsOnPath slot key read tree → needed_under key tree.root ≡ Some n → ((m : ℕ) → needed_under key now.root ≡ Some m → needed_level key now < needed_level key tree) → IsOnPath slot key (read + 1) now
  path_goes_on read n tree now p is down =
      let le : read + needed_level key tree + 1 ≤ slot.root.height = subst (λ (o : Option ℕ). IfSome o (λ page. read + needed_level key tree + 1 ≤ slot.root.height)) is p.to_come in
      record { so_far = omega (arith, le); to_come = after_read read tree now (needed_under key now.root) refl le down }

-- ---- what is read of a page

abbrev some : ℕ → Option ℕ
some x = Some x

some_is : (x y : ℕ) → some x ≡ some y → x ≡ y
some_is x y e = cc

abbrev IsDown : List ℕ → RootState → RootState → Type 0
IsDown key state now = (m : ℕ) → needed_under key now.root ≡ Some m → needed_level key now < needed_level key state

-- whatever the device gives, a page leads one level down or ends the path
pub reads_down : (bounds : Bounds) (bytes : List ℕ) (state now : RootState) (key : List ℕ) (n : ℕ) → needed_under key state.root ≡ Some n → now ≡ stepped (old_of (λ k. bytes) bounds) state (supply_step key)
    → IfSome (needed_under key state.root) (λ page. IsSome (tree_in bounds (needed_level key state) page bytes)) → IsDown key state now
reads_down bounds bytes state now key n need is answered =
    let some : IsSome (tree_in bounds (needed_level key state) n bytes) = subst (λ (o : Option ℕ). IfSome o (λ page. IsSome (tree_in bounds (needed_level key state) page bytes))) need answered in
    let now_is : now ≡ read_under key (tree_in bounds (needed_level key state) n bytes) state.root state.height = is ∙ ap (λ (o : Option ℕ). where_needed (old_of (λ k. bytes) bounds) key o state) need in
    subst (λ (s : RootState). IsDown key state s) (sym now_is) (λ m more. leads_down bounds bytes state key n m need some more)

pub shows_needed : (image : ℕ → List ℕ) (key : List ℕ) (state : RootState) (bytes : List ℕ) (n : ℕ) → needed_under key state.root ≡ Some n → image n ≡ bytes → ShowsNeeded image key state bytes
shows_needed image key state bytes n need is page needed = ap image (some_is page n (sym needed ∙ need)) ∙ is

-- a page that a draft needs is a page of its level
pub needed_opens : (old : OldPages) → IsOld old → (state : RootState) (key : List ℕ) (n : ℕ) → IsValidRoot old state.root state.height → needed_under key state.root ≡ Some n → IsSome (old.opened (needed_level key state) n)
needed_opens old o state key n v need = go state.root state.height v need
  where
    go : (root : Option Tree) (height : ℕ) → IsValidRoot old root height → needed_under key root ≡ Some n → IsSome (old.opened (height - 1 - depth_under key root) n)
    go None height v w = absurd (cc w)
    go (Some tree) height v w =
        let s = supply_tree tree old o v.0 [] None key n v.2 w in
        let level : height - 1 - path_depth key tree ≡ v.0 - path_depth key tree = let e = v.1 in omega (arith, e) in
        let read : old.opened (height - 1 - path_depth key tree) n ≡ Some s.0 = ap (λ (l : ℕ). old.opened l n) level ∙ s.1 in
        rw read refl

pub not_damaged : (needed : Option ℕ) (n m : ℕ) (read : ℕ → Option Tree) → needed ≡ Some n → IsSome (read n) → IsSomeAnd needed (λ page. IsNodeReadFault page (read page) (Damaged m)) → ⊥
not_damaged None n m read is some answered = absurd (cc is)
not_damaged (Some k) n m read is some answered =
    let same : k ≡ n = some_is k n is in
    let none : read n ≡ None = ap read (sym same) ∙ answered.1 in
    no (read n) none some
  where
    no : (r : Option Tree) → r ≡ None → IsSome r → ⊥
    no None e h = cc h
    no (Some t) e h = cc e

-- ---- one call after another

pub if_ok_done : {T E : Type 0} (r : Result T E) (b : Bool) (P : Type 0) → b ≡ is_err r → b ≡ false → IfOk r (λ x. P) → P
if_ok_done (Ok x) b P is off h = h
if_ok_done (Err e) b P is off h = absurd (cc (is, off))

pub marks_again : (a b c : LedgerState) → OnlyMarks a b → OnlyMarks b c → OnlyMarks a c
marks_again a b c x y = record { lives = y.lives ∙ x.lives; size = y.size ∙ x.size; generation = y.generation ∙ x.generation; pins = y.pins ∙ x.pins }

pub retires_again : (a b c : LedgerState) → OnlyRetires a b → OnlyRetires b c → OnlyRetires a c
retires_again a b c x y = record { marks = marks_again a b c x.marks y.marks; free = y.free ∙ x.free }

pub retires_none : (a : LedgerState) → OnlyRetires a a
retires_none a = record { marks = record { lives = refl; size = refl; generation = refl; pins = refl }; free = refl }

-- what is known of a fault says nothing of an answer
pub tells_fault : {T U : Type 0} (deep more : Type 0) (e : KeeperFault) (P : T → Type 0) (Q : U → Type 0) → (deep → more) → TellsDraft deep (Err e) P → TellsDraft more (Err e) Q
tells_fault deep more faults.Device P Q f h = h
tells_fault deep more faults.NoImage P Q f h = h
tells_fault deep more faults.Version P Q f h = h
tells_fault deep more (faults.Damaged page) P Q f h = h
tells_fault deep more faults.Small P Q f h = h
tells_fault deep more faults.Spent P Q f h = h
tells_fault deep more (faults.Full need free) P Q f h = h
tells_fault deep more faults.Failed P Q f h = h
tells_fault deep more faults.Memory P Q f h = h
tells_fault deep more faults.Deep P Q f h = f h

pub draft_more : (slot : Slot) (image : Image) (edits read more : ℕ) (pairs : List Pair) (ledger : LedgerState) (tree : RootState) → read ≤ more → IsDraft slot image edits read pairs ledger tree → IsDraft slot image edits more pairs ledger tree
draft_more slot image edits read more pairs ledger tree le d = record { valid = d.valid; pairs_are = d.pairs_are; reached = d.reached; alive = d.alive; few = let f = d.few in omega (arith, f, le); grown = d.grown }
