-- Reads of a key's path and edits, one after another.
use Rattle.std.proofs.Common.{◌≡◌, ◌≤◌, ◌<◌, ◌+◌, inl, inr, ℕ, zero, suc, Bool, List, ◌∷◌, [], length, take, get_or, Option, Some, None, Result, Ok, Err, refl, sym, ap, subst, ◌∙◌, arith, eq-eqb, ne_eqb}
use Rattle.std.specs.Prelude.{IfOk, if◌then◌else◌}
use Rattle.std.proofs.lemmas.Bool.{cases_eq, cases_lt}
use Rattle.std.proofs.lemmas.List.{take_all, take_more}
use Rattle.std.proofs.lemmas.List.Sums.{fold-append}
use Rattle.page_store.specs.Sectors.{Image}
use Rattle.page_store.specs.StoreState.{most_levels}
use Rattle.page_store.specs.declared.edit.Edit.{Edit}
use Rattle.page_store.specs.declared.slot.Slot.{Slot}
use Rattle.page_store.specs.declared.fault.KeeperFault.{KeeperFault}
use Rattle.tree_nodes.specs.Tree.{OldPages}
use Rattle.tree_nodes.specs.Steps.{RootState, no_tree, put_step, delete_step, supply_step, stepped, where_needed, where_owned, needed_under, put_under, delete_under}
use Rattle.tree_nodes.specs.OwnedTrees.{at_page, state_of}
use Rattle.cow_tree.specs.Drafts.{old_under, root_under}
use Rattle.cow_tree.specs.Needs.{path_read, change_step, edit_made, drafted, StaysLow}
use Rattle.cow_tree.specs.Opening.{IsRooted}
use Rattle.cow_tree.specs.declared.drafts.Draft.{Draft}

-- ---- a path

module _ (old : OldPages) (key : List ℕ) where
  read_last : (n : ℕ) (tree : RootState) → path_read old key n (stepped old tree (supply_step key)) ≡ stepped old (path_read old key n tree) (supply_step key)
  read_last zero tree = refl
  read_last (suc n) tree = read_last n (stepped old tree (supply_step key))

  -- one read more
  pub read_more : (n : ℕ) (tree : RootState) → path_read old key (n + 1) tree ≡ stepped old (path_read old key n tree) (supply_step key)
  read_more n tree = let e : n + 1 ≡ suc n = omega arith in ap (λ (m : ℕ). path_read old key m tree) e ∙ read_last n tree

  -- where no page is needed nothing is read
  none_read : (n : ℕ) (tree : RootState) → needed_under key tree.root ≡ None → path_read old key n tree ≡ tree
  none_read zero tree none = refl
  none_read (suc n) tree none = ap (λ (s : RootState). path_read old key n s) (ap (λ (o : Option ℕ). where_needed old key o tree) none) ∙ none_read n tree none

  -- more reads than are needed change nothing
  pub all_read : (n most : ℕ) (tree : RootState) → n ≤ most → needed_under key (path_read old key n tree).root ≡ None → path_read old key n tree ≡ path_read old key most tree
  all_read zero most tree le none = sym (none_read most tree none)
  all_read (suc n) zero tree le none = absurd (omega (arith, le))
  all_read (suc n) (suc most) tree le none = all_read n most (stepped old tree (supply_step key)) (omega (arith, le)) none

-- ---- an edit

module _ (old : OldPages) (height : ℕ) (first tree : RootState) (edit : Edit) (key : List ℕ) (k : key ≡ edit.key) (path : tree ≡ path_read old key height first) (need : needed_under key tree.root ≡ None) where
  pub put_is : (value w : List ℕ) → edit.value ≡ Some w → value ≡ w → put_under key value tree.root tree.height ≡ edit_made old height first edit
  put_is value w is v =
      sym (ap (λ (o : Option ℕ). where_owned o (put_under key value tree.root tree.height) tree) need)
      ∙ ap (λ (s : RootState). stepped old s (put_step key value)) path
      ∙ ap (λ (l : List ℕ). stepped old (path_read old l height first) (put_step l value)) k
      ∙ ap (λ (l : List ℕ). stepped old (path_read old edit.key height first) (put_step edit.key l)) v
      ∙ ap (λ (o : Option (List ℕ)). stepped old (path_read old edit.key height first) (change_step edit.key o)) (sym is)

  pub put_made : (value w : List ℕ) (r : Result Draft KeeperFault) → edit.value ≡ Some w → value ≡ w → IfOk r (λ x. state_of x.tree ≡ put_under key value tree.root tree.height) → IfOk r (λ x. state_of x.tree ≡ edit_made old height first edit)
  put_made value w (Err e) is v made = tt
  put_made value w (Ok x) is v made = made ∙ put_is value w is v

  pub delete_made : (x : Draft) → edit.value ≡ None → state_of x.tree ≡ delete_under key tree.root tree.height → state_of x.tree ≡ edit_made old height first edit
  delete_made x is made =
      made
      ∙ sym (ap (λ (o : Option ℕ). where_owned o (delete_under key tree.root tree.height) tree) need)
      ∙ ap (λ (s : RootState). stepped old s (delete_step key)) path
      ∙ ap (λ (l : List ℕ). stepped old (path_read old l height first) (delete_step l)) k
      ∙ ap (λ (o : Option (List ℕ)). stepped old (path_read old edit.key height first) (change_step edit.key o)) (sym is)

-- ---- a batch

-- with one edit more
pub drafted_more : (slot : Slot) (image : Image) (batch : List Edit) (i : ℕ) (edit : Edit) → i < length batch → edit ≡ get_or batch i edit → edit_made (old_under slot image) slot.root.height (drafted slot image (take i batch)) edit ≡ drafted slot image (take (i + 1) batch)
drafted_more slot image batch i edit lt is =
    ap (λ (e : Edit). edit_made (old_under slot image) slot.root.height (drafted slot image (take i batch)) e) is
    ∙ sym (fold-append (edit_made (old_under slot image) slot.root.height) (root_under slot) (take i batch) (get_or batch i edit ∷ []))
    ∙ ap (λ (l : List Edit). drafted slot image l) (sym (take_more batch i edit lt))

-- ---- levels on the way

pub first_low : (slot : Slot) → IsRooted slot.root → (root_under slot).height ≤ most_levels
first_low slot rooted =
    elim (cases_eq slot.root.height 0) [
      | inl none ↦ subst (λ (b : Bool). (if b then no_tree else at_page slot.root.tree slot.root.height).height ≤ most_levels) (sym (eq-eqb slot.root.height 0 none)) (omega arith)
      | inr ne ↦ subst (λ (b : Bool). (if b then no_tree else at_page slot.root.tree slot.root.height).height ≤ most_levels) (sym (ne_eqb slot.root.height 0 ne)) (rooted (omega (arith, ne))).0
    ]

module _ (slot : Slot) (image : Image) (batch : List Edit) where
  -- the first edits, of this many at most, leave few enough levels
  abbrev pub LowUpTo : ℕ → Type 0
  LowUpTo most = (front : ℕ) → front ≤ most → (drafted slot image (take front batch)).height ≤ most_levels

  pub low_at_first : IsRooted slot.root → LowUpTo 0
  low_at_first rooted front le = let none : 0 ≡ front = omega (arith, le) in subst (λ (n : ℕ). (drafted slot image (take n batch)).height ≤ most_levels) none (first_low slot rooted)

  pub low_on : (i : ℕ) (tree : RootState) → LowUpTo i → tree ≡ drafted slot image (take (i + 1) batch) → tree.height ≤ most_levels → LowUpTo (i + 1)
  low_on i tree before is low front le =
      elim (cases_lt i front) [
        | inr less ↦ before front less
        | inl more ↦
            let last : i + 1 ≡ front = omega (arith, le, more) in
            subst (λ (n : ℕ). (drafted slot image (take n batch)).height ≤ most_levels) last (subst (λ (s : RootState). s.height ≤ most_levels) is low)
      ]

  pub stays_low : (i : ℕ) → length batch ≤ i → LowUpTo i → StaysLow slot image batch
  stays_low i whole low front =
      elim (cases_lt i front) [
        | inr less ↦ low front less
        | inl more ↦
            let all : take i batch ≡ take front batch = take_all i batch whole ∙ sym (take_all front batch (omega (arith, whole, more))) in
            subst (λ (l : List Edit). (drafted slot image l).height ≤ most_levels) all (low i (omega arith))
      ]
