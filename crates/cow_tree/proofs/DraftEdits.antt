-- What one edit makes of a draft.
use Rattle.std.proofs.Common.{◌≡◌, ◌≤◌, ◌<◌, ◌+◌, ◌^◌, ◌-◌, ℕ, zero, suc, Bool, true, false, List, [], ◌∷◌, length, take, get_or, map, Option, Some, None, Result, Ok, Err, refl, sym, ap, subst, ◌∙◌, arith, IsTrue}
use Rattle.std.specs.Prelude.{◌&&◌, is_some, IfOk, IfErr}
use Rattle.std.specs.List.{list_all}
use Rattle.std.proofs.lemmas.List.{take_more}
use Rattle.std.proofs.lemmas.List.Sums.{fold-append}
use Rattle.std.specs.Map.{remove_entry}
use Rattle.std.specs.BTreeMap.{insert_entry, is_at}
use Rattle.common_types.specs.ByteOrder.{byte_cmp}
use Rattle.page_alloc.specs.LedgerState.{LedgerState}
use Rattle.page_store.specs.Sectors.{Image}
use Rattle.page_store.specs.Pages.{Pair, key_of}
use Rattle.page_store.specs.Keys.{rises}
use Rattle.page_store.specs.Batch.{is_key, is_value, is_value_or_none, is_pair, is_edit, is_batch, edit_key, is_map, value_at, with_value, edited, updated}
use Rattle.page_store.specs.StoreState.{most_levels}
use Rattle.page_store.specs.declared.edit.Edit.{Edit}
use Rattle.page_store.specs.declared.slot.Slot.{Slot}
use Rattle.page_store.specs.declared.fault.KeeperFault.{KeeperFault}
use Rattle.page_store.specs.declared.fault.KeeperFault.TheVariants as faults
use Rattle.page_store.proofs.Maps.{updated_map}
use Rattle.tree_nodes.specs.Steps.{RootState, needed_under, put_under, delete_under}
use Rattle.tree_nodes.specs.Keys.{has_under}
use Rattle.tree_nodes.specs.OwnedTrees.{state_of}
use Rattle.tree_nodes.proofs.KeyOrder.{both_true}
use Rattle.tree_nodes.proofs.KeysKnown.{leaf_knows}
use Rattle.tree_nodes.proofs.LevelsCome.{levels_put, levels_deep}
use Rattle.cow_tree.specs.Drafts.{old_under, IsDraft, IsCounted, IsPutFault, TellsDraft, MayBeTooDeep, keys_with, keys_without}
use Rattle.cow_tree.specs.declared.drafts.Draft.{Draft}
use Rattle.cow_tree.proofs.DraftSteps.{old_is, put_draft, delete_draft}
use Rattle.cow_tree.proofs.KeyCounts.{keys_after_put, keys_after_delete}

both : (a b : Bool) → a ≡ true → b ≡ true → (a && b) ≡ true
both true b h k = k
both false b h k = absurd (cc h)

pub edited_put : (pairs : List Pair) (edit : Edit) (key value w : List ℕ) → key ≡ edit.key → edit.value ≡ Some w → value ≡ w → insert_entry byte_cmp pairs key value ≡ edited pairs edit
edited_put pairs edit key value w k is v =
    ap (λ (x : List ℕ). insert_entry byte_cmp pairs x value) k ∙ ap (λ (x : List ℕ). insert_entry byte_cmp pairs edit.key x) v ∙ ap (λ (o : Option (List ℕ)). with_value pairs edit.key o) (sym is)

pub edited_delete : (pairs : List Pair) (edit : Edit) (key : List ℕ) → key ≡ edit.key → edit.value ≡ None → remove_entry (is_at (byte_cmp key)) pairs ≡ edited pairs edit
edited_delete pairs edit key k is = ap (λ (x : List ℕ). remove_entry (is_at (byte_cmp x)) pairs) k ∙ ap (λ (o : Option (List ℕ)). with_value pairs edit.key o) (sym is)

pub edit_sizes : (edit : Edit) (key value w : List ℕ) → IsTrue (is_edit edit) → key ≡ edit.key → edit.value ≡ Some w → value ≡ w → is_pair (key, value) ≡ true
edit_sizes edit key value w sizes k is v =
    let b = both_true (is_key edit.key) (is_value_or_none edit.value) sizes in
    both (is_key key) (is_value value) (ap is_key k ∙ b.0) (ap is_value v ∙ sym (ap is_value_or_none is) ∙ b.1)

pub edited_map : (pairs : List Pair) (edit : Edit) → is_map pairs ≡ true → IsTrue (is_edit edit) → is_map (edited pairs edit) ≡ true
edited_map pairs edit map_is sizes = updated_map pairs (edit ∷ []) map_is (both (is_edit edit) true sizes refl)

-- with one edit more
pub updated_more : (pairs : List Pair) (batch : List Edit) (i : ℕ) (edit : Edit) → i < length batch → edit ≡ get_or batch i edit → edited (updated pairs (take i batch)) edit ≡ updated pairs (take (i + 1) batch)
updated_more pairs batch i edit lt is =
    ap (λ (e : Edit). edited (updated pairs (take i batch)) e) is
    ∙ sym (fold-append edited pairs (take i batch) (get_or batch i edit ∷ []))
    ∙ ap (λ (l : List Edit). updated pairs l) (sym (take_more batch i edit lt))

pub edit_at : (batch : List Edit) (i : ℕ) (edit : Edit) → i < length batch → edit ≡ get_or batch i edit → IsTrue (is_batch batch) → IsTrue (is_edit edit)
edit_at batch i edit lt is all = ap is_edit is ∙ each batch i edit lt (both_true (rises (map edit_key batch)) (list_all is_edit batch) all).1
  where
    each : (es : List Edit) (k : ℕ) (d : Edit) → k < length es → list_all is_edit es ≡ true → is_edit (get_or es k d) ≡ true
    each [] k d lt h = absurd (omega (arith, lt))
    each (e ∷ es) zero d lt h = (both_true (is_edit e) (list_all is_edit es) h).0
    each (e ∷ es) (suc k) d lt h = each es k d (omega (arith, lt)) (both_true (is_edit e) (list_all is_edit es) h).1

pub deeper : (slot : Slot) (edits all : ℕ) → edits ≤ all → MayBeTooDeep slot edits → MayBeTooDeep slot all
deeper slot edits all le h = omega (arith, le, h)

module _ (slot : Slot) (image : Image) (edits : ℕ) (pairs : List Pair) (ledger : LedgerState) (tree : RootState) (keys : ℕ) (edit : Edit) (key : List ℕ) (d : IsDraft slot image edits slot.root.height pairs ledger tree) (need : needed_under key tree.root ≡ None)
    (map_is : is_map pairs ≡ true) (counted : keys ≡ length pairs) (sizes : IsTrue (is_edit edit)) (k : key ≡ edit.key) where
  has : has_under key tree.root ≡ is_some (value_at pairs key)
  has = leaf_knows (old_under slot image) (old_is slot image) tree key d.valid need ∙ ap (λ (l : List Pair). is_some (value_at l key)) d.pairs_are

  pub put_told : (value w : List ℕ) (r : Result Draft KeeperFault) → edit.value ≡ Some w → value ≡ w → length pairs < 2 ^ 64 - 1 → IfOk r (λ x. state_of x.tree ≡ put_under key value tree.root tree.height) → IfOk r (λ x. x.keys ≡ keys_with (has_under key tree.root) keys)
      → IfOk r (λ x. (state_of x.tree).height ≤ most_levels) → IfErr r (IsPutFault (put_under key value tree.root tree.height)) → (now : RootState) → put_under key value tree.root tree.height ≡ now
      → TellsDraft (MayBeTooDeep slot (edits + 1) × (most_levels < now.height)) r (IsCounted slot image (edits + 1) (edited pairs edit) ledger)
  put_told value w (Ok x) is v small made count low fault now now_is =
      let same = edited_put pairs edit key value w k is v in
      let height = ap (λ (s : RootState). s.height) made in
      let rise = both_true (rises (map key_of pairs)) (list_all is_pair pairs) map_is in
      record {
        draft_is = subst (λ (l : List Pair). IsDraft slot image (edits + 1) 0 l ledger (state_of x.tree)) same
            (subst (λ (s : RootState). IsDraft slot image (edits + 1) 0 (insert_entry byte_cmp pairs key value) ledger s) (sym made) (put_draft slot image edits pairs ledger tree key d need value (edit_sizes edit key value w sizes k is v) (omega (arith, low, height))));
        keys = count ∙ keys_after_put keys (has_under key tree.root) pairs key value rise.0 counted small has ∙ ap (λ (l : List Pair). length l) same;
        map = edited_map pairs edit map_is sizes;
      }
  put_told value w (Err faults.Device) is v small made count low fault now now_is = absurd fault
  put_told value w (Err faults.NoImage) is v small made count low fault now now_is = absurd fault
  put_told value w (Err faults.Version) is v small made count low fault now now_is = absurd fault
  put_told value w (Err (faults.Damaged page)) is v small made count low fault now now_is = fault
  put_told value w (Err faults.Small) is v small made count low fault now now_is = absurd fault
  put_told value w (Err faults.Spent) is v small made count low fault now now_is = absurd fault
  put_told value w (Err (faults.Full n free)) is v small made count low fault now now_is = absurd fault
  put_told value w (Err faults.Failed) is v small made count low fault now now_is = absurd fault
  put_told value w (Err faults.Memory) is v small made count low fault now now_is = tt
  put_told value w (Err faults.Deep) is v small made count low fault now now_is = (
    levels_deep slot.root.height (edits + 1) (edits + 1) (put_under key value tree.root tree.height) (omega arith) (omega arith) (levels_put (old_under slot image) slot.root.height edits tree key value d.valid (edit_sizes edit key value w sizes k is v) d.grown) fault,
    subst (λ (s : RootState). most_levels < s.height) now_is fault,
  )

  pub delete_told : (x : Draft) → edit.value ≡ None → state_of x.tree ≡ delete_under key tree.root tree.height → x.keys ≡ keys_without (has_under key tree.root) keys → IsCounted slot image (edits + 1) (edited pairs edit) ledger x
  delete_told x is made count =
      let same = edited_delete pairs edit key k is in
      record {
        draft_is = subst (λ (l : List Pair). IsDraft slot image (edits + 1) 0 l ledger (state_of x.tree)) same
            (subst (λ (s : RootState). IsDraft slot image (edits + 1) 0 (remove_entry (is_at (byte_cmp key)) pairs) ledger s) (sym made) (delete_draft slot image edits pairs ledger tree key d need));
        keys = count ∙ keys_after_delete keys (has_under key tree.root) pairs key counted has ∙ ap (λ (l : List Pair). length l) same;
        map = edited_map pairs edit map_is sizes;
      }
