use Rattle.std.proofs.Common.{◌≡◌, ◌+◌, ℕ, List, refl, sym, ap, subst, ◌∙◌, arith, take}
use Rattle.std.specs.Prelude.{IsSome, IsSomeAnd}
use Rattle.std.proofs.lemmas.List.{take_all}
use Rattle.page_alloc.specs.LedgerState.{LedgerState}
use Rattle.page_store.specs.Content.{Bounds}
use Rattle.tree_nodes.specs.Image.{old_of}
use Rattle.tree_nodes.specs.Supply.{tree_in}
use Rattle.tree_nodes.specs.Steps.{RootState, needed_under, stepped, supply_step}
use Rattle.tree_nodes.specs.Needs.{needed_level, IsNodeReadFault}
use Rattle.tree_nodes.specs.declared.fault.NodeFault.{NodeFault}
use Rattle.tree_nodes.specs.PageViews.{bounds_of}
use Rattle.tree_nodes.specs.OwnedTrees.{state_of}
use Rattle.cow_tree.specs.Opening.{bounds_under}
use Rattle.cow_tree.specs.Drafts.{IsDraft, bytes_in, old_under}
use Rattle.tree_nodes.proofs.PathsDown.{supply_height}
use Rattle.cow_tree.proofs.DraftSteps.{old_is, supply_draft}
use Rattle.cow_tree.proofs.PathReads.{reads_down, shows_needed, needed_opens, not_damaged}
use Rattle.cow_tree.proofs.drafts.take_needed.Goals as goal

pub returns-in-Ok-clause-draft : goal.returns-in-Ok-clause-draft
returns-in-Ok-clause-draft c = λ view is_there edits read pairs d.
    let slot = c.args.slot.now in
    let tree = state_of c.args.tree.now in
    let key = c.args.key.now in
    let bytes = c.args.bytes.now in
    let long = c.told-bytes in
    let here : bytes_in view c.args.page ≡ bytes = ap (take 4096) is_there ∙ take_all 4096 bytes (omega (arith, long)) in
    let shows = shows_needed (bytes_in view) key tree bytes c.args.page c.requires.needed here in
    let is : state_of c.supply.new.self ≡ stepped (old_under slot view) tree (supply_step key) = c.in-Ok.ensures.tree (bytes_in view) shows ∙ ap (λ (b : Bounds). stepped (old_of (bytes_in view) b) tree (supply_step key)) c.bounds_of.ensures.bounds in
    subst (λ (s : RootState). IsDraft slot view edits (read + 1) pairs c.retire.new.self s) (sym is)
    (subst (λ (l : LedgerState). IsDraft slot view edits (read + 1) pairs l (stepped (old_under slot view) tree (supply_step key))) (sym c.retire.ensures.retired) (supply_draft slot view edits read pairs c.args.ledger.now tree key c.args.page d c.requires.needed))

pub returns-in-Ok-clause-read : goal.returns-in-Ok-clause-read
returns-in-Ok-clause-read c = λ view is_there.
    let slot = c.args.slot.now in
    let tree = state_of c.args.tree.now in
    let key = c.args.key.now in
    let bytes = c.args.bytes.now in
    let long = c.told-bytes in
    let here : bytes_in view c.args.page ≡ bytes = ap (take 4096) is_there ∙ take_all 4096 bytes (omega (arith, long)) in
    let shows = shows_needed (bytes_in view) key tree bytes c.args.page c.requires.needed here in
    c.in-Ok.ensures.tree (bytes_in view) shows ∙ ap (λ (b : Bounds). stepped (old_of (bytes_in view) b) tree (supply_step key)) c.bounds_of.ensures.bounds

pub returns-in-Ok-clause-goes : goal.returns-in-Ok-clause-goes
returns-in-Ok-clause-goes c = record {
  down =
      let bytes = c.args.bytes.now in
      reads_down (bounds_of c.bounds_of.result) bytes (state_of c.args.tree.now) (state_of c.supply.new.self) c.args.key.now c.args.page c.requires.needed (c.in-Ok.ensures.tree (λ k. bytes) (λ page is. refl)) c.in-Ok.ensures.read;
  height =
      let bytes = c.args.bytes.now in
      ap (λ (s : RootState). s.height) (c.in-Ok.ensures.tree (λ k. bytes) (λ page is. refl)) ∙ supply_height (old_of (λ k. bytes) (bounds_of c.bounds_of.result)) (state_of c.args.tree.now) c.args.key.now;
}

pub returns-in-Err-Damaged-clause-draft : goal.returns-in-Err-Damaged-clause-draft
returns-in-Err-Damaged-clause-draft c = λ view is_there edits read pairs d.
    let slot = c.args.slot.now in
    let tree = state_of c.args.tree.now in
    let key = c.args.key.now in
    let bytes = c.args.bytes.now in
    let long = c.told-bytes in
    let here : bytes_in view c.args.page ≡ bytes = ap (take 4096) is_there ∙ take_all 4096 bytes (omega (arith, long)) in
    let opens = needed_opens (old_under slot view) (old_is slot view) tree key c.args.page d.valid c.requires.needed in
    let answered = subst (λ (e : NodeFault). IsSomeAnd (needed_under key tree.root) (λ page. IsNodeReadFault page (tree_in (bounds_of c.bounds_of.result) (needed_level key tree) page bytes) e)) c.in-Err-Damaged.field-0-is c.in-Err-Damaged.ensures.fault in
    let some : IsSome (tree_in (bounds_of c.bounds_of.result) (needed_level key tree) c.args.page bytes) = rw c.bounds_of.ensures.bounds (subst (λ (l : List ℕ). IsSome (tree_in (bounds_under slot) (needed_level key tree) c.args.page l)) here opens) in
    not_damaged (needed_under key tree.root) c.args.page c.in-Err-Damaged.page (λ page. tree_in (bounds_of c.bounds_of.result) (needed_level key tree) page bytes) c.requires.needed some answered
