use Rattle.std.proofs.Common.{◌+◌, ◌<◌}
use Rattle.std.proofs.lemmas.Result.{err_from_is_err_and}
use Rattle.page_store.specs.StoreState.{most_levels}
use Rattle.tree_nodes.specs.OwnedTrees.{state_of}
use Rattle.cow_tree.specs.Needs.{edit_made}
use Rattle.cow_tree.specs.Drafts.{old_under, MayBeTooDeep}
use Rattle.cow_tree.proofs.PathSteps.{put_is, put_made, delete_made}
use Rattle.cow_tree.proofs.PathReads.{tells_fault}
use Rattle.cow_tree.proofs.DraftEdits.{put_told, delete_told}
use Rattle.cow_tree.proofs.drafts.Draft.edit.Goals as goal

pub returns-in_err-own_path-clause-draft : goal.returns-in_err-own_path-clause-draft
returns-in_err-own_path-clause-draft g c = λ keeps edits pairs d small.
    let slot = c.args.slot.now in
    let old = old_under slot (g.D.Device.state c.args.device.now).disk.view in
    let e = err_from_is_err_and c.from_residual.result c.from_residual.ensures.1 in
    rw (e.1, e.2) (tells_fault ⊥ (MayBeTooDeep slot (edits + 1) × (most_levels < (edit_made old slot.root.height (state_of c.args.self.tree) c.args.edit.now).height)) c.in_err-own_path.field-0.0 _ _ (λ h. absurd h) (c.in_err-own_path.ensures.draft keeps edits pairs d.draft_is))

pub returns-in-Some-clause-draft : goal.returns-in-Some-clause-draft
returns-in-Some-clause-draft g c = λ keeps edits pairs d small.
    let view = (g.D.Device.state c.args.device.now).disk.view in
    let drafted = c.in_ok-own_path.ensures.draft keeps edits pairs d.draft_is in
    let path = c.in_ok-own_path.ensures.path keeps edits pairs d.draft_is in
    let slot = c.args.slot.now in
    put_told c.args.slot.now view edits pairs c.own_path.new.ledger (state_of c.own_path.new.tree) c.args.self.keys c.args.edit.now c.as_slice-key.result.now drafted c.in_ok-own_path.ensures.owned d.map d.keys c.requires.sizes c.as_slice-key.ensures c.as_slice.result.now
    c.in-Some.value c.put.result c.in-Some.is c.as_slice.ensures small c.put.ensures.tree c.put.ensures.keys c.put.ensures.low c.put.ensures.fault _
    (put_is (old_under slot view) slot.root.height (state_of c.args.self.tree) (state_of c.own_path.new.tree) c.args.edit.now c.as_slice-key.result.now c.as_slice-key.ensures path c.in_ok-own_path.ensures.owned c.as_slice.result.now c.in-Some.value c.in-Some.is c.as_slice.ensures)

pub returns-in-None-clause-draft : goal.returns-in-None-clause-draft
returns-in-None-clause-draft g c = λ keeps edits pairs d small.
    let view = (g.D.Device.state c.args.device.now).disk.view in
    let drafted = c.in_ok-own_path.ensures.draft keeps edits pairs d.draft_is in
    delete_told c.args.slot.now view edits pairs c.own_path.new.ledger (state_of c.own_path.new.tree) c.args.self.keys c.args.edit.now c.as_slice-key.result.now drafted c.in_ok-own_path.ensures.owned d.map d.keys c.requires.sizes c.as_slice-key.ensures c.delete.result c.in-None.is c.delete.ensures.tree c.delete.ensures.keys

pub returns-in-Some-clause-made : goal.returns-in-Some-clause-made
returns-in-Some-clause-made g c = λ keeps edits pairs d.
    let slot = c.args.slot.now in
    let old = old_under slot (g.D.Device.state c.args.device.now).disk.view in
    let path = c.in_ok-own_path.ensures.path keeps edits pairs d.draft_is in
    put_made old slot.root.height (state_of c.args.self.tree) (state_of c.own_path.new.tree) c.args.edit.now c.as_slice-key.result.now c.as_slice-key.ensures path c.in_ok-own_path.ensures.owned c.as_slice.result.now c.in-Some.value c.put.result c.in-Some.is c.as_slice.ensures c.put.ensures.tree

pub returns-in-None-clause-made : goal.returns-in-None-clause-made
returns-in-None-clause-made g c = λ keeps edits pairs d.
    let slot = c.args.slot.now in
    let old = old_under slot (g.D.Device.state c.args.device.now).disk.view in
    let path = c.in_ok-own_path.ensures.path keeps edits pairs d.draft_is in
    delete_made old slot.root.height (state_of c.args.self.tree) (state_of c.own_path.new.tree) c.args.edit.now c.as_slice-key.result.now c.as_slice-key.ensures path c.in_ok-own_path.ensures.owned c.delete.result c.in-None.is c.delete.ensures.tree
