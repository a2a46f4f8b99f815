use Rattle.std.proofs.Common.{subst, length, refl, sym, ap, ◌∙◌, arith}
use Rattle.std.specs.Prelude.{IsTrue}
use Rattle.page_store.specs.Content.{is_tree_version}
use Rattle.std.proofs.lemmas.Result.{IfOk-weaker, IfErr-weaker}
use Rattle.page_store.specs.declared.banner.Banner.{Banner}
use Rattle.tree_nodes.specs.Growth.{owned_under}
use Rattle.tree_nodes.specs.Steps.{RootState}
use Rattle.tree_loading.proofs.RootsMade.{filled_height}
use Rattle.cow_tree.specs.Plans.{levels_of, IsMade}
use Rattle.cow_tree.proofs.PlansMade.{held_still}
use Rattle.cow_tree.proofs.AllRetired.{edits_for, filled_counted, filled_bounded, filled_levels, told_again, room_fault_again}
use Rattle.cow_tree.proofs.compaction.plan_pairs.Goals as goal

pub plan_draft-requires-clause-low : goal.plan_draft-requires-clause-low
plan_draft-requires-clause-low c =
    let low = filled_height c.args.pairs.items c.requires.pairs.map c.requires.pairs.few in
    let tall = ap (λ (s : RootState). s.height) c.in_ok-tree.ensures in
    omega (arith, low, tall)

pub returns-clause-made : goal.returns-clause-made
returns-clause-made c =
    let pairs = c.args.pairs.items in
    let slot = c.args.slot.now in
    let free = c.retire_all.ensures.only.free in
    let keys = c.len-keys.ensures in
    let owned = ap (λ (s : RootState). owned_under s.root) c.in_ok-tree.ensures in
    let tall = ap (λ (s : RootState). levels_of s) c.in_ok-tree.ensures in
    let same = filled_bounded pairs _ c.requires.pairs.map c.requires.pairs.few refl in
    IfOk-weaker c.plan_draft.result _ _ (λ plan p. record {
      made = subst (λ (b : Banner). IsMade slot c.args.seal b plan) c.in_ok-banner.ensures.cases p.made;
      fits = let enough = p.enough in omega (arith, enough, same, owned, free);
      room = let room = p.room in omega (arith, room, free);
      count = p.used ∙ owned;
      levels = p.levels ∙ tall ∙ filled_levels pairs c.requires.pairs.map;
      keys = let k = p.keys in omega (arith, k, keys);
    }) c.plan_draft.ensures.made

pub returns-clause-planned : goal.returns-clause-planned
returns-clause-planned c = λ view top held untaken seal.
    let slot = c.args.slot.now in
    let pairs = c.args.pairs.items in
    let edits = edits_for slot.root.height pairs in
    let ledger = c.retire_all.new.ledger in
    let only = c.retire_all.ensures.only in
    let counted = filled_counted slot view pairs ledger _ c.requires.pairs.map c.requires.pairs.few (only.marks.size ∙ c.requires.ledger.marked) c.retire_all.ensures.none (c.retire_all.ensures.untaken untaken) c.in_ok-tree.ensures (let size = c.len-keys.ensures in omega (arith, size, c.args.pairs.ok)) in
    let version = subst (λ (b : Banner). IsTrue (is_tree_version b.version)) (sym c.in_ok-banner.ensures.cases) c.requires.ledger.fitted.version in
    told_again c.plan_draft.result _ _ _ c.plan_draft.ensures.fault (c.plan_draft.ensures.planned view top edits pairs (held_still view slot top c.args.ledger.now ledger only.marks held) counted seal version)

pub returns-clause-fault : goal.returns-clause-fault
returns-clause-fault c =
    let pairs = c.args.pairs.items in
    let tree = ap (λ (s : RootState). owned_under s.root) c.in_ok-tree.ensures in
    IfErr-weaker c.plan_draft.result _ _ (λ e fault. room_fault_again e _ _ _ _ c.retire_all.ensures.only.free (λ need is. filled_bounded pairs need c.requires.pairs.map c.requires.pairs.few (let t = tree in omega (arith, is, t))) fault) c.plan_draft.ensures.fault

pub returns-clause-none : goal.returns-clause-none
returns-clause-none c = λ n.
    let marks = c.retire_all.ensures.only.marks in
    let fit = marks.size ∙ c.requires.ledger.marked ∙ sym c.requires.ledger.lives ∙ sym (ap length marks.lives) in
    IfOk-weaker c.plan_draft.result _ _ (λ plan alive. alive ∙ c.retire_all.ensures.none n) (c.plan_draft.ensures.alive n fit)
