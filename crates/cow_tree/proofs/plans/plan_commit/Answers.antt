use Rattle.std.proofs.Common.{ap, sym, subst, refl, length, ◌∙◌, arith}
use Rattle.page_store.specs.Batch.{updated}
use Rattle.tree_nodes.specs.OwnedTrees.{state_of}
use Rattle.page_alloc.specs.LedgerState.{LedgerState}
use Rattle.cow_tree.specs.Drafts.{MayBeTooDeep, OnlyMarks}
use Rattle.cow_tree.specs.Needs.{GetsTooDeep}
use Rattle.cow_tree.proofs.PathReads.{marks_again}
use Rattle.cow_tree.proofs.Taken.{abandoned_again}
use Rattle.cow_tree.proofs.PlansMade.{needs_pages, held_still, few_nodes, free_few, room_fault, room_reads, room_told}
use Rattle.cow_tree.proofs.plans.plan_commit.Goals as goal

pub returns-in-Err-clause-ledger : goal.returns-in-Err-clause-ledger
returns-in-Err-clause-ledger g c =
    let stays = c.abandon.ensures ∙ abandoned_again c.args.ledger.now c.draft_batch.new.ledger c.draft_batch.ensures.reads.ledger.marks c.requires.may.fitted.rest.unmarked in
    record {
      marks = subst (λ (l : LedgerState). OnlyMarks c.args.ledger.now l) (sym stays) (record { lives = refl; size = refl; generation = refl; pins = refl });
      refused = stays;
    }

pub returns-in-Ok-plan_draft-clause-made : goal.returns-in-Ok-plan_draft-clause-made
returns-in-Ok-plan_draft-clause-made g c = record {
  made = c.in-Ok-plan_draft.ensures.made.made;
  room = let room = c.in-Ok-plan_draft.ensures.made.room in let free = c.draft_batch.ensures.reads.ledger.free in omega (arith, room, free);
}

pub returns-clause-planned : goal.returns-clause-planned
returns-clause-planned g c = λ keeps top pairs held first seal version.
    let view = (g.D.Device.state c.args.device.now).disk.view in
    let slot = c.args.slot.now in
    let batch = c.args.batch.now in
    let few = first.few in
    let counted = c.in-Ok.ensures.draft keeps pairs first.draft first.keys first.map (omega (arith, few)) in
    let answered = c.in-Err-plan_draft.ensures.planned view top (length batch) (updated pairs batch) (held_still view slot top c.args.ledger.now c.draft_batch.new.ledger c.draft_batch.ensures.reads.ledger.marks held) counted seal version in
    room_told (MayBeTooDeep slot (length batch) × GetsTooDeep slot view batch) c.in-Err-plan_draft.fault _ _ _ _ c.in-Err-plan_draft.ensures.fault answered

pub returns-clause-ledger : goal.returns-clause-ledger
returns-clause-ledger g c =
    let stays = c.abandon-in-Err-plan_draft.ensures ∙ abandoned_again c.args.ledger.now c.plan_draft.new.ledger (marks_again c.args.ledger.now c.draft_batch.new.ledger c.plan_draft.new.ledger c.draft_batch.ensures.reads.ledger.marks c.plan_draft.ensures.marks) c.requires.may.fitted.rest.unmarked in
    record {
      marks = subst (λ (l : LedgerState). OnlyMarks c.args.ledger.now l) (sym stays) (record { lives = refl; size = refl; generation = refl; pins = refl });
      refused = stays;
    }

pub returns-clause-fault : goal.returns-clause-fault
returns-clause-fault g c =
    let slot = c.args.slot.now in
    let batch = c.args.batch.now in
    room_fault c.in-Err-plan_draft.fault _ _ _ _ c.draft_batch.ensures.reads.ledger.free
    (λ need is keeps pairs first.
    let view = (g.D.Device.state c.args.device.now).disk.view in
    let few = first.few in
    let counted = c.in-Ok.ensures.draft keeps pairs first.draft first.keys first.map (omega (arith, few)) in
    let most = few_nodes slot view (length batch) (updated pairs batch) c.draft_batch.new.ledger (state_of c.in-Ok.draft.tree) counted.draft_is in
    let made = c.in-Ok.ensures.made keeps pairs first.draft first.keys first.map (omega (arith, few)) in
    needs_pages slot view batch (state_of c.in-Ok.draft.tree) need made.0 is most made.1)
    c.in-Err-plan_draft.ensures.fault

pub returns-clause-reads : goal.returns-clause-reads
returns-clause-reads g c = record {
  device = c.draft_batch.ensures.reads.counted.device;
  reads = room_reads c.in-Err-plan_draft.fault _ _ _ _ c.in-Err-plan_draft.ensures.fault c.in-Ok.ensures.reads.counted.reads;
}

pub returns-in-Ok-plan_draft-clause-planned : goal.returns-in-Ok-plan_draft-clause-planned
returns-in-Ok-plan_draft-clause-planned g c = λ keeps top pairs held first seal version.
    let view = (g.D.Device.state c.args.device.now).disk.view in
    let slot = c.args.slot.now in
    let batch = c.args.batch.now in
    let few = first.few in
    let counted = c.in-Ok.ensures.draft keeps pairs first.draft first.keys first.map (omega (arith, few)) in
    let made = c.in-Ok.ensures.made keeps pairs first.draft first.keys first.map (omega (arith, few)) in
    let tree = state_of c.in-Ok.draft.tree in
    let used = c.in-Ok-plan_draft.ensures.made.used in
    let room = c.in-Ok-plan_draft.ensures.made.room in
    let most = few_nodes slot view (length batch) (updated pairs batch) c.draft_batch.new.ledger tree counted.draft_is in
    let bound = free_few c.draft_batch.new.ledger in
    let lives = ap length c.draft_batch.ensures.reads.ledger.marks.lives ∙ c.requires.may.fitted.rest.pages in
    let small = c.requires.may.fitted.most in (
      c.in-Ok-plan_draft.ensures.planned view top (length batch) (updated pairs batch) (held_still view slot top c.args.ledger.now c.draft_batch.new.ledger c.draft_batch.ensures.reads.ledger.marks held) counted seal version,
      needs_pages slot view batch tree _ made.0 (omega (arith, used, room, bound, lives, small)) most made.1,
    )
