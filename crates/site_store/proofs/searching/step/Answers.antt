use Rattle.std.proofs.Common.{◌≤◌, ◌<◌, length, refl, sym, ◌∙◌, arith}
use Rattle.site_store.specs.ReadLaws.{kept_after, none_later, not_yet}
use Rattle.site_store.proofs.AfterReads.{done, fails, read_on}
use Rattle.site_store.proofs.FoundItems.{kept_sorted}
use Rattle.site_store.proofs.LocalReads.{fault_later}
use Rattle.site_store.proofs.Searches.{stops_full, stops_last, next_item, goes_further}
use Rattle.site_store.proofs.searching.step.Goals as goal

pub returns-then-len-ge-MOST_FOUND-clause-further : goal.returns-then-len-ge-MOST_FOUND-clause-further
returns-then-len-ge-MOST_FOUND-clause-further g c =
    let long = c.len.ensures in
    let full = c.if-len-ge-MOST_FOUND.true in
    let many : 100 ≤ length c.args.found.now.items = omega (arith, long, full) in
    done (not_yet g.K.Keeper.store_state g.K.Keeper.may_need g.K.Keeper.crash_states c.args.keeper.now) refl (λ honest s known.
    stops_full c.args.now s c.args.keys.now.scope.now c.args.keys.now.word.now c.args.asked.now c.args.found.now.items known.1.selector known.1.left many)

pub returns-in-Ok-None-clause-further : goal.returns-in-Ok-None-clause-further
returns-in-Ok-None-clause-further g c =
    let next = c.in-Ok-None.ensures.next.reads in
    done next.only next.none (λ honest s known.
    stops_last c.args.now s c.args.keys.now.scope.now c.args.keys.now.word.now c.args.asked.now c.args.found.now.items known.1.selector known.1.left (sym c.in-Ok-None.field-0-is ∙ next.gives honest s known.0 known.1.selector known.1.key_is known.1.left.within))

pub returns-in-Ok-clause-further : goal.returns-in-Ok-clause-further
returns-in-Ok-clause-further g c =
    let store_state = g.K.Keeper.store_state in
    let next = c.in-Ok-Some.ensures.next.reads in
    let look = c.in-Ok.ensures.found in
    let scope = c.args.keys.now.scope.now in
    let word = c.args.keys.now.word.now in
    let long = c.len.ensures in
    let few = c.if-len-ge-MOST_FOUND.false in
    let room : length c.args.found.now.items < 100 = omega (arith, long, few) in
    done (read_on next.only look.only) (none_later (store_state c.args.keeper.now) (store_state c.next_with.new.keeper) (store_state c.look_in.new.keeper) next.none look.none) (λ honest s known.
    let sorted = kept_sorted s known.0.valid in
    let item = next_item s scope word known.1.selector c.in-Ok-Some.next sorted (sym c.in-Ok-Some.field-0-is ∙ next.gives honest s known.0 known.1.selector known.1.key_is known.1.left.within) in
    let after = kept_after (store_state c.args.keeper.now) (store_state c.next_with.new.keeper) s next.only.read honest known.0 in
    record {
      selector = c.in-Ok-Some.next;
      key_is = c.at.ensures;
      left =
          goes_further c.args.now s scope word c.args.asked.now c.args.found.now.items c.look_in.new.found.items known.1.selector c.in-Ok-Some.next sorted c.requires.asked room known.1.left item
          (look.gives (next.only.read.honest ∙ honest) item.item ((s, after, item.stands), item.has));
    })

pub returns-in-Err-look_in-clause-further : goal.returns-in-Err-look_in-clause-further
returns-in-Err-look_in-clause-further g c =
    let store_state = g.K.Keeper.store_state in
    let next = c.in-Ok-Some.ensures.next.reads in
    let look = c.in-Err-look_in.ensures.found in
    fails (read_on next.only look.only) (fault_later (store_state c.args.keeper.now) (store_state c.next_with.new.keeper) (store_state c.look_in.new.keeper) c.in-Err-look_in.fault next.only.read next.none (λ honest known.
    let s = known.0 in
    let behind = known.1.1 in
    let item = next_item s c.args.keys.now.scope.now c.args.keys.now.word.now behind.selector c.in-Ok-Some.next (kept_sorted s known.1.0.valid) (sym c.in-Ok-Some.field-0-is ∙ next.gives honest s known.1.0 behind.selector behind.key_is behind.left.within) in
    let after = kept_after (store_state c.args.keeper.now) (store_state c.next_with.new.keeper) s next.only.read honest known.1.0 in
    (item.item, ((s, after, item.stands), item.has))) look.fault)
