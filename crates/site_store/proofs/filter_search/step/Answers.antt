use Rattle.std.proofs.Common.{◌≡◌, ◌≤◌, List, Some, None, length, sym, subst, ◌∙◌}
use Rattle.word_search.specs.declared.find.Find.{Find}
use Rattle.site_store.specs.ReadLaws.{kept_after, none_later}
use Rattle.site_store.specs.Walking.{selector_after}
use Rattle.site_store.proofs.AfterReads.{done, read_on}
use Rattle.site_store.proofs.FilterSearches.{stops_full, stops_last, goes_further}
use Rattle.site_store.proofs.filter_search.step.Goals as goal

pub returns-then-as_slice-ge-MOST_FOUND : goal.returns-then-as_slice-ge-MOST_FOUND
returns-then-as_slice-ge-MOST_FOUND g c =
    let look = c.in-Ok.ensures.found in
    let many : 100 ≤ length c.look_in.new.found = subst (λ (l : List Find). 100 ≤ length l) c.as_slice.ensures c.if-as_slice-ge-MOST_FOUND.true in
    record {
      further = done look.only look.none (λ honest s known.
          let left = known.1 in
          stops_full c.args.now s c.args.scope.now c.args.asked.now c.args.found.now c.look_in.new.found c.args.selector.now left (look.gives honest left.item (s, known.0, left.stands)) many);
    }

pub returns-in-Ok-Some : goal.returns-in-Ok-Some
returns-in-Ok-Some g c =
    let store_state = g.K.Keeper.store_state in
    let look = c.in-Ok.ensures.found in
    let next = c.in-Ok-Some.ensures.next.reads in
    record {
      further = done (read_on look.only next.only) (none_later (store_state c.args.keeper.now) (store_state c.look_in.new.keeper) (store_state c.selector_after.new.keeper) look.none next.none) (λ honest s known.
          let left = known.1 in
          let some : Some c.in-Ok-Some.next ≡ selector_after s c.args.selector.now = sym c.in-Ok-Some.field-0-is ∙ next.gives (look.only.read.honest ∙ honest) s (kept_after (store_state c.args.keeper.now) (store_state c.look_in.new.keeper) s look.only.read honest known.0) in
          goes_further c.args.now s c.args.scope.now c.args.asked.now c.args.found.now c.look_in.new.found c.args.selector.now c.in-Ok-Some.next known.0.valid left (look.gives honest left.item (s, known.0, left.stands)) some);
    }

pub returns-in-Ok-None : goal.returns-in-Ok-None
returns-in-Ok-None g c =
    let store_state = g.K.Keeper.store_state in
    let look = c.in-Ok.ensures.found in
    let next = c.in-Ok-None.ensures.next.reads in
    record {
      further = done (read_on look.only next.only) (none_later (store_state c.args.keeper.now) (store_state c.look_in.new.keeper) (store_state c.selector_after.new.keeper) look.none next.none) (λ honest s known.
          let left = known.1 in
          let none : None ≡ selector_after s c.args.selector.now = sym c.in-Ok-None.field-0-is ∙ next.gives (look.only.read.honest ∙ honest) s (kept_after (store_state c.args.keeper.now) (store_state c.look_in.new.keeper) s look.only.read honest known.0) in
          stops_last c.args.now s c.args.scope.now c.args.asked.now c.args.found.now c.look_in.new.found c.args.selector.now left (look.gives honest left.item (s, known.0, left.stands)) none);
    }
