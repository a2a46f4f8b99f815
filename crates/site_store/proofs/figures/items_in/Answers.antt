use Rattle.std.proofs.Common.{◌≡◌, Some, None, refl, sym, ◌∙◌}
use Rattle.site_store.specs.ReadLaws.{kept_after, none_later, not_yet}
use Rattle.site_store.specs.Walking.{selector_after}
use Rattle.site_store.proofs.AfterReads.{done, read_on}
use Rattle.site_store.proofs.ItemCounts.{first_counted, next_counted, last_counted}
use Rattle.page_store.specs.Work.{no_pages, pages_tried}
use Rattle.site_store.proofs.PagesSearched.{one_search_more, searched_behind}
use Rattle.site_store.proofs.figures.items_in.Goals as goal

pub loop-counted-init : goal.loop-counted-init
loop-counted-init g c =
    let keeper = c.args.keeper.now in
    record {
      only = not_yet g.K.Keeper.store_state g.K.Keeper.may_need g.K.Keeper.crash_states keeper;
      work = no_pages refl _;
      none = refl;
      counted = λ honest s kept. first_counted s 1 c.root-selector.result kept.valid refl c.root-selector.ensures;
    }

pub loop-counted-preserved : goal.loop-counted-preserved
loop-counted-preserved g c =
    let store_state = g.K.Keeper.store_state in
    let so_far = c.loop-counted.invariant in
    let next = c.in-Ok-Some.ensures.next.reads in
    record {
      only = read_on so_far.only next.only;
      work = one_search_more c.loop-counted.counted (pages_tried (store_state c.args.keeper.now).height) so_far.work (searched_behind (store_state c.args.keeper.now) (store_state c.loop-counted.keeper) so_far.only.read c.selector_after.ensures.work);
      none = none_later (store_state c.args.keeper.now) (store_state c.loop-counted.keeper) (store_state c.selector_after.new.keeper) so_far.none next.none;
      counted = λ honest s kept.
          let some : Some c.in-Ok-Some.next ≡ selector_after s c.loop-counted.selector = sym c.in-Ok-Some.field-0-is ∙ next.gives (so_far.only.read.honest ∙ honest) s (kept_after (store_state c.args.keeper.now) (store_state c.loop-counted.keeper) s so_far.only.read honest kept) in
          next_counted s c.loop-counted.counted c.loop-counted.selector c.in-Ok-Some.next kept.valid (so_far.counted honest s kept) some;
    }

pub returns-in-Ok-None : goal.returns-in-Ok-None
returns-in-Ok-None g c =
    let store_state = g.K.Keeper.store_state in
    let so_far = c.loop-counted.invariant in
    let next = c.in-Ok-None.ensures.next.reads in
    record {
      items = done (read_on so_far.only next.only) (none_later (store_state c.args.keeper.now) (store_state c.loop-counted.keeper) (store_state c.selector_after.new.keeper) so_far.none next.none) (λ honest s kept.
          let none : None ≡ selector_after s c.loop-counted.selector = sym c.in-Ok-None.field-0-is ∙ next.gives (so_far.only.read.honest ∙ honest) s (kept_after (store_state c.args.keeper.now) (store_state c.loop-counted.keeper) s so_far.only.read honest kept) in
          last_counted s c.loop-counted.counted c.loop-counted.selector (so_far.counted honest s kept) none);
      work = one_search_more c.loop-counted.counted (pages_tried (store_state c.args.keeper.now).height) so_far.work (searched_behind (store_state c.args.keeper.now) (store_state c.loop-counted.keeper) so_far.only.read c.selector_after.ensures.work);
      calls = (read_on so_far.only next.only).read.same.calls;
    }
