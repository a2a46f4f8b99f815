use Rattle.std.proofs.Common.{refl}
use Rattle.site_store.specs.ReadLaws.{not_yet}
use Rattle.site_store.proofs.FilterSearches.{first_left}
use Rattle.site_store.proofs.filter_search.search_in.Goals as goal

pub loop-init : goal.loop-init
loop-init g c =
    let keeper = c.args.keeper.now in
    record {
      only = not_yet g.K.Keeper.store_state g.K.Keeper.may_need g.K.Keeper.crash_states keeper;
      none = refl;
      left = λ honest s kept. first_left c.args.now s c.args.scope.now c.args.asked.now c.new-found.result c.root-selector.result kept.valid c.new-found.ensures c.root-selector.ensures;
    }
