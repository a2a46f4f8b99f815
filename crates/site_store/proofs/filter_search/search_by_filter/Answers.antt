use Rattle.std.proofs.Common.{ap, ◌∙◌}
use Rattle.site_store.specs.FilterSearch.{all_found}
use Rattle.site_store.proofs.AfterReads.{hands_on}
use Rattle.site_store.proofs.FilterSearches.{all_searched}
use Rattle.site_store.proofs.filter_search.search_by_filter.Goals as goal

pub returns : goal.returns
returns g c = record {
  found = hands_on c.args.keeper.now c.search_in.new.keeper c.search_in.result c.search_in.ensures.found
      (λ honest found is s kept. is s kept ∙ ap (all_found c.args.now s c.args.scope.now) c.in_ok-asked.ensures ∙ all_searched c.args.now s c.args.scope.now c.args.query.now kept.valid) (λ fault h. h);
}
