use Rattle.std.proofs.Common.{List, subst}
use Rattle.page_store.specs.Pages.{Pair}
use Rattle.page_store.specs.declared.banner.Banner.{Banner}
use Rattle.site_store.specs.Opening.{IsSitePairsFault}
use Rattle.site_store.proofs.SitesRead.{pairs_fault}
use Rattle.site_store.proofs.opening.site_of.Goals as goal

pub returns-in-Err-clause-fault : goal.returns-in-Err-clause-fault
returns-in-Err-clause-fault c =
    let read = c.loop-pair.read in
    let after = c.put_named.new.from in
    subst (λ (r : List Pair × Banner). IsSitePairsFault r.0 r.1 c.in-Err.fault) c.loop-pair.invariant.same (pairs_fault read.0 after.0 read.1 after.1 c.in-Err.fault c.in-Err.ensures.named.fault)
