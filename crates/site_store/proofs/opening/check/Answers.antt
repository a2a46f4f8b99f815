use Rattle.std.proofs.Common.{List, length, ap, ◌∙◌}
use Rattle.page_store.specs.Pages.{Pair}
use Rattle.site_store.proofs.AfterReads.{begins, on_any}
use Rattle.site_store.proofs.SitesRead.{site_answered, site_refused, read_whole}
use Rattle.site_store.proofs.opening.check.Goals as goal

pub returns-clause-kept : goal.returns-clause-kept
returns-clause-kept g c =
    let store_state = g.K.Keeper.store_state in
    let first = c.in_ok-pairs.ensures.pairs in
    let h = store_state c.args.keeper.now in
    let k = store_state c.pairs_of.new.keeper in
    let pairs = c.deref.result.now in
    let banner = c.banner.result.now in
    let answer = c.check_pairs.result in
    begins first (record {
      gives = λ honest. site_answered answer h k pairs banner first.reads.only.read c.banner.ensures (c.deref.ensures.value ∙ first.reads.gives honest) c.check_pairs.ensures.site;
      only = first.reads.only;
      none = on_any answer first.reads.none;
      fault = site_refused answer h k pairs banner first.reads.only.read first.reads.none c.banner.ensures (λ honest. c.deref.ensures.value ∙ first.reads.gives honest) c.check_pairs.ensures.fault;
    })

pub returns-clause-whole : goal.returns-clause-whole
returns-clause-whole g c =
    let store_state = g.K.Keeper.store_state in
    let first = c.in_ok-pairs.ensures in
    read_whole c.check_pairs.result (store_state c.args.keeper.now) c.deref.result.now c.banner.result.now (c.banner.ensures ∙ first.pairs.reads.only.read.same.banner)
    (ap (λ (l : List Pair). length l) c.deref.ensures.value ∙ first.counted) c.check_pairs.ensures.site

pub returns-clause-work : goal.returns-clause-work
returns-clause-work g c = on_any c.check_pairs.result c.in_ok-pairs.ensures.work
