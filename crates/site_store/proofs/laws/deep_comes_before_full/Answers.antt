use Rattle.page_store.specs.StoreState.{SoManyPages, TooManyLevels}
use Rattle.site_store.proofs.OneBatch.{one_changes_need}
use Rattle.site_store.proofs.laws.deep_comes_before_full.Goals as goal

pub returns : goal.returns
returns g c = λ changes need free honest full deep.
    let k = c.args.site.now.keeper in
    let same = one_changes_need g.K.Keeper.may_need k _ changes (λ batch a b first second. g.met.K.Keeper.one_need k batch a b honest first second) (SoManyPages need) TooManyLevels full deep.1 in
    cc same
