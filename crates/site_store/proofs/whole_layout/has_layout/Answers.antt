use Rattle.std.proofs.Common.{rules, length, map, sym, ap, subst, ◌∙◌}
use Rattle.std.specs.Prelude.{IfOk, Decides}
use Rattle.host_types.specs.Site.{IsSite}
use Rattle.site_store.specs.Opening.{AreCounted, ItemsAreShort}
use Rattle.site_store.proofs.LayoutsCounted.{answered}
use Rattle.site_store.proofs.ShortSites.{valid_short}
use Rattle.site_store.proofs.whole_layout.has_layout.Goals as goal

pub are_counted-requires : goal.are_counted-requires
are_counted-requires c =
    let items = ap (map (λ e. (e.0.now, e.1.now))) c.deref.ensures.value ∙ c.in_ok-items.ensures in
    let valid : IsSite c.args.site.now = search rules in
    record { short = subst ItemsAreShort (sym items) (valid_short c.args.site.now valid) }

pub returns : goal.returns
returns c =
    let pairs = c.args.read.now.0 in
    let items = ap (map (λ e. (e.0.now, e.1.now))) c.deref.ensures.value ∙ c.in_ok-items.ensures in
    let counted = subst (λ es. IfOk c.are_counted.result (λ b. Decides b (AreCounted pairs (length pairs) es))) items c.are_counted.ensures in
    let valid : IsSite c.args.site.now = search rules in
    answered c.are_counted.result pairs c.args.site.now valid c.pairs.ensures.rise counted
