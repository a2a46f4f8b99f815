use Rattle.std.proofs.Common.{sym, ◌∙◌}
use Rattle.change_plan.proofs.Planning.{short_put, fit_alone, fault_comes, unless_failed}
use Rattle.change_plan.proofs.plan_put.plan_put.Goals as goal

pub returns-clause-fit : goal.returns-clause-fit
returns-clause-fit g c =
    let short = short_put c.args.selector c.board_in-board.result c.args.item c.put_over.result c.args.now c.put_over.ensures (sym c.is_long.ensures ∙ c.if-is_long.false) in
    fit_alone g.L.ItemLookup.fits c.in_ok-one_alone.field-0.items _ c.in_ok-one_alone.ensures (c.in-Ok.ensures.fits, g.met.L.ItemLookup.short_fits c.args.selector c.put_over.result short)

pub returns-in-Err-has_posts-clause-reads_only : goal.returns-in-Err-has_posts-clause-reads_only
returns-in-Err-has_posts-clause-reads_only g c =
    unless_failed _ g.L.ItemLookup.failed c.item.new.self c.has_posts.new.lookup c.in-Err-has_posts.fault (λ r h. g.met.L.ItemLookup.never_refused c.item.new.self c.has_posts.new.lookup r h) c.in-Err-has_posts.ensures.there.failed

pub returns-in-Err-has_posts-clause-fault : goal.returns-in-Err-has_posts-clause-fault
returns-in-Err-has_posts-clause-fault g c =
    let new = c.has_posts.new.lookup in
    fault_comes g.L.ItemLookup.shows g.L.ItemLookup.failed c.args.lookup.now new _ c.in-Err-has_posts.fault (λ r h. g.met.L.ItemLookup.never_refused c.args.lookup.now new r h)
    (g.met.L.ItemLookup.failed_later c.args.lookup.now c.item.new.self new c.in-Err-has_posts.fault c.in-Ok.ensures.reads_only c.in-Err-has_posts.ensures.there.failed)
