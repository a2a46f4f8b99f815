use Rattle.std.proofs.Common.{◌≡◌, Some, Option, refl, sym, subst, ◌∙◌}
use Rattle.std.specs.Prelude.{IfSome}
use Rattle.host_types.specs.Site.{item_at}
use Rattle.host_types.specs.Change.{moved_item}
use Rattle.host_types.specs.declared.item.Item.{Item}
use Rattle.change_plan.proofs.Moving.{move_plan}
use Rattle.change_plan.proofs.Planning.{fault_comes, unless_failed, fit_both}
use Rattle.change_plan.proofs.plan_move.plan_move.Goals as goal

pub returns-in_ok-move_of-in-Ok-false-clause-plan : goal.returns-in_ok-move_of-in-Ok-false-clause-plan
returns-in_ok-move_of-in-Ok-false-clause-plan g c = λ s shown.
    let shown1 = g.met.L.ItemLookup.shows_still c.args.lookup.now c.item.new.self s c.in-Ok-Some.ensures.reads_only shown in
    let shown2 = g.met.L.ItemLookup.shows_still c.item.new.self c.item-2.new.self s c.in-Ok.ensures.reads_only shown1 in
    let stands : Some c.in-Ok-Some.item ≡ item_at s c.args.from = sym c.in-Ok-Some.field-0-is ∙ c.in-Ok-Some.ensures.item s shown in
    let there = c.in-Ok.ensures.item s shown1 in
    move_plan s c.args.from c.args.to c.in-Ok-Some.item c.in-Ok.there c.args.now c.in_ok-move_of-in-Ok-false.field-0.items
    (sym c.is_root.ensures ∙ c.if-is_root.false) (sym c.is_reserved.ensures ∙ c.if-is_reserved.false) (sym c.is_same.ensures ∙ c.if-is_same.false) stands (sym c.is_moved.ensures ∙ c.if-is_moved.false) (sym c.is_too_long.ensures ∙ c.if-is_too_long.false)
    (sym (c.in-Ok-false.ensures.posts.gives s shown2 stands there) ∙ c.in-Ok-false.field-0-test) there c.in_ok-move_of-in-Ok-false.ensures.replacements

pub returns-in_ok-move_of-in-Ok-false-clause-fit : goal.returns-in_ok-move_of-in-Ok-false-clause-fit
returns-in_ok-move_of-in-Ok-false-clause-fit g c =
    let fits = g.L.ItemLookup.fits in
    let found : fits c.in-Ok-Some.item = subst (λ (o : Option Item). IfSome o fits) c.in-Ok-Some.field-0-is c.in-Ok-Some.ensures.fits in
    let note : fits (moved_item c.in-Ok-Some.item c.args.to c.args.now) = g.met.L.ItemLookup.short_fits c.args.from (moved_item c.in-Ok-Some.item c.args.to c.args.now) refl in
    fit_both fits c.in_ok-move_of-in-Ok-false.field-0.items _ _ c.in_ok-move_of-in-Ok-false.ensures.replacements (c.in-Ok.ensures.fits, found) (found, note)

pub returns-in_ok-move_of-in-Ok-false-clause-reads_only : goal.returns-in_ok-move_of-in-Ok-false-clause-reads_only
returns-in_ok-move_of-in-Ok-false-clause-reads_only g c =
    let again = g.met.L.ItemLookup.reads_again in
    again c.args.lookup.now c.item.new.self c.have_posts.new.lookup c.in-Ok-Some.ensures.reads_only (again c.item.new.self c.item-2.new.self c.have_posts.new.lookup c.in-Ok.ensures.reads_only c.in-Ok-false.ensures.posts.reads_only)

pub returns-in-Err-have_posts-clause-reads_only : goal.returns-in-Err-have_posts-clause-reads_only
returns-in-Err-have_posts-clause-reads_only g c =
    unless_failed _ g.L.ItemLookup.failed c.item-2.new.self c.have_posts.new.lookup c.in-Err-have_posts.fault (λ r h. g.met.L.ItemLookup.never_refused c.item-2.new.self c.have_posts.new.lookup r h) c.in-Err-have_posts.ensures.posts.failed

pub returns-in-Err-have_posts-clause-fault : goal.returns-in-Err-have_posts-clause-fault
returns-in-Err-have_posts-clause-fault g c =
    let later = g.met.L.ItemLookup.failed_later in
    let new = c.have_posts.new.lookup in
    fault_comes g.L.ItemLookup.shows g.L.ItemLookup.failed c.args.lookup.now new _ c.in-Err-have_posts.fault (λ r h. g.met.L.ItemLookup.never_refused c.args.lookup.now new r h)
    (later c.args.lookup.now c.item.new.self new c.in-Err-have_posts.fault c.in-Ok-Some.ensures.reads_only (later c.item.new.self c.item-2.new.self new c.in-Err-have_posts.fault c.in-Ok.ensures.reads_only c.in-Err-have_posts.ensures.posts.failed))
