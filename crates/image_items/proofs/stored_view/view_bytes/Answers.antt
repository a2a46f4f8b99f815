use Rattle.std.proofs.Common.{◌≡◌, List, ℕ, ◌++◌, length, ap, ◌∙◌, rules}
use Rattle.std.proofs.lemmas.List.{take_at}
use Rattle.host_types.specs.Card.{viewed_at}
use Rattle.image_items.proofs.Looked.{drawn_size, whole_drawn, looked_pinned, read_fault}
use Rattle.image_items.proofs.stored_view.view_bytes.Goals as goal

pub returns-in-Err-clause-fault : goal.returns-in-Err-clause-fault
returns-in-Err-clause-fault g c = λ sized.
    let state = g.S.SiteKeeper.site_state in
    let pin = g.S.SiteKeeper.pinned c.in-Ok.pin in
    let before = state c.args.site.now in
    let pinned = state c.pin_site.new.self in
    let same : c.new-draw.result.source.selector ≡ c.args.selector.now = search rules in
    read_fault before pinned (state c.draw-drawn.new.site) (state c.unpin_site.new.self) pin c.in-Err.fault c.in-Ok.ensures.pinned c.unpin_site.ensures.unpinned
    (c.in-Err.ensures.reads.fault (λ honest. (c.new-draw.ensures.of _ (drawn_size before pinned pin c.new-draw.result c.args.selector.now c.args.view c.args.size c.in-Ok.ensures.pinned same c.new-draw.ensures.view sized honest)).size))

pub returns-in-Ok-drawn-clause-looked : goal.returns-in-Ok-drawn-clause-looked
returns-in-Ok-drawn-clause-looked g c =
    let state = g.S.SiteKeeper.site_state in
    looked_pinned (state c.args.site.now) (state c.pin_site.new.self) (state c.draw-drawn.new.site) (state c.unpin_site.new.self) (g.S.SiteKeeper.pinned c.in-Ok.pin) c.in-Ok.ensures.pinned c.draw-drawn.ensures.reads.only.kept c.unpin_site.ensures.unpinned

pub returns-in-Err-clause-looked : goal.returns-in-Err-clause-looked
returns-in-Err-clause-looked g c =
    let state = g.S.SiteKeeper.site_state in
    looked_pinned (state c.args.site.now) (state c.pin_site.new.self) (state c.draw-drawn.new.site) (state c.unpin_site.new.self) (g.S.SiteKeeper.pinned c.in-Ok.pin) c.in-Ok.ensures.pinned c.draw-drawn.ensures.reads.only.kept c.unpin_site.ensures.unpinned

pub returns-in-Ok-drawn-clause-bytes : goal.returns-in-Ok-drawn-clause-bytes
returns-in-Ok-drawn-clause-bytes g c = λ honest sized.
    let state = g.S.SiteKeeper.site_state in
    let pin = g.S.SiteKeeper.pinned c.in-Ok.pin in
    let out = c.draw-drawn.new.out in
    let same : c.new-draw.result.source.selector ≡ c.args.selector.now = search rules in
    let room : length c.deref_mut.result.now ≡ c.args.size = search rules in
    let long : length out ≡ c.in_ok-bytes.bytes.len = search rules in
    let all : out ≡ viewed_at (state c.args.site.now).site c.args.selector.now c.args.view =
    whole_drawn (state c.args.site.now) (state c.pin_site.new.self) pin c.new-draw.result c.draw-drawn.new.self c.args.selector.now c.args.view c.args.size c.in-Ok-drawn.field-0 c.deref_mut.result.now out
    c.in-Ok.ensures.pinned same c.new-draw.ensures.view honest sized (λ body. c.new-draw.ensures.rest body ∙ ap (λ (h : List ℕ). h ++ body) c.new-head.ensures) c.new-draw.ensures.of c.in-Ok-drawn.ensures.draws room (c.draw-drawn.ensures.length ∙ room) c.in-Ok-drawn.ensures.within in
    take_at out _ c.in_ok-bytes.bytes.len long ∙ all
