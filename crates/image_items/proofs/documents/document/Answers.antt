use Rattle.std.proofs.Common.{true}
use Rattle.std.specs.Option.{option_copied}
use Rattle.host_types.specs.SiteState.{IsReadFault}
use Rattle.image_items.proofs.Found.{found, is_sized, since_read, the_fault}
use Rattle.image_items.proofs.documents.document.Goals as goal

pub returns-in_err-bytes-clause-fault : goal.returns-in_err-bytes-clause-fault
returns-in_err-bytes-clause-fault g c =
    let state = g.S.SiteKeeper.site_state in
    let before = state c.args.site.now in
    let read = state c.card.new.self in
    let sized = is_sized before read c.args.selector.now c.in_ok-card.field-0 c.in-Some.card c.in-Ok.chosen.0 c.in-Ok.chosen.1 c.in_ok-card.ensures.kept c.in_ok-card.ensures.card c.in-Some.is c.in-Ok.ensures.size in
    the_fault (IsReadFault true before (state c.view_bytes.new.site)) c.from_residual-in_err-bytes.result c.in_err-bytes.field-0.0 c.from_residual-in_err-bytes.ensures.1 (since_read before read (state c.view_bytes.new.site) c.in_err-bytes.field-0.0 c.in_ok-card.ensures.kept c.in_ok-card.ensures.reads (c.in_err-bytes.ensures.fault sized))

pub returns-clause-found : goal.returns-clause-found
returns-clause-found g c = λ honest.
    let state = g.S.SiteKeeper.site_state in
    found (state c.args.site.now) (state c.card.new.self) c.args.selector.now c.in_ok-card.field-0 c.in-Some.card c.in-Ok.chosen.0 c.in-Ok.chosen.1 c.in_ok-card.ensures.kept c.in_ok-card.ensures.card c.in-Some.is c.in-Ok.ensures.size (option_copied c.args.view) c.in_ok-bytes.bytes.items honest c.in-Ok.ensures.place c.in_ok-bytes.ensures.bytes
