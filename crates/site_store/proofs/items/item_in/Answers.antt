use Rattle.std.proofs.Common.{sym, ◌∙◌}
use Rattle.host_types.specs.Site.{item_at}
use Rattle.site_store.specs.ReadLaws.{none_later}
use Rattle.site_store.proofs.AfterReads.{done, begins, fails, read_on}
use Rattle.site_store.proofs.LocalReads.{fault_later}
use Rattle.site_store.proofs.DecodedViews.{item_is, keeps_body, whole_item}
use Rattle.site_store.proofs.items.item_in.Goals as goal

pub returns-in-Ok-clause-item : goal.returns-in-Ok-clause-item
returns-in-Ok-clause-item g c =
    let store_state = g.V.ValueLookup.store_state in
    let first = c.in-Ok-Some.ensures.record in
    let read = first.reads.only.read in
    let rest = c.in-Ok.ensures.body in
    let r = c.in-Ok-Some.record in
    begins first (done (read_on first.reads.only rest.only) (none_later (store_state c.args.from.now) (store_state c.record_at.new.from) (store_state c.read_body.new.from) first.reads.none rest.none) (λ honest s kept.
    let found = item_is s c.args.selector.now r (item_at s c.args.selector.now) (sym c.in-Ok-Some.field-0-is ∙ first.reads.gives honest s kept) in
    let body = rest.gives (read.honest ∙ honest) found.0.body (keeps_body (store_state c.args.from.now) (store_state c.record_at.new.from) s c.args.selector.now r found.0 read honest kept found.1 found.2) in
    whole_item s c.args.selector.now r c.in-Ok.body found.0 found.1 found.2 body))

pub returns-in-Err-read_body-clause-item : goal.returns-in-Err-read_body-clause-item
returns-in-Err-read_body-clause-item g c =
    let store_state = g.V.ValueLookup.store_state in
    let first = c.in-Ok-Some.ensures.record in
    let read = first.reads.only.read in
    let rest = c.in-Err-read_body.ensures.body in
    let r = c.in-Ok-Some.record in
    begins first (fails (read_on first.reads.only rest.only) (fault_later (store_state c.args.from.now) (store_state c.record_at.new.from) (store_state c.read_body.new.from) c.in-Err-read_body.fault read first.reads.none (λ honest known.
    let found = item_is known.0 c.args.selector.now r (item_at known.0 c.args.selector.now) (sym c.in-Ok-Some.field-0-is ∙ first.reads.gives honest known.0 known.1) in
    (found.0.body, keeps_body (store_state c.args.from.now) (store_state c.record_at.new.from) known.0 c.args.selector.now r found.0 read honest known.1 found.1 found.2)) rest.fault))
