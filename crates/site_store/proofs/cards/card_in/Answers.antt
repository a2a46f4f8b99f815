use Rattle.std.proofs.Common.{Option, sym, subst, ◌∙◌}
use Rattle.std.specs.Prelude.{IfSome, IsTrue}
use Rattle.host_types.specs.Site.{item_at}
use Rattle.site_records.specs.Limits.{is_record}
use Rattle.site_records.specs.declared.record.Record.{Record}
use Rattle.site_store.specs.ReadLaws.{none_later}
use Rattle.site_store.proofs.AfterReads.{done, begins, fails, read_on}
use Rattle.site_store.proofs.LocalReads.{fault_later}
use Rattle.site_store.proofs.DecodedViews.{item_is, keeps_body}
use Rattle.site_store.proofs.CardLookUps.{valid_record, card_looked_up}
use Rattle.site_store.proofs.Chunking.{whole_card}
use Rattle.site_store.proofs.cards.card_in.Goals as goal

pub returns-in-Ok : goal.returns-in-Ok
returns-in-Ok g c =
    let store_state = g.K.Keeper.store_state in
    let first = c.in-Ok-Some.ensures.record in
    let read = first.reads.only.read in
    let rest = c.in-Ok.ensures.body in
    let r = c.in-Ok-Some.record in
    let valid = subst (λ (o : Option Record). IfSome o (λ r. IsTrue (is_record r))) c.in-Ok-Some.field-0-is c.in-Ok-Some.ensures.valid in
    record {
      card = begins first (done (read_on first.reads.only rest.only) (none_later (store_state c.args.keeper.now) (store_state c.record_at.new.from) (store_state c.card_body.new.keeper) first.reads.none rest.none) (λ honest s kept.
          let found = item_is s c.args.selector.now r (item_at s c.args.selector.now) (sym c.in-Ok-Some.field-0-is ∙ first.reads.gives honest s kept) in
          let body = rest.gives (read.honest ∙ honest) found.0.body (keeps_body (store_state c.args.keeper.now) (store_state c.record_at.new.from) s c.args.selector.now r found.0 read honest kept found.1 found.2) in
          whole_card s c.args.selector.now r c.in-Ok.body found.0 found.1 found.2 body));
      work = card_looked_up r.body (store_state c.args.keeper.now) (store_state c.record_at.new.from) (store_state c.card_body.new.keeper) (valid_record r valid) read c.record_at.ensures.work c.card_body.ensures.work;
    }

pub returns-in-Err-card_body-clause-work : goal.returns-in-Err-card_body-clause-work
returns-in-Err-card_body-clause-work g c =
    let store_state = g.K.Keeper.store_state in
    let r = c.in-Ok-Some.record in
    let valid = subst (λ (o : Option Record). IfSome o (λ r. IsTrue (is_record r))) c.in-Ok-Some.field-0-is c.in-Ok-Some.ensures.valid in
    card_looked_up r.body (store_state c.args.keeper.now) (store_state c.record_at.new.from) (store_state c.card_body.new.keeper) (valid_record r valid) c.record_at.ensures.record.reads.only.read c.record_at.ensures.work c.card_body.ensures.work

pub returns-in-Err-card_body-clause-card : goal.returns-in-Err-card_body-clause-card
returns-in-Err-card_body-clause-card g c =
    let store_state = g.K.Keeper.store_state in
    let first = c.in-Ok-Some.ensures.record in
    let read = first.reads.only.read in
    let rest = c.in-Err-card_body.ensures.body in
    let r = c.in-Ok-Some.record in
    begins first (fails (read_on first.reads.only rest.only) (fault_later (store_state c.args.keeper.now) (store_state c.record_at.new.from) (store_state c.card_body.new.keeper) c.in-Err-card_body.fault read first.reads.none (λ honest known.
    let found = item_is known.0 c.args.selector.now r (item_at known.0 c.args.selector.now) (sym c.in-Ok-Some.field-0-is ∙ first.reads.gives honest known.0 known.1) in
    (found.0.body, keeps_body (store_state c.args.keeper.now) (store_state c.record_at.new.from) known.0 c.args.selector.now r found.0 read honest known.1 found.1 found.2)) rest.fault))
