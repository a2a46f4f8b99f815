use Rattle.std.proofs.Common.{Some, Ok, take, inl, sym, ap, ◌∙◌}
use Rattle.std.specs.Option.{option_map}
use Rattle.host_types.specs.Card.{card_of}
use Rattle.host_types.specs.Fronts.{front_of}
use Rattle.host_types.specs.declared.item.Item.{Item}
use Rattle.site_records.specs.Fronts.{fronts_agree}
use Rattle.site_records.specs.Records.{recorded}
use Rattle.site_store.proofs.AfterReads.{done, fails, begins}
use Rattle.site_store.proofs.FoundItems.{no_record, one_record, not_bad, no_front}
use Rattle.site_store.proofs.records.front_at.Goals as goal

pub returns-in_default-clause-front : goal.returns-in_default-clause-front
returns-in_default-clause-front g c =
    let look = c.in_ok-length.ensures.value in
    begins look (done look.reads.only look.reads.none (λ honest s kept.
    no_front s c.args.selector.now (no_record (g.V.ValueLookup.store_state c.args.from.now) s c.args.selector.now c.item_key.result kept c.item_key.ensures (sym (ap (option_map (λ n. take n c.look_up.new.buffer)) c.in_default.is) ∙ look.reads.gives honest))))

pub returns-in-Err-clause-front : goal.returns-in-Err-clause-front
returns-in-Err-clause-front g c =
    let look = c.in_ok-length.ensures.value in
    begins look (fails look.reads.only (not_bad (g.V.ValueLookup.store_state c.args.from.now) (g.V.ValueLookup.store_state c.look_up.new.self) c.in-Err.fault look.reads.none (inl c.in-Err.ensures.fault)
    (λ honest known.
    let found = one_record c.items_have_records.ensures (g.V.ValueLookup.store_state c.args.from.now) known.0 c.args.selector.now c.item_key.result (take c.in-Some.length c.look_up.new.buffer) known.1 c.item_key.ensures (sym (ap (option_map (λ n. take n c.look_up.new.buffer)) c.in-Some.is) ∙ look.reads.gives honest) in
    let clash = c.in-Err.ensures.only (recorded found.0) found.1.valid found.1.bytes_are in
    absurd (cc clash))))

pub returns-in-Ok-clause-front : goal.returns-in-Ok-clause-front
returns-in-Ok-clause-front g c =
    let look = c.in_ok-length.ensures.value in
    begins look (done look.reads.only look.reads.none (λ honest s kept.
    let found = one_record c.items_have_records.ensures (g.V.ValueLookup.store_state c.args.from.now) s c.args.selector.now c.item_key.result (take c.in-Some.length c.look_up.new.buffer) kept c.item_key.ensures (sym (ap (option_map (λ n. take n c.look_up.new.buffer)) c.in-Some.is) ∙ look.reads.gives honest) in
    let read = c.in-Ok.ensures.only (recorded found.0) found.1.valid found.1.bytes_are in
    ap Some (cc read ∙ fronts_agree found.0) ∙ ap (λ item. option_map front_of (option_map card_of item)) (sym found.1.stands)))
