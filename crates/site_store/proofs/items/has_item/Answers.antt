use Rattle.std.proofs.Common.{take, ap, sym, ◌∙◌}
use Rattle.std.specs.Prelude.{is_some}
use Rattle.site_store.proofs.AfterReads.{done, begins}
use Rattle.site_store.proofs.FoundItems.{there_is}
use Rattle.site_store.proofs.items.has_item.Goals as goal

pub returns-in-Ok-Some : goal.returns-in-Ok-Some
returns-in-Ok-Some g c =
    let look = c.in-Ok-Some.ensures.value in
    record {
      there = begins look (done look.reads.only look.reads.none (λ honest s kept.
          ap is_some (sym c.in-Ok-Some.field-0-is) ∙ there_is (λ n. take n c.look_up.new.buffer) c.in-Ok-Some.field-0 (g.V.ValueLookup.store_state c.args.from.now) s c.args.selector.now c.item_key.result kept c.item_key.ensures (look.reads.gives honest)));
    }

pub returns-in-Ok-None : goal.returns-in-Ok-None
returns-in-Ok-None g c =
    let look = c.in-Ok-None.ensures.value in
    record {
      there = begins look (done look.reads.only look.reads.none (λ honest s kept.
          ap is_some (sym c.in-Ok-None.field-0-is) ∙ there_is (λ n. take n c.look_up.new.buffer) c.in-Ok-None.field-0 (g.V.ValueLookup.store_state c.args.from.now) s c.args.selector.now c.item_key.result kept c.item_key.ensures (look.reads.gives honest)));
    }
