use Rattle.std.proofs.Common.{Bool, take, sym, ap, ◌∙◌}
use Rattle.std.specs.Prelude.{◌&&◌, ◌==◌, slice_index}
use Rattle.std.specs.Option.{option_map}
use Rattle.std.proofs.lemmas.Bool.{lt-ltb, le-ltb}
use Rattle.site_store.proofs.AfterReads.{done, begins}
use Rattle.site_store.proofs.Chunking.{document_found, no_document}
use Rattle.site_store.proofs.PinnedReads.{holding, stands_there, found_there}
use Rattle.site_store.proofs.pinned_chunks.has_document_at.Goals as goal

pub returns-then-length-gt0 : goal.returns-then-length-gt0
returns-then-length-gt0 g c =
    let look = c.in-Ok-Some.ensures.value in
    let h = g.K.Keeper.store_state c.args.keeper.now in
    let number = g.K.PinKeeper.number c.args.pin.now in
    let buffer = c.look_up_at.new.buffer in
    record {
      document = begins look (done look.reads.only look.reads.none (λ honest s stood.
          let value = sym (ap (option_map (λ n. take n buffer)) c.in-Ok-Some.field-0-is) ∙ found_there h number s stood _ c.item_key.result (look.reads.gives honest) in
          sym (ap (λ (b : Bool). b && (slice_index buffer 0 == 86)) (lt-ltb 0 c.in-Ok-Some.length c.if-length-gt0.true))
          ∙ document_found (holding h stood.pairs s) s c.args.selector.now c.item_key.result c.in-Ok-Some.length buffer (stands_there h number s stood) c.item_key.ensures value));
      work = c.look_up_at.ensures.work;
    }

pub returns-else-length-gt0 : goal.returns-else-length-gt0
returns-else-length-gt0 g c =
    let look = c.in-Ok-Some.ensures.value in
    let h = g.K.Keeper.store_state c.args.keeper.now in
    let number = g.K.PinKeeper.number c.args.pin.now in
    let buffer = c.look_up_at.new.buffer in
    record {
      document = begins look (done look.reads.only look.reads.none (λ honest s stood.
          let value = sym (ap (option_map (λ n. take n buffer)) c.in-Ok-Some.field-0-is) ∙ found_there h number s stood _ c.item_key.result (look.reads.gives honest) in
          let none = le-ltb 0 c.in-Ok-Some.length c.if-length-gt0.false in
          none ∙ sym (ap (λ (b : Bool). b && (slice_index buffer 0 == 86)) none)
          ∙ document_found (holding h stood.pairs s) s c.args.selector.now c.item_key.result c.in-Ok-Some.length buffer (stands_there h number s stood) c.item_key.ensures value));
      work = c.look_up_at.ensures.work;
    }

pub returns-in-Ok-None : goal.returns-in-Ok-None
returns-in-Ok-None g c =
    let look = c.in-Ok-None.ensures.value in
    let h = g.K.Keeper.store_state c.args.keeper.now in
    let number = g.K.PinKeeper.number c.args.pin.now in
    record {
      document = begins look (done look.reads.only look.reads.none (λ honest s stood.
          let value = sym (ap (option_map (λ n. take n c.look_up_at.new.buffer)) c.in-Ok-None.field-0-is) ∙ found_there h number s stood _ c.item_key.result (look.reads.gives honest) in
          no_document (holding h stood.pairs s) s c.args.selector.now c.item_key.result (stands_there h number s stood) c.item_key.ensures value));
      work = c.look_up_at.ensures.work;
    }
