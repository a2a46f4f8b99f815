use Rattle.std.proofs.Common.{List, ℕ, take, ap, sym, ◌∙◌}
use Rattle.std.specs.Prelude.{is_some}
use Rattle.site_records.specs.Keys.{word_key}
use Rattle.site_store.proofs.AfterReads.{done, begins}
use Rattle.site_store.proofs.WordKeys.{word_there}
use Rattle.site_store.proofs.word_walk.has_word.Goals as goal

pub returns-in-Ok-Some : goal.returns-in-Ok-Some
returns-in-Ok-Some g c =
    let look = c.in-Ok-Some.ensures.value in
    record {
      there = begins look (done look.reads.only look.reads.none (λ honest s kept.
          ap is_some (sym c.in-Ok-Some.field-0-is) ∙ word_there (λ n. take n c.look_up.new.buffer) c.in-Ok-Some.field-0 (g.K.Keeper.store_state c.args.keeper.now) s c.args.word.now c.args.selector.now c.word_key.result kept (c.word_key.ensures ∙ ap (λ (w : List ℕ). word_key w c.args.selector.now) c.as_slice.ensures) (look.reads.gives honest)));
    }

pub returns-in-Ok-None : goal.returns-in-Ok-None
returns-in-Ok-None g c =
    let look = c.in-Ok-None.ensures.value in
    record {
      there = begins look (done look.reads.only look.reads.none (λ honest s kept.
          ap is_some (sym c.in-Ok-None.field-0-is) ∙ word_there (λ n. take n c.look_up.new.buffer) c.in-Ok-None.field-0 (g.K.Keeper.store_state c.args.keeper.now) s c.args.word.now c.args.selector.now c.word_key.result kept (c.word_key.ensures ∙ ap (λ (w : List ℕ). word_key w c.args.selector.now) c.as_slice.ensures) (look.reads.gives honest)));
    }
