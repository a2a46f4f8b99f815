use Rattle.std.proofs.Common.{List, ℕ, Option, Some, Bor, sym, ap, ◌∙◌}
use Rattle.std.specs.Option.{option_map}
use Rattle.host_types.specs.Site.{item_at}
use Rattle.host_types.specs.Card.{card_of}
use Rattle.site_store.specs.ReadLaws.{kept_after}
use Rattle.site_store.specs.Walking.{card_after}
use Rattle.site_store.proofs.AfterReads.{done, fails, begins, begins_badly, ends, hands_on}
use Rattle.site_store.proofs.LocalReads.{fault_later, fault_unless}
use Rattle.site_store.proofs.ItemWalks.{has_top, first_card, next_stands, next_card_is, no_card_after, quick_read}
use Rattle.site_store.proofs.walking.next_in.Goals as goal

pub returns-in-None : goal.returns-in-None
returns-in-None g c =
    let store_state = g.K.Keeper.store_state in
    record {
      next = record {
        reads = hands_on c.args.keeper.now c.carded.new.keeper c.carded.result c.carded.ensures.card.reads
            (λ honest found is s kept.
            let top = has_top s kept.valid in
            is top.0 (s, kept, ap (item_at s) c.root.ensures ∙ top.1) ∙ (λ i. Some (c.root.ensures i, card_of top.0)) ∙ first_card s top.0 kept.valid top.1
            ∙ ap (λ (o : Option (Bor (List ℕ))). card_after s (option_map (λ selector. selector.now) o)) (sym c.in-None.is))
            (λ fault cause. fault_unless (store_state c.args.keeper.now) (store_state c.carded.new.keeper) fault (λ honest known. let top = has_top known.0 known.1.valid in (top.0, (known.0, known.1, ap (item_at known.0) c.root.ensures ∙ top.1))) cause);
        closed = c.carded.ensures.card.closed;
      };
    }

pub returns-in-Ok-Some : goal.returns-in-Ok-Some
returns-in-Ok-Some g c =
    let store_state = g.K.Keeper.store_state in
    let first = c.in-Ok-Some.ensures.next in
    let only = first.reads.only in
    record {
      next = begins first (ends c.args.keeper.now c.selector_after.new.keeper c.carded-in-Ok-Some.new.keeper c.carded-in-Ok-Some.result only first.reads.none c.carded-in-Ok-Some.ensures.card.reads
          (λ honest found card s kept.
          let n = next_stands s c.in-Some.after.now c.in-Ok-Some.next kept.valid (sym c.in-Ok-Some.field-0-is ∙ first.reads.gives honest s kept) in
          card n.item (s, kept_after (store_state c.args.keeper.now) (store_state c.selector_after.new.keeper) s only.read honest kept, n.stands)
          ∙ next_card_is s c.in-Some.after.now c.in-Ok-Some.next n ∙ ap (λ (o : Option (Bor (List ℕ))). card_after s (option_map (λ selector. selector.now) o)) (sym c.in-Some.is))
          (λ fault cause. fault_later (store_state c.args.keeper.now) (store_state c.selector_after.new.keeper) (store_state c.carded-in-Ok-Some.new.keeper) fault only.read first.reads.none (λ honest known.
          let n = next_stands known.0 c.in-Some.after.now c.in-Ok-Some.next known.1.valid (sym c.in-Ok-Some.field-0-is ∙ first.reads.gives honest known.0 known.1) in
          (n.item, (known.0, kept_after (store_state c.args.keeper.now) (store_state c.selector_after.new.keeper) known.0 only.read honest known.1, n.stands))) cause));
    }

pub returns-in-Ok-None : goal.returns-in-Ok-None
returns-in-Ok-None g c =
    let first = c.in-Ok-None.ensures.next in
    record {
      next = begins first (done first.reads.only first.reads.none (λ honest s kept.
          no_card_after s c.in-Some.after.now (sym c.in-Ok-None.field-0-is ∙ first.reads.gives honest s kept) ∙ ap (λ (o : Option (Bor (List ℕ))). card_after s (option_map (λ selector. selector.now) o)) (sym c.in-Some.is)));
    }

pub returns-in-Err : goal.returns-in-Err
returns-in-Err g c =
    let store_state = g.K.Keeper.store_state in
    let first = c.in-Err.ensures.next in
    record { next = begins_badly first (fails first.reads.only (quick_read (store_state c.args.keeper.now) (store_state c.selector_after.new.keeper) c.in-Err.fault first.reads.fault)) }
