use Rattle.std.proofs.Common.{List, ℕ, take, sym, ap, ◌∙◌}
use Rattle.std.specs.Option.{option_map}
use Rattle.site_store.proofs.AfterReads.{done, ok_more, on_any}
use Rattle.site_store.proofs.ItemWalks.{bad_faults}
use Rattle.site_store.proofs.WordKeys.{walked_off, walked_on, walked_well}
use Rattle.site_store.proofs.word_walk.next_with.Goals as goal

pub returns-in-Ok-Some : goal.returns-in-Ok-Some
returns-in-Ok-Some g c =
    let h = g.K.Keeper.store_state c.args.keeper.now in
    let next = c.in-Ok-Some.ensures in
    let scope = c.args.keys.now.scope.now in
    let word = c.args.keys.now.word.now in
    let p : List ℕ × List ℕ = (take c.in-Ok-Some.length c.next.new.key, take c.in-Ok-Some.field-0-0-1 c.next.new.value) in
    record {
      next = record {
        reads = record {
          gives = λ honest. ok_more c.selector_in.result c.selector_in.ensures.selector (λ found named s kept q is within. named ∙ walked_on h s scope word q c.as_bytes.result.now p kept within (c.as_bytes.ensures.key ∙ is) (sym (ap (option_map (λ n. (take n.0 c.next.new.key, take n.1 c.next.new.value))) c.in-Ok-Some.field-0-is) ∙ next.pair honest));
          only = next.only;
          none = on_any c.selector_in.result next.fails.reads;
          fault = bad_faults c.selector_in.result h (g.K.Keeper.store_state c.next.new.self) next.fails.reads c.selector_in.ensures.fault (λ honest s kept bad. walked_well h s scope word c.requires.0 c.as_bytes.result.now p kept (c.as_bytes.ensures.key ∙ c.requires.1) (sym (ap (option_map (λ n. (take n.0 c.next.new.key, take n.1 c.next.new.value))) c.in-Ok-Some.field-0-is) ∙ next.pair honest) bad);
        };
        closed = λ shut. let clash = next.fails.closed shut in absurd (cc clash);
      };
    }

pub returns-in-Ok-None : goal.returns-in-Ok-None
returns-in-Ok-None g c =
    let h = g.K.Keeper.store_state c.args.keeper.now in
    let next = c.in-Ok-None.ensures in
    record {
      next = record {
        reads = done next.only next.fails.reads (λ honest s kept q is _.
            walked_off h s c.args.keys.now.scope.now c.args.keys.now.word.now q c.as_bytes.result.now kept (c.as_bytes.ensures.key ∙ is) (sym (ap (option_map (λ n. (take n.0 c.next.new.key, take n.1 c.next.new.value))) c.in-Ok-None.field-0-is) ∙ next.pair honest));
        closed = λ shut. let clash = next.fails.closed shut in absurd (cc clash);
      };
    }
