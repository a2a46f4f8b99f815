use Rattle.std.proofs.Common.{ℕ, List, [], ap, sym, ◌∙◌}
use Rattle.host_types.specs.Site.{item_at}
use Rattle.word_search.specs.declared.find.Find.{Find}
use Rattle.site_store.specs.ReadLaws.{kept_after, none_later}
use Rattle.site_store.specs.Searching.{found_with}
use Rattle.site_store.proofs.AfterReads.{done, read_on}
use Rattle.site_store.proofs.FoundItems.{kept_sorted}
use Rattle.site_store.proofs.Searches.{begins_here, begins_above, holder}
use Rattle.site_store.proofs.searching.begin.Goals as goal

pub returns-in-Ok-false : goal.returns-in-Ok-false
returns-in-Ok-false g c =
    let has = c.in-Ok-false.ensures.there.reads in
    record {
      left = done has.only has.none (λ honest s kept.
          begins_above c.args.now s c.args.keys.now.scope.now c.args.keys.now.word.now c.args.asked.now c.in_ok-found.found.items (kept_sorted s kept.valid) c.requires.asked (sym (has.gives honest s kept) ∙ c.in-Ok-false.field-0-test) c.in_ok-found.ensures.items);
    }

pub returns-in-Ok : goal.returns-in-Ok
returns-in-Ok g c =
    let store_state = g.K.Keeper.store_state in
    let has = c.in-Ok-true.ensures.there.reads in
    let look = c.in-Ok.ensures.found in
    let scope = c.args.keys.now.scope.now in
    let word = c.args.keys.now.word.now in
    let same = c.in_ok-scope.ensures.cases in
    record {
      left = done (read_on has.only look.only) (none_later (store_state c.args.keeper.now) (store_state c.has_word.new.keeper) (store_state c.look_in.new.keeper) has.none look.none) (λ honest s kept.
          let here = holder s scope word (sym (has.gives honest s kept) ∙ c.in-Ok-true.field-0-test) in
          let after = kept_after (store_state c.args.keeper.now) (store_state c.has_word.new.keeper) s has.only.read honest kept in
          begins_here c.args.now s scope word c.args.asked.now c.look_in.new.found.items here.item (kept_sorted s kept.valid) c.requires.asked here.stands here.has
          (look.gives (has.only.read.honest ∙ honest) here.item ((s, after, ap (item_at s) same ∙ here.stands), here.has)
          ∙ ap (λ (l : List Find). found_with c.args.now c.args.asked.now l c.in_ok-scope.scope here.item) c.in_ok-found.ensures.items
          ∙ ap (λ (q : List ℕ). found_with c.args.now c.args.asked.now [] q here.item) same));
    }
