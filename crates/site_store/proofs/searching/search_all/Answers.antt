use Rattle.std.proofs.Common.{◌≡◌, refl, ap, sym, ◌∙◌}
use Rattle.host_types.specs.Words.{is_among, words_in}
use Rattle.site_store.specs.FilterSearch.{all_found}
use Rattle.site_store.specs.ReadLaws.{not_yet}
use Rattle.site_store.proofs.AfterReads.{done, hands_on}
use Rattle.site_store.proofs.AskedWords.{short_words, longest_short, longest_among}
use Rattle.site_store.proofs.FilterSearches.{all_searched}
use Rattle.site_store.proofs.Searches.{finds_nothing}
use Rattle.site_store.proofs.searching.search_all.Goals as goal

pub new-keys-requires : goal.new-keys-requires
new-keys-requires g c =
    longest_short c.as_slice-asked.result.now c.in-Some.word.now (short_words c.args.query.now c.as_slice-asked.result.now (c.as_slice-asked.ensures ∙ c.in_ok-words.ensures)) c.in-Some.ensures

pub search_in-requires-clause-short : goal.search_in-requires-clause-short
search_in-requires-clause-short g c = short_words c.args.query.now c.as_slice-asked.result.now (c.as_slice-asked.ensures ∙ c.in_ok-words.ensures)

pub search_in-requires-clause-asked : goal.search_in-requires-clause-asked
search_in-requires-clause-asked g c = ap (is_among c.as_slice-asked.result.now) c.new-keys.ensures.word ∙ longest_among c.as_slice-asked.result.now c.in-Some.word.now c.in-Some.ensures

pub returns-in-Some : goal.returns-in-Some
returns-in-Some g c =
    let asked : c.as_slice-asked.result.now ≡ words_in c.args.query.now = c.as_slice-asked.ensures ∙ c.in_ok-words.ensures in
    record {
      found = hands_on c.args.keeper.now c.search_in.new.keeper c.search_in.result c.search_in.ensures.found
          (λ honest found is s kept. is s kept ∙ ap (λ q. all_found c.args.now s q c.as_slice-asked.result.now) c.new-keys.ensures.scope ∙ ap (all_found c.args.now s c.args.scope.now) asked ∙ all_searched c.args.now s c.args.scope.now c.args.query.now kept.valid) (λ fault h. h);
    }

pub returns : goal.returns
returns g c =
    let asked : c.as_slice-asked.result.now ≡ words_in c.args.query.now = c.as_slice-asked.ensures ∙ c.in_ok-words.ensures in
    record {
      found = done (not_yet g.K.Keeper.store_state g.K.Keeper.may_need g.K.Keeper.crash_states c.args.keeper.now) refl (λ honest s kept.
          c.new.ensures ∙ sym (finds_nothing c.args.now s c.args.scope.now c.as_slice-asked.result.now c.in-None.ensures) ∙ ap (all_found c.args.now s c.args.scope.now) asked ∙ all_searched c.args.now s c.args.scope.now c.args.query.now kept.valid);
    }
