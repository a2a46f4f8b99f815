use Rattle.std.proofs.Common.{rules, ◌≡◌, ◌+◌, [], List, ℕ, Some, length, false, true, sym, subst, ◌∙◌, arith}
use Rattle.std.specs.Prelude.{All, Decides}
use Rattle.std.proofs.lemmas.Grind.{common_steps}
use Rattle.host_types.specs.Words.{words_of}
use Rattle.page_store.specs.Batch.{value_at}
use Rattle.page_store.specs.Pages.{Pair}
use Rattle.page_store.specs.declared.banner.Banner.{Banner}
use Rattle.site_records.specs.Keys.{word_key}
use Rattle.site_records.specs.Layout.{data_pairs}
use Rattle.site_store.proofs.LayoutsCounted.{data_lacks, word_lacks, item_stands}
use Rattle.site_store.proofs.whole_layout.count_of.Goals as goal

pub returns-then-not-are_among-clause-count : goal.returns-then-not-are_among-clause-count
returns-then-not-are_among-clause-count c =
    let is : c.deref.result.now ≡ data_pairs c.args.selector.now c.args.item.now = search rules in
    data_lacks c.args.read.now.0 c.args.selector.now c.args.item.now c.deref.result.now is (λ all. (let e : false ≡ true = sym c.if-not-are_among.true ∙ c.are_among.ensures.among.1 all in cc e))

pub returns-then-not-are_words_among-clause-count : goal.returns-then-not-are_words_among-clause-count
returns-then-not-are_words_among-clause-count c =
    let are : c.as_slice.result.now ≡ words_of c.args.item.now = search rules in
    let among = subst (λ (r : List Pair × Banner). Decides c.are_words_among.result (All (λ w. value_at r.0 (word_key w c.args.selector.now) ≡ Some []) c.as_slice.result.now)) c.are_among.ensures.same c.are_words_among.ensures.among in
    word_lacks c.args.read.now.0 c.args.selector.now c.args.item.now c.as_slice.result.now are (λ all. (let e : false ≡ true = sym c.if-not-are_words_among.true ∙ among.1 all in cc e))

pub returns-clause-count : goal.returns-clause-count
returns-clause-count c =
    let is : c.deref.result.now ≡ data_pairs c.args.selector.now c.args.item.now = search rules in
    let are : c.as_slice.result.now ≡ words_of c.args.item.now = search rules in
    let among = subst (λ (r : List Pair × Banner). Decides c.are_words_among.result (All (λ w. value_at r.0 (word_key w c.args.selector.now) ≡ Some []) c.as_slice.result.now)) c.are_among.ensures.same c.are_words_among.ensures.among in
    let count : c.len.result + length c.as_slice-2.result.now ≡ length c.deref.result.now + length c.as_slice.result.now = grind (arith, common_steps) in
    item_stands c.args.read.now.0 c.args.selector.now c.args.item.now c.deref.result.now c.as_slice.result.now (c.len.result + length c.as_slice-2.result.now) is are (c.are_among.ensures.among.0 c.if-not-are_among.false) (among.0 c.if-not-are_words_among.false) count
