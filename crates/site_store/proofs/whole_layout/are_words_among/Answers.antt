use Rattle.std.proofs.Common.{◌≡◌, [], Some, List, ℕ, sym, subst, ap, ◌∙◌, false, true, refl, arith}
use Rattle.std.specs.Prelude.{All}
use Rattle.std.proofs.lemmas.List.{take_all}
use Rattle.std.proofs.lemmas.List.Elements.{All-more}
use Rattle.page_store.specs.Batch.{value_at}
use Rattle.page_store.specs.Pages.{Pair}
use Rattle.page_store.specs.declared.banner.Banner.{Banner}
use Rattle.site_records.specs.Keys.{word_key}
use Rattle.site_store.proofs.whole_layout.are_words_among.Goals as goal

pub returns-then-not-has : goal.returns-then-not-has
returns-then-not-has c =
    let same = c.loop-word.invariant.0 in
    record {
      among = (
        λ y. absurd (let e : false ≡ true = y in cc e),
        λ all.
            let there = subst (λ w. value_at c.args.read.now.0 (word_key w c.args.selector.now) ≡ Some []) (sym c.word-item.is) (all c.loop-word.word-index c.word-item.result c.loop-word-test.true) in
            let yes : c.has.result ≡ true = c.has.ensures.has.1 (subst (λ (r : List Pair × Banner). value_at r.0 c.word_key.result ≡ Some []) (sym same) (ap (value_at c.args.read.now.0) (c.word_key.ensures ∙ ap (λ (w : List ℕ). word_key w c.args.selector.now) c.as_slice.ensures) ∙ there)) in
            absurd (let e : false ≡ true = sym c.if-not-has.true ∙ yes in cc e),
      );
      same = c.has.ensures.same ∙ same;
    }

pub loop-word-preserved : goal.loop-word-preserved
loop-word-preserved c =
    let same = c.loop-word.invariant.0 in
    let key = c.word_key.ensures ∙ ap (λ (w : List ℕ). word_key w c.args.selector.now) c.as_slice.ensures in
    let stands = subst (λ (r : List Pair × Banner). value_at r.0 c.word_key.result ≡ Some []) same (c.has.ensures.has.0 c.if-not-has.false) in
    let there = sym (ap (value_at c.args.read.now.0) key) ∙ stands in (
      c.has.ensures.same ∙ same,
      All-more (λ w. value_at c.args.read.now.0 (word_key w c.args.selector.now) ≡ Some []) c.args.words.now c.loop-word.word-index c.word-item.result c.loop-word-test.true c.loop-word.invariant.1 (subst (λ w. value_at c.args.read.now.0 (word_key w c.args.selector.now) ≡ Some []) c.word-item.is there),
    )

pub returns : goal.returns
returns c =
    let whole = take_all c.loop-word.word-index c.args.words.now (let t = c.loop-word-test.false in omega (arith, t)) in
    record {
      among = (λ y. subst (All (λ w. value_at c.args.read.now.0 (word_key w c.args.selector.now) ≡ Some [])) whole c.loop-word.invariant.1, λ all. refl);
      same = c.loop-word.invariant.0;
    }
