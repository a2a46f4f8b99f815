use Rattle.std.proofs.Common.{◌≡◌, Some, List, ℕ, sym, ap, subst, ◌∙◌, false, true, refl, arith}
use Rattle.std.specs.Prelude.{All}
use Rattle.std.proofs.lemmas.List.{take_all}
use Rattle.std.proofs.lemmas.List.Elements.{All-more}
use Rattle.page_store.specs.Batch.{value_at}
use Rattle.page_store.specs.Pages.{Pair}
use Rattle.page_store.specs.declared.banner.Banner.{Banner}
use Rattle.site_store.proofs.whole_layout.are_among.Goals as goal

pub returns-then-not-has : goal.returns-then-not-has
returns-then-not-has c =
    let same = c.loop-entry.invariant.0 in
    record {
      among = (
        λ y. absurd (let e : false ≡ true = y in cc e),
        λ all.
            let item = c.entry-item.is in
            let there = subst (λ p. value_at c.args.read.now.0 p.0 ≡ Some p.1) (sym item) (all c.loop-entry.entry-index c.entry-item.result c.loop-entry-test.true) in
            let yes : c.has.result ≡ true = c.has.ensures.has.1 (subst (λ (r : List Pair × Banner). value_at r.0 c.entry-item.result.0 ≡ Some c.as_slice.result.now) (sym same) (there ∙ ap (λ (v : List ℕ). Some v) (sym c.as_slice.ensures.value))) in
            absurd (let e : false ≡ true = sym c.if-not-has.true ∙ yes in cc e),
      );
      same = c.has.ensures.same ∙ same;
    }

pub loop-entry-preserved : goal.loop-entry-preserved
loop-entry-preserved c =
    let same = c.loop-entry.invariant.0 in
    let stands = subst (λ (r : List Pair × Banner). value_at r.0 c.entry-item.result.0 ≡ Some c.entry-item.result.1) same (c.has.ensures.has.0 c.if-not-has.false ∙ ap (λ (v : List ℕ). Some v) c.as_slice.ensures.value) in (
      c.has.ensures.same ∙ same,
      All-more (λ p. value_at c.args.read.now.0 p.0 ≡ Some p.1) c.args.entries.now c.loop-entry.entry-index c.entry-item.result c.loop-entry-test.true c.loop-entry.invariant.1 (subst (λ p. value_at c.args.read.now.0 p.0 ≡ Some p.1) c.entry-item.is stands),
    )

pub returns : goal.returns
returns c =
    let whole = take_all c.loop-entry.entry-index c.args.entries.now (let t = c.loop-entry-test.false in omega (arith, t)) in
    record {
      among = (λ y. subst (All (λ p. value_at c.args.read.now.0 p.0 ≡ Some p.1)) whole c.loop-entry.invariant.1, λ all. refl);
      same = c.loop-entry.invariant.0;
    }
