use Rattle.std.proofs.Common.{◌≤◌, ℕ, List, subst, ◌∙◌}
use Rattle.page_store.specs.Pages.{Pair}
use Rattle.page_store.specs.Flat.{half_size}
use Rattle.page_store.specs.Encoding.{pages_needed}
use Rattle.page_store.proofs.Flats.{now_map, now_pairs, slot_made, pages_made}
use Rattle.page_store.proofs.flat_plan.planned.Goals as goal

pub pages_needed-need-requires : goal.pages_needed-need-requires
pages_needed-need-requires c = now_pairs c.in_ok-pairs.pairs.items c.deref.result.now c.deref.ensures.value (now_map c.args.pairs.now c.in_ok-pairs.pairs.items c.args.batch.now c.in_ok-pairs.ensures c.requires.fitted.map c.requires.batch)

pub flat_pages-requires-clause-pairs : goal.flat_pages-requires-clause-pairs
flat_pages-requires-clause-pairs c = now_pairs c.in_ok-pairs.pairs.items c.deref-2.result.now c.deref-2.ensures.value (now_map c.args.pairs.now c.in_ok-pairs.pairs.items c.args.batch.now c.in_ok-pairs.ensures c.requires.fitted.map c.requires.batch)

pub returns-clause-plan : goal.returns-clause-plan
returns-clause-plan c =
    let slot = c.args.slot.now in
    let half = half_size slot.root.pages in
    let fitted = c.requires.fitted in
    record {
      pairs_are = c.in_ok-pairs.ensures;
      room = subst (λ (l : List Pair). pages_needed l ≤ half) (c.deref.ensures.value ∙ c.in_ok-pairs.ensures) (subst (λ (n : ℕ). n ≤ half) c.pages_needed-need.ensures (subst (λ (n : ℕ). c.pages_needed-need.result ≤ n) c.half_size-half.ensures c.if-need-half.false));
      pages_are = pages_made c.args.seal c.other_half-tree.result slot.root c.in_ok-pages.pages.items _ c.deref-2.result.now c.in_ok-pages.ensures c.other_half-tree.ensures (c.deref-2.ensures.value ∙ c.in_ok-pairs.ensures);
      slot_is = slot_made slot c.args.seal c.other_half-tree.result _ c.as_slice.result.now c.args.banner c.other_half-tree.ensures (c.as_slice.ensures.value ∙ c.in_ok-pairs.ensures);
      page = λ sectors fits. c.in_ok-root.ensures.valid sectors c.ranges.seal.fits (fitted.least, fitted.most, fits) c.requires.port;
    }
