use Rattle.std.proofs.Common.{◌≡◌, ◌++◌, ◌+◌, ◌-◌, ◌*◌, ℕ, List, [], length, replicate, refl, sym, ap, subst, ◌∙◌, arith}
use Rattle.page_store.specs.Encoding.{padded, root_sectors, root_sector, record_bytes, slot_bytes}
use Rattle.page_store.proofs.PairsByPage.{all_sectors}
use Rattle.page_store.proofs.SlotSectors.{first_sector, next_zeros, part_length, longer_by_a_sector}
use Rattle.page_store.proofs.encoding.slot_sectors.Goals as goal

pub loop-k-init : goal.loop-k-init
loop-k-init c =
    let fields = c.in_ok-fields.fields.items in
    let seal = c.args.slot.now.seal in
    let first = 8 * c.args.slot.now.number in
    let short = c.in_ok-fields.ensures.length in
    let put : c.put_sector.new.out.items ≡ [] ++ root_sector first seal (padded 488 fields) =
    c.in_ok-put_sector.ensures ∙ ap (λ (l : List ℕ). l ++ root_sector first seal (padded 488 c.deref.result.now)) c.in_ok-out.ensures.items ∙ ap (λ (l : List ℕ). [] ++ root_sector first seal (padded 488 l)) c.deref.ensures.value in
    record {
      all = ap (λ (l : List ℕ). l ++ root_sectors (first + 1) seal 7 (replicate 3416 0)) put ∙ first_sector first seal fields (omega (arith, short));
      length = longer_by_a_sector 0 first seal [] (padded 488 fields) c.put_sector.new.out.items (part_length fields (omega (arith, short))) refl put;
    }

pub loop-k-preserved : goal.loop-k-preserved
loop-k-preserved c =
    let k = c.loop-k.k in
    let inv = c.loop-k.invariant in
    let t = c.loop-k-test.true in
    let seal = c.args.slot.now.seal in
    let first = 8 * c.args.slot.now.number in
    let put : c.put_sector-in-loop-k.new.out.items ≡ c.loop-k.out.items ++ root_sector (first + k) seal (padded 488 []) = c.in_ok-put_sector-2.ensures in
    record {
      all = subst (λ (l : List ℕ). l ++ root_sectors (first + (k + 1)) seal (8 - (k + 1)) (replicate (488 * (8 - (k + 1))) 0) ≡ root_sectors first seal 8 (padded 3904 c.in_ok-fields.fields.items)) (sym put)
          (next_zeros c.loop-k.out.items first seal k t ∙ inv.all);
      length = longer_by_a_sector k (first + k) seal c.loop-k.out.items (padded 488 []) c.put_sector-in-loop-k.new.out.items (part_length [] (omega arith)) inv.length put;
    }

pub returns-clause-bytes : goal.returns-clause-bytes
unfolding slot_bytes record_bytes
returns-clause-bytes c =
    let is : c.loop-k.k ≡ 8 = omega (arith, c.loop-k-test.false) in
    all_sectors c.loop-k.out.items _ _ _ c.args.slot.now.seal c.loop-k.k is c.loop-k.invariant.all ∙ ap (λ (l : List ℕ). root_sectors (8 * c.args.slot.now.number) c.args.slot.now.seal 8 (padded 3904 l)) c.in_ok-fields.ensures.bytes

pub returns-clause-length : goal.returns-clause-length
returns-clause-length c =
    let size = c.loop-k.invariant.length in
    omega (arith, c.loop-k-test.false, size)
