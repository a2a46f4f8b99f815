use Rattle.std.proofs.Common.{◌-◌, ℕ, length, take, replicate, ap, ◌∙◌, arith}
use Rattle.std.proofs.lemmas.List.{drop-replicate, take-replicate}
use Rattle.std.specs.Int.{w64, to_be_bytes}
use Rattle.page_store.specs.Roots.{root_word}
use Rattle.page_store.specs.Encoding.{root_sector}
use Rattle.page_store.proofs.SlotSectors.{six_pieces}
use Rattle.page_store.proofs.encoding.put_sector.Goals as goal

pub returns : goal.returns
unfolding root_sector
returns c =
    let part = c.args.part.now in
    let left = 488 - length part in
    let zeros = ap (take left) (drop-replicate {X = ℕ} (length part) 488 0) ∙ take-replicate {X = ℕ} left left 0 (omega arith) in
    six_pieces _ _ _ _ _ _ root_word _ (to_be_bytes w64 c.args.number) _ (to_be_bytes w64 c.args.seal) part _ (replicate left 0) c.in_ok-extend_from_slice.ensures.items c.in_ok-extend_from_slice-2.ensures.items c.in_ok-extend_from_slice-3.ensures.items
    c.in_ok-extend_from_slice-4.ensures.items c.in_ok-extend_from_slice-5.ensures.items c.to_be_bytes.ensures c.to_be_bytes-2.ensures zeros
