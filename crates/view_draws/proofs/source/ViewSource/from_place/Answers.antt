use Rattle.std.proofs.Common.{◌≡◌, ◌+◌, ◌*◌, ◌/◌, ◌%◌, ◌<◌, take, drop, length, ap, sym, ◌++◌, ◌∙◌, arith}
use Rattle.host_types.specs.Card.{chunk_of}
use Rattle.view_draws.proofs.Chunks.{chunk_from, of_place, in_chunk}
use Rattle.view_draws.proofs.source.ViewSource.from_place.Goals as goal

pub part-requires-clause-order : goal.part-requires-clause-order
part-requires-clause-order c = omega (arith, in_chunk c.args.at c.args.self.now.size c.chunk_length-end.result c.requires c.chunk_length-end.ensures.full)

pub returns-clause-some : goal.returns-clause-some
returns-clause-some c = omega (arith, in_chunk c.args.at c.args.self.now.size c.chunk_length-end.result c.requires c.chunk_length-end.ensures.full, c.part.ensures.length)

pub returns-clause-bytes : goal.returns-clause-bytes
returns-clause-bytes c body size held place =
    let k = c.args.at / 1000 in
    let from = c.args.at % 1000 in
    let n = c.chunk_length-end.result in
    let buffer = c.args.self.now.buffer in
    let is : length (chunk_of body k) ≡ n = c.chunk_length-end.ensures.length body size in
    let at_k : take (length (chunk_of body k)) buffer ≡ chunk_of body k = of_place (λ k. take (length (chunk_of body k)) buffer ≡ chunk_of body k) c.args.self.now.place k place held in
    let here : take n buffer ≡ chunk_of body k = ap (λ m. take m buffer) (sym is) ∙ at_k in
    let before : from < n = in_chunk c.args.at c.args.self.now.size n c.requires c.chunk_length-end.ensures.full in
    let end : c.args.at + length c.part.result.now ≡ 1000 * k + n = omega (arith, c.part.ensures.length) in
    chunk_from body buffer k from n c.args.at (c.args.at + length c.part.result.now) is here (omega (arith, before)) (omega arith) end
    ∙ ap (λ l. l ++ drop (c.args.at + length c.part.result.now) body) (sym c.part.ensures.bytes)
