use Rattle.std.proofs.Common.{subst, sym}
use Rattle.std.proofs.lemmas.List.{take_rest}
use Rattle.host_script.proofs.Replays.{IsTaken, taken_more, taken_kept}
use Rattle.host_script.proofs.writing.write_text.Goals as goal
use Rattle.host_script.proofs.writing.write_text.Goals.{in-Ok, in-Err+else-ne}

pub loop-preserved : goal.loop-preserved
loop-preserved g c =
    let contents = g.W.Write.contents in
    elim c.match-write.branch [
      | in-Ok w ↦ rw w.rest-is (record {
        taken = subst (λ l. IsTaken (contents c.args.writer.now) (contents c.write.new.self) c.args.text.now l) (sym (take_rest c.loop.rest.now w.in-Ok.count))
            (taken_more (contents c.args.writer.now) (contents c.loop.writer) (contents c.write.new.self) c.args.text.now c.loop.rest.now w.in-Ok.count c.loop.invariant.taken w.in-Ok.ensures.bytes);
      })
      | in-Err+else-ne w ↦ rw w.rest-is (record {
        taken = taken_kept (contents c.args.writer.now) (contents c.loop.writer) (contents c.write.new.self) c.args.text.now c.loop.rest.now c.loop.invariant.taken w.in-Err.ensures.bytes;
      })
    ]
