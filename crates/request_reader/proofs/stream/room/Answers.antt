use Rattle.request_reader.proofs.GrowingStreams.{front_length}
use Rattle.request_reader.proofs.stream.room.Goals as goal

pub slice_bounds-result-end : goal.slice_bounds-result-end
slice_bounds-result-end c = front_length 32768 c.args.stream.now c.if-stream-le-MOST_DATA.false
