use Rattle.std.proofs.Common.{◌≡◌, ◌≤◌, ◌*◌, length}
use Rattle.std.specs.Io.KnownBytes.{Consumes}
use Rattle.gopher_host.proofs.reading.whole.Given as goal

-- what was read so far is the front of what the reader had, and no more than so many pieces
abbrev pub invariant-loop-read : goal.invariant-loop-read
invariant-loop-read g l = Consumes (g.R.Read.remaining l.fn.reader) (g.R.Read.remaining l.reader) l.all.items × (length l.piece ≡ 512) × (length l.all.items ≤ 512 * l._read)
