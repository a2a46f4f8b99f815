use Rattle.std.proofs.Common.{refl}
use Rattle.std.specs.Fmt.{digits}
use Rattle.bstr.specs.Escape.{escaped_after}
use Rattle.host_script.proofs.laws.worked_examples.Goals as goal

pub returns : goal.returns
unfolding digits escaped_after lib.Utf8.encode
returns c = record {
  joined = refl;
  more = refl;
  ready = refl;
  finished = refl;
  waiting = refl;
  drawn = refl;
  nothing_drawn = refl;
  gone = refl;
  done = refl;
  flushed = refl;
  nobody_waited = refl;
  not_ready = refl;
  full = refl;
  refused = refl;
}
