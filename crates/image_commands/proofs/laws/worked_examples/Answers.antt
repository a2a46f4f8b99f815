use Rattle.std.proofs.Common.{refl}
use Rattle.std.specs.Fmt.{digits}
use Rattle.bstr.proofs.Computing.{computing}
use Rattle.image_commands.proofs.laws.worked_examples.Goals as goal

pub returns : goal.returns
unfolding digits computing
returns c = record {
  formatted = refl;
  figures = refl;
  free = refl;
  upgraded = refl;
  shown = refl;
  pages = refl;
  few_pages = refl;
  name = refl;
  refused = refl;
  damaged = refl;
  full = refl;
  bad_record = refl;
  no_file = refl;
  memory = refl;
}
