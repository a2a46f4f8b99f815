use Rattle.std.proofs.Common.{ap, ◌∙◌, refl, append_assoc}
use Rattle.std.specs.Prelude.{codes}
use Rattle.gophermap.specs.Line.{lines_of}
use Rattle.gophermap.proofs.Endings.{ends_there}
use Rattle.gophermap.proofs.laws.nothing_behind_the_end_is_read.Goals as goal

pub returns : goal.returns
returns c = record {
  end = λ front behind. ap lines_of (append_assoc front (codes "\n.\n") behind) ∙ ends_there 46 front behind refl refl;
  listing = λ front behind. ap lines_of (append_assoc front (codes "\n*\n") behind) ∙ ends_there 42 front behind refl refl;
}
