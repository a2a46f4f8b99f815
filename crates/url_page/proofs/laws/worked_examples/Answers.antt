use Rattle.std.proofs.Common.{refl}
use Rattle.url_page.specs.Page.{is_allowed, opening, middle, closing, page}
use Rattle.url_page.proofs.laws.worked_examples.Goals as goal

pub returns : goal.returns
unfolding is_allowed opening middle closing page
returns c = record { page = refl; size = refl; script = refl; empty = refl; space = refl; scheme_alone = refl; long = refl; all_four = refl; once = refl }
