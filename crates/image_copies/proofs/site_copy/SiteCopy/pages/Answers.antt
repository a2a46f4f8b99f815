use Rattle.image_copies.proofs.site_copy.SiteCopy.pages.Goals as goal

pub returns : goal.returns
returns c = λ s count copy. c.pages.ensures count copy.banner copy.pairs copy.image
