use Rattle.std.proofs.Common.{◌∙◌}
use Rattle.view_draws.specs.Source.{viewed_by}
use Rattle.view_draws.proofs.Chunks.{chunk_of_none}
use Rattle.view_draws.proofs.source.ViewSource.load.Goals as goal

pub returns-then-self-eq0-clause-chunk : goal.returns-then-self-eq0-clause-chunk
returns-then-self-eq0-clause-chunk g c = λ honest known held.
    chunk_of_none (viewed_by (g.S.SiteKeeper.site_state c.args.site.now) (g.S.SiteKeeper.pinned c.args.pin.now) c.args.self.now) c.args.self.now.buffer c.args.k (known ∙ c.if-self-eq0.true)
