use Rattle.std.proofs.Common.{refl, sym, subst}
use Rattle.host_types.specs.Site.{Site}
use Rattle.change_plan.specs.Replacements.{OnlyFirstIsNew}
use Rattle.mem_site.proofs.mem_site.MemSite.make.Goals as goal

pub replace_all-requires-clause-first : goal.replace_all-requires-clause-first
replace_all-requires-clause-first c = subst (λ (t : Site). OnlyFirstIsNew t c.in-Ok.plan.replacements.items) (sym c.in-Ok.ensures.reads_only) (c.in-Ok.ensures.plan c.args.self.now (refl, c.long_selectors.ensures)).first
