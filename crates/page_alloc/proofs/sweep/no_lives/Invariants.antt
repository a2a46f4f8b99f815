use Rattle.std.proofs.Common.{◌≡◌, replicate}
use Rattle.page_alloc.specs.declared.life.Life.TheVariants.{Never}
use Rattle.page_alloc.proofs.sweep.no_lives.Given as goal

abbrev pub invariant-loop-page : goal.invariant-loop-page
invariant-loop-page l = l.lives.items ≡ replicate l._page Never
