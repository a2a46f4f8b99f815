-- Lives of pages, by generations.
use Rattle.std.specs.Prelude.{ℕ, Bool, false, nat_le, nat_lt, ◌&&◌}
use Rattle.page_alloc.specs.declared.life.Life.{Life}
use Rattle.page_alloc.specs.declared.life.Life.TheVariants.{Never, Since, Between}

-- A generation has a page where the page lives then: from the generation that held or took it, and before the one that retired it.
abbrev pub lives_at : ℕ → Life → Bool
lives_at generation Never = false
lives_at generation (Since from) = nat_le from generation
lives_at generation (Between from until) = nat_le from generation && nat_lt generation until

-- a life that goes on, ended at a generation
abbrev pub ended_at : ℕ → Life → Life
ended_at until (Since from) = Between from until
ended_at until life = life
