use Rattle.std.proofs.Common.{None, sym, ◌∙◌, refl}
use Rattle.site_store.proofs.LocalReads.{rose_counted}
use Rattle.image_copies.proofs.PairsRead.{none_is_none}
use Rattle.image_copies.proofs.planning.count_for.Goals as goal

pub returns-in-None-clause-fault : goal.returns-in-None-clause-fault
returns-in-None-clause-fault g c =
    let read = c.in-Ok.ensures.roots in
    (refl, read.outcome.only.writes, λ honest. absurd (none_is_none _ (sym (sym c.in-None.is ∙ (read.gives honest).0)) (c.requires.rooted honest)))

pub returns-in-Err-clause-fault : goal.returns-in-Err-clause-fault
returns-in-Err-clause-fault g c =
    let read = c.in-Err.ensures.roots in
    (refl, read.outcome.only.writes, λ honest. rose_counted _ _ read.outcome.reads)
