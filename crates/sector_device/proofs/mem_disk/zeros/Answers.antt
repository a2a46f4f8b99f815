use Rattle.std.proofs.Common.{List, [], ◌∷◌, ◌++◌, replicate, ap, ◌∙◌}
use Rattle.std.proofs.lemmas.List.{replicate-append-replicate}
use Rattle.sector_device.proofs.mem_disk.zeros.Goals as goal

pub loop-sector-preserved : goal.loop-sector-preserved
loop-sector-preserved c =
    c.in_ok-push.ensures.items ∙ ap (λ (made : List (List _)). made ++ replicate 512 0 ∷ []) c.loop-sector.invariant ∙ replicate-append-replicate c.loop-sector._sector 1 (replicate 512 0)
