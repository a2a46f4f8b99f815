use Rattle.std.proofs.Common.{◌≡◌, ◌-◌, map, drop}
use Rattle.page_store.specs.Keys.{rises}
use Rattle.page_store.specs.Pages.{key_of}
use Rattle.page_store.proofs.pair.keys_rise.Given as goal

abbrev pub invariant-loop-place : goal.invariant-loop-place
invariant-loop-place l = rises (map key_of (drop (l.place - 1) l.pairs)) ≡ rises (map key_of l.pairs)
