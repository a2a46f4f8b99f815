use Rattle.std.proofs.Common.{◌≡◌, [], take}
use Rattle.std.specs.Prelude.{map, fold}
use Rattle.word_search.specs.Gathered.{searched_at}
use Rattle.mem_site.proofs.searching.search_in.Given as goal

abbrev pub invariant-loop-entry : goal.invariant-loop-entry
invariant-loop-entry l = l.found ≡ fold (searched_at l.now l.scope l.asked) [] (map (λ e. (e.0.now, e.1.now)) (take l.entry-index l.entries))
