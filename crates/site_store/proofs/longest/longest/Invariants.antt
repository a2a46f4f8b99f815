use Rattle.std.proofs.Common.{option_map, take}
use Rattle.site_store.specs.Searching.{IsLongestIn}
use Rattle.site_store.proofs.longest.longest.Given as goal

abbrev pub invariant-loop-word : goal.invariant-loop-word
invariant-loop-word l = IsLongestIn (take l.word-index l.words) (option_map (λ word. word.now) l.longest)
