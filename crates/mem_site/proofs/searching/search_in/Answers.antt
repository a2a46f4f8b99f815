use Rattle.std.proofs.Common.{◌≡◌, [], ◌∙◌, ap, take, arith}
use Rattle.std.specs.Prelude.{map, fold}
use Rattle.std.proofs.lemmas.Grind.{common_steps}
use Rattle.word_search.specs.Gathered.{searched_at}
use Rattle.mem_site.proofs.FoundEntries.{found_all}
use Rattle.mem_site.proofs.searching.search_in.Goals as goal

pub returns : goal.returns
returns c =
    let all : take c.loop-entry.entry-index c.args.entries.now ≡ c.args.entries.now = grind (arith, common_steps) in
    c.loop-entry.invariant
    ∙ ap (λ l. fold (searched_at c.args.now c.args.scope.now c.args.asked.now) [] (map (λ e. (e.0.now, e.1.now)) l)) all
    ∙ found_all c.args.now c.args.scope.now c.args.asked.now (map (λ e. (e.0.now, e.1.now)) c.args.entries.now)
