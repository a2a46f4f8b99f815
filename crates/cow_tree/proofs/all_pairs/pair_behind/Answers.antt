use Rattle.std.proofs.Common.{◌≡◌, ◌≤◌, ℕ, true, List, Option, IfSome, sym, ap, subst, take, ◌∙◌}
use Rattle.std.specs.Prelude.{option_map}
use Rattle.page_store.specs.Keys.{precedes}
use Rattle.cow_tree.proofs.PairsRead.{behind_fits}
use Rattle.cow_tree.proofs.all_pairs.pair_behind.Goals as goal

pub returns-in_ok-pair-in-Ok-Some-clause-rises : goal.returns-in_ok-pair-in-Ok-Some-clause-rises
returns-in_ok-pair-in-Ok-Some-clause-rises g c =
    let found = c.in_ok-pair-in-Ok-Some.pair in
    let key = c.find_next.new.key in
    let value = c.find_next.new.value in
    let within = subst (λ (o : Option (ℕ × ℕ)). IfSome o (λ n. (n.0 ≤ 300) × (n.1 ≤ 1024))) c.in-Ok-Some.field-0-is c.in-Ok-Some.ensures.fills.within in
    let next = sym (ap (λ (o : Option (ℕ × ℕ)). option_map (λ n. (take n.0 key, take n.1 value)) o) c.in-Ok-Some.field-0-is) ∙ c.in-Ok-Some.ensures.from_kept in
    let fits = behind_fits c.find_next.new.kept c.last_key.result.now key value c.in-Ok-Some.size c.in-Ok-Some.length found c.in_ok-pair-in-Ok-Some.ensures next within.0 within.1 in
    (subst (λ (k : List ℕ). precedes k found.0 ≡ true) c.last_key.ensures fits.0, fits.1)
