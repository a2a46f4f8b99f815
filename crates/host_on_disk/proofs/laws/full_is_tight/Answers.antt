use Rattle.std.proofs.Common.{◌+◌, ◌*◌, ℕ, List, length, sym, ap, ◌∙◌, arith}
use Rattle.std.proofs.lemmas.List.{length-map}
use Rattle.page_store.specs.Batch.{edit_key}
use Rattle.page_store.specs.StoreState.{most_levels}
use Rattle.host_on_disk.proofs.laws.full_is_tight.Goals as goal

pub returns : goal.returns
returns g c = λ honest changes need free less (batch, made, applied, keys, layout, (is, may)).
    let count = sym (length-map batch edit_key) ∙ ap (λ (ks : List (List ℕ)). length ks) keys in
    let most = (may honest).most in
    let levels = c.args.site.now.keeper.slot.root.height + most_levels in
    let same = ap (λ (n : ℕ). n * levels) count in
    omega (arith, less, most, same)
