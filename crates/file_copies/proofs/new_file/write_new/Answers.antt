use Rattle.std.proofs.Common.{◌≡◌, ◌⊎◌, ◌++◌, ◌∷◌, [], ℕ, List, true, false, inl, inr, subst, refl}
use Rattle.std.specs.String.{string_bytes}
use Rattle.file_names.specs.NameCalls.{Renamed, Synced}
use Rattle.file_copies.proofs.new_file.write_new.Goals as goal

pub returns-in-Err : goal.returns-in-Err
returns-in-Err g c = λ s count copy part. inl (c.in-Err.ensures.fault s count copy, refl)

pub returns : goal.returns
returns g c = λ s count copy part.
    let asked = c.args.names.now.calls in
    let now = c.name_new.new.names.calls in
    let new = c.args.new.now in
    record {
      copied = c.in-Ok.ensures.copied refl s count copy;
      sure = c.in-Ok.ensures.sure refl;
      names = subst (λ (p : List ℕ). now ≡ asked ++ Renamed p new true ∷ Synced new true ∷ []) part c.in-Ok-name_new.ensures.named;
    }

pub returns-in-Err-name_new : goal.returns-in-Err-name_new
returns-in-Err-name_new g c = λ s count copy part.
    let asked = c.args.names.now.calls in
    let now = c.name_new.new.names.calls in
    let new = c.args.new.now in
    let failed = c.in-Err-name_new.ensures.failed in
    inr (failed.0, (string_bytes c.in-Ok.line, c.in-Ok.ensures.copied refl s count copy), subst (λ (p : List ℕ). (now ≡ asked ++ Renamed p new false ∷ []) ⊎ (now ≡ asked ++ Renamed p new true ∷ Synced new false ∷ [])) part failed.1)
