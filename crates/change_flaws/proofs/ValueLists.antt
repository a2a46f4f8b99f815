-- Values, as many as a definition speaks of.
use Rattle.std.proofs.Common.{◌≡◌, Bool, ◌||◌, List, [], ◌∷◌, ap, length, map, refl}
use Rattle.std.specs.List.{list_any}
use Rattle.std.proofs.lemmas.List.{length-map}
use Rattle.toml.specs.Data.{Data}
use Rattle.toml.specs.View.{view}
use Rattle.toml.specs.declared.value.Value.{Value}

pub as_many : (vs : List Value) → length (map view vs) ≡ length vs
as_many vs = length-map vs view

pub any_seen : (p : Data → Bool) (vs : List Value) → list_any p (map view vs) ≡ list_any (λ v. p (view v)) vs
any_seen p [] = refl
any_seen p (v ∷ vs) = ap (λ b. p (view v) || b) (any_seen p vs)
