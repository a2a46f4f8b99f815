-- Who is in stays in.
use Rattle.std.proofs.Common.{◌≡◌, ℕ, Bool, true, false, not, cond, ◌||◌, List, [], ◌∷◌, map, filter, get_or, refl, sym, ap, ◌∙◌}
use Rattle.std.proofs.Math.ListN.{set}
use Rattle.std.proofs.lemmas.List.{map-set, set-get_or}
use Rattle.std.specs.List.{list_any}
use Rattle.daily_server.specs.Rounds.{who}
use Rattle.daily_server.specs.declared.daily_client.DailyClient.{DailyClient}

-- one of them is still who it was
pub same_clients : (all now : List DailyClient) (i : ℕ) (d new : DailyClient) → map who now ≡ map who all → who new ≡ who (get_or now i d) → map who (set now i new) ≡ map who all
same_clients all now i d new before same =
    map-set who now i new ∙ ap (set (map who now) i) same ∙ sym (map-set who now i (get_or now i d)) ∙ ap (map who) (set-get_or now i d) ∙ before

kept_one : {X : Type 0} (gone : X → Bool) (x : X) (xs : List X) (b : Bool) → gone x ≡ b → (b || list_any gone xs) ≡ false → (list_any gone xs ≡ false → xs ≡ filter (λ y. not (gone y)) xs) → x ∷ xs ≡ filter (λ y. not (gone y)) (x ∷ xs)
kept_one gone x xs false is none more = ap (λ l. x ∷ l) (more none) ∙ ap (λ b. cond (not b) (x ∷ filter (λ y. not (gone y)) xs) (filter (λ y. not (gone y)) xs)) (sym is)
kept_one gone x xs true is none more = absurd cc

-- where none has gone, all are kept
pub all_kept : {X : Type 0} (gone : X → Bool) (xs : List X) → list_any gone xs ≡ false → xs ≡ filter (λ y. not (gone y)) xs
all_kept gone [] none = refl
all_kept gone (x ∷ xs) none = kept_one gone x xs (gone x) refl none (all_kept gone xs)
