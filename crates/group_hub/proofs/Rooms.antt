-- Rooms of events.
use Rattle.std.proofs.Common.{◌≡◌, ℕ, ◌+◌, ◌<◌, List, length, drop, map, set, Vec, Global, vec_len, arith, ap, sym, ◌∙◌}
use Rattle.std.proofs.lemmas.List.{drop-map, drop-set-lt, drop-drop}
use Rattle.group_hub.specs.Rooms.{room_of}
use Rattle.group_world.specs.declared.event.Event.{Event}

-- the rooms behind one that is used are those of the events behind its event
pub rooms_more : (rooms : List (Vec ℕ Global)) (events : List Event) (at : ℕ) (used : Vec ℕ Global) → at < length events →
    map (λ b. vec_len b) (drop at rooms) ≡ map room_of (drop at events) →
    map (λ b. vec_len b) (drop (at + 1) (set rooms at used)) ≡ map room_of (drop (at + 1) events)
rooms_more rooms events at used below same =
    let sizes = map (λ (b : Vec ℕ Global). vec_len b) rooms in
    let here : drop at sizes ≡ drop at (map room_of events) = drop-map (λ (b : Vec ℕ Global). vec_len b) at rooms ∙ same ∙ sym (drop-map room_of at events) in
    ap (map (λ (b : Vec ℕ Global). vec_len b)) (drop-set-lt (at + 1) rooms at used (omega arith))
    ∙ sym (drop-map (λ (b : Vec ℕ Global). vec_len b) (at + 1) rooms)
    ∙ sym (drop-drop 1 at sizes) ∙ ap (drop 1) here ∙ drop-drop 1 at (map room_of events) ∙ drop-map room_of (at + 1) events
