-- A session that goes behind all others once its post waits, or stays at its place.
use Rattle.std.proofs.Common.{◌≡◌, ℕ, zero, suc, ◌+◌, ◌<◌, Bool, true, false, List, [], ◌∷◌, ◌++◌, length, get_or, set, remove, refl, ap, sym, ◌∙◌, arith, subst, eqb-true, inl, inr, if◌then◌else◌}
use Rattle.std.specs.Prelude.{◌==◌, Some, None}
use Rattle.std.specs.List.{position, position_or_len}
use Rattle.std.proofs.lemmas.Bool.{cases_Bool}
use Rattle.std.proofs.lemmas.List.{map-append}
use Rattle.host_types.specs.SiteState.{SiteState}
use Rattle.host_types.specs.Pins.{Pinned}
use Rattle.group_world.specs.World as world
use Rattle.group_world.specs.World.{moved_in, others_in}
use Rattle.group_hub.specs.HeldPins.{HoldsAll, MovesPins}
use Rattle.group_hub.specs.Sessions.{phase_of, session_of, sessions_of, pin_of, pins_of, IsSound, AreSound, moved_last}
use Rattle.group_hub.specs.declared.session.Session.{Session}
use Rattle.group_hub.specs.declared.session.Phase.{Phase}
use Rattle.group_hub.proofs.SessionPlaces.{place_below, position_at}
use Rattle.group_hub.proofs.SessionsMoved.{session_moves, session_goes}
use Rattle.group_hub.proofs.SessionsHeld.{none_added, sound_added}

last_set : {P : Type 0} (items : List (Session P)) (at : ℕ) (y : Session P) → at < length items → moved_last (set items at y) at ≡ remove items at ++ y ∷ []
last_set [] at y within = absurd (omega (arith, within))
last_set (s ∷ ss) zero y within = refl
last_set (s ∷ ss) (suc at) y within = ap (λ (l : List (Session _)). s ∷ l) (last_set ss at y (omega (arith, within)))

number_at : {P : Type 0} (items : List (Session P)) (id at : ℕ) (x : Session P) → position_or_len (λ s. s.id == id) items ≡ at → at < length items → x ≡ get_or items at x → x.id ≡ id
number_at [] id at x first less read = absurd (omega (arith, less))
number_at (s ∷ ss) id zero x first less read =
    elim (cases_Bool (s.id == id)) [
      | inl e ↦ ap (λ (y : Session _). y.id) read ∙ eqb-true s.id id e
      | inr n ↦ (let no : 1 + position_or_len (λ (t : Session _). t.id == id) ss ≡ 0 = sym (rw n refl) ∙ first in absurd (omega (arith, no)))
    ]
number_at (s ∷ ss) id (suc k) x first less read =
    elim (cases_Bool (s.id == id)) [
      | inl e ↦ (let no : 0 ≡ suc k = sym (rw e refl) ∙ first in absurd (omega (arith, no)))
      | inr n ↦
          let next : 1 + position_or_len (λ (t : Session _). t.id == id) ss ≡ suc k = sym (rw n refl) ∙ first in
          number_at ss id k x (omega (arith, next)) (omega (arith, less)) read
    ]

module _ {P : Type 0} (pinned : P → Pinned) where
  -- Where the sessions are then: what the world sees, what is held, and what is drawn.
  pub record Placed (a b : SiteState) (items final : List (Session P)) (id : ℕ) (phase : Phase P) (goes : Bool) : Type 0 where
    pub seen : sessions_of pinned b final ≡ (if goes then others_in (sessions_of pinned a items) id ++ (id, phase_of pinned b phase) ∷ [] else moved_in (sessions_of pinned a items) id (phase_of pinned b phase))
    pub held : HoldsAll b (pins_of pinned final)
    pub sound : AreSound pinned a items → IsSound pinned b phase → AreSound pinned b final

  pub session_places : (a b : SiteState) (items final : List (Session P)) (id at : ℕ) (x : Session P) (phase : Phase P) (goes : Bool) → position (λ s. s.id == id) items ≡ Some at → x ≡ get_or items at x
      → HoldsAll a (pins_of pinned items) → MovesPins a b (pin_of pinned x.phase) (pin_of pinned phase) → (goes ≡ true → pin_of pinned phase ≡ None)
      → (let y : Session P = record { id = x.id; phase = phase } in final ≡ (if goes then moved_last (set items at y) at else set items at y)) → Placed a b items final id phase goes
  session_places a b items final id at x phase false found read holds moves none is =
      let moved = session_moves pinned a b items id at x phase found read holds moves in
      record {
        seen = ap (sessions_of pinned b) is ∙ moved.seen;
        held = subst (λ (l : List (Session P)). HoldsAll b (pins_of pinned l)) (sym is) moved.held;
        sound = λ all own. subst (AreSound pinned b) (sym is) (moved.sound all own);
      }
  session_places a b items final id at x phase true found read holds moves none is =
      let y : Session P = record { id = x.id; phase = phase } in
      let within = place_below pinned items id at found in
      let gone = session_goes pinned a b items id at x found read holds (subst (MovesPins a b (pin_of pinned x.phase)) (none refl) moves) in
      let list : final ≡ remove items at ++ y ∷ [] = is ∙ last_set items at y within in
      record {
        seen = ap (sessions_of pinned b) list ∙ map-append (session_of pinned b) (remove items at) (y ∷ []) ∙ ap (λ (l : List (ℕ × world.Phase)). l ++ (x.id, phase_of pinned b phase) ∷ []) gone.seen
            ∙ ap (λ (n : ℕ). others_in (sessions_of pinned a items) id ++ (n, phase_of pinned b phase) ∷ []) (number items id at x found read);
        held = subst (λ (l : List (Session P)). HoldsAll b (pins_of pinned l)) (sym list) (subst (HoldsAll b) (sym (none_added pinned (remove items at) y (none refl))) gone.held);
        sound = λ all own. subst (AreSound pinned b) (sym list) (sound_added pinned b (remove items at) y own (gone.sound all));
      }
    where
      number : (items : List (Session P)) (id at : ℕ) (x : Session P) → position (λ s. s.id == id) items ≡ Some at → x ≡ get_or items at x → x.id ≡ id
      number items id at x found read = number_at items id at x (position_at (λ (s : Session P). s.id == id) items at found) (place_below pinned items id at found) read
