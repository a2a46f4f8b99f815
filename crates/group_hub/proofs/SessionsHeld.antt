-- Sessions that come, and the pins that all of them hold.
use Rattle.std.proofs.Common.{◌≡◌, ℕ, zero, suc, ◌+◌, ◌<◌, ◌≤◌, true, List, [], ◌∷◌, ◌++◌, length, get_or, remove, refl, ap, sym, ◌∙◌, arith, subst}
use Rattle.std.specs.Prelude.{◌==◌, Option, Some, None, IsTrue, IfSome}
use Rattle.std.specs.List.{position}
use Rattle.std.proofs.lemmas.List.{map-append, length-map}
use Rattle.host_types.specs.SiteState.{SiteState}
use Rattle.host_types.specs.Pins.{Pinned, Copied, Numbered, is_out}
use Rattle.group_world.specs.World as world
use Rattle.group_world.specs.Run.{is_hearing}
use Rattle.group_hub.specs.HeldPins.{one_if, count_numbered, count_replying, has_more, listed, HoldsAll, HoldsForReplies}
use Rattle.group_hub.specs.Sessions.{phase_of, session_of, sessions_of, pin_of, pins_of, IsSound, AreSound}
use Rattle.group_hub.specs.Understood.{HasRoomFor}
use Rattle.group_hub.specs.declared.session.Session.{Session}
use Rattle.group_hub.specs.declared.session.Phase.{Phase}
use Rattle.group_hub.specs.declared.session.Phase.TheVariants as phases
use Rattle.group_hub.proofs.PinsMoved.{held_is_out}
use Rattle.group_hub.proofs.SessionPlaces.{place_below}
use Rattle.group_hub.proofs.SessionsMoved.{own_pin_is_held, count_both, parted}

module _ {P : Type 0} (pinned : P → Pinned) where
  -- ---- one more session

  pub none_added : (items : List (Session P)) (x : Session P) → pin_of pinned x.phase ≡ None → pins_of pinned (items ++ x ∷ []) ≡ pins_of pinned items
  none_added [] x none = ap (λ (p : Option Pinned). listed p ++ []) none
  none_added (s ∷ ss) x none = ap (λ (pins : List Pinned). listed (pin_of pinned s.phase) ++ pins) (none_added ss x none)

  pub sound_added : (h : SiteState) (items : List (Session P)) (x : Session P) → IsSound pinned h x.phase → AreSound pinned h items → AreSound pinned h (items ++ x ∷ [])
  sound_added h [] x own all = (own, tt)
  sound_added h (s ∷ ss) x own all = (all.0, sound_added h ss x own all.1)

  pub seen_added : (h : SiteState) (items : List (Session P)) (x : Session P) → phase_of pinned h x.phase ≡ world.Heard [] → sessions_of pinned h (items ++ x ∷ []) ≡ sessions_of pinned h items ++ (x.id, world.Heard []) ∷ []
  seen_added h items x silent = map-append (session_of pinned h) items (x ∷ []) ∙ ap (λ (p : world.Phase). sessions_of pinned h items ++ (x.id, p) ∷ []) silent

  pub seen_length : (h : SiteState) (items : List (Session P)) → length (sessions_of pinned h items) ≡ length items
  seen_length h items = length-map items (session_of pinned h)

  -- ---- the session at a place

  pub sound_at : (h : SiteState) (items : List (Session P)) (at : ℕ) (x : Session P) → at < length items → x ≡ get_or items at x → AreSound pinned h items → IsSound pinned h x.phase
  sound_at h [] at x within read all = absurd (omega (arith, within))
  sound_at h (s ∷ ss) zero x within read all = subst (λ (y : Session P). IsSound pinned h y.phase) (sym read) all.0
  sound_at h (s ∷ ss) (suc at) x within read all = sound_at h ss at x (omega (arith, within)) read all.1

  out_of : (h : SiteState) (pin : Option Pinned) (others : List Pinned) → HoldsAll h (listed pin ++ others) → IfSome pin (λ p. IsTrue (is_out h p))
  out_of h None others holds = tt
  out_of h (Some pin) others holds = held_is_out h pin others holds

  pub out_at : (h : SiteState) (items : List (Session P)) (at : ℕ) (x : Session P) → at < length items → x ≡ get_or items at x → HoldsAll h (pins_of pinned items) → IfSome (pin_of pinned x.phase) (λ p. IsTrue (is_out h p))
  out_at h items at x within read holds = out_of h (pin_of pinned x.phase) (pins_of pinned (remove items at)) (own_pin_is_held pinned h items at x within read holds)

  pub own_is_out : (h : SiteState) (items : List (Session P)) (id at : ℕ) (x : Session P) → position (λ s. s.id == id) items ≡ Some at → x ≡ get_or items at x → HoldsAll h (pins_of pinned items) → IfSome (pin_of pinned x.phase) (λ p. IsTrue (is_out h p))
  own_is_out h items id at x found read holds = out_at h items at x (place_below pinned items id at found) read holds

  -- ---- how many pins are out

  pub few_listed : (phase : Phase P) → count_numbered (listed (pin_of pinned phase)) ≤ 1
  few_listed (phases.Hearing s) = omega arith
  few_listed (phases.Waiting w) = omega arith
  few_listed (phases.Replying r) = omega arith
  few_listed (phases.Drawing d) = few_of (pinned d.pin)
    where
      few_of : (pin : Pinned) → count_numbered (pin ∷ []) ≤ 1
      few_of (Copied items) = omega arith
      few_of (Numbered n) = omega arith
  few_listed phases.Drawn = omega arith
  few_listed phases.Early = omega arith

  pub few_held : (items : List (Session P)) → count_numbered (pins_of pinned items) ≤ length items
  few_held [] = omega arith
  few_held (s ∷ ss) = omega (arith, count_both (listed (pin_of pinned s.phase)) (pins_of pinned ss), few_listed s.phase, few_held ss)

  length_gone : (items : List (Session P)) (at : ℕ) → at < length items → length (remove items at) + 1 ≡ length items
  length_gone [] at within = absurd (omega (arith, within))
  length_gone (s ∷ ss) zero within = omega arith
  length_gone (s ∷ ss) (suc at) within = omega (arith, length_gone ss at (omega (arith, within)))

  none_held : (h : SiteState) (phase : Phase P) → is_hearing (Some (phase_of pinned h phase)) ≡ true → count_numbered (listed (pin_of pinned phase)) ≡ 0
  none_held h (phases.Hearing s) hears = refl
  none_held h (phases.Waiting w) hears = refl
  none_held h (phases.Replying r) hears = refl
  none_held h (phases.Drawing d) hears = absurd (cc hears)
  none_held h phases.Drawn hears = refl
  none_held h phases.Early hears = refl

  pub room_at : (h : SiteState) (items : List (Session P)) (id at : ℕ) (x : Session P) → position (λ s. s.id == id) items ≡ Some at → x ≡ get_or items at x → HoldsAll h (pins_of pinned items) → length items ≤ 32 → HasRoomFor h (phase_of pinned h x.phase)
  room_at h items id at x found read holds few hears =
      let within = place_below pinned items id at found in
      let rest = remove items at in
      omega (arith, few, within, sym holds.count, (parted pinned items at x within read).count, count_both (listed (pin_of pinned x.phase)) (pins_of pinned rest), none_held h x.phase hears, few_held rest, length_gone items at within)

  pub room_beside : (h : SiteState) (items : List (Session P)) (at : ℕ) (x : Session P) → at < length items → x ≡ get_or items at x → pin_of pinned x.phase ≡ None → HoldsAll h (pins_of pinned items) → length items ≤ 32 → length h.pins < 32
  room_beside h items at x within read none holds few =
      let rest = remove items at in
      let own : count_numbered (listed (pin_of pinned x.phase)) ≡ 0 = ap (λ (o : Option Pinned). count_numbered (listed o)) none in
      omega (arith, few, within, sym holds.count, (parted pinned items at x within read).count, count_both (listed (pin_of pinned x.phase)) (pins_of pinned rest), own, few_held rest, length_gone items at within)

  has_bytes : (rest : List ℕ) → (rest ≡ [] → ⊥) → has_more (world.Reply rest) ≡ true
  has_bytes [] some = absurd (some refl)
  has_bytes (b ∷ rest) some = refl

  held_one : (h : SiteState) (phase : Phase P) → IsSound pinned h phase → count_numbered (listed (pin_of pinned phase)) ≤ one_if (has_more (phase_of pinned h phase))
  held_one h (phases.Hearing s) sound = omega arith
  held_one h (phases.Waiting w) sound = omega arith
  held_one h (phases.Replying r) sound = omega arith
  held_one h (phases.Drawing d) sound = (let more : has_more (phase_of pinned h (phases.Drawing d)) ≡ true = has_bytes _ sound.1 in rw more (few_listed (phases.Drawing d)))
  held_one h phases.Drawn sound = omega arith
  held_one h phases.Early sound = omega arith

  held_by_replies : (h : SiteState) (items : List (Session P)) → AreSound pinned h items → count_numbered (pins_of pinned items) ≤ count_replying (sessions_of pinned h items)
  held_by_replies h [] sound = omega arith
  held_by_replies h (s ∷ ss) sound = omega (arith, count_both (listed (pin_of pinned s.phase)) (pins_of pinned ss), held_one h s.phase sound.0, held_by_replies h ss sound.1)

  pub holds_for_replies : (h : SiteState) (items : List (Session P)) → HoldsAll h (pins_of pinned items) → (IsTrue h.honest → AreSound pinned h items) → HoldsForReplies h (sessions_of pinned h items)
  holds_for_replies h items holds sound honest = omega (arith, sym holds.count, held_by_replies h items (sound honest))
