-- How many wait once sessions are put.
use Rattle.std.proofs.Common.{◌≡◌, ◌≤◌, Bool, true, false, List, [], ◌∷◌, refl, arith}
use Rattle.host_types.specs.SiteState.{SiteState}
use Rattle.host_types.specs.Pins.{Pinned}
use Rattle.group_world.specs.World.{one_waiting, count_waiting}
use Rattle.group_hub.specs.HeldPins.{one_if}
use Rattle.group_hub.specs.Flushing.{IsForWaiting, AreForWaiting, put_one, put_sessions}
use Rattle.group_hub.specs.Sessions.{phase_of, sessions_of, is_waiting}
use Rattle.group_hub.specs.declared.next.Next.{Next}
use Rattle.group_hub.specs.declared.next.Next.TheVariants as nexts
use Rattle.group_hub.specs.declared.next.Putting.{Putting}
use Rattle.group_hub.specs.declared.next.Putting.TheVariants as puttings
use Rattle.group_hub.specs.declared.session.Session.{Session}
use Rattle.group_hub.specs.declared.session.Phase.{Phase}
use Rattle.group_hub.proofs.WaitingSessions.{one_of}

module _ {P : Type 0} (pinned : P → Pinned) (h then : SiteState) where
  not_waiting : (b : Bool) → (b ≡ true → ⊥) → one_if b ≡ 0
  not_waiting true no_more = absurd (no_more refl)
  not_waiting false no_more = refl

  fewer_one : (putting : Putting) (phase : Phase P) (n : Next P) → IsForWaiting phase n → one_waiting (put_one putting pinned h (phase_of pinned then phase) n) ≤ one_waiting (phase_of pinned then phase)
  fewer_one puttings.All phase nexts.Stays is = omega arith
  fewer_one puttings.Gone phase nexts.Stays is = omega arith
  fewer_one puttings.All phase (nexts.Gone p) is = omega (arith, one_of pinned h p, not_waiting (is_waiting p) is.1)
  fewer_one puttings.All phase (nexts.Replied p) is = omega (arith, one_of pinned h p, not_waiting (is_waiting p) is.1)
  fewer_one puttings.Gone phase (nexts.Gone p) is = omega (arith, one_of pinned h p, not_waiting (is_waiting p) is.1)
  fewer_one puttings.Gone phase (nexts.Replied p) is = omega arith

  pub fewer_put : (putting : Putting) (items : List (Session P)) (ns : List (Next P)) → AreForWaiting items ns → count_waiting (put_sessions putting pinned h (sessions_of pinned then items) ns) ≤ count_waiting (sessions_of pinned then items)
  fewer_put putting [] [] are = omega arith
  fewer_put putting (s ∷ ss) (n ∷ ns) are = omega (arith, fewer_one putting s.phase n are.0, fewer_put putting ss ns are.1)
  fewer_put putting [] (n ∷ ns) are = absurd are
  fewer_put putting (s ∷ ss) [] are = absurd are
