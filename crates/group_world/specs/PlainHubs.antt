-- A hub whose posts don't wait.
use Rattle.std.specs.Prelude.{◌≡◌, ◌≤◌, false, length}
use Rattle.group_world.specs.World.{World, count_waiting}
use Rattle.group_world.specs.Run.{Step, changes_in}
use Rattle.group_world.specs.declared.event.Event.{Event}
use Rattle.group_world.specs.declared.event.Outcome.{Outcome}

-- Posts don't wait, and none does.
pub record IsPlain (w : World) : Type 0 where
  pub plain : w.grouped ≡ false
  pub none : count_waiting w.sessions ≡ 0

-- It stays so whatever comes, and each event has at most one change.
pub record StaysPlain (w : World) (e : Event) (v : World) : Type 0 where
  pub stays : IsPlain v
  pub one : length (changes_in w e) ≤ 1

abbrev pub PlainHubsStay : Type 0
PlainHubsStay = (w v : World) (e : Event) (o : Outcome) → IsPlain w → Step w e o v → StaysPlain w e v
