-- Passes that were made over clients.
use Rattle.std.proofs.Common.{◌≡◌, ℕ, ◌≤◌, ◌<◌, true, List, Option}
use Rattle.group_world.specs.declared.event.Event.{Event}
use Rattle.group_world.specs.declared.event.Outcome.{Outcome}
use Rattle.turns.specs.Turns.{Times}
use Rattle.daily_server.specs.DailyClients.{Beside, HadPass, HadPasses, all_wait}
use Rattle.daily_server.specs.declared.daily_client.DailyClient.{DailyClient}

pub passes_made : (most : Option ℕ) (now count : ℕ) (old new : Beside (List DailyClient)) (es : List Event) (os : List Outcome) → count ≤ 16 → (count < 16 → all_wait new.0 ≡ true) → Times count (HadPass most now) old es os new → HadPasses most now old es os new
passes_made most now count old new es os few until made = record { count = count; few = few; passes = made; until = until }
