-- Worked examples: what a hub accepts.
use Rattle.std.specs.Prelude.{◌≡◌, ℕ, true, false, List, [], ◌∷◌, codes}
use Rattle.host_types.specs.AllChanges.{Changes}
use Rattle.host_types.specs.Site.{fresh_site, text_item}
use Rattle.host_types.specs.declared.item.Body.TheVariants as bodies
use Rattle.host_types.specs.declared.form.Question.TheVariants as questions
use Rattle.host_types.specs.declared.change.Change.{Change}
use Rattle.host_types.specs.declared.change.Change.TheVariants.{Put, Remove, Post}
use Rattle.common_types.specs.declared.refused.Refused.TheVariants.{Missing}
use Rattle.group_world.specs.World.{World, started_as}
use Rattle.group_world.specs.Step.{step}
use Rattle.group_world.specs.GroupExamples.{an_item}
use Rattle.group_world.specs.CrashStates.{Link, stored_whole, acknowledged, in_flight, accepted}
use Rattle.group_world.specs.declared.event.Event.{Event}
use Rattle.group_world.specs.declared.event.Event.TheVariants.{Join, Bytes, Admin}
use Rattle.group_world.specs.declared.event.Outcome.{Outcome}
use Rattle.group_world.specs.declared.event.Outcome.TheVariants.{Joined, Ready, Done, Fault}
use Rattle.group_world.specs.declared.fault.HubFault.TheVariants.{Refused, Failed}
use Rattle.accepted_changes.specs.Accepted.{changes_of}

-- ---- runs

-- a host with an empty top menu, whose sessions count from a number
abbrev pub small_world : ℕ → World
small_world first = started_as false (fresh_site (codes "localhost") 7070 (codes "Ada <ada@localhost>") (codes "Top") 0) first

-- the world after an answer, or after a fault
abbrev pub after : World → Event → Outcome → World
after w e (Fault Failed) = record w { failed = true }
after w e (Fault fault) = w
after w e outcome = (step w e).world

-- a call that stored its change in one step
abbrev pub one_call : World → Event → Outcome → Link (Unit {0})
one_call w e o = record { event = e; outcome = o; stored = stored_whole w e o; world = after w e o; keeper = tt }

abbrev pub all_calls : World → List Event → List Outcome → List (Link (Unit {0}))
all_calls w [] outcomes = []
all_calls w (e ∷ events) [] = []
all_calls w (e ∷ events) (o ∷ outcomes) = one_call w e o ∷ all_calls (after w e o) events outcomes

-- the changes that such a run acknowledges, that it leaves in flight, and that it accepts
abbrev pub sure : List Event → List Outcome → Changes
sure events outcomes = changes_of (acknowledged (all_calls (small_world 1) events outcomes))

abbrev pub unsure : List Event → List Outcome → Changes
unsure events outcomes = changes_of (in_flight (all_calls (small_world 1) events outcomes))

abbrev pub taken : List Event → List Outcome → Changes
taken events outcomes = changes_of (accepted (all_calls (small_world 1) events outcomes))

-- ---- changes

-- a text document, a board, and a form for it
abbrev pub about : Change
about = Put (codes "/about") (text_item (codes "About us") 7 (codes "Hello"))

abbrev pub board : Change
board = Put (codes "/book") (an_item (codes "Book") (bodies.Board 100 1))

abbrev pub form : Change
form = Put (codes "/sign") (an_item (codes "Sign") (bodies.Form (codes "/book") (questions.Ask (codes "Your name") ∷ [])))

-- session 1 posts a name alone, at moment 5
abbrev pub post_a_name : Event
post_a_name = Bytes 1 (codes "/sign\t+\t1\r\n+-1\r\nAnn\r\n.\r\n") 5

-- the administrator puts two items, and the second fails
abbrev pub second_fails : List Event
second_fails = Admin about 7 ∷ Admin board 8 ∷ []

-- a post on the board
abbrev pub with_a_post : List Event
with_a_post = Admin board 1 ∷ Admin form 2 ∷ Join ∷ post_a_name ∷ []

pub record AcceptedExamples : Type 0 where
  pub one_is_acknowledged : sure second_fails (Done ∷ Fault Failed ∷ []) ≡ (about, 7) ∷ []
  pub two_are_accepted : taken second_fails (Done ∷ Fault Failed ∷ []) ≡ (about, 7) ∷ (board, 8) ∷ []
  -- after the first failure nothing is accepted
  pub none_after_it : taken second_fails (Fault Failed ∷ Fault Failed ∷ []) ≡ (about, 7) ∷ []
  -- one that is refused is not accepted
  pub refused : taken (Admin (Remove (codes "/about")) 6 ∷ Admin about 7 ∷ []) (Fault (Refused Missing) ∷ Done ∷ []) ≡ (about, 7) ∷ []
  pub a_post : sure with_a_post (Done ∷ Done ∷ Joined 1 ∷ Ready ∷ []) ≡ (board, 1) ∷ (form, 2) ∷ (Post (codes "/book") (codes "Ann") (codes "Your name: Ann\n"), 5) ∷ []
  pub a_post_in_flight : unsure with_a_post (Done ∷ Done ∷ Joined 1 ∷ Fault Failed ∷ []) ≡ (Post (codes "/book") (codes "Ann") (codes "Your name: Ann\n"), 5) ∷ []
