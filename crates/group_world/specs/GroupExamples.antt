-- Worked examples: posts that wait for one another.
use Rattle.std.specs.Prelude.{None, ◌≡◌, ℕ, Bool, true, false, List, [], ◌∷◌, ◌++◌, length, codes}
use Rattle.host_types.specs.Site.{fresh_site}
use Rattle.host_types.specs.declared.item.Item.{Item}
use Rattle.host_types.specs.declared.item.Body.{Body}
use Rattle.host_types.specs.declared.item.Body.TheVariants as bodies
use Rattle.host_types.specs.declared.menu.Entry.TheVariants as entries
use Rattle.host_types.specs.declared.form.Question.TheVariants as questions
use Rattle.host_types.specs.declared.change.Change.TheVariants.{Put, Remove}
use Rattle.group_world.specs.declared.fault.HubFault.TheVariants.{NotReady, Failed}
use Rattle.group_world.specs.CrashStates.{Stored, stored_whole, stored_singly}
use Rattle.group_world.specs.World.{World, started_as}
use Rattle.group_world.specs.Step.{step}
use Rattle.group_world.specs.declared.event.Event.{Event}
use Rattle.group_world.specs.declared.event.Event.TheVariants.{Join, Bytes, End, Draw, Leave, Admin, Flush}
use Rattle.group_world.specs.declared.event.Outcome.{Outcome}
use Rattle.group_world.specs.declared.event.Outcome.TheVariants.{Joined, Ready, Waiting, Drawn, Gone, Done, Flushed, Fault}

abbrev pub answers : World → List Event → List Outcome
answers w [] = []
answers w (e ∷ events) = (step w e).outcome ∷ answers (step w e).world events

abbrev pub an_item : List ℕ → Body → Item
an_item title body = record { title = title; stamp = 0; until = None; summary = []; body = body }

-- a board that keeps so many posts, and a form for it
abbrev pub put_board : ℕ → Event
put_board cap = Admin (Put (codes "/book") (an_item (codes "Book") (bodies.Board cap 1))) 0

abbrev pub put_form : Event
put_form = Admin (Put (codes "/sign") (an_item (codes "Sign") (bodies.Form (codes "/book") (questions.Ask (codes "Your name") ∷ questions.AskL (codes "Message") ∷ [])))) 0

abbrev pub host : Bool → World
host grouped = started_as grouped (fresh_site (codes "localhost") 7070 (codes "Ada <ada@localhost>") (codes "Top") 0) 1

-- the events after those that make board and form
abbrev pub with_book : Bool → ℕ → List Event → List Outcome
with_book grouped cap events = answers (step (step (host grouped) (put_board cap)).world put_form).world events

-- a post by a name alone
abbrev pub posts : ℕ → List ℕ → Event
posts id name = Bytes id (codes "/sign\t+\t1\r\n+-1\r\n" ++ name ++ codes "\r\n0\r\n.\r\n") 5

-- the world behind some events
abbrev pub behind : World → List Event → World
behind w [] = w
behind w (e ∷ events) = behind (step w e).world events

-- two posts wait
abbrev pub two_wait : World
two_wait = behind (step (step (host true) (put_board 100)).world put_form).world (Join ∷ Join ∷ posts 1 (codes "Ann") ∷ posts 2 (codes "Bob") ∷ [])

-- how many commits are acknowledged, and how many are in flight
abbrev pub counts : Stored → ℕ × ℕ
counts stored = (length stored.commits, length stored.flying)

pub record GroupExamples : Type 0 where
  -- both share one commit; where it fails, that one is in flight
  pub one_commit : counts (stored_whole two_wait Flush (Flushed 2 0)) ≡ (1, 0)
  pub one_in_flight : counts (stored_whole two_wait Flush (Fault Failed)) ≡ (0, 1)
  -- one at a time: both are stored, the second is left, or it fails
  pub both_alone : counts (stored_singly two_wait (true ∷ true ∷ []) (Flushed 2 0)) ≡ (2, 0)
  pub one_is_left : counts (stored_singly two_wait (true ∷ false ∷ []) (Flushed 1 1)) ≡ (1, 0)
  pub the_second_fails : counts (stored_singly two_wait (true ∷ []) (Fault Failed)) ≡ (1, 1)
  pub two_posts :
      with_book true 100 (Join ∷ Join ∷ Join ∷ posts 1 (codes "Ann") ∷ posts 2 (codes "Bob") ∷ Draw 1 9 ∷ Bytes 1 (codes "x") 5 ∷ End 1 5 ∷ Bytes 3 (codes "/book\r\n") 5 ∷ Draw 3 99 ∷ Flush ∷ Draw 1 99 ∷ Draw 2 99 ∷ Flush ∷ [])
      ≡ Joined 1 ∷ Joined 2 ∷ Joined 3 ∷ Waiting ∷ Waiting ∷ Fault NotReady ∷ Waiting ∷ Waiting ∷ Ready ∷ Drawn (codes ".\r\n") ∷ Flushed 2 0
      ∷ Drawn (codes "+-1\r\n0Ann\tpost//book/1\tlocalhost\t7070\t+\r\n.\r\n") ∷ Drawn (codes "+-1\r\n0Bob\tpost//book/2\tlocalhost\t7070\t+\r\n.\r\n") ∷ Flushed 0 0 ∷ []
  -- the second session comes first
  pub in_order_of_arrival :
      with_book true 100 (Join ∷ Join ∷ posts 2 (codes "Bob") ∷ posts 1 (codes "Ann") ∷ Flush ∷ Draw 1 99 ∷ [])
      ≡ Joined 1 ∷ Joined 2 ∷ Waiting ∷ Waiting ∷ Flushed 2 0 ∷ Drawn (codes "+-1\r\n0Ann\tpost//book/2\tlocalhost\t7070\t+\r\n.\r\n") ∷ []
  -- the first post is pushed out by the second, and still answered by its line
  pub one_is_kept :
      with_book true 1 (Join ∷ Join ∷ Join ∷ posts 1 (codes "Ann") ∷ posts 2 (codes "Bob") ∷ Flush ∷ Draw 1 99 ∷ Bytes 3 (codes "/book\r\n") 5 ∷ Draw 3 99 ∷ [])
      ≡ Joined 1 ∷ Joined 2 ∷ Joined 3 ∷ Waiting ∷ Waiting ∷ Flushed 2 0 ∷ Drawn (codes "+-1\r\n0Ann\tpost//book/1\tlocalhost\t7070\t+\r\n.\r\n") ∷ Ready ∷ Drawn (codes "0Bob\tpost//book/2\tlocalhost\t7070\t+\r\n.\r\n") ∷ []
  pub withdrawn :
      with_book true 100 (Join ∷ posts 1 (codes "Ann") ∷ Leave 1 ∷ Flush ∷ Join ∷ posts 2 (codes "Bob") ∷ Flush ∷ Draw 2 99 ∷ [])
      ≡ Joined 1 ∷ Waiting ∷ Gone ∷ Flushed 0 0 ∷ Joined 2 ∷ Waiting ∷ Flushed 1 0 ∷ Drawn (codes "+-1\r\n0Bob\tpost//book/1\tlocalhost\t7070\t+\r\n.\r\n") ∷ []
  pub the_form_is_gone :
      with_book true 100 (Join ∷ posts 1 (codes "Ann") ∷ Admin (Remove (codes "/sign")) 0 ∷ Flush ∷ Draw 1 99 ∷ [])
      ≡ Joined 1 ∷ Waiting ∷ Done ∷ Flushed 1 0 ∷ Drawn (codes "--1\r\n1 Item not found\r\n.\r\n") ∷ []
  -- one that finds a menu in place of its form sees the site without the group
  pub a_menu_in_its_place :
      with_book true 100 (Join ∷ Join ∷ posts 1 (codes "Ann") ∷ posts 2 (codes "Bob") ∷ Admin (Put (codes "/sign") (an_item (codes "Now") (bodies.Menu (entries.Local (codes "post//book/1") ∷ [])))) 0 ∷ Flush ∷ Draw 1 99 ∷ Draw 2 99 ∷ [])
      ≡ Joined 1 ∷ Joined 2 ∷ Waiting ∷ Waiting ∷ Done ∷ Flushed 2 0 ∷ Drawn (codes "+-1\r\n.\r\n") ∷ Drawn (codes "+-1\r\n.\r\n") ∷ []
  -- where posts don't wait, nothing is flushed
  pub one_by_one :
      with_book false 100 (Join ∷ posts 1 (codes "Ann") ∷ Draw 1 99 ∷ Flush ∷ [])
      ≡ Joined 1 ∷ Ready ∷ Drawn (codes "+-1\r\n0Ann\tpost//book/1\tlocalhost\t7070\t+\r\n.\r\n") ∷ Flushed 0 0 ∷ []
