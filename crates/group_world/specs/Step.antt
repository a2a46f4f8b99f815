-- One event: what the protocol answers, and the world after it.
use Rattle.std.specs.Prelude.{ℕ, ◌+◌, ◌-◌, ◌^◌, Bool, true, false, List, [], ◌∷◌, ◌++◌, Option, Some, None, Result, Ok, Err, if◌then◌else◌, ◌==◌, nat_le, length, map, take, drop}
use Rattle.host_types.specs.Site.{Site, item_at}
use Rattle.host_types.specs.Visible.{visible}
use Rattle.host_types.specs.Change.{apply}
use Rattle.host_types.specs.declared.change.Change.{Change}
pub use Rattle.host_types.specs.AllChanges.{Changes}
use Rattle.common_types.specs.declared.refused.Refused.{Refused}
use Rattle.request_reader.specs.Request.{Request}
use Rattle.request_reader.specs.Verdict.{Verdict, Open, Early as EndedEarly, Whole, Bad, verdict}
use Rattle.site_replies.specs.Forms.{is_form_in}
use Rattle.site_replies.specs.Reply.{WholeAnswer, reply, bad_reply}
use Rattle.group_world.specs.declared.fault.HubFault.{HubFault}
use Rattle.group_world.specs.declared.fault.HubFault.TheVariants.{Unknown, Crowded, Spent, Refused as RefusedBy, Failed, NotReady}
use Rattle.group_world.specs.declared.event.Event.{Event}
use Rattle.group_world.specs.declared.event.Event.TheVariants.{Join, Bytes, End, Draw, Leave, Admin, Flush}
use Rattle.group_world.specs.declared.event.Outcome.{Outcome}
use Rattle.group_world.specs.declared.event.Outcome.TheVariants.{Joined, More, Ready, Finished, Waiting, Drawn, Gone, Done, Flushed, Fault}
use Rattle.group_world.specs.World.{World, Phase, Heard, Waits, Reply, Early, phase_of, with_phase, with_site, without_session, with_waiting, count_waiting}

-- ---- one session

-- What a session answers, the phase that it is in then, and the post that it makes.
pub record StepResult : Type 0 where
  pub outcome : Outcome
  pub phase : Phase
  pub post : Option Change

abbrev pub says : Outcome → Phase → StepResult
says outcome phase = record { outcome = outcome; phase = phase; post = None }

abbrev pub replies : WholeAnswer → StepResult
replies answered = record { outcome = Ready; phase = Reply answered.bytes; post = answered.post }

-- where posts wait, a right one does
abbrev pub waits_or : Request → ℕ → WholeAnswer → Option Change → StepResult
waits_or request now answered None = replies answered
waits_or request now answered (Some post) = says Waiting (Waits request now)

abbrev pub settles : Bool → Request → ℕ → WholeAnswer → StepResult
settles grouped request now answered = if grouped then waits_or request now answered answered.post else replies answered

-- by what its input so far says
abbrev pub understood : Bool → Site → ℕ → List ℕ → Verdict → StepResult
understood grouped site now stream Open = says More (Heard stream)
understood grouped site now stream EndedEarly = says Finished Early
understood grouped site now stream (Whole request) = settles grouped request now (reply site request now)
understood grouped site now stream (Bad cause) = says Ready (Reply (bad_reply cause))

-- a piece of input, at a moment
abbrev pub listens : Bool → Site → ℕ → List ℕ → Phase → StepResult
listens grouped site now piece (Heard stream) = understood grouped site now (stream ++ piece) (verdict (stream ++ piece) false)
listens grouped site now piece (Waits request at) = says Waiting (Waits request at)
listens grouped site now piece (Reply rest) = says Ready (Reply rest)
listens grouped site now piece Early = says Finished Early

-- the end of input
abbrev pub ends : Bool → Site → ℕ → Phase → StepResult
ends grouped site now (Heard stream) = understood grouped site now stream (verdict stream true)
ends grouped site now (Waits request at) = says Waiting (Waits request at)
ends grouped site now (Reply rest) = says Ready (Reply rest)
ends grouped site now Early = says Finished Early

-- the next bytes of a reply, as many as there are and fit
abbrev pub draws : ℕ → Phase → StepResult
draws room (Heard stream) = says (Fault NotReady) (Heard stream)
draws room (Waits request at) = says (Fault NotReady) (Waits request at)
draws room Early = says Finished Early
draws room (Reply []) = says Finished (Reply [])
draws room (Reply (b ∷ rest)) = says (Drawn (take room (b ∷ rest))) (Reply (drop room (b ∷ rest)))

-- ---- the world

-- An answer and the world after it.
pub record Next : Type 0 where
  pub outcome : Outcome
  pub world : World

abbrev pub then_is : Outcome → World → Next
then_is outcome world = record { outcome = outcome; world = world }

-- The greatest number of 64 bits is never given, and 32 sessions are the most.
unfoldable pub joined : World → Next
joined w =
    if nat_le 32 (length w.sessions) then then_is (Fault Crowded) w
    else if w.next == 2 ^ 64 - 1 then then_is (Fault Spent) w
    else then_is (Joined w.next) (record w { next = w.next + 1; sessions = w.sessions ++ (w.next, Heard []) ∷ [] })

-- what a session says, where there is one
abbrev pub at_session : World → ℕ → (Phase → StepResult) → Option Phase → Next
at_session w id f None = then_is (Fault Unknown) w
at_session w id f (Some phase) = then_is (f phase).outcome (with_phase w id (f phase).phase)

-- A change that isn't valid leaves the site as it is.
abbrev pub made_or : Site → Result Site Refused → Site
made_or site (Ok after) = after
made_or site (Err refused) = site

-- the site with a change that is made at a moment, where there is one
abbrev pub with_change : Site → ℕ → Option Change → Site
with_change site now None = site
with_change site now (Some change) = made_or site (apply site change now)

-- a session moves on, with the post that it makes
abbrev pub moves : World → ℕ → ℕ → StepResult → Next
moves w id now r = then_is r.outcome (with_site (with_phase w id r.phase) (with_change w.site now r.post))

-- no more posts wait
abbrev pub most_waiting : ℕ
most_waiting = 16

-- of a session whose request is heard: a post that comes to wait stands behind all others
abbrev pub settled : World → ℕ → ℕ → StepResult → Phase → Next
settled w id now r (Waits request at) = if nat_le most_waiting (count_waiting w.sessions) then then_is (Fault Crowded) w else then_is r.outcome (with_waiting w id request at)
settled w id now r phase = moves w id now r

abbrev pub heard_by : World → ℕ → ℕ → StepResult → Phase → Next
heard_by w id now r (Heard stream) = settled w id now r r.phase
heard_by w id now r phase = moves w id now r

-- a session hears something, and may make a post, or come to wait with it
abbrev pub at_hearing : World → ℕ → ℕ → (Phase → StepResult) → Option Phase → Next
at_hearing w id now f None = then_is (Fault Unknown) w
at_hearing w id now f (Some phase) = heard_by w id now (f phase) phase

abbrev pub left : World → ℕ → Option Phase → Next
left w id None = then_is (Fault Unknown) w
left w id (Some phase) = then_is Gone (without_session w id)

abbrev pub changed : World → Result Site Refused → Next
changed w (Ok site) = then_is Done (with_site w site)
changed w (Err refused) = then_is (Fault (RefusedBy refused)) w

-- ---- the posts that wait are made

-- a request that finds no form any more, at its moment, is answered from the site as it stands
abbrev pub without_form : Site → Phase → Phase
without_form s (Waits request now) = if is_form_in (item_at (visible s now) request.selector) then Waits request now else Reply (reply s request now).bytes
without_form s phase = phase

abbrev pub without_forms : Site → List (ℕ × Phase) → List (ℕ × Phase)
without_forms s sessions = map (λ x. (x.0, without_form s x.1)) sessions

-- a session whose post waits is answered from a site
abbrev pub answered_from : Site → Phase → Phase
answered_from s (Waits request now) = Reply (reply s request now).bytes
answered_from s phase = phase

abbrev pub at_moment : ℕ → Option Change → Changes
at_moment now None = []
at_moment now (Some change) = (change, now) ∷ []

-- the post that it makes of it, where it is a right one
abbrev pub post_from : Site → Phase → Changes
post_from s (Waits request now) = at_moment now (reply s request now).post
post_from s phase = []

abbrev pub site_from : Site → Phase → Site
site_from s (Waits request now) = with_change s now (reply s request now).post
site_from s phase = s

-- A site, some sessions, and the changes that were made.
pub record Group : Type 0 where
  pub site : Site
  pub sessions : List (ℕ × Phase)
  pub changes : Changes

abbrev pub behind : ℕ × Phase → Changes → Group → Group
behind session changes g = record { site = g.site; sessions = session ∷ g.sessions; changes = changes ++ g.changes }

-- Sessions are taken in their order, each from the site after those before it: what is true is answered, what is false is left, and so are those behind.
abbrev pub taken : Site → List Bool → List (ℕ × Phase) → Group
taken s [] sessions = record { site = s; sessions = sessions; changes = [] }
taken s (takes ∷ choices) [] = record { site = s; sessions = []; changes = [] }
taken s (takes ∷ choices) (x ∷ sessions) =
    if takes then behind (x.0, answered_from s x.1) (post_from s x.1) (taken (site_from s x.1) choices sessions)
    else behind x [] (taken s choices sessions)

-- those that find no form any more are answered first, and then some of the others
abbrev pub flushed_by : World → List Bool → Group
flushed_by w choices = taken w.site choices (without_forms w.site w.sessions)

abbrev pub all_of : List (ℕ × Phase) → List Bool
all_of sessions = map (λ x. true) sessions

-- all of them are answered
abbrev pub whole_group : World → Group
whole_group w = flushed_by w (all_of w.sessions)

abbrev pub with_group : World → Group → World
with_group w g = record w { site = g.site; sessions = g.sessions }

abbrev pub flushed : World → Next
flushed w = then_is (Flushed (count_waiting w.sessions) 0) (with_group w (whole_group w))

abbrev pub answer : World → Event → Next
answer w Join = joined w
answer w (Bytes id piece now) = at_hearing w id now (listens w.grouped w.site now piece) (phase_of w id)
answer w (End id now) = at_hearing w id now (ends w.grouped w.site now) (phase_of w id)
answer w (Draw id room) = at_session w id (draws room) (phase_of w id)
answer w (Leave id) = left w id (phase_of w id)
answer w (Admin change now) = changed w (apply w.site change now)
answer w Flush = flushed w

-- a hub that has failed lets sessions leave and does no more
abbrev pub failed_answer : World → Event → Next
failed_answer w (Leave id) = left w id (phase_of w id)
failed_answer w e = then_is (Fault Failed) w

abbrev pub step : World → Event → Next
step w e = if w.failed then failed_answer w e else answer w e
