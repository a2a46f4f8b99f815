-- What sessions rest on where posts may wait: what is drawn goes on from where it stood, and is the text of the site that the request found, or that the post found at its place in the group.
use Rattle.std.specs.Prelude.{◌≡◌, ◌⊎◌, ℕ, Bool, true, false, not, List, [], ◌∷◌, ◌++◌, ◌==◌, ◌&&◌, take, Option, Some, None, if◌then◌else◌}
use Rattle.host_types.specs.Site.{Site, item_at}
use Rattle.host_types.specs.Visible.{visible}
use Rattle.request_reader.specs.Request.{Request}
use Rattle.request_reader.specs.Verdict.{Verdict, Open, Early as EndedEarly, Whole, Bad, verdict}
use Rattle.site_replies.specs.Reply.{reply, bad_reply}
use Rattle.group_world.specs.World.{World, Phase, Heard, Waits, Reply, phase_of, started_as}
use Rattle.site_replies.specs.Forms.{is_form_in}
use Rattle.group_world.specs.Step.{flushed_by}
use Rattle.group_world.specs.declared.event.Event.{Event}
use Rattle.group_world.specs.declared.event.Event.TheVariants.{Bytes, End, Draw, Leave, Flush}
use Rattle.group_world.specs.declared.event.Outcome.{Outcome}
use Rattle.group_world.specs.declared.event.Outcome.TheVariants.{Ready, Drawn}
use Rattle.group_world.specs.Run.{Step, RunBy}

-- the bytes that a session draws in an event
abbrev pub drawn_in : ℕ → Event → Outcome → List ℕ
drawn_in id (Draw n room) (Drawn bytes) = if n == id then bytes else []
drawn_in id e outcome = []

-- all that it draws in a run
abbrev pub drawn_by : ℕ → List Event → List Outcome → List ℕ
drawn_by id [] outcomes = []
drawn_by id (e ∷ events) [] = []
drawn_by id (e ∷ events) (o ∷ outcomes) = drawn_in id e o ++ drawn_by id events outcomes

abbrev pub is_leave : ℕ → Event → Bool
is_leave id (Leave n) = n == id
is_leave id e = false

abbrev pub is_flush : Event → Bool
is_flush Flush = true
is_flush e = false

abbrev pub stays_in : ℕ → List Event → Bool
stays_in id [] = true
stays_in id (e ∷ events) = not (is_leave id e) && stays_in id events

-- the world behind these
abbrev pub last_of : World → List World → World
last_of w [] = w
last_of w (v ∷ worlds) = last_of v worlds

-- From a world where a session has this reply to draw: what it draws, joined, is the front of that, and the rest is left.
abbrev pub DrawsOn : World → List Event → List Outcome → ℕ → List ℕ → World → Type 0
DrawsOn old events outcomes id reply new = (rest : List ℕ) × (phase_of new id ≡ Some (Reply rest)) × (reply ≡ drawn_by id events outcomes ++ rest)

-- Nothing else that happens changes what a session draws.
abbrev pub Continues : Type 0
Continues = (old : World) (events : List Event) (outcomes : List Outcome) (worlds : List World) (id : ℕ) (reply : List ℕ) →
    phase_of old id ≡ Some (Reply reply) → stays_in id events ≡ true → RunBy old events outcomes worlds → DrawsOn old events outcomes id reply (last_of old worlds)

-- ---- from the request on

-- the protocol's text for what came in, by the site as it stands, where that is a whole request or a bad one
abbrev pub text_by : Site → ℕ → Verdict → Option (List ℕ)
text_by site now Open = None
text_by site now EndedEarly = None
text_by site now (Whole request) = Some (reply site request now).bytes
text_by site now (Bad cause) = Some (bad_reply cause)

-- the same of a session that has heard so much, and now hears the rest
abbrev pub text_heard : Site → ℕ → (List ℕ → Verdict) → Option Phase → Option (List ℕ)
text_heard site now says (Some (Heard stream)) = text_by site now (says stream)
text_heard site now says phase = None

-- the text for the request of a session, where an event completes it: that of the site which the request finds
abbrev pub text_found : World → ℕ → Event → Option (List ℕ)
text_found w id (Bytes n piece now) = if n == id then text_heard w.site now (λ stream. verdict (stream ++ piece) false) (phase_of w id) else None
text_found w id (End n now) = if n == id then text_heard w.site now (λ stream. verdict stream true) (phase_of w id) else None
text_found w id e = None

-- A request that is answered at once is answered from the site which it finds.
abbrev pub ContinuesWhatWasFound : Type 0
ContinuesWhatWasFound = (old mid : World) (e : Event) (events : List Event) (outcomes : List Outcome) (worlds : List World) (id : ℕ) (text : List ℕ) →
    text_found old id e ≡ Some text → Step old e Ready mid → stays_in id events ≡ true → RunBy mid events outcomes worlds → DrawsOn mid events outcomes id text (last_of mid worlds)

-- ---- from a place in the group on

-- A post that waits goes on waiting, at its moment, until a flush, or until its session leaves.
abbrev pub PostsWait : Type 0
PostsWait = (old new : World) (e : Event) (o : Outcome) (id : ℕ) (request : Request) (now : ℕ) →
    phase_of old id ≡ Some (Waits request now) → is_leave id e ≡ false → is_flush e ≡ false → Step old e o new → phase_of new id ≡ Some (Waits request now)

-- the flush took these, in their order
abbrev pub IsTakenBy : World → List Bool → World → Type 0
IsTakenBy old choices new = (new.site ≡ (flushed_by old choices).site) × (new.sessions ≡ (flushed_by old choices).sessions)

-- The text is the reply to the request from the site at its place in the group: as the flush began, where it finds no form any more; else behind the first so many that were taken.
abbrev pub IsOfItsPlace : World → World → Request → ℕ → List ℕ → Type 0
IsOfItsPlace old new request now text =
    ((is_form_in (item_at (visible old.site now) request.selector) ≡ false) × (text ≡ (reply old.site request now).bytes))
    ⊎ ((choices : List Bool) × (n : ℕ) × IsTakenBy old choices new × (text ≡ (reply (flushed_by old (take n choices)).site request now).bytes))

-- A post that a flush answers has the text of its place, and every byte that is drawn from then on continues it.
abbrev pub ContinuesFromItsPlace : Type 0
ContinuesFromItsPlace = (old mid : World) (o : Outcome) (events : List Event) (outcomes : List Outcome) (worlds : List World) (id : ℕ) (request : Request) (now : ℕ) (text : List ℕ) →
    phase_of old id ≡ Some (Waits request now) → Step old Flush o mid → phase_of mid id ≡ Some (Reply text) → stays_in id events ≡ true → RunBy mid events outcomes worlds →
    IsOfItsPlace old mid request now text × DrawsOn mid events outcomes id text (last_of mid worlds)

-- ---- and back to the request

-- An event gives a session its text: it completes a request that is answered at once, or it is a flush that answers its post.
abbrev pub GivesText : World → ℕ → Event → Outcome → World → List ℕ → Type 0
GivesText old id e o new text =
    ((text_found old id e ≡ Some text) × (o ≡ Ready))
    ⊎ ((request : Request) × (now : ℕ) × (e ≡ Flush) × (phase_of old id ≡ Some (Waits request now)) × IsOfItsPlace old new request now text)

-- A session that is to draw these bytes after some events has asked for them: one of the events gave it its text, from then on it has stayed, and with what it drew since, the bytes continue that text.
pub record WasAskedFor (first : World) (events : List Event) (outcomes : List Outcome) (worlds : List World) (id : ℕ) (bytes : List ℕ) : Type 0 where
  pub before : List Event
  pub answers : List Outcome
  pub passed : List World
  pub event : Event
  pub answer : Outcome
  pub world : World
  pub since : List Event
  pub further : List Outcome
  pub later : List World
  pub parts : events ≡ before ++ event ∷ since
  pub answered : outcomes ≡ answers ++ answer ∷ further
  pub through : worlds ≡ passed ++ world ∷ later
  pub begins : RunBy first before answers passed
  pub text : List ℕ
  pub found : GivesText (last_of first passed) id event answer world text
  pub stays : stays_in id since ≡ true
  pub rest : List ℕ
  pub continues : text ≡ drawn_by id since further ++ bytes ++ rest

-- Every byte that a session of a new hub draws was asked for.
abbrev pub DrawsWereAskedFor : Type 0
DrawsWereAskedFor = (grouped : Bool) (site : Site) (first : ℕ) (new : World) (events : List Event) (outcomes : List Outcome) (worlds : List World) (id room : ℕ) (bytes : List ℕ) →
    RunBy (started_as grouped site first) events outcomes worlds → Step (last_of (started_as grouped site first) worlds) (Draw id room) (Drawn bytes) new → WasAskedFor (started_as grouped site first) events outcomes worlds id bytes
