-- What a reply is to the client that gets it: its bytes, or those of the view that it names.
use Rattle.std.specs.Prelude.{◌≡◌, ◌<◌, ℕ, Bool, true, false, List, [], ◌++◌, Option, None, length}
use Rattle.host_types.specs.Site.{Site}
use Rattle.host_types.specs.Card.{viewed_at}
use Rattle.host_types.specs.declared.change.Change.{Change}
use Rattle.text_writer.specs.Text.{sent_as}
use Rattle.plus_blocks.specs.Blocks.{text_head, length_head}
use Rattle.site_replies.specs.Reply.{WholeAnswer}
use Rattle.site_replies.specs.declared.answered.Answered.{Answered}
use Rattle.site_replies.specs.declared.answered.Reply.{Reply}
use Rattle.site_replies.specs.declared.answered.Reply.TheVariants.{Whole, View}

-- before a view of so many bytes comes its head, where Gopher+ asked for it
abbrev pub view_head : Bool → Bool → ℕ → List ℕ
view_head false is_text size = []
view_head true true size = text_head
view_head true false size = length_head size

-- the bytes that a client gets, of a site
abbrev pub reply_bytes : Site → Reply → List ℕ
reply_bytes s (Whole bytes) = bytes
reply_bytes s (View v) = v.head ++ sent_as v.is_text (viewed_at s v.selector v.view)

-- the answer as a client gets it
abbrev pub answer_of : Site → Answered → WholeAnswer
answer_of s answered = record { bytes = reply_bytes s answered.reply; post = answered.post }

-- an answer whose bytes are all there
abbrev pub whole : WholeAnswer → Answered
whole answer = record { reply = Whole answer.bytes; post = answer.post }

-- A view that is named has bytes, and as many as is said.
abbrev pub IsSized : Site → Reply → Type 0
IsSized s (Whole bytes) = Unit {0}
IsSized s (View v) = (0 < v.size) × (length (viewed_at s v.selector v.view) ≡ v.size)

-- A reply that names a view stores no post.
abbrev pub PostsNoView : Reply → Option Change → Type 0
PostsNoView (Whole bytes) post = Unit {0}
PostsNoView (View v) post = post ≡ None
