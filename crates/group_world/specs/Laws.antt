-- What groups of posts rest on.
use Rattle.std.specs.Prelude.{◌≡◌, ℕ, ◌+◌, Bool, true, false, List, [], ◌∷◌, take, Option, Some, None, Result, Ok, Err, IsTrue}
use Rattle.std.specs.FinMap.{is_sorted}
use Rattle.host_types.specs.Site.{Site, IsSite, byte_cmp, item_at}
use Rattle.host_types.specs.Change.{apply}
use Rattle.host_types.specs.Names.{is_post_name}
use Rattle.host_types.specs.Visible.{visible}
use Rattle.host_types.specs.declared.item.Item.{Item}
use Rattle.host_types.specs.declared.item.Body.{Body}
use Rattle.host_types.specs.declared.item.Body.TheVariants as bodies
use Rattle.common_types.specs.declared.refused.Refused.{Refused}
use Rattle.request_reader.specs.Request.{Request}
use Rattle.site_replies.specs.Reply.{reply}
use Rattle.site_replies.specs.LaterReply.{are_posts, posts_on, later_reply}
use Rattle.group_world.specs.World.{World, Phase, Waits, Reply, phase_in, phase_of}
use Rattle.site_replies.specs.Forms.{is_form_in}
use Rattle.group_world.specs.Step.{Changes, taken, flushed_by}

-- ---- all changes of a group are right, one after another

-- what some changes make, one after another, or nothing where one is refused
abbrev pub and_more : (Site → Option Site) → Result Site Refused → Option Site
and_more more (Ok t) = more t
and_more more (Err refused) = None

abbrev pub all_made : Site → Changes → Option Site
all_made s [] = Some s
all_made s (c ∷ changes) = and_more (λ t. all_made t changes) (apply s c.0 c.1)

-- Whatever is taken of a group, its changes are all valid, each on the site with those before it, and together they make the group's site.
abbrev pub GroupsAreRight : Type 0
GroupsAreRight = (s : Site) (choices : List Bool) (sessions : List (ℕ × Phase)) → all_made s (taken s choices sessions).changes ≡ Some (taken s choices sessions).site

-- ---- what a flush does to a session

-- A reply is left as it is.
abbrev pub RepliesStay : Type 0
RepliesStay = (w : World) (choices : List Bool) (id : ℕ) (rest : List ℕ) → phase_of w id ≡ Some (Reply rest) → phase_in (flushed_by w choices).sessions id ≡ Some (Reply rest)

-- A post that is answered gets the reply of the site after those that were taken before it.
abbrev pub FindsItsPlace : Type 0
FindsItsPlace = (s : Site) (choices : List Bool) (sessions : List (ℕ × Phase)) (id : ℕ) (request : Request) (now : ℕ) (text : List ℕ) →
    phase_in sessions id ≡ Some (Waits request now) → phase_in (taken s choices sessions).sessions id ≡ Some (Reply text)
    → (n : ℕ) × (text ≡ (reply (taken s (take n choices) sessions).site request now).bytes)

-- ---- what a later post of a group finds

abbrev pub counted_on : ℕ → Body → Body
counted_on n (bodies.Views kind views) = bodies.Views kind views
counted_on n (bodies.Menu es) = bodies.Menu es
counted_on n (bodies.Board cap next) = bodies.Board cap (next + n)
counted_on n (bodies.Form board questions) = bodies.Form board questions
counted_on n (bodies.Search scope) = bodies.Search scope
counted_on n (bodies.Moved target) = bodies.Moved target

-- the body of what stands somewhere, and a board that has counted on by so many
abbrev pub counted_in : ℕ → Option Item → Option Body
counted_in n None = None
counted_in n (Some item) = Some (counted_on n item.body)

-- Posts change nothing of what stands at selectors that are not those of posts, but that each counts on its board.
abbrev pub PostsCountOn : Type 0
PostsCountOn = (s t : Site) (changes : Changes) (q : List ℕ) → IsTrue (is_sorted byte_cmp s.items) → are_posts changes ≡ true → is_post_name q ≡ false → all_made s changes ≡ Some t → counted_in 0 (item_at t q) ≡ counted_in (posts_on q changes) (item_at s q)

-- The reply to a request that finds a form, once some posts are made, is known from the site as it stands before them.
abbrev pub LaterRepliesAreRight : Type 0
LaterRepliesAreRight = (s t : Site) (before : Changes) (r : Request) (now : ℕ) → ∥ IsSite s ∥₁ → are_posts before ≡ true → all_made s before ≡ Some t → is_form_in (item_at (visible s now) r.selector) ≡ true → reply t r now ≡ later_reply s before r now

-- A request that finds no form stores no post.
abbrev pub OnlyFormsPost : Type 0
OnlyFormsPost = (s : Site) (r : Request) (now : ℕ) → is_form_in (item_at (visible s now) r.selector) ≡ false → (reply s r now).post ≡ None
