-- What sessions are to have once the posts before them are made.
use Rattle.std.proofs.Common.{◌≡◌, ℕ, ◌+◌, Bool, true, List, [], ◌∷◌, ◌++◌, length, take, get_or, ◌<◌, add-one, refl, sym, ap, ◌∙◌, arith}
use Rattle.std.proofs.Math.Seq.{take-suc}
use Rattle.std.specs.Prelude.{Some}
use Rattle.std.proofs.lemmas.List.{map-append, length-map}
use Rattle.host_types.specs.AllChanges.{Changes}
use Rattle.host_types.specs.Site.{Site, IsSite, item_at}
use Rattle.host_types.specs.SiteState.{SiteState}
use Rattle.host_types.specs.Pins.{Pinned}
use Rattle.host_types.specs.Visible.{visible}
use Rattle.request_reader.specs.Request.{Request}
use Rattle.site_replies.specs.Forms.{is_form_in}
use Rattle.site_replies.specs.Reply.{WholeAnswer, reply}
use Rattle.site_replies.specs.LaterReply.{are_posts, later_reply}
use Rattle.group_world.specs.World as world
use Rattle.group_world.specs.Step.{Group, without_form, without_forms, post_from, at_moment, taken, all_of}
use Rattle.group_world.specs.Laws.{all_made}
use Rattle.group_world.proofs.LaterReplies.{later_replies_are_right}
use Rattle.group_world.proofs.Groups.{groups_are_right}
use Rattle.group_world.proofs.TakenMore.{one_more, taken_more, all_of_more}
use Rattle.group_hub.specs.Flushing.{put_one, put_sessions, IsNextReply, ArePrepared}
use Rattle.group_hub.specs.Sessions.{phase_of, session_of, sessions_of}
use Rattle.group_hub.specs.declared.next.Next.{Next}
use Rattle.group_hub.specs.declared.next.Next.TheVariants as nexts
use Rattle.group_hub.specs.declared.next.Putting.{Putting}
use Rattle.group_hub.specs.declared.next.Putting.TheVariants as puttings
use Rattle.group_hub.specs.declared.session.Phase.{Phase}
use Rattle.group_hub.specs.declared.session.Session.{Session}
use Rattle.group_hub.proofs.ReplyPosts.{reply_posted, posts_on}

-- one more of a list
pub taken_one : {A : Type 0} (xs : List A) (i : ℕ) (x : A) → i < length xs → x ≡ get_or xs i x → take (i + 1) xs ≡ take i xs ++ x ∷ []
taken_one xs i x within read = ap (λ (n : ℕ). take n xs) (add-one i) ∙ take-suc xs i x within ∙ ap (λ y. take i xs ++ y ∷ []) (sym read)

module _ {P : Type 0} (pinned : P → Pinned) where
  -- ---- of one session

  -- its form stands
  pub replied_next : (h : SiteState) (s t : Site) (before : Changes) (request : Request) (now : ℕ) (p : Phase P) (a : WholeAnswer) → ∥ IsSite s ∥₁ → is_form_in (item_at (visible s now) request.selector) ≡ true → are_posts before ≡ true → all_made s before ≡ Some t
      → a ≡ later_reply s before request now → phase_of pinned h p ≡ world.Reply a.bytes → IsNextReply pinned h s t before (before ++ at_moment now a.post) (world.Waits request now) (nexts.Replied p)
  replied_next h s t before request now p a site form are made later is =
      let same : a ≡ reply t request now = later ∙ sym (later_replies_are_right s t before request now site are made form) in
      record {
        put = rw form (is ∙ ap (λ (x : WholeAnswer). world.Reply x.bytes) same);
        gone = rw form refl;
        changes = rw form (ap (λ (x : WholeAnswer). before ++ at_moment now x.post) same);
        posts = ap (λ (x : WholeAnswer). are_posts (before ++ at_moment now x.post)) same ∙ posts_on before now (reply t request now).post are (reply_posted t request now);
      }

  -- ---- of one session more

  put_more : (putting : Putting) (h : SiteState) (xs : List (ℕ × world.Phase)) (ns : List (Next P)) (x : ℕ × world.Phase) (n : Next P) → length ns ≡ length xs
      → put_sessions putting pinned h (xs ++ x ∷ []) (ns ++ n ∷ []) ≡ put_sessions putting pinned h xs ns ++ (x.0, put_one putting pinned h x.1 n) ∷ []
  put_more putting h [] [] x n same = refl
  put_more putting h [] (m ∷ ns) x n same = absurd (omega (arith, same))
  put_more putting h (y ∷ xs) [] x n same = absurd (omega (arith, same))
  put_more putting h (y ∷ xs) (m ∷ ns) x n same = ap (λ (l : List (ℕ × world.Phase)). (y.0, put_one putting pinned h y.1 m) ∷ l) (put_more putting h xs ns x n (omega (arith, same)))

  forms_more : (s : Site) (xs : List (ℕ × world.Phase)) (x : ℕ × world.Phase) → without_forms s (xs ++ x ∷ []) ≡ without_forms s xs ++ (x.0, without_form s x.1) ∷ []
  forms_more s xs x = map-append (λ (y : ℕ × world.Phase). (y.0, without_form s y.1)) xs (x ∷ [])

  -- what is taken of the first sessions
  abbrev pub group_of : Site → List (ℕ × world.Phase) → Group
  group_of s xs = taken s (all_of xs) (without_forms s xs)

  group_more : (s : Site) (xs : List (ℕ × world.Phase)) (x : ℕ × world.Phase) → group_of s (xs ++ x ∷ []) ≡ one_more (group_of s xs) true (x.0, without_form s x.1)
  group_more s xs x =
      let lengths : length (all_of xs) ≡ length (without_forms s xs) = length-map xs (λ (y : ℕ × world.Phase). true) ∙ sym (length-map xs (λ (y : ℕ × world.Phase). (y.0, without_form s y.1))) in
      ap (λ (l : List Bool). taken s l (without_forms s (xs ++ x ∷ []))) (all_of_more xs x)
      ∙ ap (taken s (all_of xs ++ true ∷ [])) (forms_more s xs x)
      ∙ taken_more s (all_of xs) true (without_forms s xs) (x.0, without_form s x.1) lengths

  -- the changes so far make the site on which the next session is answered
  pub prepared_made : (h : SiteState) (s : Site) (xs : List (ℕ × world.Phase)) (ns : List (Next P)) (changes : Changes) → ArePrepared pinned h s xs ns changes → all_made s changes ≡ Some (group_of s xs).site
  prepared_made h s xs ns changes are = ap (all_made s) are.changes ∙ groups_are_right s (all_of xs) (without_forms s xs)

  pub prepared_more : (h : SiteState) (s : Site) (xs : List (ℕ × world.Phase)) (ns : List (Next P)) (before after : Changes) (x : ℕ × world.Phase) (n : Next P) → length ns ≡ length xs → ArePrepared pinned h s xs ns before → IsNextReply pinned h s (group_of s xs).site before after x.1 n
      → ArePrepared pinned h s (xs ++ x ∷ []) (ns ++ n ∷ []) after
  prepared_more h s xs ns before after x n same are next =
      let more = group_more s xs x in
      record {
        put = put_more puttings.All h xs ns x n same
            ∙ ap (λ (l : List (ℕ × world.Phase)). l ++ (x.0, put_one puttings.All pinned h x.1 n) ∷ []) are.put
            ∙ ap (λ (p : world.Phase). (group_of s xs).sessions ++ (x.0, p) ∷ []) next.put
            ∙ sym (ap (λ (g : Group). g.sessions) more);
        gone = put_more puttings.Gone h xs ns x n same
            ∙ ap (λ (l : List (ℕ × world.Phase)). l ++ (x.0, put_one puttings.Gone pinned h x.1 n) ∷ []) are.gone
            ∙ ap (λ (p : world.Phase). without_forms s xs ++ (x.0, p) ∷ []) next.gone
            ∙ sym (forms_more s xs x);
        changes = next.changes ∙ ap (λ (c : Changes). c ++ post_from (group_of s xs).site (without_form s x.1)) are.changes ∙ sym (ap (λ (g : Group). g.changes) more);
        posts = next.posts;
      }

  pub sessions_more : (k : SiteState) (ss : List (Session P)) (i : ℕ) (x : Session P) → i < length ss → x ≡ get_or ss i x → sessions_of pinned k (take (i + 1) ss) ≡ sessions_of pinned k (take i ss) ++ session_of pinned k x ∷ []
  sessions_more k ss i x within read = ap (sessions_of pinned k) (taken_one ss i x within read) ∙ map-append (session_of pinned k) (take i ss) (x ∷ [])
