-- A reply that stores a post stores one that the site takes.
use Rattle.std.proofs.Common.{◌≡◌, ℕ, sym, subst}
use Rattle.std.specs.Prelude.{Option, IsTrue, IfSome, option_map}
use Rattle.host_types.specs.Site.{Site}
use Rattle.host_types.specs.SiteState.{SiteState, HasRead}
use Rattle.request_reader.specs.Verdict.{Verdict, Open, Early, Whole, Bad}
use Rattle.site_replies.specs.PostReply.{IsRight}
use Rattle.site_replies.specs.declared.answered.Answered.{Answered}
use Rattle.site_replies.specs.Reply.{WholeAnswer}
use Rattle.site_replies.specs.Replies.{answer_of, IsSized}
use Rattle.site_replies.proofs.StoredPosts.{reply_right}
use Rattle.group_hub.specs.Understood.{reply_by, post_of}

verdict_right : (s : Site) (now : ℕ) (v : Verdict) → IsRight s now (post_of (reply_by s now v))
verdict_right s now Open = tt
verdict_right s now Early = tt
verdict_right s now (Whole request) = reply_right s request now
verdict_right s now (Bad cause) = tt

-- what was made of reads of the site is right for the site as it is now
pub right_now : (a b : SiteState) (now : ℕ) (v : Verdict) (made : Option Answered) → HasRead a b → (IsTrue a.honest → option_map (answer_of a.site) made ≡ reply_by a.site now v) → IsTrue b.honest → IsRight b.site now (post_of (option_map (answer_of b.site) made))
right_now a b now v made kept is honest =
    let before : IsTrue a.honest = subst IsTrue kept.honest honest in
    subst (λ (s : Site). IsRight s now (post_of (option_map (answer_of s) made))) (sym (kept.site before)) (subst (λ (m : Option WholeAnswer). IsRight a.site now (post_of m)) (sym (is before)) (verdict_right a.site now v))

-- the same of what is known of a view that is sent
pub sized_now : (a b : SiteState) (made : Option Answered) → HasRead a b → (IsTrue a.honest → IfSome made (λ answered. IsSized a.site answered.reply)) → IsTrue b.honest → IfSome made (λ answered. IsSized b.site answered.reply)
sized_now a b made kept is honest =
    let before : IsTrue a.honest = subst IsTrue kept.honest honest in
    subst (λ (s : Site). IfSome made (λ answered. IsSized s answered.reply)) (sym (kept.site before)) (is before)
