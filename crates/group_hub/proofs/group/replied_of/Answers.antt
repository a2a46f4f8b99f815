use Rattle.std.proofs.Common.{◌≡◌, ◌++◌, sym, subst}
use Rattle.std.specs.Prelude.{IsTrue}
use Rattle.host_types.specs.AllChanges.{Changes}
use Rattle.host_types.specs.Site.{Site}
use Rattle.request_reader.specs.Seen.{request_of}
use Rattle.site_replies.specs.LaterReply.{later_reply}
use Rattle.site_replies.specs.Replies.{reply_bytes, answer_of}
use Rattle.group_world.specs.Step.{at_moment}
use Rattle.group_world.specs.World as world
use Rattle.group_hub.specs.Flushing.{IsNextReply}
use Rattle.group_hub.specs.Sessions.{phase_of}
use Rattle.group_hub.specs.declared.next.Next.TheVariants as nexts
use Rattle.group_hub.proofs.NextSessions.{replied_next}
use Rattle.group_hub.proofs.group.replied_of.Goals as goal

pub returns-in_ok-phase-in-Ok-clause-next : goal.returns-in_ok-phase-in-Ok-clause-next
returns-in_ok-phase-in-Ok-clause-next g c = λ t made honest.
    let s = g.S.SiteKeeper in
    let k = s.site_state c.args.site.now in
    let h = s.site_state c.sent.new.site in
    let before = c.args.changes.now.items in
    let request = request_of c.args.request in
    let answered = c.in-Ok.field-0 in
    let kept = c.in-Ok.ensures.kept in
    let later : answer_of k.site answered ≡ later_reply k.site before request c.args.now =
    subst (λ (l : Changes). answer_of k.site answered ≡ later_reply k.site l request c.args.now) c.deref.ensures.value (c.in-Ok.ensures.reply honest) in
    let is : phase_of s.pinned h c.in_ok-phase-in-Ok.phase ≡ world.Reply (reply_bytes k.site answered.reply) =
    subst (λ (x : Site). phase_of s.pinned h c.in_ok-phase-in-Ok.phase ≡ world.Reply (reply_bytes x answered.reply)) (kept.site honest) (c.in_ok-phase-in-Ok.ensures.sends.phase (subst IsTrue (sym kept.honest) honest)) in
    let behind : c.put_behind.new.changes.items ≡ before ++ at_moment c.args.now answered.post = c.in_ok-put_behind-in-Ok.ensures.behind in
    subst (λ (l : Changes). IsNextReply s.pinned h k.site t before l (world.Waits request c.args.now) (nexts.Replied c.in_ok-phase-in-Ok.phase)) (sym behind)
    (replied_next s.pinned h k.site t before request c.args.now c.in_ok-phase-in-Ok.phase (answer_of k.site answered) (c.requires.valid honest) (c.requires.stands honest) (c.requires.posts honest) made later is)
