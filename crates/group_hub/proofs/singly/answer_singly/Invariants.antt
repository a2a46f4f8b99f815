use Rattle.group_hub.proofs.SinglySoFar.{IsSinglySo}
use Rattle.group_hub.proofs.singly.answer_singly.Given as goal

-- so many sessions have had their turns, and so many of them are left
abbrev pub invariant-loop-session : goal.invariant-loop-session
invariant-loop-session g l =
    let s = g.S.SiteKeeper in
    IsSinglySo s.pinned s.site_state s.lacks s.crash_states s.represents g.met.S.SiteKeeper.crash_states_represent l.fn.site l.fn.sessions.items l.site l.session-items l.session-index l.left
