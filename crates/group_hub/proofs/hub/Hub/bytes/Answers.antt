use Rattle.std.proofs.Common.{◌≡◌, Bool, true, false, not, ◌&&◌, refl, sym, ap, subst, ◌∙◌, rules, arith, inl}
use Rattle.std.specs.Prelude.{◌==◌, Option, IsTrue}
use Rattle.std.specs.List.{position}
use Rattle.host_types.specs.Site.{Site, IsSite}
use Rattle.group_world.specs.Step.{at_moment, listens}
use Rattle.group_world.specs.World.{Phase}
use Rattle.group_world.specs.Run.{post_in}
use Rattle.group_world.specs.declared.event.Event.TheVariants.{Bytes}
use Rattle.group_world.specs.declared.event.Outcome.{Outcome}
use Rattle.group_world.specs.declared.event.Outcome.TheVariants.{Fault}
use Rattle.group_world.specs.declared.fault.HubFault.TheVariants.{Unknown}
use Rattle.group_world.proofs.Leaving.{no_commits}
use Rattle.group_hub.specs.Hub.{world_of}
use Rattle.group_hub.specs.Sessions.{phase_of, sessions_of, is_waiting}
use Rattle.group_hub.specs.Hears.{is_wait, Hears, MakesChanges}
use Rattle.group_hub.specs.declared.session.Session.{Session}
use Rattle.group_hub.proofs.CallsMade.{quiet, shut_call}
use Rattle.group_hub.proofs.CountedCalls.{shut_counts, heard_counts}
use Rattle.group_hub.proofs.Heard.{Facts, whole_call, site_stays, nobody_comes, heard_cause, heard_fault, goes_without_pin}
use Rattle.group_hub.proofs.SessionPlaces.{place_found, place_below, nobody}
use Rattle.group_hub.proofs.SessionsHeld.{sound_at, room_at}
use Rattle.group_hub.proofs.SessionsLast.{session_places}
use Rattle.group_hub.proofs.Steps.{unheard}
use Rattle.group_hub.proofs.Waits.{listens_tells, listens_nothing, listens_posts, listens_plain}
use Rattle.group_hub.proofs.hub.Hub.bytes.Goals as goal

pub returns-then-not-is_usable : goal.returns-then-not-is_usable
returns-then-not-is_usable g c =
    let k = g.S.SiteKeeper.site_state c.args.self.now.site in
    let w = world_of g.S.SiteKeeper.site_state c.args.self.now in
    let shut : k.usable ≡ false = search rules in
    let counts = shut_counts {T = Outcome} k shut in
    shut_call _ _ _ _ w c.args.self.now.site (Bytes c.args.id c.args.piece.now c.args.now) (g.met.S.SiteKeeper.crash_states_represent c.args.self.now.site) (ap not shut) refl (λ honest. inl shut) (record { reads = counts.reads; writes = counts.writes }) refl refl

pub returns-in_default : goal.returns-in_default
returns-in_default g c =
    let k = g.S.SiteKeeper.site_state c.args.self.now.site in
    let w = world_of g.S.SiteKeeper.site_state c.args.self.now in
    let usable : k.usable ≡ true = search rules in
    let items = c.args.self.now.sessions.items in
    let found = ap (position (λ (x : Session g.row.S-Pin.Denot). x.id == c.args.id)) (sym c.deref.ensures.value) ∙ sym c.place_in.ensures.place ∙ c.in_default.is in
    let none = nobody g.S.SiteKeeper.pinned k items c.args.id found in
    let answers = unheard k c.args.self.now.next c.args.self.now.grouped (sessions_of g.S.SiteKeeper.pinned k items) c.args.id c.args.now (Bytes c.args.id c.args.piece.now c.args.now) (listens c.args.self.now.grouped k.site c.args.now c.args.piece.now) usable none refl in
    quiet _ _ _ _ w c.args.self.now.site (Bytes c.args.id c.args.piece.now c.args.now) _ w (g.met.S.SiteKeeper.crash_states_represent c.args.self.now.site) answers (no_commits w (Bytes c.args.id c.args.piece.now c.args.now) (Fault Unknown) (ap (λ p. post_in p c.args.now (listens c.args.self.now.grouped k.site c.args.now c.args.piece.now)) none)) usable (record { reads = refl; writes = refl }) refl refl refl refl refl

pub hear-heard-requires-clause-room : goal.hear-heard-requires-clause-room
hear-heard-requires-clause-room g c =
    let s = g.S.SiteKeeper in
    let items = c.args.self.now.sessions.items in
    let found = ap (position (λ (x : Session g.row.S-Pin.Denot). x.id == c.args.id)) (sym c.deref.ensures.value) ∙ sym c.in-Some.ensures.place in
    room_at s.pinned (s.site_state c.args.self.now.site) items c.args.id c.in-Some.at c.index_mut-session.result.now found c.index_mut-session.ensures.value c.args.self.now.held (omega (arith, c.args.self.now.few))

pub invariant_of-self-3 : goal.invariant_of-self-3
invariant_of-self-3 g c =
    let s = g.S.SiteKeeper in
    let hub = c.args.self.now in
    let k = s.site_state hub.site in
    let l = s.site_state c.hear-heard.new.site in
    let items = hub.sessions.items in
    let x = c.index_mut-session.result.now in
    let found = ap (position (λ (x : Session g.row.S-Pin.Denot). x.id == c.args.id)) (sym c.deref.ensures.value) ∙ sym c.in-Some.ensures.place in
    let read = c.index_mut-session.ensures.value in
    let heard = c.hear-heard.ensures in
    let tells : c.comes_to_wait-goes.result ≡ (not (is_waiting x.phase) && is_wait c.hear-heard.result) = c.comes_to_wait-goes.ensures ∙ ap (λ (b : Bool). not b && is_wait c.hear-heard.result) c.is_waiting-waited.ensures in
    let final = c.place.new.sessions.items in
    let placed = session_places s.pinned k l items final c.args.id c.in-Some.at x c.hear-heard.new.phase c.comes_to_wait-goes.result found read hub.held heard.hears.pins
    (goes_without_pin s.pinned (is_waiting x.phase) c.hear-heard.new.phase c.hear-heard.result c.comes_to_wait-goes.result heard.hears.status tells) c.place.ensures.items in
    let usable : k.usable ≡ true = search rules in
    let there = place_found s.pinned k items c.args.id c.in-Some.at x found read in
    let f = listens hub.grouped k.site c.args.now c.args.piece.now in
    let known : Facts s.site_state s.lacks s.crash_states s.represents s.pinned hub.site c.hear-heard.new.site hub.next hub.grouped (sessions_of s.pinned k items) (sessions_of s.pinned l final) c.args.id c.args.now (Bytes c.args.id c.args.piece.now c.args.now) f c.posting-posting.result x.phase c.hear-heard.new.phase c.hear-heard.result =
    record {
      there = there.there;
      asks = refl;
      changes = ap (λ (p : Option Phase). post_in p c.args.now f) there.there;
      tells = listens_tells hub.grouped k.site c.args.now c.args.piece.now;
      no_post = listens_nothing hub.grouped k.site c.args.now c.args.piece.now;
      works = refl;
      reads = refl;
      other = refl;
      usable = usable;
      grouped = c.posting-posting.ensures.grouped;
      full = c.posting-posting.ensures.full;
      hears = subst (λ (b : Bool). Hears s.pinned (listens b k.site c.args.now c.args.piece.now (phase_of s.pinned k x.phase)) c.posting-posting.result x.phase c.hear-heard.new.phase k l c.hear-heard.result) c.posting-posting.ensures.grouped heard.hears;
      makes = subst (λ (b : Bool). MakesChanges s.site_state s.lacks s.crash_states s.represents (at_moment c.args.now (listens b k.site c.args.now c.args.piece.now (phase_of s.pinned k x.phase)).post) hub.site c.hear-heard.new.site c.hear-heard.result) c.posting-posting.ensures.grouped heard.site;
      represent = g.met.S.SiteKeeper.crash_states_represent hub.site;
      represent_now = g.met.S.SiteKeeper.crash_states_represent c.hear-heard.new.site;
    } in
    record {
      room = search rules;
      few = search rules;
      held = placed.held;
      sound = λ honest.
          let before = subst IsTrue heard.site.worked.honest honest in
          placed.sound (hub.sound before) (heard.hears.sound before (sound_at s.pinned k items c.in-Some.at x (place_below s.pinned items c.args.id c.in-Some.at found) read (hub.sound before)));
      valid = λ groups honest.
          let before = subst IsTrue heard.site.worked.honest honest in
          subst (λ (t : Site). ∥ IsSite t ∥₁) (sym (site_stays s.site_state s.lacks s.crash_states s.represents s.pinned hub.site c.hear-heard.new.site hub.next hub.grouped _ _ c.args.id c.args.now (Bytes c.args.id c.args.piece.now c.args.now) f c.posting-posting.result x.phase c.hear-heard.new.phase c.hear-heard.result known (listens_posts hub.grouped k.site c.args.now c.args.piece.now (phase_of s.pinned k x.phase) groups) before)) (hub.valid groups before);
      alone = λ single honest.
          let before = subst IsTrue heard.site.worked.honest honest in
          nobody_comes s.site_state s.lacks s.crash_states s.represents s.pinned hub.site c.hear-heard.new.site hub.next hub.grouped _ _ c.args.id c.args.now (Bytes c.args.id c.args.piece.now c.args.now) f c.posting-posting.result x.phase c.hear-heard.new.phase c.hear-heard.result known c.comes_to_wait-goes.result tells single
          (listens_plain hub.grouped k.site c.args.now c.args.piece.now (phase_of s.pinned k x.phase) single) before placed.seen (hub.alone single before);
    }

pub returns : goal.returns
returns g c =
    let s = g.S.SiteKeeper in
    let hub = c.args.self.now in
    let k = s.site_state hub.site in
    let l = s.site_state c.hear-heard.new.site in
    let items = hub.sessions.items in
    let x = c.index_mut-session.result.now in
    let found = ap (position (λ (x : Session g.row.S-Pin.Denot). x.id == c.args.id)) (sym c.deref.ensures.value) ∙ sym c.in-Some.ensures.place in
    let read = c.index_mut-session.ensures.value in
    let heard = c.hear-heard.ensures in
    let tells : c.comes_to_wait-goes.result ≡ (not (is_waiting x.phase) && is_wait c.hear-heard.result) = c.comes_to_wait-goes.ensures ∙ ap (λ (b : Bool). not b && is_wait c.hear-heard.result) c.is_waiting-waited.ensures in
    let final = c.place.new.sessions.items in
    let placed = session_places s.pinned k l items final c.args.id c.in-Some.at x c.hear-heard.new.phase c.comes_to_wait-goes.result found read hub.held heard.hears.pins
    (goes_without_pin s.pinned (is_waiting x.phase) c.hear-heard.new.phase c.hear-heard.result c.comes_to_wait-goes.result heard.hears.status tells) c.place.ensures.items in
    let usable : k.usable ≡ true = search rules in
    let there = place_found s.pinned k items c.args.id c.in-Some.at x found read in
    let f = listens hub.grouped k.site c.args.now c.args.piece.now in
    let known : Facts s.site_state s.lacks s.crash_states s.represents s.pinned hub.site c.hear-heard.new.site hub.next hub.grouped (sessions_of s.pinned k items) (sessions_of s.pinned l final) c.args.id c.args.now (Bytes c.args.id c.args.piece.now c.args.now) f c.posting-posting.result x.phase c.hear-heard.new.phase c.hear-heard.result =
    record {
      there = there.there;
      asks = refl;
      changes = ap (λ (p : Option Phase). post_in p c.args.now f) there.there;
      tells = listens_tells hub.grouped k.site c.args.now c.args.piece.now;
      no_post = listens_nothing hub.grouped k.site c.args.now c.args.piece.now;
      works = refl;
      reads = refl;
      other = refl;
      usable = usable;
      grouped = c.posting-posting.ensures.grouped;
      full = c.posting-posting.ensures.full;
      hears = subst (λ (b : Bool). Hears s.pinned (listens b k.site c.args.now c.args.piece.now (phase_of s.pinned k x.phase)) c.posting-posting.result x.phase c.hear-heard.new.phase k l c.hear-heard.result) c.posting-posting.ensures.grouped heard.hears;
      makes = subst (λ (b : Bool). MakesChanges s.site_state s.lacks s.crash_states s.represents (at_moment c.args.now (listens b k.site c.args.now c.args.piece.now (phase_of s.pinned k x.phase)).post) hub.site c.hear-heard.new.site c.hear-heard.result) c.posting-posting.ensures.grouped heard.site;
      represent = g.met.S.SiteKeeper.crash_states_represent hub.site;
      represent_now = g.met.S.SiteKeeper.crash_states_represent c.hear-heard.new.site;
    } in
    let cause = heard_cause k l (s.lacks hub.site) _ _ c.hear-heard.result usable known.changes known.makes.fault in
    let counts = heard_counts c.hear-heard.result k l known.makes.counts in
    whole_call s.site_state s.lacks s.crash_states s.represents s.pinned hub.site c.hear-heard.new.site hub.next hub.grouped _ _ c.args.id c.args.now (Bytes c.args.id c.args.piece.now c.args.now) f c.posting-posting.result x.phase c.hear-heard.new.phase c.hear-heard.result known c.comes_to_wait-goes.result tells
    (heard_fault c.hear-heard.result _ cause) (record { reads = counts.reads; writes = counts.writes }) placed.seen there.stays
