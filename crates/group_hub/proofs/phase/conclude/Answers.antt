use Rattle.std.proofs.Common.{◌≡◌, true, [], sym, ◌∙◌, rules}
use Rattle.std.specs.Prelude.{option_map}
use Rattle.request_reader.specs.Seen.{seen}
use Rattle.site_replies.specs.Replies.{answer_of}
use Rattle.group_world.specs.Step.{at_moment}
use Rattle.group_hub.specs.Understood.{post_of, concluded}
use Rattle.group_hub.specs.Hears.{is_grouped}
use Rattle.group_hub.specs.declared.phase.Concluded.TheVariants.{Answered}
use Rattle.group_hub.proofs.StoredPosts.{right_now}
use Rattle.group_hub.proofs.CountedCalls.{read_fault_counts}
use Rattle.group_hub.proofs.MadeBehindReads.{HaveRead, waits_made, made_since, not_made_since}
use Rattle.group_hub.proofs.Concluded.{and_left, none_to_make, to_make, never_waits, post_waits, waits_as_said, waits_rightly, crowded_rightly}
use Rattle.group_hub.proofs.phase.conclude.Goals as goal

pub settle-requires-clause-right : goal.settle-requires-clause-right
settle-requires-clause-right g c =
    right_now (g.S.SiteKeeper.site_state c.args.site.now) (g.S.SiteKeeper.site_state c.reply_to.new.site) c.args.now (seen c.args.answer) c.in-Ok.made c.reply_to.ensures.only.kept c.in-Ok.ensures.reply

pub returns-then-is_to_wait-clause-site : goal.returns-then-is_to_wait-clause-site
returns-then-is_to_wait-clause-site g c =
    let s = g.S.SiteKeeper in
    let k = c.args.site.now in
    let l = c.reply_to.new.site in
    let read : HaveRead s.site_state s.lacks s.crash_states s.represents k l = record {
      usable = c.requires.may_pin.usable;
      stands = g.met.S.SiteKeeper.crash_states_represent k;
      only = c.reply_to.ensures.only;
    } in
    let changes = at_moment c.args.now (concluded (is_grouped c.args.posting) (s.site_state k).site c.args.now (seen c.args.answer)).post in
    let none : changes ≡ [] = none_to_make (is_grouped c.args.posting) (s.site_state k).site c.args.now (seen c.args.answer) (and_left _ _ (sym c.is_to_wait.ensures ∙ c.if-is_to_wait.true)) in
    waits_made s.site_state s.lacks s.crash_states s.represents c.args.posting changes k l c.let_wait.result (c.let_wait.ensures.ok, c.let_wait.ensures.err) read c.in-Ok.ensures.reads none

pub returns-then-is_to_wait-clause-concludes : goal.returns-then-is_to_wait-clause-concludes
returns-then-is_to_wait-clause-concludes g c = record {
  concluded = λ honest.
      waits_as_said g.S.SiteKeeper.pinned _ c.args.posting (seen c.args.answer) c.args.now (g.S.SiteKeeper.site_state c.reply_to.new.site) c.let_wait.result (c.let_wait.ensures.ok, c.let_wait.ensures.err)
      (post_waits (is_grouped c.args.posting) (g.S.SiteKeeper.site_state c.args.site.now).site c.args.now (seen c.args.answer) c.in-Ok.made (sym c.is_to_wait.ensures ∙ c.if-is_to_wait.true) (c.in-Ok.ensures.reply honest));
  pins = search rules;
  pins_after_fault = search rules;
  waits = waits_rightly c.args.posting (seen c.args.answer) c.in-Ok.made c.let_wait.result (c.let_wait.ensures.ok, c.let_wait.ensures.err) (sym c.is_to_wait.ensures ∙ c.if-is_to_wait.true) c.in-Ok.ensures.whole;
  crowded = crowded_rightly (g.S.SiteKeeper.site_state c.args.site.now).honest _ c.args.posting (seen c.args.answer) c.args.now c.let_wait.result (c.let_wait.ensures.ok, c.let_wait.ensures.err)
      (λ honest. post_waits (is_grouped c.args.posting) (g.S.SiteKeeper.site_state c.args.site.now).site c.args.now (seen c.args.answer) c.in-Ok.made (sym c.is_to_wait.ensures ∙ c.if-is_to_wait.true) (c.in-Ok.ensures.reply honest));
}

pub returns-in-Ok-settle-clause-site : goal.returns-in-Ok-settle-clause-site
returns-in-Ok-settle-clause-site g c =
    let s = g.S.SiteKeeper in
    let k = c.args.site.now in
    let l = c.reply_to.new.site in
    let read : HaveRead s.site_state s.lacks s.crash_states s.represents k l = record {
      usable = c.requires.may_pin.usable;
      stands = g.met.S.SiteKeeper.crash_states_represent k;
      only = c.reply_to.ensures.only;
    } in
    let changes = at_moment c.args.now (concluded (is_grouped c.args.posting) (s.site_state k).site c.args.now (seen c.args.answer)).post in
    let made = at_moment c.args.now (post_of (option_map (answer_of (s.site_state l).site) c.in-Ok.made)) in
    made_since s.site_state s.lacks s.crash_states s.represents changes made k l c.settle.new.site (Answered c.in-Ok-settle.status c.in-Ok-settle.phase) (c.in-Ok-settle.status, c.in-Ok-settle.phase) read c.in-Ok.ensures.reads
    (to_make (is_grouped c.args.posting) (s.site_state k) (s.site_state l) c.args.now (seen c.args.answer) c.in-Ok.made read.only.kept (sym c.is_to_wait.ensures ∙ c.if-is_to_wait.false) c.in-Ok.ensures.reply)
    c.in-Ok-settle.ensures.site

pub returns-in-Ok-settle-clause-concludes : goal.returns-in-Ok-settle-clause-concludes
returns-in-Ok-settle-clause-concludes g c = record {
  concluded = search rules;
  pins = search rules;
  pins_after_fault = search rules;
  waits = (c.in-Ok-settle.ensures.next.status, never_waits c.in-Ok-settle.status _ c.in-Ok-settle.ensures.next.heard);
  crowded = search rules;
}

pub returns-in-Err-settle-clause-site : goal.returns-in-Err-settle-clause-site
returns-in-Err-settle-clause-site g c =
    let s = g.S.SiteKeeper in
    let k = c.args.site.now in
    let l = c.reply_to.new.site in
    let read : HaveRead s.site_state s.lacks s.crash_states s.represents k l = record {
      usable = c.requires.may_pin.usable;
      stands = g.met.S.SiteKeeper.crash_states_represent k;
      only = c.reply_to.ensures.only;
    } in
    let changes = at_moment c.args.now (concluded (is_grouped c.args.posting) (s.site_state k).site c.args.now (seen c.args.answer)).post in
    let made = at_moment c.args.now (post_of (option_map (answer_of (s.site_state l).site) c.in-Ok.made)) in
    not_made_since s.site_state s.lacks s.crash_states s.represents changes made k l c.settle.new.site c.in-Err-settle.fault read c.in-Ok.ensures.reads
    (to_make (is_grouped c.args.posting) (s.site_state k) (s.site_state l) c.args.now (seen c.args.answer) c.in-Ok.made read.only.kept (sym c.is_to_wait.ensures ∙ c.if-is_to_wait.false) c.in-Ok.ensures.reply)
    c.in-Err-settle.ensures.site

pub returns-in-Err-clause-site : goal.returns-in-Err-clause-site
returns-in-Err-clause-site g c =
    let s = g.S.SiteKeeper in
    record {
      done = search rules;
      still_usable = search rules;
      fault = search rules;
      worked = search rules;
      counts = read_fault_counts true c.in-Err.fault c.of_site.result (s.site_state c.args.site.now) (s.site_state c.reply_to.new.site) c.requires.may_pin.usable c.of_site.ensures c.reply_to.ensures.only.kept c.in-Err.ensures.fault c.in-Err.ensures.reads;
      unchanged = search rules;
      at_crash = search rules;
    }
