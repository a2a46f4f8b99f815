use Rattle.std.proofs.Common.{◌≡◌, ℕ, Bool, ap, ◌∙◌}
use Rattle.std.specs.Prelude.{None, Ok, IsTrue}
use Rattle.host_types.specs.SiteState.{SiteState}
use Rattle.host_types.specs.Pins.{Pinned}
use Rattle.request_reader.specs.Verdict.{Verdict}
use Rattle.request_reader.specs.ReceivedInput.{verdict_by}
use Rattle.request_reader.specs.Seen.{seen}
use Rattle.group_world.specs.declared.answer.InputStatus.{InputStatus}
use Rattle.group_world.specs.declared.answer.InputStatus.TheVariants as heard
use Rattle.group_hub.specs.HeldPins.{MovesPins}
use Rattle.group_hub.specs.Understood.{concluded}
use Rattle.group_hub.specs.Hears.{is_grouped, status_of, IsConcluded, TakesIn}
use Rattle.group_hub.specs.Sessions.{pin_of}
use Rattle.group_hub.specs.declared.posting.Posting.{Posting}
use Rattle.group_hub.specs.declared.session.Phase.{Phase}
use Rattle.group_hub.specs.declared.phase.Concluded.TheVariants as ends
use Rattle.group_hub.proofs.phase.take_in.Goals as goal

takes : {P : Type 0} (pinned : P → Pinned) (grouped : Bool) (posting : Posting) (a b : SiteState) (now : ℕ) (said v : Verdict) (status : InputStatus) (phase : Phase P) → said ≡ v
    → (IsTrue a.honest → IsConcluded pinned (concluded grouped a.site now said) said now b (ends.Answered status phase)) → MovesPins a b None (pin_of pinned phase) → (status ≡ status_of phase) × (status ≡ heard.Waiting → ⊥)
    → TakesIn pinned (concluded grouped a.site now v) posting a b (Ok (status, phase))
takes pinned grouped posting a b now said v status phase is comes moves never = record {
  gives = λ honest. (comes honest).0 ∙ ap (λ (x : Verdict). (concluded grouped a.site now x).outcome) is;
  phase = λ honest. (comes honest).1 ∙ ap (λ (x : Verdict). (concluded grouped a.site now x).phase) is;
  sound = λ honest. (comes honest).2;
  pins = moves;
  pins_after_fault = tt;
  status = never.0;
  waits = λ waits. absurd (never.1 waits);
  crowded = tt;
}

pub returns-in-Ok-Answered-clause-takes : goal.returns-in-Ok-Answered-clause-takes
returns-in-Ok-Answered-clause-takes g c =
    let s = g.S.SiteKeeper in
    let e = rw c.in-Ok-Answered.field-0-is at c.in-Ok-Answered.ensures in
    takes s.pinned (is_grouped c.args.posting) c.args.posting (s.site_state c.args.site.now) (s.site_state c.conclude.new.site) c.args.now (seen c.answer.result) (verdict_by c.args.reader.input) c.in-Ok-Answered.status c.in-Ok-Answered.phase c.answer.ensures e.concludes.concluded e.concludes.pins e.concludes.waits
