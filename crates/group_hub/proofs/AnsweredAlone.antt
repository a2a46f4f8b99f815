-- A session that waits, and is answered by itself.
use Rattle.std.proofs.Common.{◌≡◌, ℕ, true, false, refl, sym, ap, ◌∙◌}
use Rattle.host_types.specs.Site.{Site}
use Rattle.host_types.specs.SiteState.{SiteState}
use Rattle.host_types.specs.Pins.{Pinned}
use Rattle.request_reader.specs.Verdict.{Verdict, Open, Early, Whole, Bad}
use Rattle.request_reader.specs.ReceivedInput.{verdict_by}
use Rattle.group_world.specs.Step.{answered_from}
use Rattle.group_world.specs.declared.answer.InputStatus.{InputStatus}
use Rattle.group_hub.specs.Hears.{IsConcluded}
use Rattle.group_hub.specs.Understood.{concluded, is_whole}
use Rattle.group_hub.specs.Sessions.{waits_by, phase_of}
use Rattle.group_hub.specs.declared.phase.Concluded.TheVariants as ends
use Rattle.group_hub.specs.declared.session.Phase.{Phase}
use Rattle.group_hub.specs.declared.session.Phase.TheVariants as phases
use Rattle.group_hub.specs.declared.session.Waiting.{Waiting}

-- what a whole request that waits comes to
pub whole_phase : (s : Site) (now : ℕ) (v : Verdict) → is_whole v ≡ true → (concluded false s now v).phase ≡ answered_from s (waits_by v now)
whole_phase s now Open whole = absurd (cc whole)
whole_phase s now Early whole = absurd (cc whole)
whole_phase s now (Whole request) whole = refl
whole_phase s now (Bad cause) whole = absurd (cc whole)

module _ {P : Type 0} (pinned : P → Pinned) where
  pub alone_phase : (old new : SiteState) (before after next : Phase P) (w : Waiting) (v : Verdict) (status : InputStatus) → before ≡ phases.Waiting w → v ≡ verdict_by w.reader.input → after ≡ next
      → IsConcluded pinned (concluded false old.site w.now v) v w.now new (ends.Answered status next) → phase_of pinned new after ≡ answered_from old.site (phase_of pinned old before)
  alone_phase old new before after next w v status waits is same come =
      ap (phase_of pinned new) same ∙ come.1 ∙ ap (λ (u : Verdict). (concluded false old.site w.now u).phase) is ∙ whole_phase old.site w.now (verdict_by w.reader.input) w.whole ∙ ap (λ (p : Phase P). answered_from old.site (phase_of pinned old p)) (sym waits)
