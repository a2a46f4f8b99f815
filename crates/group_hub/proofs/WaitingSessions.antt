-- Sessions whose posts wait, as a world counts them.
use Rattle.std.proofs.Common.{◌≡◌, ℕ, zero, suc, ◌+◌, ◌<◌, true, List, [], ◌∷◌, take, drop, length, get_or, refl, ap, ◌∙◌, arith}
use Rattle.host_types.specs.Pins.{Pinned}
use Rattle.host_types.specs.SiteState.{SiteState}
use Rattle.request_reader.specs.Verdict.{Verdict, Open, Early, Whole, Bad}
use Rattle.request_reader.specs.ReceivedInput.{verdict_by}
use Rattle.group_world.specs.World.{one_waiting, count_waiting}
use Rattle.group_hub.specs.HeldPins.{one_if}
use Rattle.group_hub.specs.Understood.{is_whole}
use Rattle.group_hub.specs.Sessions.{waits_by, phase_of, sessions_of, is_waiting}
use Rattle.group_hub.specs.declared.session.Session.{Session}
use Rattle.group_hub.specs.declared.session.Phase.{Phase}
use Rattle.group_hub.specs.declared.session.Phase.TheVariants as phases

whole_waits : (v : Verdict) (now : ℕ) → is_whole v ≡ true → one_waiting (waits_by v now) ≡ 1
whole_waits Open now is = absurd (cc is)
whole_waits Early now is = absurd (cc is)
whole_waits (Whole request) now is = refl
whole_waits (Bad cause) now is = absurd (cc is)

module _ {P : Type 0} (pinned : P → Pinned) (h : SiteState) where
  pub one_of : (phase : Phase P) → one_waiting (phase_of pinned h phase) ≡ one_if (is_waiting phase)
  one_of (phases.Hearing s) = refl
  one_of (phases.Waiting w) = whole_waits (verdict_by w.reader.input) w.now w.whole
  one_of (phases.Replying r) = refl
  one_of (phases.Drawing d) = refl
  one_of phases.Drawn = refl
  one_of phases.Early = refl

  pub one_more : (ss : List (Session P)) (i : ℕ) (x : Session P) → i < length ss → x ≡ get_or ss i x → count_waiting (sessions_of pinned h (take (i + 1) ss)) ≡ count_waiting (sessions_of pinned h (take i ss)) + one_if (is_waiting x.phase)
  one_more [] i x within read = absurd (omega (arith, within))
  one_more (s ∷ ss) zero x within read = let one = one_of s.phase in let same : one_if (is_waiting x.phase) ≡ one_if (is_waiting s.phase) = ap (λ (y : Session P). one_if (is_waiting y.phase)) read in omega (arith, one, same)
  one_more (s ∷ ss) (suc i) x within read =
      let next : suc i + 1 ≡ suc (i + 1) = omega arith in
      let rest = one_more ss i x (omega (arith, within)) read in
      ap (λ (n : ℕ). count_waiting (sessions_of pinned h (take n (s ∷ ss)))) next ∙ omega (arith, rest)

  pub behind_one : (ss : List (Session P)) (i : ℕ) (x : Session P) → i < length ss → x ≡ get_or ss i x → count_waiting (sessions_of pinned h (drop i ss)) ≡ one_if (is_waiting x.phase) + count_waiting (sessions_of pinned h (drop (i + 1) ss))
  behind_one [] i x within read = absurd (omega (arith, within))
  behind_one (s ∷ ss) zero x within read = let one = one_of s.phase in let same : one_if (is_waiting x.phase) ≡ one_if (is_waiting s.phase) = ap (λ (y : Session P). one_if (is_waiting y.phase)) read in omega (arith, one, same)
  behind_one (s ∷ ss) (suc i) x within read =
      let next : suc (i + 1) ≡ suc i + 1 = omega arith in
      behind_one ss i x (omega (arith, within)) read ∙ ap (λ (n : ℕ). one_if (is_waiting x.phase) + count_waiting (sessions_of pinned h (drop n (s ∷ ss)))) next
