-- What a clock of the system told, by the moments that it gave.
use Rattle.std.proofs.Common.{◌≡◌, ◌∙◌, ℕ, List, [], ◌∷◌, ◌++◌, ap, sym}
use Rattle.socket_wires.specs.declared.system_clock.ClockReading.{ClockReading}
use Rattle.gopher_host.specs.Clock.{TellsMoment, moments_of}

pub told_once : (before after : List ClockReading) (given now_given : List ℕ) (now : ℕ) → given ≡ moments_of before → now_given ≡ moments_of after → now_given ≡ given ++ now ∷ [] → TellsMoment before after now
told_once before after given now_given now old new more = sym new ∙ (more ∙ ap (λ (m : List ℕ). m ++ now ∷ []) old)
