use Rattle.daily_turns.proofs.ConnectionsMade.{later_fits}
use Rattle.daily_turns.proofs.turn.refused.Goals as goal

pub become_stage-requires : goal.become_stage-requires
become_stage-requires g c = later_fits _ c.try_again_later.ensures
