use Rattle.host_on_disk.proofs.RunsInTurn.{found_in_turn}
use Rattle.accepted_changes.proofs.laws.upgraded_images_are_starts.Goals as goal

pub returns : goal.returns
returns g c = λ old new count upgrades first last turns left in_turn. found_in_turn _ _ first last upgrades.kept.site turns in_turn (upgrades.sure first left)
