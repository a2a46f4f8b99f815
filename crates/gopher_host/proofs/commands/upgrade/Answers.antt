use Rattle.std.proofs.Common.{◌≡◌, ◌⊎◌, ℕ, List, refl}
use Rattle.std.specs.String.{string_bytes}
use Rattle.file_device.specs.FileCalls.{file_state}
use Rattle.host_on_disk.specs.Upgrades.{KeepsEither}
use Rattle.image_commands.specs.Compacted.{MayHaveWritten}
use Rattle.image_commands.specs.Upgraded.{IsUpgradedImage, IsUpgradingFault}
use Rattle.gopher_host.specs.Faults.{ended}
use Rattle.gopher_host.specs.ImageFiles.{UpgradesImage, IsUnwritten, file_crash_states}
use Rattle.gopher_host.proofs.Ended.{ok_too, all_err_too, unless_written, answers, opened_then}
use Rattle.gopher_host.proofs.commands.upgrade.Goals as goal

pub returns : goal.returns
returns g c =
    let contents = g.W.Write.contents in
    let device = c.in_ok-device.device in
    let handed = c.upgrade_image-upgraded.result in
    opened_then _ _ _ _ device _ _ (UpgradesImage contents c.args.writer.now c.print_given.new.writer c.print_given.result) c.in_ok-device.ensures.noted c.closed.ensures.left c.in_ok-device.ensures.named c.in_ok-device.ensures.opened c.in_ok-device.ensures.unused
    (answers (λ line. ended (string_bytes line)) handed c.closed.result
    (λ left text. (line : List ℕ) × (text ≡ ended line) × IsUpgradedImage file_state file_crash_states device left line)
    (λ left fault. IsUpgradingFault (file_state device) (file_state left) fault × (IsUnwritten device left ⊎ (MayHaveWritten fault × KeepsEither file_state file_crash_states device left)))
    contents c.args.writer.now c.print_given.new.writer c.print_given.result c.closed.ensures.given c.print_given.ensures
    (ok_too handed (λ given is. (string_bytes given.0, refl, is)) (c.upgrade_image-upgraded.ensures.upgraded refl))
    (all_err_too handed (λ e caused kept may. (caused, unless_written kept may)) c.upgrade_image-upgraded.ensures.refused (c.upgrade_image-upgraded.ensures.kept_on_fault refl) (c.upgrade_image-upgraded.ensures.no_new_crash_state refl)))
