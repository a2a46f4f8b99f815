use Rattle.std.proofs.Common.{◌≡◌, ℕ, List, refl}
use Rattle.std.specs.String.{string_bytes}
use Rattle.file_device.specs.FileCalls.{file_state}
use Rattle.image_commands.specs.Faults.{IsReadingFault}
use Rattle.image_commands.specs.Lines.{IsChecked}
use Rattle.gopher_host.specs.Faults.{ended}
use Rattle.gopher_host.specs.ImageFiles.{Checks, file_crash_states}
use Rattle.gopher_host.proofs.Ended.{ok_too, err_too, answers, unwritten, read_then}
use Rattle.gopher_host.proofs.commands.check.Goals as goal

pub returns : goal.returns
returns g c =
    let contents = g.W.Write.contents in
    let device = c.in_ok-device.device in
    let handed = c.check_image-checked.result in
    read_then _ _ _ _ _ _ device _ _ (Checks contents c.args.writer.now c.print_given.new.writer c.print_given.result) c.in_ok-device.ensures c.closed.ensures.left (
      answers (λ line. ended (string_bytes line)) handed c.closed.result (λ left text. (line : List ℕ) × (text ≡ ended line) × IsChecked file_state file_crash_states device line) (λ left fault. IsReadingFault (file_state device) (file_state left) fault) contents c.args.writer.now c.print_given.new.writer c.print_given.result c.closed.ensures.given c.print_given.ensures
          (ok_too handed (λ given is. (string_bytes given.0, refl, is)) (c.check_image-checked.ensures.checked refl)) (err_too handed (λ e h. h.caused) c.check_image-checked.ensures.refused),
      unwritten IsReadingFault device handed (c.check_image-checked.ensures.at_crash refl) c.check_image-checked.ensures.refused,
    )
