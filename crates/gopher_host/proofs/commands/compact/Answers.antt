use Rattle.std.proofs.Common.{◌≡◌, ◌⊎◌, ℕ, List, refl}
use Rattle.std.specs.String.{string_bytes}
use Rattle.file_device.specs.FileCalls.{file_state}
use Rattle.image_commands.specs.Compacted.{IsCompactingFault, KeepsOneSite, IsWrittenAnew, MayHaveWritten}
use Rattle.gopher_host.specs.Faults.{ended}
use Rattle.gopher_host.specs.ImageFiles.{Compacts, IsUnwritten, file_crash_states}
use Rattle.gopher_host.proofs.Ended.{both_too, all_err_too, unless_written, answers, opened_then}
use Rattle.gopher_host.proofs.commands.compact.Goals as goal

pub returns : goal.returns
returns g c =
    let contents = g.W.Write.contents in
    let device = c.in_ok-device.device in
    let handed = c.compact_image-compacted.result in
    opened_then _ _ _ _ device _ _ (Compacts contents c.args.writer.now c.print_compacted.new.writer c.print_compacted.result) c.in_ok-device.ensures.noted c.closed.ensures.left c.in_ok-device.ensures.named c.in_ok-device.ensures.opened c.in_ok-device.ensures.unused
    (answers (λ line. ended (string_bytes line)) handed c.closed.result
    (λ left text. (line : List ℕ) × (text ≡ ended line) × KeepsOneSite file_state file_crash_states device left × IsWrittenAnew (file_state left).disk.view line)
    (λ left fault. IsCompactingFault (file_state device) (file_state left) fault × (IsUnwritten device left ⊎ (MayHaveWritten fault × KeepsOneSite file_state file_crash_states device left)))
    contents c.args.writer.now c.print_compacted.new.writer c.print_compacted.result c.closed.ensures.given c.print_compacted.ensures
    (both_too handed (λ given kept anew. (string_bytes given.0, refl, kept, anew)) (c.compact_image-compacted.ensures.kept refl) (c.compact_image-compacted.ensures.anew refl))
    (all_err_too handed (λ e caused kept may. (caused, unless_written kept may)) c.compact_image-compacted.ensures.refused (c.compact_image-compacted.ensures.kept_on_fault refl) (c.compact_image-compacted.ensures.no_new_crash_state refl)))
