use Rattle.std.proofs.Common.{ℕ, List, Option, refl, subst}
use Rattle.std.specs.Option.{option_copied}
use Rattle.std.specs.Prelude.{IfOk}
use Rattle.file_device.specs.FileCalls.{file_state}
use Rattle.image_items.specs.Documents.{bytes_in}
use Rattle.image_items.specs.Got.{IsGot}
use Rattle.gopher_host.specs.Items.{Gets}
use Rattle.gopher_host.proofs.Ended.{read_then}
use Rattle.gopher_host.proofs.ItemsRead.{item_read, same_selector}
use Rattle.gopher_host.proofs.items.get.Goals as goal

pub returns-clause-got : goal.returns-clause-got
returns-clause-got g c =
    let contents = g.W.Write.contents in
    let device = c.in_ok-device.device in
    let view = option_copied c.args.view in
    let image = (file_state device).disk.view in
    let handed = c.get_image-got.result in
    let same = same_selector c.args.selector.now c.in_ok-selector.selector c.in_ok-selector.ensures in
    let named = subst (λ (v : Option (List ℕ)). IfOk handed (λ r. IsGot image c.in_ok-selector.selector v (bytes_in (λ bytes. bytes.items) r.0))) c.bytes_of.ensures (c.get_image-got.ensures.got refl) in
    let got = subst (λ (s : List ℕ). IfOk handed (λ r. IsGot image s view (bytes_in (λ bytes. bytes.items) r.0))) same named in
    rw (← c.in_ok-selector.ensures) (
    read_then _ _ _ _ _ _ device _ _ (Gets c.args.selector.now view contents c.args.writer.now c.print_item.new.writer c.print_item.result) c.in_ok-device.ensures c.closed.ensures.left (
    item_read (λ bytes. bytes.items) device (IsGot image c.args.selector.now view) contents c.args.writer.now c.print_item.new.writer c.print_item.result handed c.closed.result c.closed.ensures.given c.print_item.ensures got c.get_image-got.ensures.refused (c.get_image-got.ensures.at_crash refl)
    )
    )
