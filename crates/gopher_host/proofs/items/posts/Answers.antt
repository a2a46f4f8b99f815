use Rattle.std.proofs.Common.{ℕ, List, refl, subst}
use Rattle.std.specs.Prelude.{IfOk}
use Rattle.file_device.specs.FileCalls.{file_state}
use Rattle.image_items.specs.Documents.{bytes_in}
use Rattle.image_items.specs.Got.{ArePosts}
use Rattle.gopher_host.specs.Items.{ListsPosts}
use Rattle.gopher_host.proofs.Ended.{read_then}
use Rattle.gopher_host.proofs.ItemsRead.{item_read, same_selector}
use Rattle.gopher_host.proofs.items.posts.Goals as goal

pub returns-clause-listed : goal.returns-clause-listed
returns-clause-listed g c =
    let contents = g.W.Write.contents in
    let device = c.in_ok-device.device in
    let image = (file_state device).disk.view in
    let handed = c.posts_image-listed.result in
    let same = same_selector c.args.board.now c.in_ok-board.board c.in_ok-board.ensures in
    let listed = subst (λ (s : List ℕ). IfOk handed (λ r. ArePosts image s (bytes_in (λ bytes. bytes.items) r.0))) same (c.posts_image-listed.ensures.posts refl) in
    rw (← c.in_ok-board.ensures) (
    read_then _ _ _ _ _ _ device _ _ (ListsPosts c.args.board.now contents c.args.writer.now c.print_item.new.writer c.print_item.result) c.in_ok-device.ensures c.closed.ensures.left (
    item_read (λ bytes. bytes.items) device (ArePosts image c.args.board.now) contents c.args.writer.now c.print_item.new.writer c.print_item.result handed c.closed.result c.closed.ensures.given c.print_item.ensures listed c.posts_image-listed.ensures.refused (c.posts_image-listed.ensures.at_crash refl)
    )
    )
