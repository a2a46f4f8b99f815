use Rattle.std.proofs.Common.{◌≡◌, ◌*◌, false, nat_le, length, rules}
use Rattle.folder_import.proofs.Parts.{last_page}
use Rattle.folder_import.proofs.pages.page.Goals as goal

pub returns-then-left-lt-A_PAGE : goal.returns-then-left-lt-A_PAGE
returns-then-left-lt-A_PAGE c =
    let long : nat_le (length c.args.entries.now) 100 ≡ false = search rules in
    rw long (last_page c.args.entries.now (99 * c.args.page) 99 c.if-left-lt-A_PAGE.true)
