use Rattle.std.proofs.Common.{◌≡◌, ◌<◌, ◌^◌, sym, rules}
use Rattle.std.proofs.lemmas.Bool.{both_ways}
use Rattle.host_types.specs.Site.{post_selector}
use Rattle.mem_site.proofs.WholeSites.{no_board, last_of_post}
use Rattle.mem_site.proofs.mem_site.MemSite.is_post.Goals as goal

pub returns-in_default-board : goal.returns-in_default-board
returns-in_default-board c =
    let named : c.args.selector.now ≡ post_selector c.in-Some.board c.in-Some.number = search rules in
    let small : c.in-Some.number < 2 ^ 64 = search rules in
    (λ h. absurd (cc h), λ p. absurd (no_board c.args.self.now c.args.selector.now c.args.item.now c.in-Some.board c.in-Some.number c.requires small named (sym c.in_default-board.ensures) p))

pub returns-then-not-is_last : goal.returns-then-not-is_last
returns-then-not-is_last c =
    let named : c.args.selector.now ≡ post_selector c.in-Some.board c.in-Some.number = search rules in
    let small : c.in-Some.number < 2 ^ 64 = search rules in
    (λ h. absurd (cc h), λ p. absurd (both_ways c.is_last.result c.if-not-is_last.true (c.is_last.ensures.1 (last_of_post c.args.self.now c.args.selector.now c.args.item.now c.in-Some.board c.in-Some.number c.in-Some-board.cap c.in-Some-board.next c.requires small named (sym c.in-Some-board.ensures) p))))
