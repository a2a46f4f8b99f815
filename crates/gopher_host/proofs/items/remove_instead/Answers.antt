use Rattle.std.proofs.Common.{◌≡◌, length, map, arith}
use Rattle.std.proofs.lemmas.List.{length-map}
use Rattle.gopher_host.proofs.AskedInstead.{says_so, dropped_so}
use Rattle.gopher_host.proofs.items.remove_instead.Goals as goal

pub returns : goal.returns
returns g c =
    let names = map (λ name. name.now) c.args.selectors.now in
    let counted : length c.args.selectors.now ≡ length names = omega (arith, length-map c.args.selectors.now (λ name. name.now)) in
    dropped_so _ names c.as_bytes.result.now g.W.Write.contents _ _ _ _ c.ask_instead-given.result c.print_removed.result (length c.args.selectors.now) (says_so c.args.selectors.now _ c.as_bytes.result.now c.as_bytes.ensures.value c.in_ok-file.ensures.text) c.ask_instead-given.ensures counted c.print_removed.ensures
