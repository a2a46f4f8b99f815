use Rattle.std.proofs.Common.{◌≡◌, [], inl, subst, ℕ, List, string_bytes, rules}
use Rattle.std.specs.Io.KnownBytes.{Appends}
use Rattle.gopher_host.proofs.importing.print_import.Goals as goal

pub returns : goal.returns
returns g c =
    let contents = g.W.Write.contents in
    let text : c.deref.result.now ≡ string_bytes c.in-Ok.text = search rules in
    let printed = subst (λ (b : List ℕ). Appends (contents c.args.writer.now) (contents c.print_text.new.writer) b) text c.in_ok-print_text.ensures.printed in
    inl (record { text = string_bytes c.in-Ok.text; reads = c.in-Ok.ensures []; printed = printed; left = c.told.ensures })
