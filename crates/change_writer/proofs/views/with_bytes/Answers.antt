use Rattle.std.proofs.Common.{◌≡◌, ◌∙◌, codes, ap, inr, arith, rules}
use Rattle.std.proofs.lemmas.Result.{IfOk-weaker}
use Rattle.hex.specs.Hex.{IsBytes, encode_lower}
use Rattle.hex.proofs.HexLemmas.{decode_of-encode_lower}
use Rattle.toml.specs.Data.{string}
use Rattle.toml.specs.View.{table_view}
use Rattle.toml.proofs.Views.{view-String}
use Rattle.change_writer.specs.Members.{with_member}
use Rattle.change_writer.proofs.views.with_bytes.Goals as goal

pub returns-in_ok-encode-in-Err : goal.returns-in_ok-encode-in-Err
returns-in_ok-encode-in-Err c =
    let bytes = c.args.bytes.now in
    let fits : IsBytes bytes = λ i. let f = c.type_inv.bytes i in omega arith in
    let s = c.in_ok-encode-in-Err.field-0 in
    IfOk-weaker c.with-in-Err.result _ _ (λ t is. inr (encode_lower bytes, decode_of-encode_lower bytes fits, is ∙ ap (λ d. with_member (codes "hex") d (table_view c.args.table)) (view-String s ∙ ap string c.in_ok-encode-in-Err.ensures))) c.with-in-Err.ensures
