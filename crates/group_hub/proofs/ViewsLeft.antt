-- A view that has bytes leaves some to be drawn.
use Rattle.std.proofs.Common.{◌≡◌, ◌<◌, ℕ, Bool, true, false, List, [], ◌++◌, length, ap, arith}
use Rattle.std.proofs.lemmas.List.{length-append}
use Rattle.text_writer.specs.Text.{text}
use Rattle.text_writer.specs.Text.{sent_as}

text_some : (body : List ℕ) → 0 < length (text body)
unfolding text
text_some body = omega (arith, length-append {A = ℕ})

sent_some : (is_text : Bool) (body : List ℕ) → 0 < length body → 0 < length (sent_as is_text body)
sent_some true body some = text_some body
sent_some false body some = some

pub view_left : (head : List ℕ) (is_text : Bool) (body : List ℕ) → 0 < length body → head ++ sent_as is_text body ≡ [] → ⊥
view_left head is_text body some none =
    let bytes = sent_some is_text body some in
    let length_is : length (head ++ sent_as is_text body) ≡ 0 = ap length none in
    absurd (omega (arith, bytes, length_is, length-append head (sent_as is_text body)))
