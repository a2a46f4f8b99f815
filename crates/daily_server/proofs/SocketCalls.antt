-- What one call more says of a connection.
use Rattle.std.proofs.Common.{◌≡◌, ◌+◌, ◌-◌, ◌^◌, ◌==◌, ◌||◌, List, [], ◌∷◌, ◌++◌, take, min, sym, ap, ◌∙◌, arith}
use Rattle.std.specs.Prelude.{flat_map}
use Rattle.std.specs.List.{list_any}
use Rattle.std.proofs.lemmas.List.{flat_map_more, append-nil}
use Rattle.std.proofs.lemmas.List.Folds.{list_any-append}
use Rattle.std.proofs.lemmas.List.Sums.{sum_by_push}
use Rattle.turns.specs.WireCalls.{WireCall}
use Rattle.daily_server.specs.Sent.{read_by, written_by, head_of, has_line, taken_by}
use Rattle.daily_server.specs.Stored.{offered_by, told_of}
use Rattle.daily_server.proofs.HeadsKept.{take_pieces}

pub head_more : (calls : List WireCall) (call : WireCall) → take 256 (head_of calls ++ read_by call) ≡ head_of (calls ++ call ∷ [])
head_more calls call = take_pieces 256 (flat_map read_by calls) (read_by call) ∙ ap (take 256) (flat_map_more read_by [] calls call)

pub told_more : (calls : List WireCall) (call : WireCall) → take 256 (told_of calls ++ offered_by call) ≡ told_of (calls ++ call ∷ [])
told_more calls call = take_pieces 256 (flat_map offered_by calls) (offered_by call) ∙ ap (take 256) (flat_map_more offered_by [] calls call)

pub told_same : (calls : List WireCall) (call : WireCall) → offered_by call ≡ [] → told_of calls ≡ told_of (calls ++ call ∷ [])
told_same calls call none = ap (take 256) (sym (append-nil (flat_map offered_by calls)) ∙ ap (λ l. flat_map offered_by calls ++ l) (sym none) ∙ flat_map_more offered_by [] calls call)

pub head_same : (calls : List WireCall) (call : WireCall) → read_by call ≡ [] → head_of calls ≡ head_of (calls ++ call ∷ [])
head_same calls call none = ap (take 256) (sym (append-nil (flat_map read_by calls)) ∙ ap (λ l. flat_map read_by calls ++ l) (sym none) ∙ flat_map_more read_by [] calls call)

pub line_more : (calls : List WireCall) (call : WireCall) → (has_line calls || list_any (λ b. b == 10) (read_by call)) ≡ has_line (calls ++ call ∷ [])
line_more calls call = sym (list_any-append (λ b. b == 10) (flat_map read_by calls) (read_by call)) ∙ ap (list_any (λ b. b == 10)) (flat_map_more read_by [] calls call)

pub line_same : (calls : List WireCall) (call : WireCall) → read_by call ≡ [] → has_line calls ≡ has_line (calls ++ call ∷ [])
line_same calls call none = ap (list_any (λ b. b == 10)) (sym (append-nil (flat_map read_by calls)) ∙ ap (λ l. flat_map read_by calls ++ l) (sym none) ∙ flat_map_more read_by [] calls call)

pub taken_more : (calls : List WireCall) (call : WireCall) → min (taken_by calls + written_by call) (2 ^ 64 - 1) ≡ taken_by (calls ++ call ∷ [])
taken_more calls call = let more = sum_by_push written_by calls call in omega (arith, more)

pub taken_same : (calls : List WireCall) (call : WireCall) → written_by call ≡ 0 → taken_by calls ≡ taken_by (calls ++ call ∷ [])
taken_same calls call none = let more = sum_by_push written_by calls call in omega (arith, more, none)
