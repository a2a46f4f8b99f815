-- Adapters of requests: what calls pass on.
use Rattle.std.proofs.Common.{◌≡◌, ℕ, ◌+◌, ◌<◌, ◌≤◌, Bool, true, false, List, [], ◌++◌, ap, sym, ◌∙◌, refl, take, drop, length, append_assoc, append-nil}
use Rattle.std.specs.List.{list_any, position_or_len}
use Rattle.std.proofs.lemmas.List.{take-append-drop}
use Rattle.host_types.specs.Lines.{is_lf, without_cr}
use Rattle.old_clients.specs.AdaptedRequest.{adapted_line, adapted_request, is_old, is_rewritten}
use Rattle.old_clients.specs.Streams.{Hearing, will_pass, will_rewrite}
use Rattle.old_clients.proofs.Requests.{line_ended, line_too_long, not_yet}

-- an adapter by its fields
abbrev pub state : Bool → ℕ → List ℕ → Bool → Hearing
state hears given items rewritten = record { hears = hears; held = drop given items; rewritten = rewritten }

hearing : (a : Hearing) → a.hears ≡ true → (rest : List ℕ) → will_pass a rest ≡ adapted_request (a.held ++ rest)
hearing a hears rest = rw hears refl

hearing_says : (a : Hearing) → a.hears ≡ true → (rest : List ℕ) → will_rewrite a rest ≡ is_rewritten (a.held ++ rest)
hearing_says a hears rest = rw hears refl

passing : (a : Hearing) → a.hears ≡ false → (rest : List ℕ) → will_pass a rest ≡ a.held ++ rest
passing a hears rest = rw hears refl

passing_says : (a : Hearing) → a.hears ≡ false → (rest : List ℕ) → will_rewrite a rest ≡ a.rewritten
passing_says a hears rest = rw hears refl

-- a line that has not ended has no LF
pub lacks_drop : (given : ℕ) (items : List ℕ) → given ≡ 0 → list_any is_lf items ≡ false → list_any is_lf (drop given items) ≡ false
lacks_drop given items none lacks = ap (λ n. list_any is_lf (drop n items)) none ∙ lacks

-- ---- a chunk

-- the line is too long
pub long_passes : (a : Hearing) (chunk : List ℕ) (end : ℕ) → a.hears ≡ true → list_any is_lf a.held ≡ false → end ≡ position_or_len is_lf chunk → end ≤ length chunk → 1024 < length a.held + end →
    (more : List ℕ) → a.held ++ (chunk ++ more) ≡ will_pass a (chunk ++ more)
long_passes a chunk end hears lacks place within long more =
    sym (line_too_long a.held chunk more end lacks place within long).passed ∙ sym (hearing a hears (chunk ++ more))

pub long_says : (a : Hearing) (chunk : List ℕ) (end : ℕ) → a.hears ≡ true → list_any is_lf a.held ≡ false → end ≡ position_or_len is_lf chunk → end ≤ length chunk → 1024 < length a.held + end →
    (more : List ℕ) → false ≡ will_rewrite a (chunk ++ more)
long_says a chunk end hears lacks place within long more =
    sym (line_too_long a.held chunk more end lacks place within long).said ∙ sym (hearing_says a hears (chunk ++ more))

-- the line ends in the chunk
pub ended_passes : (a b : Hearing) (chunk : List ℕ) (end : ℕ) → a.hears ≡ true → list_any is_lf a.held ≡ false → end ≡ position_or_len is_lf chunk → end < length chunk → length a.held + end ≤ 1024 →
    b.hears ≡ false → b.held ≡ adapted_line (a.held ++ take end chunk) → (more : List ℕ) → will_pass b (drop end chunk ++ more) ≡ will_pass a (chunk ++ more)
ended_passes a b chunk end hears lacks place less short over held more =
    let (whole, joined, behind) = line_ended a.held chunk more end lacks place less short in
    passing b over (drop end chunk ++ more)
    ∙ ap (λ l. l ++ (drop end chunk ++ more)) held
    ∙ ap (λ l. adapted_line (a.held ++ take end chunk) ++ (l ++ more)) behind
    ∙ sym whole.passed
    ∙ ap adapted_request (sym joined)
    ∙ sym (hearing a hears (chunk ++ more))

pub ended_says : (a b : Hearing) (chunk : List ℕ) (end : ℕ) → a.hears ≡ true → list_any is_lf a.held ≡ false → end ≡ position_or_len is_lf chunk → end < length chunk → length a.held + end ≤ 1024 →
    b.hears ≡ false → b.rewritten ≡ is_old (without_cr (a.held ++ take end chunk)) → (more : List ℕ) → will_rewrite b (drop end chunk ++ more) ≡ will_rewrite a (chunk ++ more)
ended_says a b chunk end hears lacks place less short over old more =
    let (whole, joined, behind) = line_ended a.held chunk more end lacks place less short in
    passing_says b over (drop end chunk ++ more)
    ∙ old
    ∙ sym whole.said
    ∙ ap is_rewritten (sym joined)
    ∙ sym (hearing_says a hears (chunk ++ more))

-- the line as it is held then
pub line_held : (given : ℕ) (items held line : List ℕ) → given ≡ 0 → drop given items ≡ held → line ≡ adapted_line items → drop given line ≡ adapted_line held
line_held given items held line none view is = ap (λ n. drop n line) none ∙ is ∙ ap adapted_line (ap (λ n. drop n items) (sym none) ∙ view)

-- ---- the end

pub end_passes : (a : Hearing) (hears : Bool) → a.hears ≡ hears → (hears ≡ true → list_any is_lf a.held ≡ false) → a.held ++ [] ≡ will_pass a []
end_passes a true hears lacks = sym (not_yet (a.held ++ []) (ap (list_any is_lf) (append-nil a.held) ∙ lacks refl)).passed ∙ sym (hearing a hears [])
end_passes a false hears lacks = sym (passing a hears [])

pub end_says : (a : Hearing) (hears : Bool) → a.hears ≡ hears → (hears ≡ true → (list_any is_lf a.held ≡ false) × (a.rewritten ≡ false)) → a.rewritten ≡ will_rewrite a []
end_says a true hears lacks = (lacks refl).1 ∙ sym (not_yet (a.held ++ []) (ap (list_any is_lf) (append-nil a.held) ∙ (lacks refl).0)).said ∙ sym (hearing_says a hears [])
end_says a false hears lacks = sym (passing_says a hears [])

-- ---- what is given

-- so many bytes of a line that has ended were given
pub line_given : (a b : Hearing) (out : List ℕ) (count : ℕ) → a.hears ≡ false → b.hears ≡ false → take count out ≡ take count a.held → b.held ≡ drop count a.held → (rest : List ℕ) → take count out ++ will_pass b rest ≡ will_pass a rest
line_given a b out count over still given left rest =
    ap (λ l. take count out ++ l) (passing b still rest)
    ∙ ap (λ l. l ++ (b.held ++ rest)) given
    ∙ ap (λ l. take count a.held ++ (l ++ rest)) left
    ∙ sym (append_assoc (take count a.held) (drop count a.held) rest)
    ∙ ap (λ l. l ++ rest) (take-append-drop count a.held)
    ∙ sym (passing a over rest)

-- so many bytes behind the line were given
pub rest_given : (a : Hearing) (rest old new : List ℕ) (at count : ℕ) → a.hears ≡ false → a.held ≡ [] → take (at + count) new ≡ take at old ++ take count rest →
    (more : List ℕ) → take (at + count) new ++ will_pass a (drop count rest ++ more) ≡ take at old ++ will_pass a (rest ++ more)
rest_given a rest old new at count over none given more =
    let passes : (l : List ℕ) → will_pass a l ≡ l = λ l. passing a over l ∙ ap (λ held. held ++ l) none in
    ap (λ l. take (at + count) new ++ l) (passes (drop count rest ++ more))
    ∙ ap (λ l. l ++ (drop count rest ++ more)) given
    ∙ append_assoc (take at old) (take count rest) (drop count rest ++ more)
    ∙ ap (λ l. take at old ++ l) (sym (append_assoc (take count rest) (drop count rest) more) ∙ ap (λ l. l ++ more) (take-append-drop count rest))
    ∙ ap (λ l. take at old ++ l) (sym (passes (rest ++ more)))
