-- Both ways of a client, by calls of its adapters.
use Rattle.std.proofs.Common.{◌≡◌, ◌⊎◌, ℕ, ◌+◌, ◌*◌, ◌<◌, ◌≤◌, Bool, true, false, List, [], ◌∷◌, ◌++◌, ap, sym, ◌∙◌, inl, inr, refl, take, drop, length, ◌==◌, arith, append-nil, eqb-true, length-append}
use Rattle.std.proofs.Math.Seq.{drop-length}
use Rattle.std.proofs.lemmas.Bool.{and_parts, true≢false}
use Rattle.std.proofs.lemmas.List.{length-take-le}
use Rattle.old_clients.specs.Clients.{Adapting, fresh_client, is_behind, is_through, through_request, HasAnswered, HasHeard, IsHeard, IsPassedAtEnd, IsPassedOn}
use Rattle.old_clients.specs.Place.{closing, given_from}
use Rattle.old_clients.specs.Streams.{Ends, Hearing, Informing, Keeps, Passes, fresh_reply, will_give, will_pass, will_rewrite}
use Rattle.old_clients.specs.declared.place.Place.{Place}
use Rattle.old_clients.specs.declared.place.Place.TheVariants.{Head, LineStart, Period, PeriodCr, Inside, Behind}
use Rattle.old_clients.proofs.Joins.{behind_all}
use Rattle.old_clients.proofs.Sizes.{back_few, given_size, pass_size}

-- all of a piece is behind itself
none_behind : (piece more : List ℕ) (taken : ℕ) → taken ≡ length piece → drop taken piece ++ more ≡ more
none_behind piece more taken all = ap (λ n. drop n piece ++ more) all ∙ ap (λ l. l ++ more) (drop-length piece)

no_bytes : (xs : List ℕ) → length xs ≤ 0 → xs ≡ []
no_bytes [] few = refl
no_bytes (x ∷ xs) few = absurd (omega (arith, few))

pub empty_is : (xs : List ℕ) (empty : Bool) → empty ≡ (length xs == 0) → empty ≡ true → length xs ≡ 0
empty_is xs empty is empty_too = eqb-true (length xs) 0 (sym is ∙ empty_too)

pub some_are : (xs : List ℕ) (empty : Bool) → empty ≡ (length xs == 0) → empty ≡ false → length xs ≡ 0 → ⊥
some_are xs empty is not_empty none = absurd (true≢false (sym (is ∙ ap (λ n. n == 0) none) ∙ not_empty))

-- ---- requests

-- there is room for all that is passed on of what came
fits : (old new : Hearing) (came left out : List ℕ) (given : ℕ) → length old.held ≤ 1024 → 1024 + length came < length out → given ≤ length out → take given out ++ will_pass new left ≡ will_pass old came → given ≡ length out → ⊥
fits old new came left out given few room within passes full =
    let part : length (take given out) ≡ given = length-take-le given out within in
    let all : length (take given out) + length (will_pass new left) ≡ length old.held + length came = sym (length-append (take given out) (will_pass new left)) ∙ ap length passes ∙ pass_size old came in
    omega (arith, few, room, full, part, all)

piece_on : (old new : Hearing) (piece part : List ℕ) (taken : ℕ) → Passes will_pass old piece taken part new → Keeps will_rewrite old piece taken new → (old.hears ≡ false → new.hears ≡ false) →
    (taken ≡ length piece) × ((new.hears ≡ true) ⊎ (new.held ≡ [])) → IsPassedOn old piece part new
piece_on old new piece part taken passes keeps ended (all, rest) = record {
  passes = λ more. ap (λ l. part ++ will_pass new l) (sym (none_behind piece more taken all)) ∙ passes more;
  rewrites = λ more. ap (λ l. will_rewrite new l) (sym (none_behind piece more taken all)) ∙ keeps more;
  rest = rest;
  ended = ended;
}

pub piece_passed : (old new : Hearing) (piece out : List ℕ) (taken given : ℕ) → length old.held ≤ 1024 → 1024 + length piece < length out → given ≤ length out → Passes will_pass old piece taken (take given out) new → Keeps will_rewrite old piece taken new →
    (old.hears ≡ false → new.hears ≡ false) → ((taken ≡ length piece) × ((new.hears ≡ true) ⊎ (new.held ≡ []))) ⊎ (given ≡ length out) → (length piece ≡ 0 → ⊥) → IsHeard old piece (take given out) new
piece_passed old new [] out taken given few room within passes keeps ended progress some = absurd (some refl)
piece_passed old new (b ∷ piece) out taken given few room within passes keeps ended progress some = elim progress [
  | inl whole ↦ piece_on old new (b ∷ piece) (take given out) taken passes keeps ended whole
  | inr full ↦ absurd (fits old new (b ∷ piece) (drop taken (b ∷ piece) ++ []) out given few room within (passes [] ∙ ap (will_pass old) (append-nil (b ∷ piece))) full)
]

end_on : (old new : Hearing) (part : List ℕ) → Ends will_pass old part new → will_rewrite new [] ≡ will_rewrite old [] → new.hears ≡ false → will_pass new [] ≡ [] → IsPassedAtEnd old part new
end_on old new part ends keeps over none = record {
  passes = sym (ap (λ l. part ++ l) none ∙ append-nil part) ∙ ends;
  rewrites = keeps;
  rest = sym (append-nil new.held) ∙ sym (rw over refl) ∙ none;
  ended = over;
}

pub end_passed : (old new : Hearing) (piece out : List ℕ) (count : ℕ) → length old.held ≤ 1024 → 1024 + length piece < length out → count ≤ length out → Ends will_pass old (take count out) new → will_rewrite new [] ≡ will_rewrite old [] → new.hears ≡ false →
    (will_pass new [] ≡ []) ⊎ (count ≡ length out) → length piece ≡ 0 → IsHeard old piece (take count out) new
end_passed old new (b ∷ piece) out count few room within ends keeps over progress none = absurd (omega (arith, none))
end_passed old new [] out count few room within ends keeps over progress none = elim progress [
  | inl all ↦ end_on old new (take count out) ends keeps over all
  | inr full ↦ absurd (fits old new [] [] out count few room within ends full)
]

-- ---- replies

-- there is room for all that is given of what was drawn
gives_fit : (old new : Informing) (drawn left out : List ℕ) (given : ℕ) → length old.ready ≤ 20 → 40 + 8 * length drawn < length out → given ≤ length out → take given out ++ will_give new left ≡ will_give old drawn → given ≡ length out → ⊥
gives_fit old new drawn left out given few room within gives full =
    let part : length (take given out) ≡ given = length-take-le given out within in
    let all : length (take given out) + length (will_give new left) ≡ length old.ready + length (given_from old.place drawn) =
    sym (length-append (take given out) (will_give new left)) ∙ ap length gives ∙ length-append old.ready (given_from old.place drawn) in
    omega (arith, few, room, full, part, all, given_size old.place drawn, back_few old.place)

pub drawn_given : (old new : Informing) (drawn out : List ℕ) (taken given : ℕ) → length old.ready ≤ 20 → 40 + 8 * length drawn < length out → given ≤ length out → Passes will_give old drawn taken (take given out) new →
    ((taken ≡ length drawn) × (new.ready ≡ [])) ⊎ (given ≡ length out) → (rest : List ℕ) → take given out ++ will_give new rest ≡ will_give old (drawn ++ rest)
drawn_given old new drawn out taken given few room within passes progress rest = elim progress [
  | inl (all, none) ↦ ap (λ l. take given out ++ will_give new l) (sym (none_behind drawn rest taken all)) ∙ passes rest
  | inr full ↦ absurd (gives_fit old new drawn (drop taken drawn ++ []) out given few room within (passes [] ∙ ap (will_give old) (append-nil drawn)) full)
]

pub end_given : (old new : Informing) (out : List ℕ) (given : ℕ) → length old.ready ≤ 20 → 40 < length out → given ≤ length out → Ends will_give old (take given out) new → (will_give new [] ≡ []) ⊎ (given ≡ length out) → take given out ≡ will_give old []
end_given old new out given few room within ends progress = elim progress [
  | inl none ↦ sym (ap (λ l. take given out ++ l) none ∙ append-nil (take given out)) ∙ ends
  | inr full ↦ absurd (gives_fit old new [] [] out given few (omega (arith, room)) within ends full)
]

-- ---- where all is sent as it comes

through_place : (place : Place) → is_behind place ≡ true → place ≡ Behind
through_place (Head n) behind = absurd (cc behind)
through_place LineStart behind = absurd (cc behind)
through_place Period behind = absurd (cc behind)
through_place PeriodCr behind = absurd (cc behind)
through_place Inside behind = absurd (cc behind)
through_place Behind behind = refl

through_all : (answers : Informing) → is_through answers ≡ true → (rest : List ℕ) → will_give answers rest ≡ rest
through_all answers through rest =
    let parts = and_parts (is_behind answers.place) _ through in
    ap (λ l. l ++ given_from answers.place rest) (no_bytes answers.ready (omega (arith, eqb-true _ 0 parts.1)))
    ∙ ap (λ place. given_from place rest) (through_place answers.place parts.0)
    ∙ behind_all rest

pub through_gives : (client : Adapting) (drawn : List ℕ) → is_through client.answers ≡ true → (rest : List ℕ) → drawn ++ will_give client.answers rest ≡ will_give client.answers (drawn ++ rest)
through_gives client drawn through rest = ap (λ l. drawn ++ l) (through_all client.answers through rest) ∙ sym (through_all client.answers through (drawn ++ rest))

pub through_none : (client : Adapting) → is_through client.answers ≡ true → [] ≡ will_give client.answers []
through_none client through = sym (through_all client.answers through [])

-- ---- a client that isn't an old one

abbrev hearing_of : Bool → List ℕ → Bool → Hearing
hearing_of hears held rewritten = record { hears = hears; held = held; rewritten = rewritten }

requests_through : (asks : Hearing) → asks.hears ≡ false → asks.held ≡ [] → asks.rewritten ≡ false → asks ≡ through_request
requests_through asks over none other = ap (λ h. hearing_of h asks.held asks.rewritten) over ∙ ap (λ l. hearing_of false l asks.rewritten) none ∙ ap (λ r. hearing_of false [] r) other

abbrev client_of : Hearing → Informing → Adapting
client_of asks answers = record { asks = asks; answers = answers }

client_is : (client : Adapting) → client.asks ≡ through_request → client.answers ≡ fresh_reply (will_rewrite client.asks []) → client ≡ fresh_client false
client_is client asks answers = ap (λ a. client_of a client.answers) asks ∙ ap (λ a. client_of through_request a) (answers ∙ ap (λ a. fresh_reply (will_rewrite a [])) asks)

-- a piece of it
through_on : (asks new : Hearing) (piece passed : List ℕ) → asks ≡ through_request → IsHeard asks piece passed new → (passed ≡ piece) × (new ≡ through_request)
through_on asks new [] passed is heard =
    let over = heard.ended in
    let other : new.rewritten ≡ false = sym (rw over refl) ∙ heard.rewrites ∙ ap (λ a. will_rewrite a []) is in
    (heard.passes ∙ ap (λ a. will_pass a []) is, requests_through new over heard.rest other)
through_on asks new (b ∷ piece) passed is heard =
    let over : new.hears ≡ false = heard.ended (ap (λ a. a.hears) is) in
    let none : new.held ≡ [] = elim heard.rest [ inl hears ↦ absurd (true≢false (sym hears ∙ over)) | inr none ↦ none ] in
    let gives : will_pass new [] ≡ [] = rw over (append-nil new.held ∙ none) in
    let other : new.rewritten ≡ false = sym (rw over refl) ∙ heard.rewrites [] ∙ ap (λ a. will_rewrite a ((b ∷ piece) ++ [])) is in
    (sym (append-nil passed) ∙ ap (λ l. passed ++ l) (sym gives) ∙ heard.passes [] ∙ ap (λ a. will_pass a ((b ∷ piece) ++ [])) is ∙ append-nil (b ∷ piece), requests_through new over none other)

pub other_heard : (old new : Adapting) (piece passed : List ℕ) → old ≡ fresh_client false → HasHeard old piece passed new → (passed ≡ piece) × (new ≡ old)
other_heard old new piece passed is heard =
    let on = through_on old.asks new.asks piece passed (ap (λ c. c.asks) is) heard.asks in
    (on.0, client_is new on.1 heard.answers ∙ sym is)

pub other_answered : (old new : Adapting) (drawn part : List ℕ) → old ≡ fresh_client false → HasAnswered old drawn part new → (part ≡ drawn) × (new ≡ old)
other_answered old new drawn part is answered = answered.through (ap (λ c. is_through c.answers) is)
