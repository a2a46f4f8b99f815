-- A request that was sent and answered, put together.
use Rattle.std.proofs.Common.{◌≡◌, ℕ, Bool, true, false, List, [], ◌∷◌, ◌++◌, length, map, refl, sym, ap, subst, ◌∙◌, append_assoc, ◌⊎◌, Ok, Err}
use Rattle.std.specs.Prelude.{Result, IfOk, string_bytes}
use Rattle.std.specs.List.{concat}
use Rattle.std.proofs.lemmas.List.{append-nil}
use Rattle.turns.specs.WireCalls.{WireCall, HasMade, Read, ReadFailed, IsSent}
use Rattle.admin_lines.specs.Heads.{apply_head}
use Rattle.admin_lines.specs.Replies.{reply}
use Rattle.admin_client.specs.declared.answer.AdminAnswer.{AdminAnswer}
use Rattle.admin_client.specs.Asking.{IsRequested, piece_read, IsAllHeard, IsAsked}

-- the head was taken whole, and then the file was sent
pub requested : (file : List ℕ) (old mid new : List WireCall) (whole : Bool) → HasMade old mid (λ made. IsSent (apply_head (length file)) made true) → HasMade mid new (λ made. IsSent file made whole) → HasMade old new (λ made. IsRequested file made)
requested file old mid new whole head body = (
  head.0 ++ body.0,
  body.1 ∙ ap (λ l. l ++ body.0) head.1 ∙ append_assoc old head.0 body.0,
  record {
    head = head.0;
    body = body.0;
    whole = true;
    made_are = refl;
    head_sent = head.2;
    body_sent = (whole, body.2);
  },
)

-- it wasn't
pub cut_short : (file : List ℕ) (old new : List WireCall) → HasMade old new (λ made. IsSent (apply_head (length file)) made false) → HasMade old new (λ made. IsRequested file made)
cut_short file old new head = (
  head.0,
  head.1,
  record {
    head = head.0;
    body = [];
    whole = false;
    made_are = sym (append-nil head.0);
    head_sent = head.2;
    body_sent = refl;
  },
)

-- ---- what came

-- so far
pub record IsHeardSoFar (reply : List ℕ) (made : List WireCall) : Type 0 where
  pub pieces : List (List ℕ)
  pub reply_is : reply ≡ concat pieces
  pub made_are : made ≡ map piece_read pieces

pub nothing_yet : (old : List WireCall) → HasMade old old (λ made. IsHeardSoFar [] made)
nothing_yet old = ([], sym (append-nil old), record { pieces = []; reply_is = refl; made_are = refl })

concat_one : (pieces : List (List ℕ)) (piece : List ℕ) → concat pieces ++ piece ≡ concat (pieces ++ piece ∷ [])
concat_one [] piece = sym (append-nil piece)
concat_one (p ∷ pieces) piece = append_assoc p (concat pieces) piece ∙ ap (λ l. p ++ l) (concat_one pieces piece)

map_one : (pieces : List (List ℕ)) (piece : List ℕ) → map piece_read pieces ++ piece_read piece ∷ [] ≡ map piece_read (pieces ++ piece ∷ [])
map_one [] piece = refl
map_one (p ∷ pieces) piece = ap (λ l. piece_read p ∷ l) (map_one pieces piece)

-- one piece more
pub heard_more : (reply piece more : List ℕ) (old mid new : List WireCall) → HasMade old mid (λ made. IsHeardSoFar reply made) → new ≡ mid ++ Read 2048 piece ∷ [] → more ≡ reply ++ piece → HasMade old new (λ made. IsHeardSoFar more made)
heard_more reply piece more old mid new so_far read is = (
  so_far.0 ++ Read 2048 piece ∷ [],
  read ∙ ap (λ l. l ++ Read 2048 piece ∷ []) so_far.1 ∙ append_assoc old so_far.0 (Read 2048 piece ∷ []),
  record {
    pieces = so_far.2.pieces ++ piece ∷ [];
    reply_is = is ∙ ap (λ l. l ++ piece) so_far.2.reply_is ∙ concat_one so_far.2.pieces piece;
    made_are = ap (λ l. l ++ Read 2048 piece ∷ []) so_far.2.made_are ∙ map_one so_far.2.pieces piece;
  },
)

-- the connection ended
pub heard_all : (reply : List ℕ) (last old mid new : List WireCall) → HasMade old mid (λ made. IsHeardSoFar reply made) → new ≡ mid ++ last → (last ≡ Read 2048 [] ∷ []) ⊎ ((last ≡ ReadFailed 2048 ∷ []) ⊎ (last ≡ [])) → HasMade old new (λ made. IsAllHeard reply made)
heard_all reply last old mid new so_far read ends = (
  so_far.0 ++ last,
  read ∙ ap (λ l. l ++ last) so_far.1 ∙ append_assoc old so_far.0 last,
  record {
    pieces = so_far.2.pieces;
    last = last;
    reply_is = so_far.2.reply_is;
    made_are = ap (λ l. l ++ last) so_far.2.made_are;
    ends = ends;
  },
)

-- ---- both

pub asked : (file reply : List ℕ) (old mid new : List WireCall) → HasMade old mid (λ made. IsRequested file made) → HasMade mid new (λ made. IsAllHeard reply made) → HasMade old new (λ made. IsAsked file reply made)
asked file reply old mid new first second = (
  first.0 ++ second.0,
  second.1 ∙ ap (λ l. l ++ second.0) first.1 ∙ append_assoc old first.0 second.0,
  record {
    first = first.0;
    second = second.0;
    made_are = refl;
    requested = first.2;
    heard = second.2;
  },
)

-- an answer is what was heard
pub answered_so : {E : Type 0} (result : Result AdminAnswer E) (file heard bytes : List ℕ) (old new : List WireCall) → heard ≡ bytes → IfOk result (λ a. heard ≡ reply a.done (string_bytes a.text)) → HasMade old new (λ made. IsAsked file bytes made) →
    IfOk result (λ a. HasMade old new (λ made. IsAsked file (reply a.done (string_bytes a.text)) made))
answered_so (Ok a) file heard bytes old new same is made = subst (λ b. HasMade old new (λ m. IsAsked file b m)) (sym same ∙ is) made
answered_so (Err e) file heard bytes old new same is made = tt
