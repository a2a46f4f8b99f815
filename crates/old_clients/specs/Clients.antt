-- Both ways of a client, as a server passes them on: what it sends by the pieces that are read, and its reply by the bytes that are drawn.
use Rattle.std.specs.Prelude.{◌≡◌, ◌⊎◌, ◌==◌, ◌&&◌, ℕ, Bool, true, false, List, [], ◌∷◌, ◌++◌, length}
use Rattle.old_clients.specs.Streams.{Hearing, Informing, fresh_reply, fresh_request, will_give, will_pass, will_rewrite}
use Rattle.old_clients.specs.declared.place.Place.{Place}
use Rattle.old_clients.specs.declared.place.Place.TheVariants.{Head, LineStart, Period, PeriodCr, Inside, Behind}

pub record Adapting : Type 0 where
  pub asks : Hearing
  pub answers : Informing

-- an adapter of requests that passes on all that comes, as it comes
abbrev pub through_request : Hearing
through_request = record { hears = false; held = []; rewritten = false }

-- A client that nothing came of yet. Of one that isn't an old one all is passed on as it comes.
abbrev pub fresh_client : Bool → Adapting
fresh_client true = record { asks = fresh_request; answers = fresh_reply false }
fresh_client false = record { asks = through_request; answers = fresh_reply false }

-- ---- what it sends

-- A piece was passed on, and nothing is held back but a line that has not ended.
pub record IsPassedOn (old : Hearing) (piece passed : List ℕ) (new : Hearing) : Type 0 where
  pub passes : (more : List ℕ) → passed ++ will_pass new more ≡ will_pass old (piece ++ more)
  pub rewrites : (more : List ℕ) → will_rewrite new more ≡ will_rewrite old (piece ++ more)
  pub rest : (new.hears ≡ true) ⊎ (new.held ≡ [])
  pub ended : old.hears ≡ false → new.hears ≡ false

-- The end came, and what was held back was passed on.
pub record IsPassedAtEnd (old : Hearing) (passed : List ℕ) (new : Hearing) : Type 0 where
  pub passes : passed ≡ will_pass old []
  pub rewrites : will_rewrite new [] ≡ will_rewrite old []
  pub rest : new.held ≡ []
  pub ended : new.hears ≡ false

-- a piece, of which no bytes are the end
abbrev pub IsHeard : Hearing → List ℕ → List ℕ → Hearing → Type 0
IsHeard old [] passed new = IsPassedAtEnd old passed new
IsHeard old (b ∷ piece) passed new = IsPassedOn old (b ∷ piece) passed new

-- A piece was heard. The reply is adapted where the request was rewritten by then.
pub record HasHeard (old : Adapting) (piece passed : List ℕ) (new : Adapting) : Type 0 where
  pub asks : IsHeard old.asks piece passed new.asks
  pub answers : new.answers ≡ fresh_reply (will_rewrite new.asks [])

-- ---- what it gets

abbrev pub is_behind : Place → Bool
is_behind (Head n) = false
is_behind LineStart = false
is_behind Period = false
is_behind PeriodCr = false
is_behind Inside = false
is_behind Behind = true

-- all that comes of a reply is sent as it comes
abbrev pub is_through : Informing → Bool
is_through answers = is_behind answers.place && (length answers.ready == 0)

-- Bytes of the reply were adapted, and nothing is ready but by what follows them; where all is sent as it comes, they stayed.
pub record HasAnswered (old : Adapting) (drawn part : List ℕ) (new : Adapting) : Type 0 where
  pub gives : (rest : List ℕ) → part ++ will_give new.answers rest ≡ will_give old.answers (drawn ++ rest)
  pub asks : new.asks ≡ old.asks
  pub through : is_through old.answers ≡ true → (part ≡ drawn) × (new ≡ old)

-- The reply has ended, and what was held back was given.
pub record HasClosed (old : Adapting) (part : List ℕ) (new : Adapting) : Type 0 where
  pub gives : part ≡ will_give old.answers []
  pub asks : new.asks ≡ old.asks
  pub through : is_through old.answers ≡ true → new ≡ old
