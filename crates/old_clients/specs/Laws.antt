-- What those who feed adapters rest on.
use Rattle.std.specs.Prelude.{◌≡◌, ◌++◌, ℕ, Bool, false, List}
use Rattle.old_clients.specs.AdaptedReply.{adapted_reply}
use Rattle.old_clients.specs.AdaptedRequest.{adapted_request, is_rewritten}
use Rattle.old_clients.specs.Clients.{Adapting, fresh_client, HasAnswered, HasHeard}
use Rattle.old_clients.specs.Streams.{Call, HasGiven, HasPassed, HasAdapted, Hearing, Informing, fresh_reply, fresh_request, parts_of, will_give, will_pass, will_rewrite}

-- However an input is cut into chunks and whatever room the calls have, what they gave and what the adapter will pass on are what is passed on of the input.
abbrev pub PassTheInput : Type 0
PassTheInput = (input left : List ℕ) (calls : List Call) (adapter : Hearing) → HasAdapted HasPassed fresh_request input calls adapter left → parts_of calls ++ will_pass adapter left ≡ adapted_request input

-- Then the adapter says of the rest what is said of the input.
abbrev pub TellOfTheInput : Type 0
TellOfTheInput = (input left : List ℕ) (calls : List Call) (adapter : Hearing) → HasAdapted HasPassed fresh_request input calls adapter left → will_rewrite adapter left ≡ is_rewritten input

-- The same for a reply.
abbrev pub GiveTheReply : Type 0
GiveTheReply = (rewritten : Bool) (reply left : List ℕ) (calls : List Call) (adapter : Informing) → HasAdapted HasGiven (fresh_reply rewritten) reply calls adapter left → parts_of calls ++ will_give adapter left ≡ adapted_reply rewritten reply

-- Of a client that isn't an old one all is passed on as it comes, both ways, and so it goes on.
abbrev pub OthersPass : Type 0
OthersPass = (old new : Adapting) → old ≡ fresh_client false → ((piece passed : List ℕ) → HasHeard old piece passed new → (passed ≡ piece) × (new ≡ old)) × ((drawn part : List ℕ) → HasAnswered old drawn part new → (part ≡ drawn) × (new ≡ old))
