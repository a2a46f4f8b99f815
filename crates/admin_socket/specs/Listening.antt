-- How a socket on which administrators come is made.
use Rattle.std.specs.Prelude.{◌≡◌, ◌⊎◌, ℕ, true, false, List, [], ◌∷◌, ◌++◌, Result, Ok, Err}
use Rattle.admin_socket.specs.SocketCalls.{SocketCall, Looked, Removed, Bound}
use Rattle.admin_socket.specs.declared.calls.SocketLook.{SocketLook}
use Rattle.admin_socket.specs.declared.calls.SocketLook.TheVariants.{Missing, Left, Answered, Other, Unknown}
use Rattle.admin_socket.specs.declared.listening.SocketFault.{SocketFault}
use Rattle.admin_socket.specs.declared.listening.SocketFault.TheVariants.{Taken, There, NoSocket}

-- One of this name was made, or it is answered that none was.
abbrev pub IsBound : {X : Type 0} → List ℕ → List SocketCall → List SocketCall → Result X SocketFault → Type 0
IsBound name before now (Ok made) = now ≡ before ++ Bound name true ∷ []
IsBound name before now (Err fault) = (now ≡ before ++ Bound name false ∷ []) × (fault ≡ NoSocket)

-- What was left there was not removed, and that is answered; or it was, and then one is made.
abbrev pub IsBoundAnew : {X : Type 0} → List ℕ → List SocketCall → List SocketCall → Result X SocketFault → Type 0
IsBoundAnew name before now result =
    ((now ≡ before ++ Removed name false ∷ []) × (result ≡ Err NoSocket))
    ⊎ IsBound name (before ++ Removed name true ∷ []) now result

-- by what stands under the name: only a socket on which nobody answers is removed
abbrev pub IsSocketMadeBy : {X : Type 0} → SocketLook → List ℕ → List SocketCall → List SocketCall → Result X SocketFault → Type 0
IsSocketMadeBy Missing name before now result = IsBound name before now result
IsSocketMadeBy Left name before now result = IsBoundAnew name before now result
IsSocketMadeBy Answered name before now result = (now ≡ before) × (result ≡ Err Taken)
IsSocketMadeBy Other name before now result = (now ≡ before) × (result ≡ Err There)
IsSocketMadeBy Unknown name before now result = (now ≡ before) × (result ≡ Err NoSocket)

-- It was asked what stands under the name, and one was made where that allows it.
abbrev pub IsSocketMade : {X : Type 0} → List ℕ → List SocketCall → List SocketCall → Result X SocketFault → Type 0
IsSocketMade name before now result = (look : SocketLook) × IsSocketMadeBy look name (before ++ Looked name look ∷ []) now result
