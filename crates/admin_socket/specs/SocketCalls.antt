-- What the system was asked about names of sockets, and what it answered.
use Rattle.std.specs.Prelude.{ℕ, Bool, List}
use Rattle.admin_socket.specs.declared.calls.SocketLook.{SocketLook}
use Rattle.admin_socket.specs.declared.calls.SocketKind.{SocketKind}
use Rattle.admin_socket.specs.declared.calls.SocketKind.TheVariants as kinds

-- It was asked what stands under this name; to remove what stands there, and did or didn't; to make a socket of this name, and did or didn't; and for a connection to it, and gave one or didn't.
pub data SocketCall : Type 0 where
  Looked : List ℕ → SocketLook → SocketCall
  Removed : List ℕ → Bool → SocketCall
  Bound : List ℕ → Bool → SocketCall
  Connected : List ℕ → Bool → SocketCall

-- a call by its kind and the name that it has
abbrev pub call_of : SocketKind → List ℕ → SocketCall
call_of (kinds.Looked answer) name = Looked name answer
call_of (kinds.Removed done) name = Removed name done
call_of (kinds.Bound done) name = Bound name done
call_of (kinds.Connected done) name = Connected name done
