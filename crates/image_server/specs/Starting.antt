-- What the log gets as a server begins to serve.
use Rattle.std.specs.Prelude.{◌↔◌, ℕ, Bool, true, false, List, [], ◌∷◌, ◌++◌, Option, IsTrue, codes, decimal}
use Rattle.std.specs.Net.Addr.{MatchIp, IsLoopbackV4, IsLoopbackV6}
use Rattle.std.specs.Net.Socket.{socket_ip}
use Rattle.std.specs.Net.Text.{socket_text}
use Rattle.std.specs.declared.net.socket_addr.SocketAddr.{SocketAddr}
use Rattle.host_types.specs.Address.{Address}
use Rattle.turns.specs.WireCalls.{WireCall}
use Rattle.daily_server.specs.Logged.{HasLine}

-- a second line where no other machine reaches the address
abbrev pub who_comes : Bool → List ℕ
who_comes true = 10 ∷ codes "only this machine reaches it: --listen ADDRESS:PORT lets others in"
who_comes false = []

-- whose site it is, where it is served, and who reaches it, without the last LF
abbrev pub start_text : Bool → Address → SocketAddr → List ℕ
start_text here front at = codes "serving " ++ front.host ++ codes ":" ++ decimal front.port ++ codes " on " ++ socket_text at ++ who_comes here

-- Those lines were written.
pub record TellsStart {L : Type 0} (contents : L → Option (List ℕ)) (front : Address) (at : SocketAddr) (old new : L) : Type 0 where
  pub here : Bool
  pub is_here : IsTrue here ↔ MatchIp (socket_ip at) IsLoopbackV4 IsLoopbackV6
  pub calls : List WireCall
  pub told : HasLine contents (start_text here front at) (old, []) (new, calls)
