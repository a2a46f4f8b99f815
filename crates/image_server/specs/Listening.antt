-- A listener for rounds of connections, as it is noted.
use Rattle.std.specs.Prelude.{Result, Ok, Err}
use Rattle.std.specs.declared.net.socket_addr.SocketAddr.{SocketAddr}
use Rattle.daily_server.specs.declared.listen_fault.NetCause.{NetCause}
use Rattle.image_server.specs.declared.listening.ListenCall.{ListenCall}
use Rattle.image_server.specs.declared.listening.ListenCall.TheVariants.{Listened, NotListened}

-- by whether it was had
abbrev pub listen_call : {T : Type 0} → SocketAddr → Result T NetCause → ListenCall
listen_call at (Ok _) = Listened at
listen_call at (Err cause) = NotListened at cause
