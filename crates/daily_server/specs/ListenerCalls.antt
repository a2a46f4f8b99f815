-- The calls of the system that are made of a listener, and the waits.
use Rattle.std.specs.Prelude.{ℕ, Bool, true, false, List, [], ◌∷◌, Option, Some, None, Result, Ok, Err, option_map}
use Rattle.std.specs.Duration.{as_nanos}
use Rattle.std.specs.declared.io.ErrorKind.TheVariants.{WouldBlock}
use Rattle.std.specs.declared.net.ip_addr.IpAddr.{IpAddr}
use Rattle.std.specs.declared.net.socket_addr.SocketAddr.{SocketAddr}
use Rattle.mio.specs.Interest.{union}
use Rattle.mio.specs.declared.event.event.Event.{Event}
use Rattle.mio.specs.declared.interest.Interest.{Interest}
use Rattle.mio.specs.declared.token.Token.{Token}
use Rattle.daily_server.specs.declared.listener_log.ListenerCallKind.{ListenerCallKind}
use Rattle.daily_server.specs.declared.listener_log.ListenerCallKind.TheVariants as kinds
use Rattle.daily_server.specs.declared.listener_log.Missed.{Missed}
use Rattle.daily_server.specs.declared.listener_log.Missed.TheVariants.{Refused, Unwatched}
use Rattle.daily_server.specs.declared.listen_fault.NetCause.{NetCause}
use Rattle.daily_server.specs.declared.listen_fault.ListenFault.{ListenFault}
use Rattle.daily_server.specs.declared.listen_fault.ListenFault.TheVariants as faults

-- what a listener is watched for: that somebody comes
abbrev pub for_reading : Interest
for_reading = record { priority = false; writable = false; readable = true }

-- what a client is watched for: that it sends, and that it takes
abbrev pub both_ways : Interest
both_ways = union for_reading (record { priority = false; writable = true; readable = false })

-- nobody asked to come in: the listener would have had to wait
abbrev pub is_nobody : Missed → Bool
is_nobody (Refused WouldBlock) = true
is_nobody missed = false

-- A listener that was asked for at an address, and that waits are to tell of, in an interest: it was had, or not, and why. A wait, with its patience in nanoseconds or none where it has no end, that ended with some events, or that failed. And a connection that was asked for: a
-- client of this address came, and waits are to tell of it under this token and in this interest; or none was had, and why.
pub data ListenerCall : Type 0 where
  ListenedFor : SocketAddr → Interest → ListenerCall
  NotListened : SocketAddr → NetCause → ListenerCall
  Waited : Option ℕ → List Event → ListenerCall
  WaitFailed : Option ℕ → ListenerCall
  Came : IpAddr → Token → Interest → ListenerCall
  NotHad : Missed → ListenerCall

-- a listener that was had: waits tell of who comes
abbrev pub Listened : SocketAddr → ListenerCall
Listened address = ListenedFor address for_reading

-- a call that is noted by its kind and the events of the last wait
abbrev pub call_of : ListenerCallKind → List Event → ListenerCall
call_of (kinds.Listened address interest) events = ListenedFor address interest
call_of (kinds.NotListened address cause) events = NotListened address cause
call_of (kinds.Waited patience) events = Waited (option_map as_nanos patience) events
call_of (kinds.WaitFailed patience) events = WaitFailed (option_map as_nanos patience)
call_of (kinds.Came from token interest) events = Came from token interest
call_of (kinds.NotHad missed) events = NotHad missed

-- a listener that was asked for at an address, by whether it was had
abbrev pub listen_call : {W : Type 0} → SocketAddr → Result W NetCause → ListenerCall
listen_call address (Ok _) = Listened address
listen_call address (Err cause) = NotListened address cause

-- what was asked of the system where a service was to be opened; where memory is lacking, nothing was
abbrev pub listen_calls : {W : Type 0} → SocketAddr → Result W ListenFault → List ListenerCall
listen_calls address (Ok _) = Listened address ∷ []
listen_calls address (Err (faults.Net cause)) = NotListened address cause ∷ []
listen_calls address (Err faults.Memory) = []

-- a wait, by how it ended
abbrev pub wait_call : {X E : Type 0} → Option ℕ → Result X E → List Event → ListenerCall
wait_call patience (Ok _) events = Waited patience events
wait_call patience (Err _) events = WaitFailed patience

-- a connection that was asked for, by who came: one that came is watched for what it sends and takes
abbrev pub take_call : {W : Type 0} → Result (W × IpAddr × Token) Missed → ListenerCall
take_call (Ok next) = Came next.1 next.2 both_ways
take_call (Err missed) = NotHad missed
