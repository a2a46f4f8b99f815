-- Tokens of what waits tell of, and what stays the same of a listener.
use Rattle.std.specs.Prelude.{◌≡◌, ◌≤◌}
use Rattle.mio.specs.declared.token.Token.{Token}
use Rattle.daily_server.specs.declared.ready_listener.ReadyListener.{ReadyListener}

-- the token of the listener
abbrev pub listener_token : Token
listener_token = record { 0 = 0 }

-- those of an office's own sockets: where it listens, and the connection that it has
abbrev pub office_listener_token : Token
office_listener_token = record { 0 = 1 }

abbrev pub office_wire_token : Token
office_wire_token = record { 0 = 2 }

-- A token of clients is none of those.
abbrev pub IsClients : Token → Type 0
IsClients token = 3 ≤ token.0

-- Where it listens, and under which token the next client comes, is as it was.
pub record HasSameListener (old new : ReadyListener) : Type 0 where
  pub listener : new.socket ≡ old.socket
  pub next_token : new.next_token ≡ old.next_token
