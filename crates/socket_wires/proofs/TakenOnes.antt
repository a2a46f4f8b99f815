-- Connections that are taken, one after another.
use Rattle.std.proofs.Common.{◌≡◌, ◌≢◌, ℕ, ◌+◌, ◌<◌, List, [], ◌∷◌, ◌++◌, length, map, refl, sym, ap, ◌∙◌, append_assoc, length-append, arith}
use Rattle.std.proofs.lemmas.List.{map-append, length-map}
use Rattle.std.proofs.lemmas.List.Elements.{All-push}
use Rattle.std.specs.declared.net.socket_addr.SocketAddr.{SocketAddr}
use Rattle.turns.specs.declared.connection.Connection.{Connection}
use Rattle.turns.specs.declared.connection.Stage.TheVariants.{New}
use Rattle.socket_wires.specs.Rounds.{IsFresh}
use Rattle.socket_wires.specs.Taking.{IsMissed, TooFewCame, IsFreshWire, had}
use Rattle.socket_wires.specs.declared.gate.Taken.{Taken}
use Rattle.socket_wires.specs.declared.gate.Taken.TheVariants.{Had}
use Rattle.socket_wires.specs.declared.serving.ServeFault.{ServeFault}
use Rattle.socket_wires.specs.declared.serving.ServeFault.TheVariants.{Net, Memory}
use Rattle.socket_wires.specs.declared.socket_wire.SocketWire.{SocketWire}

abbrev froms : List (Connection SocketWire) → List SocketAddr
froms cs = map (λ c. c.wire.from) cs

had_froms : (cs : List (Connection SocketWire)) → map had cs ≡ map Had (froms cs)
had_froms [] = refl
had_froms (c ∷ cs) = ap (λ l. had c ∷ l) (had_froms cs)

-- one fresh one more
pub fresh_more : (count : ℕ) (cs : List (Connection SocketWire)) (c : Connection SocketWire) → IsFresh count cs → c.stage ≡ New → IsFreshWire c.wire → IsFresh (count + 1) (cs ++ c ∷ [])
fresh_more count cs c fresh new unused = record {
  size = omega (arith, fresh.size, length-append cs (c ∷ []));
  are_new = All-push (λ (d : Connection SocketWire). (d.stage ≡ New) × IsFreshWire d.wire) cs c fresh.are_new (new, unused);
}

pub had_more : (cs : List (Connection SocketWire)) (c : Connection SocketWire) (old now later : List Taken) → now ≡ old ++ map had cs → later ≡ now ++ had c ∷ [] → later ≡ old ++ map had (cs ++ c ∷ [])
had_more cs c old now later is more = more ∙ ap (λ l. l ++ had c ∷ []) is ∙ append_assoc old (map had cs) (had c ∷ []) ∙ ap (λ l. old ++ l) (sym (map-append had cs (c ∷ [])))

-- what was taken of a listener since then, and why it is too little
abbrev pub WasShort : ℕ → List Taken → List Taken → ServeFault → Type 0
WasShort together old later fault = (rest : List Taken) × (later ≡ old ++ rest) × TooFewCame together fault rest

pub missed_next : (together count : ℕ) (cs : List (Connection SocketWire)) (old now later : List Taken) (call : Taken) → IsFresh count cs → count < together → now ≡ old ++ map had cs → IsMissed call → later ≡ now ++ call ∷ [] → WasShort together old later Net
missed_next together count cs old now later call fresh few is missed more = (
  map had cs ++ call ∷ [],
  more ∙ ap (λ l. l ++ call ∷ []) is ∙ append_assoc old (map had cs) (call ∷ []),
  (froms cs, call, omega (arith, few, fresh.size, length-map cs (λ (c : Connection SocketWire). c.wire.from)), missed, ap (λ l. l ++ call ∷ []) (had_froms cs)),
)

some : (xs : List SocketAddr) (x : SocketAddr) → xs ++ x ∷ [] ≢ []
some [] x = λ e. cc e
some (y ∷ ys) x = λ e. cc e

pub found_none : (together count : ℕ) (cs : List (Connection SocketWire)) (old now later : List Taken) (from : SocketAddr) → IsFresh count cs → count < together → now ≡ old ++ map had cs → later ≡ now ++ Had from ∷ [] → WasShort together old later Memory
found_none together count cs old now later from fresh few is more = (
  map had cs ++ Had from ∷ [],
  more ∙ ap (λ l. l ++ Had from ∷ []) is ∙ append_assoc old (map had cs) (Had from ∷ []),
  (
    froms cs ++ from ∷ [],
    omega (arith, few, fresh.size, length-map cs (λ (c : Connection SocketWire). c.wire.from), length-append (froms cs) (from ∷ [])),
    some (froms cs) from,
    ap (λ l. l ++ Had from ∷ []) (had_froms cs) ∙ sym (map-append Had (froms cs) (from ∷ [])),
  ),
)
