-- What is said of a change that met a fault of the image, and of an address that can't be listened on.
use Rattle.std.proofs.Common.{◌≡◌, ℕ, Bool, false, List, [], ◌∷◌, ◌++◌, Option, None, Some, ap, refl, sym, ◌∙◌, length}
use Rattle.std.specs.Prelude.{◌==◌}
use Rattle.host_types.specs.declared.site_fault.SiteFault.{SiteFault}
use Rattle.host_types.specs.declared.site_fault.SiteFault.TheVariants as site
use Rattle.gopher_host.specs.Advice.{met_by, listener_advice, stopped_advice}
use Rattle.gopher_host.specs.Faults.{advice_of, change_that_met, listener_of, ended, ended_if_any, met_other}
use Rattle.image_server.specs.declared.serving.ServingFault.TheVariants as serving
use Rattle.daily_server.specs.declared.listen_fault.NetCause.{NetCause}
use Rattle.std.specs.declared.net.socket_addr.SocketAddr.{SocketAddr}
use Rattle.gopher_host.specs.declared.fault.Fault.{Fault}
use Rattle.gopher_host.specs.declared.fault.Fault.TheVariants.{Image, NotHad, NotMade, There, Compact, Copy, Changes, Flaw, NoChanges, Stopped, Refused, RefusedName, Item, NoFolder, LeftOut, Serving, Round, Script, Socket, Told, ToldOf, Reply, NotHeld}

met_so : (made : ℕ) (fault : SiteFault) (number : ℕ) → met_other made fault ≡ Some number → stopped_advice made fault ≡ met_by number
met_so made (site.Refused refused) number is = absurd (cc is)
met_so made site.Read number is = ap met_by (cc is)
met_so made (site.Full need free) number is = ap met_by (cc is)
met_so made site.Spent number is = ap met_by (cc is)
met_so made site.Deep number is = ap met_by (cc is)
met_so made site.Failed number is = ap met_by (cc is)
met_so made site.Memory number is = ap met_by (cc is)

pub met_is_told : (fault : Fault) (number : ℕ) → change_that_met fault ≡ Some number → advice_of fault ≡ met_by number
met_is_told (Stopped stopped) number is = met_so stopped.number stopped.fault number is
met_is_told (Image fault) number is = absurd (cc is)
met_is_told (NotHad lack) number is = absurd (cc is)
met_is_told (NotMade lack) number is = absurd (cc is)
met_is_told There number is = absurd (cc is)
met_is_told (Compact fault) number is = absurd (cc is)
met_is_told (Copy fault) number is = absurd (cc is)
met_is_told (Changes fault) number is = absurd (cc is)
met_is_told (Flaw fault line) number is = absurd (cc is)
met_is_told NoChanges number is = absurd (cc is)
met_is_told (Refused made refused line) number is = absurd (cc is)
met_is_told (RefusedName refused word) number is = absurd (cc is)
met_is_told (Item fault) number is = absurd (cc is)
met_is_told NoFolder number is = absurd (cc is)
met_is_told (LeftOut lines) number is = absurd (cc is)
met_is_told (Serving fault) number is = absurd (cc is)
met_is_told (Round fault) number is = absurd (cc is)
met_is_told (Script fault) number is = absurd (cc is)
met_is_told (Socket fault) number is = absurd (cc is)
met_is_told (Told lines) number is = absurd (cc is)
met_is_told (ToldOf lines line) number is = absurd (cc is)
met_is_told (Reply fault) number is = absurd (cc is)
met_is_told NotHeld number is = absurd (cc is)

advice_at : Option (SocketAddr × NetCause) → List ℕ
advice_at None = []
advice_at (Some r) = listener_advice r.0 r.1

pub listener_is_told : (fault : Fault) (at : SocketAddr) (cause : NetCause) → listener_of fault ≡ Some (at, cause) → advice_of fault ≡ listener_advice at cause
unfolding advice_at
listener_is_told (Serving (serving.Listener here why)) at cause is = ap advice_at is
listener_is_told (Serving (serving.Image fault)) at cause is = absurd (cc is)
listener_is_told (Serving serving.Net) at cause is = absurd (cc is)
listener_is_told (Image fault) at cause is = absurd (cc is)
listener_is_told (NotHad lack) at cause is = absurd (cc is)
listener_is_told (NotMade lack) at cause is = absurd (cc is)
listener_is_told There at cause is = absurd (cc is)
listener_is_told (Compact fault) at cause is = absurd (cc is)
listener_is_told (Copy fault) at cause is = absurd (cc is)
listener_is_told (Changes fault) at cause is = absurd (cc is)
listener_is_told (Flaw fault line) at cause is = absurd (cc is)
listener_is_told NoChanges at cause is = absurd (cc is)
listener_is_told (Stopped stopped) at cause is = absurd (cc is)
listener_is_told (Refused made refused line) at cause is = absurd (cc is)
listener_is_told (RefusedName refused word) at cause is = absurd (cc is)
listener_is_told (Item fault) at cause is = absurd (cc is)
listener_is_told NoFolder at cause is = absurd (cc is)
listener_is_told (LeftOut lines) at cause is = absurd (cc is)
listener_is_told (Round fault) at cause is = absurd (cc is)
listener_is_told (Script fault) at cause is = absurd (cc is)
listener_is_told (Socket fault) at cause is = absurd (cc is)
listener_is_told (Told lines) at cause is = absurd (cc is)
listener_is_told (ToldOf lines line) at cause is = absurd (cc is)
listener_is_told (Reply fault) at cause is = absurd (cc is)
listener_is_told NotHeld at cause is = absurd (cc is)

-- what is not empty gets a line of its own
pub some_ended : (bytes : List ℕ) (none : Bool) → none ≡ (length bytes == 0) → none ≡ false → ended bytes ≡ ended_if_any bytes
some_ended [] none is some = absurd (cc (sym is ∙ some))
some_ended (b ∷ bytes) none is some = refl

-- so does what names an address
pub listener_ended : (front rest : List ℕ) → ended ((front ++ 58 ∷ 32 ∷ []) ++ rest) ≡ ended_if_any ((front ++ 58 ∷ 32 ∷ []) ++ rest)
listener_ended [] rest = refl
listener_ended (x ∷ xs) rest = refl
