-- What serving and a script did with the image in a file, whatever the command answers.
use Rattle.std.specs.Prelude.{◌≡◌, ◌⊎◌, ℕ, Bool, true, false, List, [], Option, None, Result, Ok, Err, OnOk, IfOk, IfErr, IsOkAnd, codes}
use Rattle.std.specs.Io.Buffered.{writer_buffer, writer_contents}
use Rattle.std.specs.Io.KnownBytes.{Keeps}
use Rattle.std.specs.declared.io.buffered.BufWriter.{BufWriter}
use Rattle.std.specs.declared.net.socket_addr.SocketAddr.{SocketAddr}
use Rattle.host_types.specs.Site.{Site, fresh_site}
use Rattle.host_types.specs.declared.site_keeper.SiteKeeper.{Ghosts}
use Rattle.cow_tree.specs.declared.tree_keeper.TreeKeeper.{TreeKeeper}
use Rattle.site_store.specs.declared.disk_site.DiskSite.{DiskSite}
use Rattle.file_device.specs.FileCalls.{FileHistory, file_state}
use Rattle.file_device.specs.FileUses.{FileUse}
use Rattle.host_on_disk.specs.OpenFaults.{IsOpeningFault, HandsBack}
use Rattle.host_on_disk.specs.declared.open_fault.OpenFault.{OpenFault}
use Rattle.host_on_disk.specs.declared.open_fault.OpenFault.TheVariants as opening
use Rattle.host_script.specs.Lines.{Ran}
use Rattle.host_script.specs.declared.fault.ReplayFault.{ReplayFault as ScriptFault}
use Rattle.image_runs.specs.ImageRuns.{OnImage, OverSite, Replays}
use Rattle.image_server.specs.Lines.{served_line}
use Rattle.image_server.specs.Serving.{ServedImage, IsServingFault}
use Rattle.image_server.specs.DailyServing.{ClientsServedOnImage, IsListened, IsAskedInVain}
use Rattle.image_server.specs.declared.listening.ListenCall.{ListenCall}
use Rattle.image_server.specs.declared.listening.ListenCall.TheVariants as listens
use Rattle.image_server.specs.declared.serving.ServingFault.{ServingFault}
use Rattle.daily_server.specs.ListenerCalls.{ListenerCall, Listened, NotListened}
use Rattle.change_file.specs.declared.fault.ApplyFault.{ApplyFault}
use Rattle.admin_office.specs.Offices.{IsNewOffice, Works, pace_of}
use Rattle.admin_office.specs.declared.office.AdminOffice.{AdminOffice}
use Rattle.admin_office.specs.declared.unix_gate.UnixGate.{UnixGate}
use Rattle.admin_office.specs.declared.unix_wire.UnixWire.{UnixWire}
use Rattle.admin_socket.specs.Listening.{IsSocketMade}
use Rattle.admin_socket.specs.SocketCalls.{SocketCall}
use Rattle.admin_socket.specs.declared.listening.SocketFault.{SocketFault}
use Rattle.command_words.specs.declared.words.SocketPlace.{SocketPlace}
use Rattle.command_words.specs.declared.words.SocketPlace.TheVariants as places
use Rattle.daily_server.specs.declared.service.DailyFault.{DailyFault}
use Rattle.daily_server.specs.declared.stopwatch.Reading.{Reading}
use Rattle.daily_server.specs.declared.terms.Terms.{Terms}
use Rattle.socket_wires.specs.declared.serving.ServeFault.{ServeFault}
use Rattle.gopher_host.specs.Endings.{GivesCount, given_beside, device_beside, serving_ended, replay_ended}
use Rattle.gopher_host.specs.Asked.{socket_name}
use Rattle.gopher_host.specs.Faults.{output_fault, memory_fault, stopped_lines}
use Rattle.gopher_host.specs.declared.stopped.StoppedTexts.{StoppedTexts}
use Rattle.gopher_host.specs.ImageFiles.{OpensThen, file_crash_states}
use Rattle.gopher_host.specs.declared.fault.Fault.{Fault}
use Rattle.gopher_host.specs.declared.fault.Fault.TheVariants as faults

-- the office of an administrator at a Unix socket
abbrev pub UnixOffice : Type 0
UnixOffice = AdminOffice UnixGate UnixWire StoppedTexts

-- how a change is told of that was not made
abbrev pub stopped_texts : StoppedTexts → ApplyFault → List ℕ
stopped_texts _ stopped = stopped_lines stopped

-- A gate of which nothing was asked, with a listener at a socket of this name that was made; or it is answered why none was.
abbrev pub IsGate : List ℕ → List SocketCall → List SocketCall → Result UnixGate Fault → Type 0
IsGate name before now (Ok gate) = (gate.made.answers ≡ []) × (gate.listens ≡ true) × IsSocketMade {X = Unit {0}} name before now (Ok (tt {0}))
IsGate name before now (Err fault) = (cause : SocketFault) × (fault ≡ faults.Socket cause) × IsSocketMade {X = Unit {0}} name before now (Err cause)

-- One where it is to stand: nowhere, under a name, or beside an image.
abbrev pub HasGate : SocketPlace → List ℕ → List SocketCall → List SocketCall → Result UnixGate Fault → Type 0
HasGate places.Nowhere image before now result = (now ≡ before) × IsOkAnd result (λ gate. (gate.made.answers ≡ []) × (gate.listens ≡ false))
HasGate (places.Named name) image before now result = IsGate name.now before now result
HasGate places.Beside image before now result = IsGate (socket_name None image) before now result ⊎ ((now ≡ before) × (result ≡ Err memory_fault))

-- Clients were served as they came, on these terms, with an administrator's office at work on the hub, whose gate stands as asked; and the command answers how that ended. The device that was given back is the one that was left.
pub record RunsDaily {Pin Log X : Type 0} {dict : _} {tree : _} (k : Ghosts (DiskSite (TreeKeeper FileHistory dict) tree) Pin) (contents : Log → Option (List ℕ)) (listen : Option SocketAddr) (terms : Terms) (place : SocketPlace) (image : List ℕ) (sockets_before sockets_now : List SocketCall) (asked_before asked_now : List ListenerCall) (log_before log_now : Log) (result : Result X Fault) (opened left : FileHistory) : Type 0 where
  pub given : Result (Result X DailyFault × FileHistory) (ServingFault × FileHistory)
  pub handed : left ≡ device_beside given
  pub ended : result ≡ serving_ended (given_beside given)
  pub moments : List ℕ
  pub read : List Reading
  pub gate : UnixGate
  pub has_gate : HasGate place image sockets_before sockets_now (Ok gate)
  pub texts : StoppedTexts
  pub office_before : UnixOffice
  pub office_now : UnixOffice
  pub office : IsNewOffice gate texts office_before
  pub served : IfOk given (ClientsServedOnImage k contents pace_of (Works (λ wire. wire.made.calls) (λ gate. gate.made.answers) stopped_texts) terms listen opened (log_before, [], office_before) (log_now, read, office_now) [] moments)
  pub listened : OnOk given (IsListened Listened (file_state opened) listen asked_before asked_now)
  pub asked : IfErr given (λ e. IsAskedInVain Listened NotListened (file_state opened) listen asked_before asked_now e.0)
  pub refused : IfErr given (λ e. HandsBack IsServingFault file_state file_crash_states opened e.1 e.0)

-- There is no gate, and that is answered. Nothing else is asked of the system, and nothing done with the image.
pub record HasNoGate {Log X : Type 0} (place : SocketPlace) (image : List ℕ) (sockets_before sockets_now : List SocketCall) (asked_before asked_now : List ListenerCall) (log_before log_now : Log) (result : Result X Fault) (opened left : FileHistory) : Type 0 where
  pub fault : Fault
  pub answered : result ≡ Err fault
  pub has_none : HasGate place image sockets_before sockets_now (Err fault)
  pub unasked : asked_now ≡ asked_before
  pub untold : log_now ≡ log_before
  pub left_is : left ≡ opened

-- The file of an image was not had, and nothing was done; or clients were served over it, or there was no gate.
abbrev pub ServesDaily : {Pin Log X : Type 0} {dict : _} {tree : _} → Ghosts (DiskSite (TreeKeeper FileHistory dict) tree) Pin → (Log → Option (List ℕ)) → Option SocketAddr → Terms → SocketPlace → List ℕ → List FileUse → List FileUse → List SocketCall → List SocketCall → List ListenerCall → List ListenerCall → Log → Log → Result X Fault → Type 0
ServesDaily k contents listen terms place image used_before used_now sockets_before sockets_now asked_before asked_now log_before log_now result =
    OpensThen image used_before used_now result ((asked_now ≡ asked_before) × (log_now ≡ log_before) × (sockets_now ≡ sockets_before)) (λ opened left.
    RunsDaily k contents listen terms place image sockets_before sockets_now asked_before asked_now log_before log_now result opened left
    ⊎ HasNoGate place image sockets_before sockets_now asked_before asked_now log_before log_now result opened left)

-- the same with a log that nobody reads
abbrev pub ServesUnlogged : {Pin Sink X : Type 0} {dict : _} {tree : _} → Ghosts (DiskSite (TreeKeeper FileHistory dict) tree) Pin → (Sink → Option (List ℕ)) → Option SocketAddr → Terms → SocketPlace → List ℕ → List FileUse → List FileUse → List SocketCall → List SocketCall → List ListenerCall → List ListenerCall → Result X Fault → Type 0
ServesUnlogged {Sink = Sink} k contents listen terms place image used_before used_now sockets_before sockets_now asked_before asked_now result =
    (before : Sink) × (now : Sink) × ServesDaily k contents listen terms place image used_before used_now sockets_before sockets_now asked_before asked_now before now result

-- Rounds of connections were served, and it is printed how many replies were written whole.
pub record RunsRounds {Pin W X : Type 0} {dict : _} {tree : _} (k : Ghosts (DiskSite (TreeKeeper FileHistory dict) tree) Pin) (contents : W → Option (List ℕ)) (together rounds : ℕ) (asked_before asked_now : List ListenCall) (before now : W) (result : Result X Fault) (opened left : FileHistory) : Type 0 where
  pub given : Result (Result ℕ ServeFault × FileHistory) (ServingFault × FileHistory)
  pub handed : left ≡ device_beside given
  pub printed : GivesCount (given_beside given) served_line (λ fault. faults.Round fault) (λ fault. faults.Serving fault) contents before now result
  pub moments : List ℕ
  pub served : IfOk given (λ r. ServedImage k together rounds r.0 opened r.1 [] moments)
  pub listened : OnOk given (IsListened listens.Listened (file_state opened) None asked_before asked_now)
  pub asked : IfErr given (λ e. IsAskedInVain listens.Listened listens.NotListened (file_state opened) None asked_before asked_now e.0)
  pub refused : IfErr given (λ e. HandsBack IsServingFault file_state file_crash_states opened e.1 e.0)

-- The file of an image was not had, and nothing was done; or rounds were served over it.
abbrev pub ServesInRounds : {Pin W X : Type 0} {dict : _} {tree : _} → Ghosts (DiskSite (TreeKeeper FileHistory dict) tree) Pin → (W → Option (List ℕ)) → ℕ → ℕ → List ℕ → List FileUse → List FileUse → List ListenCall → List ListenCall → W → W → Result X Fault → Type 0
ServesInRounds k contents together rounds image used_before used_now asked_before asked_now before now result =
    OpensThen image used_before used_now result ((asked_now ≡ asked_before) × (now ≡ before)) (RunsRounds k contents together rounds asked_before asked_now before now result)

-- A script was replayed, or nothing was opened for it; and that is what is answered.
pub record Replayed {H : Type 0} (ran : Ran H) (Refuses : H → OpenFault → H → Type 0) (script_before script_now before now : Option (List ℕ)) (result : Result (Unit {0}) Fault) (opened left : H) : Type 0 where
  pub given : Result (Result (Unit {0}) ScriptFault × H) (OpenFault × H)
  pub handed : left ≡ device_beside given
  pub ended : result ≡ replay_ended (given_beside given)
  pub replayed : IfOk given (λ r. Replays ran opened r.1 script_before script_now before now r.0)
  pub refused : IfErr given (λ e. Refuses opened e.0 e.1 × (script_now ≡ script_before) × (now ≡ before))

-- The image was not opened, for its cause, and nothing was written to it.
abbrev pub RefusesFile : FileHistory → OpenFault → FileHistory → Type 0
RefusesFile opened fault left = HandsBack IsOpeningFault file_state file_crash_states opened left fault

-- No hub was made, for lack of memory.
abbrev pub RefusesSite : {H : Type 0} → H → OpenFault → H → Type 0
RefusesSite opened fault left = (fault ≡ opening.Memory) × (left ≡ opened)

-- A script was replayed over the site of the image in a file.
abbrev pub ReplaysFile : {Pin : Type 0} {dict : _} {tree : _} → Bool → Ghosts (DiskSite (TreeKeeper FileHistory dict) tree) Pin → List ℕ → List FileUse → List FileUse → Option (List ℕ) → Option (List ℕ) → Option (List ℕ) → Option (List ℕ) → Result (Unit {0}) Fault → Type 0
ReplaysFile grouped k image used_before used_now script_before script_now before now result =
    OpensThen image used_before used_now result ((script_now ≡ script_before) × (now ≡ before)) (Replayed (OnImage grouped k) RefusesFile script_before script_now before now result)

-- A script was replayed over a small site in memory, or there was no memory for one.
abbrev pub ReplaysInMemory : {Pin : Type 0} → Bool → Ghosts Site Pin → Option (List ℕ) → Option (List ℕ) → Option (List ℕ) → Option (List ℕ) → Result (Unit {0}) Fault → Type 0
ReplaysInMemory grouped k script_before script_now before now result =
    ((result ≡ Err memory_fault) × (script_now ≡ script_before) × (now ≡ before))
    ⊎ ((left : Site) × Replayed (OverSite grouped k) RefusesSite script_before script_now before now result (fresh_site (codes "localhost") 7070 (codes "Ada <ada@localhost>") (codes "Top") 0) left)

-- Whatever was replayed so, what is left to write is written then, or standard output took no more.
pub record IsPrintedWhole (IsReplayed : Option (List ℕ) → Result (Unit {0}) Fault → Type 0) (now : Option (List ℕ)) (left : List ℕ) (result : Result (Unit {0}) Fault) : Type 0 where
  pub ended : Result (Unit {0}) Fault
  pub printed : Option (List ℕ)
  pub replayed : IsReplayed printed ended
  pub kept : Keeps printed now
  pub fault : IfErr ended (λ e. result ≡ Err e)
  pub written : OnOk ended (IfErr result (λ e. e ≡ output_fault))
  pub all : OnOk result (OnOk ended (left ≡ []))

-- A script was replayed so from what a reader had, and its output written through a buffer, to the end.
abbrev pub PrintsScript : {R W A : Type 0} → (Option (List ℕ) → Option (List ℕ) → Option (List ℕ) → Option (List ℕ) → Result (Unit {0}) Fault → Type 0) → (R → Option (List ℕ)) → (W → Option (List ℕ)) → R → R → BufWriter W A → BufWriter W A → Result (Unit {0}) Fault → Type 0
PrintsScript IsReplayed remaining contents read_before read_now before now result =
    IsPrintedWhole (IsReplayed (remaining read_before) (remaining read_now) (writer_contents contents before)) (writer_contents contents now) (writer_buffer now) result

-- There was no memory for what is to be written, and nothing was done; or a script of some bytes was replayed so, behind what was printed before.
abbrev pub RepliesToAll : Type 0 → (Option (List ℕ) → Option (List ℕ) → Option (List ℕ) → Option (List ℕ) → Result (Unit {0}) Fault → Type 0) → Result (Unit {0}) Fault → Type 0
RepliesToAll Untouched IsReplayed result =
    ((result ≡ Err memory_fault) × Untouched)
    ⊎ ((script_before : Option (List ℕ)) × (script_now : Option (List ℕ)) × (before : Option (List ℕ)) × (now : Option (List ℕ)) × (left : List ℕ) × IsPrintedWhole (IsReplayed script_before script_now before) now left result)
