-- What each task did.
use Rattle.std.specs.Prelude.{◌≡◌, ℕ, Bool, true, false, List, [], Option, Some, None, Result, Err, OnOk, map}
use Rattle.std.specs.Option.{option_copied}
use Rattle.std.specs.declared.net.socket_addr.SocketAddr.{SocketAddr}
use Rattle.host_types.specs.declared.site_keeper.SiteKeeper.{Ghosts}
use Rattle.cow_tree.specs.declared.tree_keeper.TreeKeeper.{TreeKeeper}
use Rattle.site_store.specs.declared.disk_site.DiskSite.{DiskSite}
use Rattle.file_device.specs.FileCalls.{FileHistory}
use Rattle.file_device.specs.FileUses.{FileUse}
use Rattle.file_names.specs.NameCalls.{NameCall}
use Rattle.image_commands.specs.declared.fault.ImageFault.{ImageFault}
use Rattle.socket_wires.specs.declared.system_clock.ClockReading.{ClockReading}
use Rattle.image_server.specs.declared.listening.ListenCall.{ListenCall}
use Rattle.daily_server.specs.ListenerCalls.{ListenerCall}
use Rattle.daily_server.specs.declared.terms.LogForm.{LogForm}
use Rattle.daily_server.specs.declared.terms.LogForm.TheVariants.{Own, Common}
use Rattle.daily_server.specs.declared.terms.Terms.{Terms}
use Rattle.admin_socket.specs.SocketCalls.{SocketCall}
use Rattle.command_words.specs.declared.words.SocketPlace.{SocketPlace}
use Rattle.command_words.specs.declared.words.Task.{Task}
use Rattle.command_words.specs.declared.words.Task.TheVariants as task
use Rattle.gopher_host.specs.Asked.{socket_name}
use Rattle.gopher_host.specs.Clock.{IsMoment, TellsMoment}
use Rattle.gopher_host.specs.CopiedFiles.{CopiesTo}
use Rattle.gopher_host.specs.Held.{ReadsImage}
use Rattle.gopher_host.specs.ImageFiles.{OpensThen, Exports, ListsImage, form_of, Checks, Compacts, UpgradesImage}
use Rattle.gopher_host.specs.Imports.{Imports}
use Rattle.gopher_host.specs.Items.{NamesItem, Gets, ListsPosts}
use Rattle.gopher_host.specs.Kept.{AppliesFile, Removes}
use Rattle.gopher_host.specs.NewImages.{moment_of, Formats, Inits}
use Rattle.gopher_host.specs.Served.{ServesDaily, ServesUnlogged, ServesInRounds, ReplaysFile, RepliesToAll}
use Rattle.gopher_host.specs.declared.fault.Fault.{Fault}
use Rattle.gopher_host.specs.declared.fault.Fault.TheVariants as faults

-- changes are made at a moment, or a server is asked for them
abbrev pub AppliesAt : {W X : Type 0} → (W → Option (List ℕ)) → List ℕ → List ℕ → ℕ → List FileUse → List FileUse → List SocketCall → List SocketCall → W → W → Result X Fault → Type 0
AppliesAt contents image name now before after none sockets old new result =
    ((e : ImageFault) → moment_of now ≡ Err e → (result ≡ Err (faults.Image e)) × (new ≡ old) × (after ≡ before) × (sockets ≡ none))
    × OnOk (moment_of now) (AppliesFile contents image name now before after none sockets old new result)

-- What a command on an image did with files and printed, whatever it answers; `first` and `read` are the clock's readings before it and behind it. Of sessions it stands below.
abbrev pub RunsCommand : {W X : Type 0} → (W → Option (List ℕ)) → Task → List ClockReading → List ClockReading → List FileUse → List FileUse → W → W → Result X Fault → Type 0
RunsCommand contents (task.Format image site pages given) first read before after old new result = (now : ℕ) × IsMoment given first read now × Formats contents image.now site pages now before after old new result
RunsCommand contents (task.Apply image file given socket) first read before after old new result = (now : ℕ) × IsMoment given first read now × (none : List SocketCall) × (sockets : List SocketCall) × (none ≡ []) × AppliesAt contents image.now (socket_name (option_copied socket) image.now) now before after none sockets old new result
RunsCommand contents (task.Init image site pages given) first read before after old new result = (now : ℕ) × IsMoment given first read now × (asked : List NameCall) × (told : List NameCall) × (asked ≡ []) × Inits contents image.now site pages now before after asked told old new result
RunsCommand contents (task.Get image selector view) first read before after old new result = (none : List SocketCall) × (sockets : List SocketCall) × (none ≡ []) × NamesItem selector.now result ((new ≡ old) × (after ≡ before) × (sockets ≡ none)) (ReadsImage image.now before after none sockets result (new ≡ old) (Gets selector.now (option_copied view) contents old new result))
RunsCommand contents (task.Posts image board) first read before after old new result = (none : List SocketCall) × (sockets : List SocketCall) × (none ≡ []) × NamesItem board.now result ((new ≡ old) × (after ≡ before) × (sockets ≡ none)) (ReadsImage image.now before after none sockets result (new ≡ old) (ListsPosts board.now contents old new result))
RunsCommand contents (task.Remove image selectors socket) first read before after old new result = (now : ℕ) × TellsMoment first read now × (none : List SocketCall) × (sockets : List SocketCall) × (none ≡ []) × Removes contents image.now (socket_name (option_copied socket) image.now) (map (λ name. name.now) selectors.items) now before after none sockets old new result
RunsCommand contents (task.Show image long) first read before after old new result = (none : List SocketCall) × (sockets : List SocketCall) × (none ≡ []) × ReadsImage image.now before after none sockets result (new ≡ old) (ListsImage (form_of long) contents old new result)
RunsCommand contents (task.Export image) first read before after old new result = (none : List SocketCall) × (sockets : List SocketCall) × (none ≡ []) × ReadsImage image.now before after none sockets result (new ≡ old) (Exports contents old new result)
RunsCommand contents (task.Import folder under) first read before after old new result = (after ≡ before) × Imports folder.now (option_copied under) contents old new result
RunsCommand contents (task.Check image) first read before after old new result = (none : List SocketCall) × (sockets : List SocketCall) × (none ≡ []) × ReadsImage image.now before after none sockets result (new ≡ old) (Checks contents old new result)
RunsCommand contents (task.Compact image) first read before after old new result = OpensThen image.now before after result (new ≡ old) (Compacts contents old new result)
RunsCommand contents (task.Upgrade image) first read before after old new result = OpensThen image.now before after result (new ≡ old) (UpgradesImage contents old new result)
RunsCommand contents (task.Copy image name pages) first read before after old new result = (asked : List NameCall) × (now : List NameCall) × (asked ≡ []) × (none : List SocketCall) × (sockets : List SocketCall) × (none ≡ []) × CopiesTo contents image.now name.now pages before after none sockets asked now old new result
RunsCommand contents (task.Replay (Some image) group) first read before after old new result = new ≡ old
RunsCommand contents (task.Replay None group) first read before after old new result = (new ≡ old) × (after ≡ before)
RunsCommand contents (task.ServeRounds image together rounds) first read before after old new result = Unit {0}
RunsCommand contents (task.ServeClients image listen quiet per_address posts old_clients common_log place) first read before after old new result = new ≡ old

-- ---- tasks of sessions

-- the form of the log, in the common log format or not
abbrev pub form_of_log : Bool → LogForm
form_of_log true = Common
form_of_log false = Own

-- this holds of rounds of connections over an image, where the task is to serve some
abbrev pub IfRounds : Task → (List ℕ → ℕ → ℕ → Type 0) → Type 0
IfRounds (task.ServeRounds image together rounds) Holds = Holds image.now together rounds
IfRounds other Holds = Unit {0}

-- of whoever comes, where the task is to serve them
abbrev pub IfClients : Task → (List ℕ → Option SocketAddr → Bool → Terms → SocketPlace → Type 0) → Type 0
IfClients (task.ServeClients image listen quiet per_address posts old_clients common_log place) Holds = Holds image.now listen quiet (record { most = per_address; posts = posts; old_clients = old_clients; log = form_of_log common_log }) place
IfClients other Holds = Unit {0}

-- of a script over an image, where the task is to replay one
abbrev pub IfScript : Task → (List ℕ → Bool → Type 0) → Type 0
IfScript (task.Replay (Some image) group) Holds = Holds image.now group
IfScript other Holds = Unit {0}

-- What these tasks did with the image in a file, whatever they answer; `used` and `after` are what was done with files, `before` and `now` are the log, where clients are told of that have gone, and `first` and `asked` what was asked of the system for a listener.
pub record RunsSessions {Pin W Log Sink : Type 0} {dict : _} {tree : _} (k : Ghosts (DiskSite (TreeKeeper FileHistory dict) tree) Pin) (printed : W → Option (List ℕ)) (told : Log → Option (List ℕ)) (sunk : Sink → Option (List ℕ)) (done : Task) (used after : List FileUse) (old new : W) (before now : Log) (result : Result (Unit {0}) Fault) : Type 0 where
  pub rounds : IfRounds done (λ image together rounds. (first : List ListenCall) × (asked : List ListenCall) × (first ≡ []) × ServesInRounds k printed together rounds image used after first asked old new result)
  pub logged : IfClients done (λ image listen quiet terms place. quiet ≡ false → (first : List ListenerCall) × (asked : List ListenerCall) × (first ≡ []) × (none : List SocketCall) × (sockets : List SocketCall) × (none ≡ []) × ServesDaily k told listen terms place image used after none sockets first asked before now result)
  pub unlogged : IfClients done (λ image listen quiet terms place. quiet ≡ true → (now ≡ before) × (first : List ListenerCall) × (asked : List ListenerCall) × (first ≡ []) × (none : List SocketCall) × (sockets : List SocketCall) × (none ≡ []) × ServesUnlogged k sunk listen terms place image used after none sockets first asked result)
  pub script : IfScript done (λ image group. RepliesToAll (after ≡ used) (ReplaysFile group k image used after) result)
