-- Which word of the command line names a new site as no site may be named: of --host, --admin and --title, in this order.
use Rattle.std.specs.Prelude.{◌==◌, is_err, Option, Some, None, Result, Err, if◌then◌else◌}
use Rattle.common_types.specs.Names.{name_of, is_field, is_word}
use Rattle.image_commands.specs.declared.fault.ImageFault.TheVariants as images
use Rattle.command_words.specs.declared.words.NewSite.{NewSite}
use Rattle.command_words.specs.declared.words.Task.{Task}
use Rattle.command_words.specs.declared.words.Task.TheVariants as task
use Rattle.gopher_host.specs.declared.fault.Fault.{Fault}
use Rattle.gopher_host.specs.declared.fault.Fault.TheVariants as faults
use Rattle.gopher_host.specs.declared.refused_words.NameWord.{NameWord}
use Rattle.gopher_host.specs.declared.refused_words.NameWord.TheVariants as words

-- the first whose name is refused; where the port is, none is examined
abbrev pub first_refused : NewSite → Option NameWord
first_refused site =
    if site.port == 0 then None else
    if is_err (name_of is_word 100 site.host.now) then Some words.Host else
    if is_err (name_of is_field 100 site.admin.now) then Some words.Admin else
    if is_err (name_of is_field 69 site.title.now) then Some words.Title else None

-- of a task that makes a new site
abbrev pub refused_word : Task → Option NameWord
refused_word (task.Format image site pages now) = first_refused site
refused_word (task.Init image site pages now) = first_refused site
refused_word _ = None

-- how a task ended, with the word named whose name was refused
abbrev pub with_word : {X : Type 0} → Option NameWord → Result X Fault → Result X Fault
with_word (Some word) (Err (faults.Image (images.Refused refused))) = Err (faults.RefusedName refused word)
with_word _ ended = ended
