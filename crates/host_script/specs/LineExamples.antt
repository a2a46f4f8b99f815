-- Worked examples: what a script prints of each outcome.
use Rattle.std.specs.Prelude.{◌≡◌, [], codes}
use Rattle.common_types.specs.declared.refused.Refused.TheVariants.{Missing}
use Rattle.group_world.specs.declared.event.Outcome.TheVariants.{Joined, More, Ready, Finished, Waiting, Drawn, Gone, Done, Flushed, Fault}
use Rattle.group_world.specs.declared.fault.HubFault.TheVariants as hub
use Rattle.host_script.specs.Printed.{line_of}

pub record ScriptLineExamples : Type 0 where
  pub joined : line_of (Joined 12) ≡ codes "id 12"
  pub more : line_of More ≡ codes "more"
  pub ready : line_of Ready ≡ codes "ready"
  pub finished : line_of Finished ≡ codes "finished"
  pub waiting : line_of Waiting ≡ codes "waiting"
  -- a space and an LF are escaped
  pub drawn : line_of (Drawn (codes "a b\n")) ≡ codes "drawn a\\x20b\\n"
  pub nothing_drawn : line_of (Drawn []) ≡ codes "drawn "
  pub gone : line_of Gone ≡ codes "ok"
  pub done : line_of Done ≡ codes "ok"
  pub flushed : line_of (Flushed 15 1) ≡ codes "flushed 15 left 1"
  pub nobody_waited : line_of (Flushed 0 0) ≡ codes "flushed 0 left 0"
  pub not_ready : line_of (Fault hub.NotReady) ≡ codes "fault NotReady"
  pub full : line_of (Fault (hub.Full 9 4)) ≡ codes "fault Full 9 4"
  pub refused : line_of (Fault (hub.Refused Missing)) ≡ codes "fault Missing"
