-- Events of one hub over a site, and over the site of an image, and a script that makes them.
use Rattle.std.specs.Prelude.{ℕ, Bool, List, Option, IfSome, IfErr, Result, OnOk}
use Rattle.host_types.specs.declared.site_keeper.SiteKeeper.{Ghosts}
use Rattle.page_store.specs.Steps.{crash_states_of}
use Rattle.cow_tree.specs.TreeSeen.{device_of}
use Rattle.cow_tree.specs.declared.tree_keeper.TreeKeeper.{TreeKeeper}
use Rattle.site_store.specs.Seen.{keeper_of}
use Rattle.site_store.specs.declared.disk_site.DiskSite.{DiskSite}
use Rattle.host_script.specs.Lines.{Ran, RanSo, IsReplayed, Halts}
use Rattle.host_script.specs.declared.fault.ReplayFault.{ReplayFault}
use Rattle.host_on_disk.specs.Headline.{RunsOver, RunsAndSurvives}

-- A site is handed in and back, and in between these events had these outcomes in one hub, where posts wait or don't, and whose sessions count from 1: the calls, on any device; and over an honest one what a crash at any moment of them leaves.
abbrev pub OverSite : {S Pin : Type 0} → Bool → Ghosts S Pin → Ran S
OverSite grouped k old events outcomes new = RunsOver k.site_state k.lacks k.crash_states k.represents old new grouped 1 events outcomes

-- The same of a device that is opened as the site which it shows, and what survives a crash at any moment of it.
abbrev pub OnImage : {D Pin : Type 0} {dict : _} {tree : _} → Bool → Ghosts (DiskSite (TreeKeeper D dict) tree) Pin → Ran D
OnImage {dict = dict} grouped k old events outcomes new = RunsAndSurvives dict.state (λ d. device_of (keeper_of d)) k.site_state k.lacks k.crash_states k.represents (crash_states_of dict.moment dict.possible_since) old new grouped 1 events outcomes

-- What a script did: where it was run to its end, all of it was; where a fault ended it, what stands before the line of that, and of that line what the fault says; and whatever it answered, some events led from `old` to `new`.
pub record Replays {H : Type 0} (ran : Ran H) (old new : H) (script unread given took : Option (List ℕ)) (result : Result (Unit {0}) ReplayFault) : Type 0 where
  pub whole : OnOk result (IfSome script (IsReplayed ran old new given took))
  pub halted : IfErr result (Halts ran old new given took unread script)
  pub led : RanSo ran old new
