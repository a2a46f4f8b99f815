-- After a fault the world is as before.
use Rattle.std.proofs.Common.{◌≡◌, Bool, true, false, ◌∙◌, inl, inr}
use Rattle.group_world.specs.World.{World}
use Rattle.group_world.specs.Run.{StepBy, IsAnswer, IsFaulty, IsSplit}
use Rattle.group_world.specs.declared.event.Event.{Event}
use Rattle.group_world.specs.declared.event.Event.TheVariants.{Join, Bytes, End, Draw, Leave, Admin, Flush}
use Rattle.group_world.specs.declared.event.Outcome.TheVariants.{Fault}
use Rattle.group_world.specs.declared.fault.HubFault.{HubFault}
use Rattle.group_world.specs.declared.fault.HubFault.TheVariants as hub
use Rattle.group_world.proofs.FaultsKeep.{by_keeps}
use Rattle.group_hub.specs.Calls.{may_fail_behind}
use Rattle.group_hub.specs.Causes.{IsAsBefore}
use Rattle.group_hub.specs.Runs.{FaultsKeepTheWorld}

before : (fault : HubFault) (w new : World) → new ≡ w → IsAsBefore fault w new
before hub.Failed w new same = tt
before hub.Unknown w new same = same
before hub.Crowded w new same = same
before hub.Spent w new same = same
before hub.Deep w new same = same
before (hub.Refused r) w new same = same
before hub.Broken w new same = same
before hub.Memory w new same = same
before hub.NotReady w new same = same
before (hub.Full need free) w new same = same

answered_before : (w new : World) (e : Event) (fault : HubFault) → IsAnswer w e (Fault fault) new → IsAsBefore fault w new
answered_before w new e fault is = before fault w new (is.1 ∙ by_keeps w.failed w e fault is.0)

faulty_before : (w new : World) (e : Event) (fault : HubFault) → IsFaulty w e (Fault fault) new → IsAsBefore fault w new
faulty_before w new e hub.Failed is = tt
faulty_before w new e hub.Unknown is = is.1
faulty_before w new e hub.Crowded is = is.1
faulty_before w new e hub.Spent is = is.1
faulty_before w new e hub.Deep is = is.1
faulty_before w new e (hub.Refused r) is = is.1
faulty_before w new e hub.Broken is = is.1
faulty_before w new e hub.Memory is = is.1
faulty_before w new e hub.NotReady is = is.1
faulty_before w new e (hub.Full need free) is = is.1

never_split : (w v : World) (e : Event) (fault : HubFault) → may_fail_behind e fault ≡ false → IsSplit w e (Fault fault) v → ⊥
never_split w v Join fault other is = is
never_split w v (Bytes id piece now) fault other is = is
never_split w v (End id now) fault other is = is
never_split w v (Draw id room) fault other is = is
never_split w v (Leave id) fault other is = is
never_split w v (Admin change now) fault other is = is
never_split w v Flush hub.Failed other is = cc other
never_split w v Flush hub.Unknown other is = is.1.1
never_split w v Flush hub.Crowded other is = is.1.1
never_split w v Flush hub.Spent other is = is.1.1
never_split w v Flush hub.Deep other is = is.1.1
never_split w v Flush (hub.Refused r) other is = is.1.1
never_split w v Flush hub.Broken other is = is.1.1
never_split w v Flush hub.Memory other is = is.1.1
never_split w v Flush hub.NotReady other is = is.1.1
never_split w v Flush (hub.Full need free) other is = is.1.1

pub faults_keep : FaultsKeepTheWorld
faults_keep w v e fault other is = by w.failed is
  where
    by : (b : Bool) → StepBy b w e (Fault fault) v → IsAsBefore fault w v
    by true is = answered_before w v e fault is
    by false (inl is) = answered_before w v e fault is
    by false (inr (inl is)) = faulty_before w v e fault is
    by false (inr (inr is)) = absurd (never_split w v e fault other is)
