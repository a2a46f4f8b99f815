use Rattle.std.proofs.Common.{Option, IfSome, subst, ◌≡◌, ◌<◌, ◌≤◌, Some, sym, ◌∙◌, arith}
use Rattle.page_store.specs.Roots.{IsFoundSlot, current, greatest_seal}
use Rattle.page_store.specs.declared.slot.Slot.{Slot}
use Rattle.page_store.proofs.OtherHalfCommits.{current_le}
use Rattle.cow_tree.proofs.opening.tree_slot.Goals as goal
use Rattle.cow_tree.proofs.opening.tree_slot.Goals.{then-greatest-slot, else-greatest-slot}

pub returns-clause-found : goal.returns-clause-found
returns-clause-found g c =
    let old = g.D.Device.state c.args.device.now in
    let slot = c.in-Some.slot in
    let r = c.in-Ok.ensures.roots.gives in
    record {
      slot_is = λ keeps. sym (r keeps).0 ∙ c.in-Some.is;
      top_is = λ keeps.
          let now : current old.disk.view ≡ Some slot = sym (r keeps).0 ∙ c.in-Some.is in
          let most : slot.seal ≤ greatest_seal old.disk.view 16 = current_le old.disk.view slot now in
          let given = (r keeps).1 in
          elim c.if-greatest-slot.branch [
            | then-greatest-slot w ↦ let less : c.in-Ok.roots.greatest < slot.seal = w.if-greatest-slot.true in absurd (omega (arith, most, given, less))
            | else-greatest-slot w ↦ sym given ∙ sym w.top-is
          ];
      fits = subst (λ (o : Option Slot). IfSome o (IsFoundSlot old.size)) c.in-Some.is c.in-Ok.ensures.fits;
      version_is = sym c.is_tree_version.ensures ∙ c.if-not-is_tree_version.false;
    }
