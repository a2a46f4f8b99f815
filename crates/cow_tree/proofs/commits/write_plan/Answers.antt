use Rattle.std.proofs.Common.{◌≡◌, ◌≤◌, ◌+◌, ◌*◌, ◌<◌, ℕ, List, length, refl, sym, subst, IsTrue, get_or}
use Rattle.page_alloc.specs.LedgerState.{LedgerState, has_page, has_page_next}
use Rattle.page_store.specs.Steps.{crash_states_of}
use Rattle.page_store.specs.Commit.{IsReady, IsBetween, IsDone}
use Rattle.common_types.specs.CrashStates.{AddsOnly}
use Rattle.page_store.specs.declared.commit.NewPage.{NewPage}
use Rattle.cow_tree.specs.Committed.{IsCommitted}
use Rattle.cow_tree.proofs.CommitsWritten.{the_commit, ready, old_pages_stay, held_pages_stay, is_committed}
use Rattle.cow_tree.proofs.commits.write_plan.Goals as goal

pub commit_pages-requires-clause-fits : goal.commit_pages-requires-clause-fits
commit_pages-requires-clause-fits g c = subst (λ (l : List NewPage). (k : ℕ) (d : NewPage) → k < length l → 8 * (get_or l k d).number + 8 ≤ (g.D.Device.state c.args.device.now).size) (sym c.deref.ensures.value) c.requires.fits.pages

pub commit_pages-requires-clause-sure : goal.commit_pages-requires-clause-sure
commit_pages-requires-clause-sure g c = λ keeps. (c.requires.planned keeps).sure

pub commit_pages-requires-clause-ready : goal.commit_pages-requires-clause-ready
commit_pages-requires-clause-ready g c = λ keeps.
    let view = (g.D.Device.state c.args.device.now).disk.view in
    let states = crash_states_of g.D.Device.moment g.D.Device.possible_since c.args.device.now in
    let w = c.requires.planned keeps in
    let commit = the_commit view states c.args.slot.now c.args.ledger.now c.args.plan.now w in
    (commit, refl, subst (λ (l : List NewPage). IsReady commit l view) (sym c.deref.ensures.value) (ready view states c.args.slot.now c.args.ledger.now c.args.plan.now w))

pub returns-in-Ok-clause-writes : goal.returns-in-Ok-clause-writes
returns-in-Ok-clause-writes g c = record {
  done = λ keeps w.
      let view = (g.D.Device.state c.args.device.now).disk.view in
      let states = crash_states_of g.D.Device.moment g.D.Device.possible_since c.args.device.now in
      let after = crash_states_of g.D.Device.moment g.D.Device.possible_since c.commit_pages.new.device in
      let now = (g.D.Device.state c.commit_pages.new.device).disk.view in
      let commit = the_commit view states c.args.slot.now c.args.ledger.now c.args.plan.now w in
      let rd = subst (λ (l : List NewPage). IsReady commit l view) (sym c.deref.ensures.value) (ready view states c.args.slot.now c.args.ledger.now c.args.plan.now w) in
      let done = subst (λ (l : List NewPage). IsDone commit l after view now) c.deref.ensures.value (c.in-Ok.ensures.commits.done keeps commit refl rd) in
      subst (λ (l : LedgerState). IsCommitted now after c.args.plan.now l w.planned.found) (sym c.advance.ensures.advanced)
      (is_committed view states c.args.slot.now c.args.ledger.now c.args.plan.now w now after done
      (subst (λ (l : LedgerState). (n : ℕ) → n < length c.args.ledger.now.lives → has_page l c.args.plan.now.slot.seal n ≡ has_page_next c.args.ledger.now n) c.advance.ensures.advanced c.advance.ensures.pages));
  kept = λ keeps w. tt;
  held = λ keeps w.
      let d = g.met.D.Device in
      let view = (g.D.Device.state c.args.device.now).disk.view in
      let now = (g.D.Device.state c.commit_pages.new.device).disk.view in
      let states = crash_states_of g.D.Device.moment g.D.Device.possible_since c.args.device.now in
      let after = crash_states_of g.D.Device.moment g.D.Device.possible_since c.commit_pages.new.device in
      let commit = the_commit view states c.args.slot.now c.args.ledger.now c.args.plan.now w in
      let rd = subst (λ (l : List NewPage). IsReady commit l view) (sym c.deref.ensures.value) (ready view states c.args.slot.now c.args.ledger.now c.args.plan.now w) in
      let adds = subst (λ (l : List NewPage). AddsOnly states after (IsBetween commit l view)) c.deref.ensures.value (c.commit_pages.ensures.commits.at_crash keeps commit refl rd) in
      let keeps1 : IsTrue (g.D.Device.state c.commit_pages.new.device).honest = subst IsTrue (sym c.commit_pages.ensures.outcome.same.honest) keeps in
      let left = d.each_image_is_a_crash_state c.commit_pages.new.device now keeps1 (d.view_is_image c.commit_pages.new.device keeps1) in
      held_pages_stay view states c.args.slot.now c.args.ledger.now c.args.plan.now w now (adds.now now left);
  at_crash = λ keeps w.
      let view = (g.D.Device.state c.args.device.now).disk.view in
      let states = crash_states_of g.D.Device.moment g.D.Device.possible_since c.args.device.now in
      let after = crash_states_of g.D.Device.moment g.D.Device.possible_since c.commit_pages.new.device in
      let commit = the_commit view states c.args.slot.now c.args.ledger.now c.args.plan.now w in
      let rd = subst (λ (l : List NewPage). IsReady commit l view) (sym c.deref.ensures.value) (ready view states c.args.slot.now c.args.ledger.now c.args.plan.now w) in
      subst (λ (l : List NewPage). AddsOnly states after (IsBetween commit l view)) c.deref.ensures.value (c.commit_pages.ensures.commits.at_crash keeps commit refl rd);
}

pub returns-in-Err-clause-writes : goal.returns-in-Err-clause-writes
returns-in-Err-clause-writes g c = record {
  done = λ keeps w. tt;
  kept = λ keeps w.
      let d = g.met.D.Device in
      let view = (g.D.Device.state c.args.device.now).disk.view in
      let now = (g.D.Device.state c.commit_pages.new.device).disk.view in
      let states = crash_states_of g.D.Device.moment g.D.Device.possible_since c.args.device.now in
      let after = crash_states_of g.D.Device.moment g.D.Device.possible_since c.commit_pages.new.device in
      let commit = the_commit view states c.args.slot.now c.args.ledger.now c.args.plan.now w in
      let rd = subst (λ (l : List NewPage). IsReady commit l view) (sym c.deref.ensures.value) (ready view states c.args.slot.now c.args.ledger.now c.args.plan.now w) in
      let adds = subst (λ (l : List NewPage). AddsOnly states after (IsBetween commit l view)) c.deref.ensures.value (c.commit_pages.ensures.commits.at_crash keeps commit refl rd) in
      let keeps1 : IsTrue (g.D.Device.state c.commit_pages.new.device).honest = subst IsTrue (sym c.commit_pages.ensures.outcome.same.honest) keeps in
      let left = d.each_image_is_a_crash_state c.commit_pages.new.device now keeps1 (d.view_is_image c.commit_pages.new.device keeps1) in
      old_pages_stay view states c.args.slot.now c.args.ledger.now c.args.plan.now w now (adds.now now left);
  held = λ keeps w.
      let d = g.met.D.Device in
      let view = (g.D.Device.state c.args.device.now).disk.view in
      let now = (g.D.Device.state c.commit_pages.new.device).disk.view in
      let states = crash_states_of g.D.Device.moment g.D.Device.possible_since c.args.device.now in
      let after = crash_states_of g.D.Device.moment g.D.Device.possible_since c.commit_pages.new.device in
      let commit = the_commit view states c.args.slot.now c.args.ledger.now c.args.plan.now w in
      let rd = subst (λ (l : List NewPage). IsReady commit l view) (sym c.deref.ensures.value) (ready view states c.args.slot.now c.args.ledger.now c.args.plan.now w) in
      let adds = subst (λ (l : List NewPage). AddsOnly states after (IsBetween commit l view)) c.deref.ensures.value (c.commit_pages.ensures.commits.at_crash keeps commit refl rd) in
      let keeps1 : IsTrue (g.D.Device.state c.commit_pages.new.device).honest = subst IsTrue (sym c.commit_pages.ensures.outcome.same.honest) keeps in
      let left = d.each_image_is_a_crash_state c.commit_pages.new.device now keeps1 (d.view_is_image c.commit_pages.new.device keeps1) in
      held_pages_stay view states c.args.slot.now c.args.ledger.now c.args.plan.now w now (adds.now now left);
  at_crash = λ keeps w.
      let view = (g.D.Device.state c.args.device.now).disk.view in
      let states = crash_states_of g.D.Device.moment g.D.Device.possible_since c.args.device.now in
      let after = crash_states_of g.D.Device.moment g.D.Device.possible_since c.commit_pages.new.device in
      let commit = the_commit view states c.args.slot.now c.args.ledger.now c.args.plan.now w in
      let rd = subst (λ (l : List NewPage). IsReady commit l view) (sym c.deref.ensures.value) (ready view states c.args.slot.now c.args.ledger.now c.args.plan.now w) in
      subst (λ (l : List NewPage). AddsOnly states after (IsBetween commit l view)) c.deref.ensures.value (c.commit_pages.ensures.commits.at_crash keeps commit refl rd);
}
