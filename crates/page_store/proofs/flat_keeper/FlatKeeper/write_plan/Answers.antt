use Rattle.std.proofs.Common.{◌+◌, ◌<◌, ◌^◌, ℕ, List, IsTrue, sym, subst, ◌∙◌, arith}
use Rattle.common_types.specs.CrashStates.{AddsOnly}
use Rattle.page_store.specs.Sectors.{Image}
use Rattle.page_store.specs.Steps.{crash_states_of}
use Rattle.page_store.specs.Commit.{IsReady, IsBetween}
use Rattle.page_store.specs.FlatState.{IsFitted, CrashStatesDoRepresent, new_slot, flat_commit}
use Rattle.page_store.specs.declared.commit.NewPage.{NewPage}
use Rattle.page_store.specs.declared.slot.Slot.{Slot as SlotValue}
use Rattle.page_store.proofs.Flats.{pages_fit, ready_now, fitted_now, crash_states_represent_now}
use Rattle.page_store.proofs.flat_keeper.FlatKeeper.write_plan.Goals as goal

pub commit_pages-requires-clause-fits : goal.commit_pages-requires-clause-fits
commit_pages-requires-clause-fits g c =
    let k = c.args.self.now in
    let plan = c.requires.plan in
    λ n d lt. pages_fit (k.top + 1) (g.D.Device.state k.device).size k.slot k.pairs.items c.args.plan.pairs.items c.deref.result.now n d k.fitted (c.deref.ensures.value ∙ plan.pages_are) plan.room lt

pub commit_pages-requires-clause-ready : goal.commit_pages-requires-clause-ready
commit_pages-requires-clause-ready g c = λ keeps.
    let k = c.args.self.now in
    let plan = c.requires.plan in
    let s = k.crash_states_represent keeps c.requires.may.usable in
    let small : k.top + 1 < 2 ^ 64 = omega (arith, c.requires.may.left) in
    let banner = c.args.plan.slot.root.banner in
    (flat_commit k.slot k.pairs.items (k.top + 1) c.args.plan.pairs.items banner, sym plan.slot_is, ready_now (g.D.Device.state k.device).disk.view (g.D.Device.state k.device).size k.slot k.pairs.items c.args.plan.pairs.items k.top banner c.deref.result.now k.fitted s.content s.seals small c.requires.may.map c.requires.may.version plan.room (c.deref.ensures.value ∙ plan.pages_are))

pub returns-in_err-commit_pages-clause-at_crash : goal.returns-in_err-commit_pages-clause-at_crash
returns-in_err-commit_pages-clause-at_crash g c = λ keeps.
    let k = c.args.self.now in
    let plan = c.requires.plan in
    let s = k.crash_states_represent keeps c.requires.may.usable in
    let small : k.top + 1 < 2 ^ 64 = omega (arith, c.requires.may.left) in
    let banner = c.args.plan.slot.root.banner in
    let view : Image = (g.D.Device.state k.device).disk.view in
    let commit = flat_commit k.slot k.pairs.items (k.top + 1) c.args.plan.pairs.items banner in
    let now = crash_states_of g.D.Device.moment g.D.Device.possible_since in
    let rd : IsReady commit c.deref.result.now view = ready_now view (g.D.Device.state k.device).size k.slot k.pairs.items c.args.plan.pairs.items k.top banner c.deref.result.now k.fitted s.content s.seals small c.requires.may.map c.requires.may.version plan.room (c.deref.ensures.value ∙ plan.pages_are) in
    subst (λ (p : List NewPage). AddsOnly (now k.device) (now c.commit_pages.new.device) (IsBetween commit p view)) c.deref.ensures.value (c.commit_pages.ensures.commits.at_crash keeps commit (sym plan.slot_is) rd)

pub returns-clause-at_crash : goal.returns-clause-at_crash
returns-clause-at_crash g c = λ keeps.
    let k = c.args.self.now in
    let plan = c.requires.plan in
    let s = k.crash_states_represent keeps c.requires.may.usable in
    let small : k.top + 1 < 2 ^ 64 = omega (arith, c.requires.may.left) in
    let banner = c.args.plan.slot.root.banner in
    let view : Image = (g.D.Device.state k.device).disk.view in
    let commit = flat_commit k.slot k.pairs.items (k.top + 1) c.args.plan.pairs.items banner in
    let now = crash_states_of g.D.Device.moment g.D.Device.possible_since in
    let rd : IsReady commit c.deref.result.now view = ready_now view (g.D.Device.state k.device).size k.slot k.pairs.items c.args.plan.pairs.items k.top banner c.deref.result.now k.fitted s.content s.seals small c.requires.may.map c.requires.may.version plan.room (c.deref.ensures.value ∙ plan.pages_are) in
    subst (λ (p : List NewPage). AddsOnly (now k.device) (now c.commit_pages.new.device) (IsBetween commit p view)) c.deref.ensures.value (c.commit_pages.ensures.commits.at_crash keeps commit (sym plan.slot_is) rd)

pub invariant_of-self-2 : goal.invariant_of-self-2
invariant_of-self-2 g c =
    let d = g.met.D.Device in
    let k = c.args.self.now in
    let plan = c.requires.plan in
    let small : k.top + 1 < 2 ^ 64 = omega (arith, c.requires.may.left) in
    let pairs = c.args.plan.pairs.items in
    let banner = c.args.plan.slot.root.banner in
    let view : Image = (g.D.Device.state k.device).disk.view in
    let commit = flat_commit k.slot k.pairs.items (k.top + 1) pairs banner in
    let now = crash_states_of g.D.Device.moment g.D.Device.possible_since in
    let after = c.commit_pages.new.device in
    record {
      fitted = subst (λ (s : SlotValue). IsFitted (g.D.Device.state after).size s pairs) (sym plan.slot_is) (subst (λ (n : ℕ). IsFitted n (new_slot k.slot (k.top + 1) pairs banner) pairs) (sym c.commit_pages.ensures.outcome.same.size) (fitted_now (g.D.Device.state k.device).size k.slot k.pairs.items pairs (k.top + 1) banner k.fitted c.requires.may.version c.requires.may.map));
      crash_states_represent = λ keeps1 up1.
          let keeps : IsTrue (g.D.Device.state k.device).honest = subst IsTrue c.commit_pages.ensures.outcome.same.honest keeps1 in
          let s = k.crash_states_represent keeps c.requires.may.usable in
          let rd : IsReady commit c.deref.result.now view = ready_now view (g.D.Device.state k.device).size k.slot k.pairs.items pairs k.top banner c.deref.result.now k.fitted s.content s.seals small c.requires.may.map c.requires.may.version plan.room (c.deref.ensures.value ∙ plan.pages_are) in
          subst (λ (s : SlotValue). CrashStatesDoRepresent (g.D.Device.state after).disk s pairs (k.top + 1)) (sym plan.slot_is)
          (crash_states_represent_now k.slot k.pairs.items pairs k.top banner c.deref.result.now view (g.D.Device.state after).disk (now after) s.seals (c.in_ok-commit_pages.ensures.commits.done keeps commit (sym plan.slot_is) rd) (λ i image. d.each_image_is_a_crash_state after i keeps1 image));
    }
