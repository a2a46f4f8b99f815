use Rattle.std.proofs.Common.{rules, ◌≡◌, List, length, sym, ap, subst, ◌∙◌}
use Rattle.page_store.specs.declared.banner.Banner.{Banner}
use Rattle.page_store.specs.declared.edit.Edit.{Edit}
use Rattle.site_store.specs.Upgrading.{raised_banner, IsUpgradeOf, IsFirstWhole, IsNotUpgraded}
use Rattle.site_store.proofs.UpgradesCommitted.{is_upgraded, not_committed, crashes_either}
use Rattle.site_store.proofs.upgrading.raise.Goals as goal

pub returns-in-Ok-clause-done : goal.returns-in-Ok-clause-done
returns-in-Ok-clause-done g c =
    let state = g.K.Keeper.store_state in
    let need = g.K.Keeper.may_need in
    let read = c.in_ok-batch.ensures.batch.reads in
    let old = c.args.keeper.now in
    let mid = c.upgrade_batch.new.keeper in
    let new = c.commit.new.self in
    let given = c.in-Ok.ensures in
    is_upgraded (state old) (state mid) (state new) (need old) (need mid) c.deref.result.now read.only.read read.none read.only.need
    (λ honest. subst (λ (b : List Edit). IsUpgradeOf (state old).pairs (state old).banner b) (sym c.deref.ensures.value) (read.gives honest))
    c.in_ok-banner.banner c.len.result (c.in_ok-banner.ensures ∙ ap raised_banner c.banner.ensures) given.done.done given.done.banner given.done.still_usable given.done.rises given.done.generation given.counts.tried given.counts.reads given.counts.writes given.done.out given.counts.work.wrote (search (rules, c.len.ensures, c.deref.ensures))
    (let same : length c.in_ok-batch.batch.items ≡ c.len.result = search (rules, c.len.ensures, c.deref.ensures) in subst (IsFirstWhole (state old)) same c.in_ok-batch.ensures.whole)

pub returns-in-Ok-clause-at_crash : goal.returns-in-Ok-clause-at_crash
returns-in-Ok-clause-at_crash g c = λ honest s first.
    let state = g.K.Keeper.store_state in
    let need = g.K.Keeper.may_need in
    let states = g.K.Keeper.crash_states in
    let read = c.in_ok-batch.ensures.batch.reads in
    let old = c.args.keeper.now in
    let mid = c.upgrade_batch.new.keeper in
    let new = c.commit.new.self in
    crashes_either (state old) (state mid) (state new) (need old) (need mid) c.deref.result.now read.only.read read.none read.only.need
    (λ honest. subst (λ (b : List Edit). IsUpgradeOf (state old).pairs (state old).banner b) (sym c.deref.ensures.value) (read.gives honest))
    g.K.Keeper.has_content c.in_ok-banner.banner s (states old) (states mid) (states new) (c.in_ok-banner.ensures ∙ ap raised_banner c.banner.ensures) honest first (read.only.no_new_crash_state honest)
    (λ x left. g.met.K.Keeper.crash_states_represent old x honest c.requires.usable left) (c.in-Ok.ensures.at_crash.at_crash (read.only.read.honest ∙ honest) (read.only.read.same.usable ∙ c.requires.usable))

pub returns-clause-fault : goal.returns-clause-fault
returns-clause-fault g c =
    let state = g.K.Keeper.store_state in
    let need = g.K.Keeper.may_need in
    let read = c.in_ok-batch.ensures.batch.reads in
    let old = c.args.keeper.now in
    let mid = c.upgrade_batch.new.keeper in
    let new = c.commit.new.self in
    let given = c.in-Err.ensures in
    subst (IsNotUpgraded (state old) (state new) (need old)) (sym c.commit_fault.ensures)
    (not_committed (state old) (state mid) (state new) (need old) (need mid) c.deref.result.now read.only.read read.none read.only.need
    (λ honest. subst (λ (b : List Edit). IsUpgradeOf (state old).pairs (state old).banner b) (sym c.deref.ensures.value) (read.gives honest)) c.in-Err.fault given.fault.cause given.counts.tried given.counts.reads given.counts.writes given.counts.work.wrote)

pub returns-clause-at_crash : goal.returns-clause-at_crash
returns-clause-at_crash g c = λ honest s first.
    let state = g.K.Keeper.store_state in
    let need = g.K.Keeper.may_need in
    let states = g.K.Keeper.crash_states in
    let read = c.in_ok-batch.ensures.batch.reads in
    let old = c.args.keeper.now in
    let mid = c.upgrade_batch.new.keeper in
    let new = c.commit.new.self in
    crashes_either (state old) (state mid) (state new) (need old) (need mid) c.deref.result.now read.only.read read.none read.only.need
    (λ honest. subst (λ (b : List Edit). IsUpgradeOf (state old).pairs (state old).banner b) (sym c.deref.ensures.value) (read.gives honest))
    g.K.Keeper.has_content c.in_ok-banner.banner s (states old) (states mid) (states new) (c.in_ok-banner.ensures ∙ ap raised_banner c.banner.ensures) honest first (read.only.no_new_crash_state honest)
    (λ x left. g.met.K.Keeper.crash_states_represent old x honest c.requires.usable left) (c.in-Err.ensures.at_crash.at_crash (read.only.read.honest ∙ honest) (read.only.read.same.usable ∙ c.requires.usable))
