use Rattle.std.proofs.Common.{◌≡◌, List, length, sym, subst, ◌∙◌}
use Rattle.std.specs.Prelude.{IsTrue}
use Rattle.std.specs.List.{list_all}
use Rattle.page_store.specs.Batch.{is_edit}
use Rattle.page_store.specs.CommitCalls.{CountsCommit, CommitCrashes}
use Rattle.page_store.specs.declared.edit.Edit.{Edit}
use Rattle.site_store.specs.Lacking.{IsToldSpent}
use Rattle.site_store.specs.Planned.{batch_by}
use Rattle.site_store.proofs.EditsCommitted.{batch_committed, batch_failed}
use Rattle.site_store.proofs.EditsMakeLayouts.{is_batch_of}
use Rattle.site_store.proofs.writing.write_replacements.Goals as goal

pub returns-in-Ok-clause-done : goal.returns-in-Ok-clause-done
returns-in-Ok-clause-done g c =
    let k = c.args.keeper.now in
    let same : c.deref.result.now ≡ batch_by c.args.replacements.now = c.deref.ensures.value ∙ c.in-Ok.ensures.batch in
    batch_committed c.commit.result (g.K.Keeper.store_state k) (g.K.Keeper.store_state c.commit.new.self) c.deref.result.now _ c.args.banner (g.K.Keeper.may_need k) same (is_batch_of c.args.replacements.now _ same (subst (λ (b : List Edit). IsTrue (list_all is_edit b)) (sym c.deref.ensures.value) c.in-Ok.ensures.sizes)) c.commit.ensures.done

pub returns-in-Ok-clause-fault : goal.returns-in-Ok-clause-fault
returns-in-Ok-clause-fault g c =
    let k = c.args.keeper.now in
    let same : c.deref.result.now ≡ batch_by c.args.replacements.now = c.deref.ensures.value ∙ c.in-Ok.ensures.batch in
    batch_failed c.commit.result (g.K.Keeper.store_state k) (g.K.Keeper.store_state c.commit.new.self) c.deref.result.now _ (g.K.Keeper.may_need k) (g.K.Keeper.may_need k) (g.K.Keeper.may_need c.commit.new.self) same (is_batch_of c.args.replacements.now _ same (subst (λ (b : List Edit). IsTrue (list_all is_edit b)) (sym c.deref.ensures.value) c.in-Ok.ensures.sizes)) c.commit.ensures.fault

pub returns-in-Ok-clause-spent : goal.returns-in-Ok-clause-spent
returns-in-Ok-clause-spent g c = λ top. subst IsToldSpent (sym (c.commit.ensures.ended.spent c.requires.usable top)) tt

pub returns-in-Ok-clause-counts : goal.returns-in-Ok-clause-counts
returns-in-Ok-clause-counts g c =
    let same : c.deref.result.now ≡ batch_by c.args.replacements.now = c.deref.ensures.value ∙ c.in-Ok.ensures.batch in
    subst (λ (b : List Edit). CountsCommit (g.K.Keeper.store_state c.args.keeper.now) (g.K.Keeper.store_state c.commit.new.self) (length b) c.commit.result) same c.commit.ensures.counts

pub returns-in-Ok-clause-at_crash : goal.returns-in-Ok-clause-at_crash
returns-in-Ok-clause-at_crash g c =
    let same : c.deref.result.now ≡ batch_by c.args.replacements.now = c.deref.ensures.value ∙ c.in-Ok.ensures.batch in
    subst (λ (b : List Edit). CommitCrashes g.K.Keeper.crash_states g.K.Keeper.has_content g.K.Keeper.store_state c.args.keeper.now c.commit.new.self b c.args.banner c.commit.result) same c.commit.ensures.at_crash
