use Rattle.std.proofs.Common.{List, sym, ap, subst, ◌∙◌}
use Rattle.host_types.specs.Card.{card_body}
use Rattle.host_types.specs.declared.menu.Entry.{Entry}
use Rattle.host_types.specs.declared.form.Question.{Question}
use Rattle.host_types.specs.declared.card.CardBody.TheVariants.{Menu, Form}
use Rattle.site_records.specs.declared.record.RecordBody.{RecordBody}
use Rattle.site_store.specs.Work.{MakesLookUps, chunks_behind}
use Rattle.site_store.proofs.AfterReads.{done, fails}
use Rattle.site_store.proofs.LocalReads.{fault_unless}
use Rattle.site_store.proofs.DecodedViews.{kept_entries, kept_questions}
use Rattle.site_store.proofs.cards.card_body.Goals as goal

pub returns-in-Ok : goal.returns-in-Ok
returns-in-Ok g c =
    let menu = c.in-Ok.ensures.entries in
    record {
      body = done menu.only menu.none (λ honest b keeps.
          let v = kept_entries (g.K.Keeper.store_state c.args.keeper.now) c.args.selector.now c.in-Menu.size c.args.kept b c.in-Menu.is keeps in
          ap (λ (l : List Entry). Menu l) (menu.gives honest v.entries v.has) ∙ ap card_body (sym v.body_is));
      work = subst (λ (b : RecordBody). MakesLookUps (chunks_behind b) (g.K.Keeper.store_state c.args.keeper.now) (g.K.Keeper.store_state c.read_menu.new.from)) (sym c.in-Menu.is) c.read_menu.ensures.work;
    }

pub returns-in-Err : goal.returns-in-Err
returns-in-Err g c =
    let menu = c.in-Err.ensures.entries in
    record {
      body = fails menu.only (fault_unless (g.K.Keeper.store_state c.args.keeper.now) (g.K.Keeper.store_state c.read_menu.new.from) c.in-Err.fault
          (λ honest known. let v = kept_entries (g.K.Keeper.store_state c.args.keeper.now) c.args.selector.now c.in-Menu.size c.args.kept known.0 c.in-Menu.is known.1 in (v.entries, v.has)) menu.fault);
      work = subst (λ (b : RecordBody). MakesLookUps (chunks_behind b) (g.K.Keeper.store_state c.args.keeper.now) (g.K.Keeper.store_state c.read_menu.new.from)) (sym c.in-Menu.is) c.read_menu.ensures.work;
    }

pub returns-in-Ok-read_form : goal.returns-in-Ok-read_form
returns-in-Ok-read_form g c =
    let form = c.in-Ok-read_form.ensures.questions in
    record {
      body = done form.only form.none (λ honest b keeps.
          let v = kept_questions (g.K.Keeper.store_state c.args.keeper.now) c.args.selector.now c.in-Form.board c.in-Form.size c.args.kept b c.in-Form.is keeps in
          ap (λ (l : List Question). Form c.in-Form.board l) (form.gives honest v.questions v.has) ∙ ap card_body (sym v.body_is));
      work = subst (λ (b : RecordBody). MakesLookUps (chunks_behind b) (g.K.Keeper.store_state c.args.keeper.now) (g.K.Keeper.store_state c.read_form.new.from)) (sym c.in-Form.is) c.read_form.ensures.work;
    }

pub returns-in-Err-read_form : goal.returns-in-Err-read_form
returns-in-Err-read_form g c =
    let form = c.in-Err-read_form.ensures.questions in
    record {
      body = fails form.only (fault_unless (g.K.Keeper.store_state c.args.keeper.now) (g.K.Keeper.store_state c.read_form.new.from) c.in-Err-read_form.fault
          (λ honest known. let v = kept_questions (g.K.Keeper.store_state c.args.keeper.now) c.args.selector.now c.in-Form.board c.in-Form.size c.args.kept known.0 c.in-Form.is known.1 in (v.questions, v.has)) form.fault);
      work = subst (λ (b : RecordBody). MakesLookUps (chunks_behind b) (g.K.Keeper.store_state c.args.keeper.now) (g.K.Keeper.store_state c.read_form.new.from)) (sym c.in-Form.is) c.read_form.ensures.work;
    }
