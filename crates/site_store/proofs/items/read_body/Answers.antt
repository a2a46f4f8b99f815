use Rattle.std.proofs.Common.{List, sym, ap, subst, ◌∙◌}
use Rattle.host_types.specs.declared.view.View.{View}
use Rattle.host_types.specs.declared.menu.Entry.{Entry}
use Rattle.host_types.specs.declared.form.Question.{Question}
use Rattle.host_types.specs.declared.item.Body.TheVariants.{Views, Menu, Form}
use Rattle.host_types.specs.declared.card.CardView.{CardView}
use Rattle.site_store.specs.StoreReads.{HasViews}
use Rattle.site_store.proofs.AfterReads.{done, fails}
use Rattle.site_store.proofs.LocalReads.{fault_unless}
use Rattle.site_store.proofs.DecodedViews.{kept_views, kept_entries, kept_questions, short_cards, short_views_body, short_form_body}
use Rattle.site_store.proofs.items.read_body.Goals as goal

pub read_views-requires-clause-short : goal.read_views-requires-clause-short
read_views-requires-clause-short g c = short_cards c.args.kept c.in-Views.kind c.in-Views.cards c.as_slice.result.now c.in-Views.is c.requires c.as_slice.ensures

pub returns-in-Ok-clause-body : goal.returns-in-Ok-clause-body
returns-in-Ok-clause-body g c =
    let all = c.in-Ok.ensures.views in
    done all.only all.none (λ honest b keeps.
    let v = kept_views (g.V.ValueLookup.store_state c.args.from.now) c.args.selector.now c.in-Views.kind c.in-Views.cards c.args.kept b c.in-Views.is keeps in
    ap (λ (l : List View). Views c.in-Views.kind l) (all.gives honest v.views (subst (λ (l : List CardView). HasViews (g.V.ValueLookup.store_state c.args.from.now).pairs c.args.selector.now l v.views) (sym c.as_slice.ensures) v.has)) ∙ sym v.body_is)

pub returns-in-Ok-clause-short : goal.returns-in-Ok-clause-short
returns-in-Ok-clause-short g c = short_views_body c.in-Views.kind c.in-Ok.views c.args.kept c.in-Views.cards c.in-Views.is c.requires (c.in-Ok.ensures.cards ∙ c.as_slice.ensures)

pub returns-in-Views-clause-body : goal.returns-in-Views-clause-body
returns-in-Views-clause-body g c =
    let all = c.in-Err.ensures.views in
    fails all.only (fault_unless (g.V.ValueLookup.store_state c.args.from.now) (g.V.ValueLookup.store_state c.read_views.new.from) c.in-Err.fault
    (λ honest known.
    let v = kept_views (g.V.ValueLookup.store_state c.args.from.now) c.args.selector.now c.in-Views.kind c.in-Views.cards c.args.kept known.0 c.in-Views.is known.1 in
    (v.views, subst (λ (l : List CardView). HasViews (g.V.ValueLookup.store_state c.args.from.now).pairs c.args.selector.now l v.views) (sym c.as_slice.ensures) v.has)) all.fault)

pub returns-in-Ok-read_menu-clause-body : goal.returns-in-Ok-read_menu-clause-body
returns-in-Ok-read_menu-clause-body g c =
    let menu = c.in-Ok-read_menu.ensures.entries in
    done menu.only menu.none (λ honest b keeps.
    let v = kept_entries (g.V.ValueLookup.store_state c.args.from.now) c.args.selector.now c.in-Menu.size c.args.kept b c.in-Menu.is keeps in
    ap (λ (l : List Entry). Menu l) (menu.gives honest v.entries v.has) ∙ sym v.body_is)

pub returns-in-Menu-clause-body : goal.returns-in-Menu-clause-body
returns-in-Menu-clause-body g c =
    let menu = c.in-Err-read_menu.ensures.entries in
    fails menu.only (fault_unless (g.V.ValueLookup.store_state c.args.from.now) (g.V.ValueLookup.store_state c.read_menu.new.from) c.in-Err-read_menu.fault
    (λ honest known. let v = kept_entries (g.V.ValueLookup.store_state c.args.from.now) c.args.selector.now c.in-Menu.size c.args.kept known.0 c.in-Menu.is known.1 in (v.entries, v.has)) menu.fault)

pub returns-in-Ok-read_form-clause-body : goal.returns-in-Ok-read_form-clause-body
returns-in-Ok-read_form-clause-body g c =
    let form = c.in-Ok-read_form.ensures.questions in
    done form.only form.none (λ honest b keeps.
    let v = kept_questions (g.V.ValueLookup.store_state c.args.from.now) c.args.selector.now c.in-Form.board c.in-Form.size c.args.kept b c.in-Form.is keeps in
    ap (λ (l : List Question). Form c.in-Form.board l) (form.gives honest v.questions v.has) ∙ sym v.body_is)

pub returns-in-Ok-read_form-clause-short : goal.returns-in-Ok-read_form-clause-short
returns-in-Ok-read_form-clause-short g c = short_form_body c.in-Form.board c.in-Ok-read_form.questions c.in-Ok-read_form.ensures.valid c.in-Ok-read_form.ensures.short

pub returns-in-Form-clause-body : goal.returns-in-Form-clause-body
returns-in-Form-clause-body g c =
    let form = c.in-Err-read_form.ensures.questions in
    fails form.only (fault_unless (g.V.ValueLookup.store_state c.args.from.now) (g.V.ValueLookup.store_state c.read_form.new.from) c.in-Err-read_form.fault
    (λ honest known. let v = kept_questions (g.V.ValueLookup.store_state c.args.from.now) c.args.selector.now c.in-Form.board c.in-Form.size c.args.kept known.0 c.in-Form.is known.1 in (v.questions, v.has)) form.fault)
