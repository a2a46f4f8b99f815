use Rattle.std.proofs.Common.{◌≡◌, ◌<◌, List, ℕ, Option, length, subst, arith}
use Rattle.std.specs.Prelude.{MatchOption}
use Rattle.host_types.specs.Site.{post_selector}
use Rattle.std.proofs.lemmas.Grind.{common_steps}
use Rattle.change_plan.proofs.AfterLookUps.{lacks_memory}
use Rattle.change_plan.proofs.Posting.{posted_on}
use Rattle.change_plan.proofs.plan_post.post_on.Goals as goal

pub returns-clause-plan : goal.returns-clause-plan
returns-clause-plan g c =
    let gone = c.in-Ok-item_at_any.ensures.item in
    record {
      gives = λ s shown stands.
          let shown1 = g.met.L.ItemLookup.shows_still c.args.lookup.now c.item.new.self s c.in-Ok.ensures.reads_only shown in
          let name = post_selector c.args.board c.args.numbers.1 in
          let named = subst (λ (o : Option (List ℕ)). MatchOption o (255 < length name) (λ s. s ≡ name)) c.in-Some.is c.in_ok-selector.ensures in
          let next = c.requires.next in
          posted_on s c.args.board c.args.item c.args.posted c.in_ok-stood.stood c.in-Ok.there c.in-Ok-item_at_any.gone c.args.numbers.0 c.args.numbers.1 c.args.now c.in-Some.selector c.in_ok-oldest.oldest c.in_ok-replacements_of.field-0.items (omega (arith, next)) c.requires.numbers stands
          named c.in_ok-oldest.ensures.ok c.in_ok-stood.ensures (c.in-Ok.ensures.item s shown) (gone.gives s shown1) c.in_ok-replacements_of.ensures.replacements;
      reads_only = g.met.L.ItemLookup.reads_again c.args.lookup.now c.item.new.self c.item_at_any.new.lookup c.in-Ok.ensures.reads_only gone.reads_only;
      failed = tt;
    }

pub returns-in_err-oldest-clause-plan : goal.returns-in_err-oldest-clause-plan
returns-in_err-oldest-clause-plan g c =
    let L = g.L.ItemLookup in
    let old = c.args.lookup.now in
    lacks_memory L.shows L.reads_only L.failed old old c.from_residual-in_err-oldest.result (grind (arith, common_steps)) (g.met.L.ItemLookup.may_be_out_of_memory old old (g.met.L.ItemLookup.nothing_read old))

pub returns-in_err-stood-clause-plan : goal.returns-in_err-stood-clause-plan
returns-in_err-stood-clause-plan g c =
    let L = g.L.ItemLookup in
    let old = c.args.lookup.now in
    lacks_memory L.shows L.reads_only L.failed old old c.from_residual-in_err-stood.result (grind (arith, common_steps)) (g.met.L.ItemLookup.may_be_out_of_memory old old (g.met.L.ItemLookup.nothing_read old))

pub returns-in-Err-item_at_any-clause-plan : goal.returns-in-Err-item_at_any-clause-plan
returns-in-Err-item_at_any-clause-plan g c = record {
  gives = λ s shown. tt;
  reads_only = tt;
  failed = g.met.L.ItemLookup.failed_later c.args.lookup.now c.item.new.self c.item_at_any.new.lookup c.in-Err-item_at_any.fault c.in-Ok.ensures.reads_only c.in-Err-item_at_any.ensures.item.failed;
}

pub returns-in_err-replacements_of-clause-plan : goal.returns-in_err-replacements_of-clause-plan
returns-in_err-replacements_of-clause-plan g c =
    let L = g.L.ItemLookup in
    let old = c.args.lookup.now in
    let new = c.item_at_any.new.lookup in
    lacks_memory L.shows L.reads_only L.failed old new c.from_residual-in_err-replacements_of.result (grind (arith, common_steps)) (g.met.L.ItemLookup.may_be_out_of_memory old new (g.met.L.ItemLookup.reads_again old c.item.new.self new c.in-Ok.ensures.reads_only c.in-Ok-item_at_any.ensures.item.reads_only))
