use Rattle.std.proofs.Common.{refl, sym, ◌∙◌}
use Rattle.site_store.specs.ReadLaws.{not_yet}
use Rattle.site_store.proofs.AfterReads.{done}
use Rattle.site_store.proofs.NamedItems.{not_named}
use Rattle.site_store.proofs.opening.put_named.Goals as goal

pub returns-in_default-new-clause-named : goal.returns-in_default-new-clause-named
returns-in_default-new-clause-named g c =
    let from = g.V.ValueLookup in
    done (not_yet from.store_state from.may_need from.crash_states c.args.from.now) refl (λ honest s kept. not_named (from.store_state c.args.from.now) s c.args.site.now c.args.key.now c.in_default-new.field-0 kept (sym c.new.ensures ∙ c.in_default-new.is))
