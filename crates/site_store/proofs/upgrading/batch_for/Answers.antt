use Rattle.std.proofs.Common.{rules}
use Rattle.site_store.proofs.Upgrades.{not_raised, not_shown, upgrade_found, batch_found}
use Rattle.site_store.proofs.upgrading.batch_for.Goals as goal

pub returns-in_err-raised-clause-fault : goal.returns-in_err-raised-clause-fault
returns-in_err-raised-clause-fault c = search (rules, c.from_residual.ensures, not_raised c.in_err-raised.field-0.0 c.args.pairs.items c.args.banner.now c.in_err-raised.ensures.fault)

pub returns-in_err-check_pairs-clause-fault : goal.returns-in_err-check_pairs-clause-fault
returns-in_err-check_pairs-clause-fault c =
    search (rules, c.from_residual-in_err-check_pairs.ensures, not_shown c.in_err-check_pairs.field-0.0 c.args.pairs.items c.in_ok-raised.raised.items c.deref.result.now c.args.banner.now c.in_ok-under.under c.in_ok-raised.ensures.raised c.deref.ensures.value c.in_ok-under.ensures c.in_err-check_pairs.ensures.fault)

pub returns-clause-upgrade : goal.returns-clause-upgrade
returns-clause-upgrade c =
    upgrade_found c.args.pairs.items c.in_ok-raised.raised.items c.deref.result.now c.deref-2.result.now c.args.banner.now c.in_ok-under.under c.in_ok-record_edits.field-0.items
    c.requires.version c.in_ok-raised.ensures.raised c.deref.ensures.value c.deref-2.ensures.value c.in_ok-under.ensures c.in_ok-check_pairs.ensures.site c.in_ok-record_edits.ensures.edits

pub returns-clause-sizes : goal.returns-clause-sizes
returns-clause-sizes c =
    batch_found c.in_ok-raised.raised.items c.deref.result.now c.deref-2.result.now c.args.banner.now c.in_ok-under.under c.in_ok-record_edits.field-0.items
    c.deref.ensures.value c.deref-2.ensures.value c.in_ok-under.ensures c.in_ok-check_pairs.ensures.site c.in_ok-record_edits.ensures.edits c.in_ok-record_edits.ensures.sizes
