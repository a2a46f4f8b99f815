use Rattle.std.proofs.Common.{inl, inr, sym, subst, ◌∙◌, refl, arith}
use Rattle.common_types.specs.CrashStates.{adds_none_again}
use Rattle.page_store.specs.Steps.{crash_states_of}
use Rattle.site_store.specs.Seen.{seen_site}
use Rattle.host_on_disk.specs.OpenFaults.{HandsBack}
use Rattle.image_commands.specs.Faults.{IsReadingFault}
use Rattle.image_copies.proofs.Plans.{read_since, counted_since}
use Rattle.image_copies.proofs.site_reading.read_image.Goals as goal

pub returns-in-Err-clause-refused : goal.returns-in-Err-clause-refused
returns-in-Err-clause-refused g c =
    let refused = c.in-Err.ensures.refused in
    subst (λ f. HandsBack IsReadingFault g.D.Device.state (crash_states_of g.D.Device.moment g.D.Device.possible_since) c.args.device c.in-Err.device f) (sym c.from.ensures)
    (record { caused = inl (c.in-Err.fault, refl, refused.caused); honest = refused.honest; no_new_crash_state = refused.no_new_crash_state })

pub returns-in-Ok-read_open-clause-read : goal.returns-in-Ok-read_open-clause-read
returns-in-Ok-read_open-clause-read g c = λ honest.
    let opened = c.in-Ok.ensures.opened in
    record { site = seen_site c.in-Ok.site; stands = c.in-Ok.ensures.site honest; alone = c.in-Ok.ensures.alone honest; read_is = c.in-Ok-read_open.ensures.read (opened.honest ∙ honest) }

pub returns-in-Ok-read_open-clause-rooted : goal.returns-in-Ok-read_open-clause-rooted
returns-in-Ok-read_open-clause-rooted g c = λ honest. c.in-Ok-read_open.ensures.rooted (c.in-Ok.ensures.opened.honest ∙ honest)

pub returns-in-Ok-read_open-clause-counts : goal.returns-in-Ok-read_open-clause-counts
returns-in-Ok-read_open-clause-counts g c = counted_since _ _ _ c.in-Ok.ensures.opened.counts c.in-Ok-read_open.ensures.back.counts

pub returns-in-Ok-read_open-clause-honest : goal.returns-in-Ok-read_open-clause-honest
returns-in-Ok-read_open-clause-honest g c = c.in-Ok-read_open.ensures.back.honest ∙ c.in-Ok.ensures.opened.honest

pub returns-in-Ok-read_open-clause-at_crash : goal.returns-in-Ok-read_open-clause-at_crash
returns-in-Ok-read_open-clause-at_crash g c = λ honest. adds_none_again _ _ _ (c.in-Ok.ensures.opened.at_crash honest) (c.in-Ok-read_open.ensures.back.at_crash (c.in-Ok.ensures.opened.honest ∙ honest))

pub returns-in-Ok-read_open-clause-large : goal.returns-in-Ok-read_open-clause-large
returns-in-Ok-read_open-clause-large g c = (c.in-Ok.ensures.opened.large, c.in-Ok-read_open.ensures.back.large)

pub returns-in-Err-read_open-clause-refused : goal.returns-in-Err-read_open-clause-refused
returns-in-Err-read_open-clause-refused g c =
    let state = g.D.Device.state in
    let opened = c.in-Ok.ensures.opened in
    let refused = c.in-Err-read_open.ensures.refused in
    let mid = c.in-Ok.site.keeper.device in
    record {
      caused = inr (read_since (state c.args.device) (state mid) (state c.in-Err-read_open.device) c.in-Err-read_open.fault opened.counts opened.honest opened.large refused.caused);
      honest = refused.honest ∙ opened.honest;
      no_new_crash_state = λ honest. adds_none_again _ _ _ (opened.at_crash honest) (refused.no_new_crash_state (opened.honest ∙ honest));
    }

pub read_open-requires-clause-large : goal.read_open-requires-clause-large
read_open-requires-clause-large g c = let fitted = c.in-Ok.site.keeper.fitted in let least = fitted.least in let fits = fitted.fits in omega (arith, least, fits)
