use Rattle.std.proofs.Common.{refl, inr, sym, subst, ap, ◌∙◌, IsTrue}
use Rattle.cow_tree.specs.TreeSeen.{device_of}
use Rattle.page_store.specs.Steps.{crash_states_of}
use Rattle.site_store.specs.Seen.{keeper_of, seen_site}
use Rattle.host_on_disk.proofs.Images.{valid_site}
use Rattle.host_on_disk.proofs.Openings.{no_memory}
use Rattle.host_on_disk.proofs.Runs.{ran_on}
use Rattle.image_server.proofs.OtherRuns.{run_too}
use Rattle.image_server.proofs.Places.{place_of}
use Rattle.std.specs.Prelude.{None, true}
use Rattle.image_server.proofs.serving.serve_image.Goals as goal

pub returns-in-Ok-serve_over-clause-served : goal.returns-in-Ok-serve_over-clause-served
returns-in-Ok-serve_over-clause-served g c =
    let state = g.D.Device.state in
    let opened = c.in-Ok.ensures.opened in
    let back = c.into_device-in-Ok-serve_over.ensures ∙ ap (λ k. device_of k) c.into_keeper-in-Ok-serve_over.ensures.keeper in
    record {
      run = run_too _ _ _ _ c.args.device c.into_device-in-Ok-serve_over.result
          (λ events outcomes over. ran_on g.D.Device.state (λ d. device_of (keeper_of d)) _ _ (crash_states_of g.D.Device.moment g.D.Device.possible_since) (λ d. refl) c.args.device c.into_device-in-Ok-serve_over.result c.in-Ok.site c.in-Ok-serve_over.site true 1 events outcomes
          (record { shows = c.in-Ok.ensures.site; alone = c.in-Ok.ensures.alone; counted = opened.counts; usable = opened.usable; no_new_crash_state = opened.at_crash; honest = opened.honest }) over back)
          _ _ _ _
          (λ events outcomes serves. record {
            opened = c.in-Ok.site;
            closed = c.in-Ok-serve_over.site;
            shows = c.in-Ok.ensures.site;
            taken = c.serve_over.new.gate.taken.calls;
            serves = rw (← c.in-Ok-listen.ensures.untaken) serves;
            handed = back;
          })
          c.in-Ok-serve_over.ensures.served.run;
    }

pub returns-clause-refused : goal.returns-clause-refused
returns-clause-refused g c =
    let state = g.D.Device.state in
    let opened = c.in-Ok.ensures.opened in
    let same = c.in-Err-serve_over.ensures.err in
    let back = c.into_device-in-Err-serve_over.ensures ∙ ap (λ k. device_of k) (c.into_keeper-in-Err-serve_over.ensures.keeper ∙ ap (λ d. keeper_of d) same.1) in
    record {
      caused = rw (same.0, back) (no_memory (state c.args.device) (state c.in-Ok.site.keeper.device) (seen_site c.in-Ok.site) opened.large opened.counts c.in-Ok.ensures.site);
      honest = rw back opened.honest;
      no_new_crash_state = rw back opened.at_crash;
    }

pub returns-in-Err-listen-clause-asked : goal.returns-in-Err-listen-clause-asked
returns-in-Err-listen-clause-asked g c =
    let opened = c.in-Ok.ensures.opened in
    let place = place_of (g.D.Device.state c.args.device) None c.given_or_own-at.result c.given_or_own.inside.port (seen_site c.in-Ok.site) c.given_or_own-at.ensures c.in-Ok.ensures.site
    (λ honest. ap (λ a. a.port) (c.given_or_own.view_is) ∙ ap (λ a. a.port) (c.front.ensures (subst IsTrue (sym opened.honest) honest))) in
    (place, c.in-Err-listen.ensures.asked)

pub returns-clause-asked : goal.returns-clause-asked
returns-clause-asked g c =
    let opened = c.in-Ok.ensures.opened in
    let place = place_of (g.D.Device.state c.args.device) None c.given_or_own-at.result c.given_or_own.inside.port (seen_site c.in-Ok.site) c.given_or_own-at.ensures c.in-Ok.ensures.site
    (λ honest. ap (λ a. a.port) (c.given_or_own.view_is) ∙ ap (λ a. a.port) (c.front.ensures (subst IsTrue (sym opened.honest) honest))) in
    rw c.in-Err-serve_over.ensures.err.0 (inr (c.given_or_own-at.result, place, c.in-Ok-listen.ensures.asked))

pub returns-in-Ok-serve_over-clause-listened : goal.returns-in-Ok-serve_over-clause-listened
returns-in-Ok-serve_over-clause-listened g c =
    let opened = c.in-Ok.ensures.opened in
    let place = place_of (g.D.Device.state c.args.device) None c.given_or_own-at.result c.given_or_own.inside.port (seen_site c.in-Ok.site) c.given_or_own-at.ensures c.in-Ok.ensures.site
    (λ honest. ap (λ a. a.port) (c.given_or_own.view_is) ∙ ap (λ a. a.port) (c.front.ensures (subst IsTrue (sym opened.honest) honest))) in
    (c.given_or_own-at.result, place, c.in-Ok-listen.ensures.asked)

pub serve_over-requires-clause-valid : goal.serve_over-requires-clause-valid
serve_over-requires-clause-valid g c = λ honest. valid_site _ _ (c.in-Ok.ensures.site (sym c.in-Ok.ensures.opened.honest ∙ honest))
