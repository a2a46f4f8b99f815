use Rattle.std.proofs.Common.{refl, inl, inr, sym, subst, ap, ◌∙◌, IsTrue}
use Rattle.std.proofs.lemmas.List.{append-nil}
use Rattle.std.specs.Prelude.{true}
use Rattle.cow_tree.specs.TreeSeen.{device_of}
use Rattle.page_store.specs.Steps.{crash_states_of}
use Rattle.site_store.specs.Seen.{keeper_of, seen_site}
use Rattle.host_on_disk.proofs.Images.{valid_site}
use Rattle.host_on_disk.proofs.Openings.{no_memory}
use Rattle.host_on_disk.proofs.Runs.{ran_on}
use Rattle.image_server.specs.DailyServing.{IsGivenOrOwn}
use Rattle.image_server.proofs.OtherRuns.{run_too}
use Rattle.image_server.proofs.Places.{place_of}
use Rattle.image_server.proofs.daily_serving.serve_clients.Goals as goal

pub returns-in-Ok-serve_clients_over-clause-served : goal.returns-in-Ok-serve_clients_over-clause-served
returns-in-Ok-serve_clients_over-clause-served g c =
    let state = g.D.Device.state in
    let opened = c.in-Ok.ensures.opened in
    let back = c.into_device-in-Ok-serve_clients_over.ensures ∙ ap (λ k. device_of k) c.into_keeper-in-Ok-serve_clients_over.ensures.keeper in
    run_too _ _ _ _ c.args.device c.into_device-in-Ok-serve_clients_over.result
    (λ events outcomes over. ran_on g.D.Device.state (λ d. device_of (keeper_of d)) _ _ (crash_states_of g.D.Device.moment g.D.Device.possible_since) (λ d. refl) c.args.device c.into_device-in-Ok-serve_clients_over.result c.in-Ok.site c.in-Ok-serve_clients_over.site true 1 events outcomes
    (record { shows = c.in-Ok.ensures.site; alone = c.in-Ok.ensures.alone; counted = opened.counts; usable = opened.usable; no_new_crash_state = opened.at_crash; honest = opened.honest }) over back)
    _ _ _ _
    (λ events outcomes served. record {
      opened = c.in-Ok.site;
      closed = c.in-Ok-serve_clients_over.site;
      shows = c.in-Ok.ensures.site;
      front = c.front-front.result;
      named = λ honest. c.front-front.ensures (subst IsTrue (sym opened.honest) honest);
      at = c.given_or_own-at.result;
      place = subst (λ p. IsGivenOrOwn c.args.address p c.given_or_own-at.result) (ap (λ a. a.port) c.front.view_is) c.given_or_own-at.ensures;
      told = c.tell_start.new.log;
      start = c.tell_start.ensures;
      first = c.in-Ok-open.service;
      last = c.serve_clients_over.new.service;
      fresh = c.in-Ok-open.ensures.fresh;
      served = served;
      handed = back;
    })
    c.in-Ok-serve_clients_over.ensures.served

pub returns-clause-refused : goal.returns-clause-refused
returns-clause-refused g c =
    let state = g.D.Device.state in
    let opened = c.in-Ok.ensures.opened in
    let same = c.in-Err-serve_clients_over.ensures.err in
    let back = c.into_device-in-Err-serve_clients_over.ensures ∙ ap (λ k. device_of k) (c.into_keeper-in-Err-serve_clients_over.ensures.keeper ∙ ap (λ d. keeper_of d) same.1) in
    record {
      caused = rw (same.0, back) (no_memory (state c.args.device) (state c.in-Ok.site.keeper.device) (seen_site c.in-Ok.site) opened.large opened.counts c.in-Ok.ensures.site);
      honest = rw back opened.honest;
      no_new_crash_state = rw back opened.at_crash;
    }

pub returns-in-Err-Memory-clause-refused : goal.returns-in-Err-Memory-clause-refused
returns-in-Err-Memory-clause-refused g c =
    let state = g.D.Device.state in
    let opened = c.in-Ok.ensures.opened in
    let back = c.into_device.ensures ∙ ap (λ k. device_of k) c.into_keeper.ensures.keeper in
    record {
      caused = rw back (no_memory (state c.args.device) (state c.in-Ok.site.keeper.device) (seen_site c.in-Ok.site) opened.large opened.counts c.in-Ok.ensures.site);
      honest = rw back opened.honest;
      no_new_crash_state = rw back opened.at_crash;
    }

pub returns-in-Err-Net-clause-asked : goal.returns-in-Err-Net-clause-asked
returns-in-Err-Net-clause-asked g c =
    let opened = c.in-Ok.ensures.opened in
    let place = place_of (g.D.Device.state c.args.device) c.args.address c.given_or_own-at.result c.front.inside.port (seen_site c.in-Ok.site) c.given_or_own-at.ensures c.in-Ok.ensures.site
    (λ honest. ap (λ a. a.port) (c.front.view_is) ∙ ap (λ a. a.port) (c.front-front.ensures (subst IsTrue (sym opened.honest) honest))) in
    rw c.in-Err-Net.field-0-is (place, rw c.in-Err-Net.field-0-is at c.in-Err-Net.ensures.asked)

pub returns-in-Err-Memory-clause-asked : goal.returns-in-Err-Memory-clause-asked
returns-in-Err-Memory-clause-asked g c = inl ((rw c.in-Err-Memory.field-0-is at c.in-Err-Memory.ensures.asked) ∙ append-nil c.args.asked.now.calls)

pub returns-clause-asked : goal.returns-clause-asked
returns-clause-asked g c =
    let opened = c.in-Ok.ensures.opened in
    let place = place_of (g.D.Device.state c.args.device) c.args.address c.given_or_own-at.result c.front.inside.port (seen_site c.in-Ok.site) c.given_or_own-at.ensures c.in-Ok.ensures.site
    (λ honest. ap (λ a. a.port) (c.front.view_is) ∙ ap (λ a. a.port) (c.front-front.ensures (subst IsTrue (sym opened.honest) honest))) in
    rw c.in-Err-serve_clients_over.ensures.err.0 (inr (c.given_or_own-at.result, place, c.in-Ok-open.ensures.asked))

pub returns-in-Ok-serve_clients_over-clause-listened : goal.returns-in-Ok-serve_clients_over-clause-listened
returns-in-Ok-serve_clients_over-clause-listened g c =
    let opened = c.in-Ok.ensures.opened in
    let place = place_of (g.D.Device.state c.args.device) c.args.address c.given_or_own-at.result c.front.inside.port (seen_site c.in-Ok.site) c.given_or_own-at.ensures c.in-Ok.ensures.site
    (λ honest. ap (λ a. a.port) (c.front.view_is) ∙ ap (λ a. a.port) (c.front-front.ensures (subst IsTrue (sym opened.honest) honest))) in
    (c.given_or_own-at.result, place, c.in-Ok-open.ensures.asked)

pub serve_clients_over-requires-clause-valid : goal.serve_clients_over-requires-clause-valid
serve_clients_over-requires-clause-valid g c = λ honest. valid_site _ _ (c.in-Ok.ensures.site (sym c.in-Ok.ensures.opened.honest ∙ honest))
