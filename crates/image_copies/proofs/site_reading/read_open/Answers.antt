use Rattle.std.proofs.Common.{◌≡◌, ◌≤◌, true, refl, sym, ap, subst, ◌∙◌, arith, IsTrue}
use Rattle.std.specs.Option.{is_some}
use Rattle.common_types.specs.CrashStates.{AddsNone, adds_none_again}
use Rattle.sector_device.specs.Device.{NothingCounted}
use Rattle.page_store.specs.Roots.{current}
use Rattle.page_store.specs.Steps.{crash_states_of}
use Rattle.cow_tree.specs.TreeSeen.{held, device_of, is_open}
use Rattle.site_store.specs.Represented.{RepresentedBy, site_kept, site_state_of}
use Rattle.site_store.specs.Seen.{seen_site}
use Rattle.image_commands.specs.Faults.{of_site, IsNotRead}
use Rattle.host_on_disk.specs.OpenFaults.{HandsBack}
use Rattle.image_copies.proofs.SitesRead.{shows_again, site_not_read, pairs_not_read}
use Rattle.page_store.specs.Pins.{none_out}
use Rattle.image_copies.proofs.site_reading.read_open.Goals as goal

pub read_keeper-requires : goal.read_keeper-requires
read_keeper-requires g c = record { usable = ap (λ k. is_open k) c.into_keeper-keeper.ensures.keeper ∙ c.figures.ensures.only.kept.usable ∙ c.requires.usable }

pub returns-in-Err-clause-refused : goal.returns-in-Err-clause-refused
returns-in-Err-clause-refused g c =
    let state = g.D.Device.state in
    let states = crash_states_of g.D.Device.moment g.D.Device.possible_since in
    let old = c.args.site in
    let now = c.figures.new.self in
    let kept = c.figures.ensures.only.kept in
    let back = c.into_device.ensures ∙ ap (λ k. device_of k) c.into_keeper.ensures.keeper in
    let refused : HandsBack IsNotRead state states old.keeper.device now.keeper.device (of_site c.in-Err.fault) = record {
      caused = site_not_read (state old.keeper.device) (state now.keeper.device) (site_state_of (held state old.keeper) old.kept) (site_state_of (held state now.keeper) now.kept) c.in-Err.fault refl refl refl kept.writes c.requires.usable c.requires.large c.in-Err.ensures.ended.fault;
      honest = kept.honest;
      no_new_crash_state = c.figures.ensures.only.no_new_crash_state;
    } in
    subst (λ d. HandsBack IsNotRead state states old.keeper.device d c.from.result) (sym back) (subst (λ f. HandsBack IsNotRead state states old.keeper.device now.keeper.device f) (sym c.from.ensures) refused)

pub returns-in-Ok-read_keeper-clause-read : goal.returns-in-Ok-read_keeper-clause-read
returns-in-Ok-read_keeper-clause-read g c = λ honest.
    let state = g.D.Device.state in
    let now = c.figures.new.self in
    let kept = c.figures.ensures.only.kept in
    let same = c.into_keeper-keeper.ensures.keeper in
    let still : IsTrue (held state now.keeper).honest = kept.honest ∙ honest in
    let shows = subst (λ k. RepresentedBy (held state k) (seen_site now)) (sym same) (site_kept (held state now.keeper) now.kept still) in
    let read = c.in-Ok-read_keeper.ensures in
    record {
      shows = shows_again (held state c.into_keeper-keeper.result) (seen_site now) (seen_site c.args.site) c.in-Ok-read_keeper.read.pairs.items c.in-Ok-read_keeper.read.banner shows (read.pairs (subst (λ k. IsTrue (held state k).honest) (sym same) still)) read.banner (kept.site honest);
      items = read.items ∙ c.in-Ok.ensures.figures.items honest;
    }

pub returns-in-Ok-read_keeper-clause-rooted : goal.returns-in-Ok-read_keeper-clause-rooted
returns-in-Ok-read_keeper-clause-rooted g c = λ honest.
    let state = g.D.Device.state in
    let kept = c.figures.ensures.only.kept in
    let same = c.into_keeper-keeper.ensures.keeper in
    let k = c.read_keeper.new.keeper in
    let read = c.in-Ok-read_keeper.ensures in
    let still : IsTrue (held state k).honest = read.reads.kept.honest ∙ ap (λ x. (held state x).honest) same ∙ kept.honest ∙ honest in
    let up : k.usable ≡ true = read.reads.kept.same.usable ∙ ap (λ x. is_open x) same ∙ kept.usable ∙ c.requires.usable in
    subst (λ d. is_some (current (state d).disk.view) ≡ true) (sym c.into_device-in-Ok-read_keeper.ensures) (ap (λ o. is_some o) (k.durable still up).current_is)

pub returns-in-Ok-read_keeper-clause-back : goal.returns-in-Ok-read_keeper-clause-back
returns-in-Ok-read_keeper-clause-back g c =
    record {
      counts =
          let state = g.D.Device.state in
          let same = c.into_keeper-keeper.ensures.keeper in
          let read = c.in-Ok-read_keeper.ensures in
          let old = c.args.site.keeper in
          let counted : NothingCounted (state old.device) (state c.read_keeper.new.keeper.device) = record {
            reads = read.reads.counts ∙ ap (λ x. (held state x).failed_reads) same ∙ c.in-Ok.ensures.ended.reads;
            writes = read.reads.kept.writes ∙ ap (λ x. (held state x).failed_writes) same ∙ c.figures.ensures.only.kept.writes;
          } in
          subst (λ d. NothingCounted (state old.device) (state d)) (sym c.into_device-in-Ok-read_keeper.ensures) counted;
      honest =
          let state = g.D.Device.state in
          ap (λ d. (state d).honest) c.into_device-in-Ok-read_keeper.ensures ∙ c.in-Ok-read_keeper.ensures.reads.kept.honest ∙ ap (λ x. (held state x).honest) c.into_keeper-keeper.ensures.keeper ∙ c.figures.ensures.only.kept.honest;
      at_crash = λ honest.
          let state = g.D.Device.state in
          let states = crash_states_of g.D.Device.moment g.D.Device.possible_since in
          let old = c.args.site.keeper in
          let now = c.figures.new.self.keeper in
          let same = c.into_keeper-keeper.ensures.keeper in
          let first : AddsNone (states old.device) (states c.into_keeper-keeper.result.device) = subst (λ k. AddsNone (states old.device) (states (device_of k))) (sym same) (c.figures.ensures.only.no_new_crash_state honest) in
          let still : IsTrue (held state c.into_keeper-keeper.result).honest = ap (λ x. (held state x).honest) same ∙ c.figures.ensures.only.kept.honest ∙ honest in
          subst (λ d. AddsNone (states old.device) (states d)) (sym c.into_device-in-Ok-read_keeper.ensures) (adds_none_again _ _ _ first (c.in-Ok-read_keeper.ensures.reads.at_crash still));
      large =
          let state = g.D.Device.state in
          let fitted = c.read_keeper.new.keeper.fitted in
          subst (λ d. 128 ≤ (state d).size) (sym c.into_device-in-Ok-read_keeper.ensures) (let least = fitted.least in let fits = fitted.fits in omega (arith, least, fits));
    }

pub returns-in-Err-read_keeper-clause-refused : goal.returns-in-Err-read_keeper-clause-refused
returns-in-Err-read_keeper-clause-refused g c =
    let state = g.D.Device.state in
    let states = crash_states_of g.D.Device.moment g.D.Device.possible_since in
    let old = c.args.site.keeper in
    let same = c.into_keeper-keeper.ensures.keeper in
    let first = c.into_keeper-keeper.result in
    let k = c.read_keeper.new.keeper in
    let read = c.in-Err-read_keeper.ensures in
    let kept = c.figures.ensures.only.kept in
    let honest_is : (held state first).honest ≡ (state old.device).honest = ap (λ x. (held state x).honest) same ∙ kept.honest in
    let crash : AddsNone (states old.device) (states first.device) → IsTrue (state old.device).honest → AddsNone (states old.device) (states k.device) = λ before honest. adds_none_again _ _ _ before (read.reads.at_crash (honest_is ∙ honest)) in
    let refused : HandsBack IsNotRead state states old.device k.device c.in-Err-read_keeper.fault = record {
      caused = pairs_not_read (state old.device) (state k.device) (held state first) (held state k) c.in-Err-read_keeper.fault honest_is (ap (λ x. (held state x).failed_reads) same ∙ c.in-Ok.ensures.ended.reads) refl (read.reads.kept.writes ∙ ap (λ x. (held state x).failed_writes) same ∙ kept.writes) c.requires.large read.reads.fault;
      honest = read.reads.kept.honest ∙ honest_is;
      no_new_crash_state = λ honest. crash (subst (λ x. AddsNone (states old.device) (states (device_of x))) (sym same) (c.figures.ensures.only.no_new_crash_state honest)) honest;
    } in
    subst (λ d. HandsBack IsNotRead state states old.device d c.in-Err-read_keeper.fault) (sym c.into_device-in-Err-read_keeper.ensures) refused

pub into_keeper-requires : goal.into_keeper-requires
into_keeper-requires g c = record { unpinned = c.figures.ensures.only.kept.pins ∙ c.requires.unpinned }

pub into_keeper-keeper-requires : goal.into_keeper-keeper-requires
into_keeper-keeper-requires g c = record { unpinned = c.figures.ensures.only.kept.pins ∙ c.requires.unpinned }

pub into_device-requires-in-Ok-read_keeper : goal.into_device-requires-in-Ok-read_keeper
into_device-requires-in-Ok-read_keeper g c =
    let state = g.D.Device.state in
    record { unpinned = none_out (held state c.into_keeper-keeper.result) (held state c.read_keeper.new.keeper) c.in-Ok-read_keeper.ensures.reads.kept.same.out c.into_keeper-keeper.ensures.unpinned }

pub into_device-requires-in-Err-read_keeper : goal.into_device-requires-in-Err-read_keeper
into_device-requires-in-Err-read_keeper g c =
    let state = g.D.Device.state in
    record { unpinned = none_out (held state c.into_keeper-keeper.result) (held state c.read_keeper.new.keeper) c.in-Err-read_keeper.ensures.reads.kept.same.out c.into_keeper-keeper.ensures.unpinned }
