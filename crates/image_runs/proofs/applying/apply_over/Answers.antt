use Rattle.std.proofs.Common.{◌≡◌, true, ◌∙◌, sym, subst}
use Rattle.std.specs.Prelude.{IsTrue}
use Rattle.host_types.specs.CrashStates.{may_crash_to}
use Rattle.image_runs.proofs.Made.{all_made, before_made}
use Rattle.image_runs.proofs.applying.apply_over.Goals as goal

pub returns-clause-applied : goal.returns-clause-applied
returns-clause-applied g c = λ honest.
    let s = g.S.SiteKeeper in
    let new = c.apply_changes-applied.new.site in
    let still : IsTrue (s.site_state new).honest = subst IsTrue (sym c.apply_changes-applied.ensures.tried.tried.honest) honest in
    let sure : (s.site_state new).usable ≡ true → (left : _) → may_crash_to (s.crash_states new) left → s.represents left (s.site_state new).site = λ usable left may. g.met.S.SiteKeeper.crash_states_represent new left still usable may in
    record {
      all = all_made s.represents (s.crash_states new) (s.site_state c.args.site).site (s.site_state new).site c.args.changes.items c.args.now _ c.apply_changes-applied.result (c.apply_changes-applied.ensures.done.done honest) c.apply_changes-applied.ensures.done.usable
          (λ same. sure (same ∙ c.requires));
      before = before_made s.site_state s.lacks s.represents (s.crash_states new) c.args.site new c.args.changes.items c.args.now c.apply_changes-applied.result c.requires c.apply_changes-applied.ensures.stopped.stopped (c.apply_changes-applied.ensures.stopped.kept honest) sure;
      at_crash = c.apply_changes-applied.ensures.at_crash.at_crash honest c.requires;
    }
