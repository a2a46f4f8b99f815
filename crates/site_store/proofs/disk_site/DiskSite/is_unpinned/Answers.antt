use Rattle.site_store.proofs.PinsKept.{no_site_pins, no_store_pins}
use Rattle.site_store.proofs.disk_site.DiskSite.is_unpinned.Goals as goal

pub returns : goal.returns
returns g c =
    let d = c.args.self.now in
    let h = g.K.Keeper.store_state d.keeper in
    (λ yes. no_site_pins h d.kept (c.is_unpinned.ensures.0 yes), λ none. c.is_unpinned.ensures.1 (no_store_pins h d.kept none))
