use Rattle.site_store.proofs.PinsKept.{no_store_pins}
use Rattle.site_store.proofs.disk_site.DiskSite.into_keeper.Goals as goal

pub returns-clause-unpinned : goal.returns-clause-unpinned
returns-clause-unpinned g c = no_store_pins (g.K.Keeper.store_state c.args.self.keeper) c.args.self.kept c.requires.unpinned
