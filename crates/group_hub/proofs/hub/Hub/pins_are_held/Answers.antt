use Rattle.group_hub.proofs.SessionsHeld.{holds_for_replies}
use Rattle.group_hub.proofs.hub.Hub.pins_are_held.Goals as goal

pub returns : goal.returns
returns g c = holds_for_replies g.S.SiteKeeper.pinned (g.S.SiteKeeper.site_state c.args.self.now.site) c.args.self.now.sessions.items c.args.self.now.held c.args.self.now.sound
