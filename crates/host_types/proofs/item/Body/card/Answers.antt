use Rattle.host_types.proofs.ShortViews.{each_short}
use Rattle.host_types.proofs.item.Body.card.Goals as goal

pub cards-requires : goal.cards-requires
cards-requires c = each_short c.args.self.now c.in-Views.kind c.in-Views.views c.in-Views.is c.requires
