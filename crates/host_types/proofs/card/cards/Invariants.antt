use Rattle.std.proofs.Common.{◌≡◌, map, take}
use Rattle.host_types.specs.Card.{card_view}
use Rattle.host_types.proofs.card.cards.Given as goal

abbrev pub invariant-loop-view : goal.invariant-loop-view
invariant-loop-view l = l.cards ≡ map card_view (take l.view-index l.fn.views)
