use Rattle.cow_tree.proofs.kept_places.KeptPlaces.make_room.Goals as goal

pub returns-then-is_empty : goal.returns-then-is_empty
returns-then-is_empty c = λ view kept. c.clear.ensures view
