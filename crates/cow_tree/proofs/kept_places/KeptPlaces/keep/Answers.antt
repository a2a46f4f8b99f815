use Rattle.cow_tree.proofs.kept_places.KeptPlaces.keep.Goals as goal

pub returns : goal.returns
returns c view kept here many = c.put.ensures view (c.make_room.ensures view kept) (c.places_of-kept.ensures.kept view here many)
