-- Pairs put in order from the last one on.
use Rattle.std.proofs.Common.{◌≡◌, ℕ, List, [], ◌∷◌, ◌++◌, refl, ap}
use Rattle.std.specs.BTreeMap.{insert_entry}
use Rattle.host_types.specs.Site.{byte_cmp}
use Rattle.site_records.specs.Layout.{Pairs, in_order}
use Rattle.site_pairs.specs.PairsInOrder.{onto}

pub onto_last : (ps : Pairs) (key value : List ℕ) (all : Pairs) → onto (ps ++ (key, value) ∷ []) all ≡ onto ps (insert_entry byte_cmp all key value)
onto_last [] key value all = refl
onto_last (p ∷ ps) key value all = ap (λ (l : Pairs). insert_entry byte_cmp l p.0 p.1) (onto_last ps key value all)

pub onto_none : (ps : Pairs) → onto ps [] ≡ in_order ps
onto_none [] = refl
onto_none (p ∷ ps) = ap (λ (l : Pairs). insert_entry byte_cmp l p.0 p.1) (onto_none ps)
