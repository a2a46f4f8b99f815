-- How pairs are put in order.
use Rattle.std.specs.Prelude.{[], ◌∷◌}
use Rattle.std.specs.BTreeMap.{insert_entry}
use Rattle.host_types.specs.Site.{byte_cmp}
use Rattle.site_records.specs.Layout.{Pairs}

-- some pairs put onto others in order, the last first
abbrev pub onto : Pairs → Pairs → Pairs
onto [] all = all
onto (p ∷ ps) all = insert_entry byte_cmp (onto ps all) p.0 p.1
