-- What is left of a disk where, of the writes since the last sync, those were done that are picked by their places.
use Rattle.std.specs.Prelude.{ℕ, ◌+◌, ◌==◌, Bool, List, [], ◌∷◌, if◌then◌else◌, slice_set}
use Rattle.std.specs.List.{list_any}
use Rattle.sector_device.specs.Disk.{Disk}

abbrev pub is_picked : List ℕ → ℕ → Bool
is_picked picks place = list_any (λ p. p == place) picks

-- the sectors after these writes, one after another
abbrev pub done : List (ℕ × List ℕ) → List (List ℕ) → List (List ℕ)
done [] sectors = sectors
done (w ∷ writes) sectors = done writes (slice_set sectors w.0 w.1)

-- The sectors after those of these writes, one after another, whose places are picked. The first write has the given place.
abbrev pub done_where : List ℕ → ℕ → List (ℕ × List ℕ) → List (List ℕ) → List (List ℕ)
done_where picks place [] sectors = sectors
done_where picks place (w ∷ writes) sectors = done_where picks (place + 1) writes (if is_picked picks place then slice_set sectors w.0 w.1 else sectors)

-- The base with those listed writes done, in the order in which they were made, whose places, counted from 0, are picked. A place outside the list picks nothing.
abbrev pub after_stop : List ℕ → Disk → List (List ℕ)
after_stop picks disk = done_where picks 0 disk.writes disk.base
