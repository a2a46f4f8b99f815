-- The pins that sessions hold, and those that are out.
use Rattle.std.specs.Prelude.{◌≡◌, ◌<◌, ◌≤◌, ◌+◌, ◌==◌, ℕ, Bool, true, false, List, [], ◌∷◌, ◌++◌, length, Option, None, Some, IsTrue, if◌then◌else◌}
use Rattle.std.proofs.Props.{props}
use Rattle.host_types.specs.SiteState.{SiteState, numbers_out}
use Rattle.host_types.specs.Pins.{Pinned, Copied, Numbered, most_pins, is_among, is_out, pinned_items}
use Rattle.host_types.specs.CrashStates.{CrashStates, AddsNone}
use Rattle.group_world.specs.World.{Phase, Heard, Waits, Reply, Early}

abbrev pub one_if : Bool → ℕ
one_if b = if b then 1 else 0

-- how often a number is among some pins
abbrev pub times : ℕ → List Pinned → ℕ
times n [] = 0
times n (Copied items ∷ pins) = times n pins
times n (Numbered m ∷ pins) = one_if (n == m) + times n pins

-- how many of some pins have numbers
abbrev pub count_numbered : List Pinned → ℕ
count_numbered [] = 0
count_numbered (Copied items ∷ pins) = count_numbered pins
count_numbered (Numbered n ∷ pins) = 1 + count_numbered pins

-- These pins are those that are out: each number that is out is held once, and no other is held.
pub record HoldsAll (h : SiteState) (pins : List Pinned) : Type 0 where
  pub once : (n : ℕ) → times n pins ≡ one_if (is_among n (numbers_out h))
  pub count : count_numbered pins ≡ length h.pins

-- The keeper is usable, and one more pin may be taken.
pub record MayPin (h : SiteState) : Type 0 where
  pub usable : h.usable ≡ true
  pub room : length h.pins < most_pins

-- These pins are out beside some others, which are all others.
pub record HoldsBeside (h : SiteState) (pins : List Pinned) : Type 0 where
  pub others : List Pinned
  pub held : HoldsAll h (pins ++ others)

-- the pin that a session holds, where it holds one
abbrev pub listed : Option Pinned → List Pinned
listed None = []
listed (Some pin) = pin ∷ []

-- Two pins don't have one number.
abbrev pub PinsAreApart : Option Pinned → Pinned → Type 0
PinsAreApart (Some (Numbered n)) (Numbered m) = n ≡ m → ⊥
PinsAreApart (Some (Numbered n)) (Copied items) = Unit {0}
PinsAreApart (Some (Copied items)) pin = Unit {0}
PinsAreApart None pin = Unit {0}

-- A session that held one pin, or none, holds another, or none: all other pins that are out keep what they kept, and what is out is held as before.
pub record MovesPins (old new : SiteState) (held now : Option Pinned) : Type 0 where
  pub stay : (pin : Pinned) → IsTrue (is_out old pin) → PinsAreApart held pin → pinned_items new pin ≡ pinned_items old pin
  pub all : (others : List Pinned) → HoldsAll old (listed held ++ others) → HoldsAll new (listed now ++ others)

-- A pin may have been given back, and nothing else has changed.
pub record MayGiveBack (old new : SiteState) : Type 0 where
  pub same : new ≡ record old { pins = new.pins; free = new.free }
  pub free : old.free ≤ new.free

-- Sessions have ended: all pins of their keeper are given back, and nothing else has changed. Nothing was written, and no time has passed.
pub record IsClosed {S L : Type 0} (site_state : S → SiteState) (crash_states : S → CrashStates L) (old new : S) : Type 0 where
  pub unpinned : (site_state new).pins ≡ []
  pub keeper : MayGiveBack (site_state old) (site_state new)
  pub no_new_crash_state : IsTrue (site_state old).honest → AddsNone (crash_states old) (crash_states new)
  pub moment : (crash_states new).moment ≡ (crash_states old).moment

abbrev pub has_more : Phase → Bool
has_more (Heard stream) = false
has_more (Waits request now) = false
has_more (Reply []) = false
has_more (Reply (b ∷ rest)) = true
has_more Early = false

-- how many sessions have bytes left to draw
abbrev pub count_replying : List (ℕ × Phase) → ℕ
count_replying [] = 0
count_replying (s ∷ sessions) = one_if (has_more s.1) + count_replying sessions

-- At most so many pins are out as sessions have bytes left to draw.
abbrev pub HoldsForReplies : SiteState → List (ℕ × Phase) → Type 0
HoldsForReplies h sessions = IsTrue h.honest → length h.pins ≤ count_replying sessions

-- ---- what is held is known or not

pub HoldsAll-prop : (h : SiteState) (pins : List Pinned) → IsProp (HoldsAll h pins)
HoldsAll-prop h pins x y = λ i. record { once = λ n. once_prop n (x.once n) (y.once n) i; count = count_prop x.count y.count i }
  where
    once_prop : (n : ℕ) → IsProp (times n pins ≡ one_if (is_among n (numbers_out h)))
    once_prop n = hlevel props

    count_prop : IsProp (count_numbered pins ≡ length h.pins)
    count_prop = hlevel props
