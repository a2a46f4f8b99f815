-- Changes keep the rules of a site.
use Rattle.std.specs.Prelude.{◌≡◌, ℕ, ◌^◌, ◌<◌, ◌≤◌, Bool, List, nat_lt, ◌&&◌, Ok, IsTrue}
use Rattle.host_types.specs.Items.{is_selector, is_title, is_admin, is_host, is_typed_item}
use Rattle.host_types.specs.Site.{Site, IsSite, fresh_site}
use Rattle.host_types.specs.Change.{apply}
use Rattle.host_types.specs.declared.change.Change.{Change}
use Rattle.host_types.specs.declared.change.Change.TheVariants.{Put, Remove, Move, SetHost, SetAdmin, Post}

-- a value of the program: each name is valid as its type says, and each number fits
abbrev pub is_typed_change : Change → Bool
is_typed_change (Put selector item) = is_selector selector && is_typed_item item
is_typed_change (Remove selector) = is_selector selector
is_typed_change (Move from to) = is_selector from && is_selector to
is_typed_change (SetHost host port) = is_host host && nat_lt port (2 ^ 16)
is_typed_change (SetAdmin admin) = is_admin admin
is_typed_change (Post board title text) = is_selector board && is_title title

-- What a change makes of a site is a site.
abbrev pub ChangesKeepSites : Type 0
ChangesKeepSites = (s t : Site) (change : Change) (now : ℕ) → IsSite s → IsTrue (is_typed_change change) → now ≤ 253402300799 → apply s change now ≡ Ok t → IsSite t

-- A fresh site is a site.
abbrev pub FreshSites : Type 0
FreshSites = (host : List ℕ) (port : ℕ) (admin title : List ℕ) (stamp : ℕ) → IsTrue (is_host host) → 0 < port → port < 2 ^ 16 → IsTrue (is_admin admin) → IsTrue (is_title title) → stamp ≤ 253402300799
    → IsSite (fresh_site host port admin title stamp)
