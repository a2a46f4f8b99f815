-- Levels come slowly: the new levels of a tree took edits, seven times as many for each as for the one below.
use Rattle.std.proofs.Common.{◌≡◌, ◌⊎◌, inl, inr, ℕ, zero, suc, ◌+◌, ◌-◌, ◌^◌, ◌≤◌, ◌<◌, true, List, [], Option, Some, None, ap, arith}
use Rattle.std.specs.Prelude.{max}
use Rattle.std.proofs.lemmas.Bool.{cases_lt}
use Rattle.page_store.specs.Batch.{is_pair}
use Rattle.tree_nodes.specs.Tree.{Tree, OldPages}
use Rattle.tree_nodes.specs.Put.{Grown, one, two, put, rooted}
use Rattle.tree_nodes.specs.Delete.{delete}
use Rattle.tree_nodes.specs.Steps.{RootState, IsValidRoot, needed_under, grown_height, put_under, left_under, delete_under, read_under, where_needed, supply_step, stepped}
use Rattle.tree_nodes.specs.Growth.{edits_in, edits_for_levels, HasGrown, MayHaveGrown}
use Rattle.tree_nodes.proofs.ListsOfSteps.{everywhere}
use Rattle.tree_nodes.proofs.EditsStand.{PutPays, put_pays, LeftStands, delete_stands, supply_stays}

abbrev state_with : Option Tree → ℕ → RootState
state_with root height = record { root = root; height = height }

pub levels_start : (state : RootState) → MayHaveGrown state.height 0 state
levels_start state = inl (omega arith)

-- ---- a put

-- over a tree without new levels at most one comes
few_levels : (from edits height : ℕ) (g : Grown) → height ≤ max 1 from → MayHaveGrown from (edits + 1) (state_with (Some (rooted g)) (grown_height height g))
few_levels from edits height (one tree) few = inl few
few_levels from edits height (two tree key next) few = go (cases_lt (max 1 from) (suc height))
  where
    go : (max 1 from < suc height) ⊎ (suc height ≤ max 1 from) → MayHaveGrown from (edits + 1) (state_with (Some (rooted (two tree key next))) (suc height))
    go (inl lt) = inr (1, omega (arith, few, lt), (tt, (tt, tt)), omega arith)
    go (inr le) = inl le

-- a new root's edits are there
root_grown : (from edits height n before : ℕ) (g : Grown) → height ≡ n + max 1 from → edits_for_levels n + before ≤ edits → PutPays n before g → HasGrown from (edits + 1) (Some (rooted g)) (grown_height height g)
root_grown from edits height n before (one tree) is paid pays = (n, is, pays.0, (let more = pays.1 in omega (arith, paid, more)))
root_grown from edits height n before (two tree key next) is paid pays = (suc n, omega (arith, is), (pays.0.0, (pays.0.1, tt)), (let more = pays.1 in omega (arith, paid, more)))

put_levels : (old : OldPages) (from edits : ℕ) (root : Option Tree) (height : ℕ) (key value : List ℕ) → IsValidRoot old root height → is_pair (key, value) ≡ true → MayHaveGrown from edits (state_with root height) → MayHaveGrown from (edits + 1) (put_under key value root height)
put_levels old from edits None height key value v p m = inl (omega arith)
put_levels old from edits (Some tree) height key value v p (inl few) = few_levels from edits height (put key value tree) few
put_levels old from edits (Some tree) height key value v p (inr (n, is, are, paid)) =
    inr (root_grown from edits height n (edits_in n tree) (put key value tree) is paid (put_pays tree old v.0 n [] None key value v.2 (everywhere key) p are))

pub levels_put : (old : OldPages) (from edits : ℕ) (state : RootState) (key value : List ℕ) → IsValidRoot old state.root state.height → is_pair (key, value) ≡ true → MayHaveGrown from edits state → MayHaveGrown from (edits + 1) (put_under key value state.root state.height)
levels_put old from edits state key value v p m = put_levels old from edits state.root state.height key value v p m

-- ---- a delete

left_few : (from edits height : ℕ) (left : Option Tree) → height ≤ max 1 from → MayHaveGrown from edits (left_under left height)
left_few from edits height None few = inl (omega arith)
left_few from edits height (Some tree) few = inl few

left_grown : (from edits height n before : ℕ) (left : Option Tree) → height ≡ n + max 1 from → edits_for_levels n + before ≤ edits → LeftStands n before left → MayHaveGrown from (edits + 1) (left_under left height)
left_grown from edits height n before None is paid stands = inl (omega arith)
left_grown from edits height n before (Some tree) is paid stands = inr (n, is, stands.0, (let less = stands.1 in omega (arith, paid, less)))

delete_levels : (from edits : ℕ) (root : Option Tree) (height : ℕ) (key : List ℕ) → MayHaveGrown from edits (state_with root height) → MayHaveGrown from (edits + 1) (delete_under key root height)
delete_levels from edits None height key m = inl (omega arith)
delete_levels from edits (Some tree) height key (inl few) = left_few from (edits + 1) height (delete key tree) few
delete_levels from edits (Some tree) height key (inr (n, is, are, paid)) = left_grown from edits height n (edits_in n tree) (delete key tree) is paid (delete_stands tree n key are)

pub levels_delete : (from edits : ℕ) (state : RootState) (key : List ℕ) → MayHaveGrown from edits state → MayHaveGrown from (edits + 1) (delete_under key state.root state.height)
levels_delete from edits state key m = delete_levels from edits state.root state.height key m

-- ---- a supply

read_levels : (from edits : ℕ) (read root : Option Tree) (height : ℕ) (key : List ℕ) → MayHaveGrown from edits (state_with root height) → MayHaveGrown from edits (read_under key read root height)
read_levels from edits None root height key m = m
read_levels from edits (Some t) None height key m = m
read_levels from edits (Some t) (Some tree) height key (inl few) = inl few
read_levels from edits (Some t) (Some tree) height key (inr (n, is, are, paid)) = let stays = supply_stays tree n key t are in inr (n, is, stays.0, (let same = stays.1 in omega (arith, paid, same)))

needed_levels : (old : OldPages) (from edits : ℕ) (need : Option ℕ) (state : RootState) (key : List ℕ) → MayHaveGrown from edits state → MayHaveGrown from edits (where_needed old key need state)
needed_levels old from edits None state key m = m
needed_levels old from edits (Some n) state key m = read_levels from edits (old.opened _ n) state.root state.height key m

pub levels_supply : (old : OldPages) (from edits : ℕ) (state : RootState) (key : List ℕ) → MayHaveGrown from edits state → MayHaveGrown from edits (stepped old state (supply_step key))
levels_supply old from edits state key m = needed_levels old from edits (needed_under key state.root) state key m

-- ---- how many edits a deep tree had

last_or_before : (d n : ℕ) → (d < n → 7 ^ d ≤ edits_for_levels n) → (d < n) ⊎ (n ≤ d) → d < suc n → 7 ^ d ≤ edits_for_levels (suc n)
last_or_before d n before (inl less) lt = let some = before less in omega (arith, some)
last_or_before d n before (inr le) lt = let same = same_power d n (omega (arith, le, lt)) in omega (arith, same)
  where
    same_power : (a b : ℕ) → a ≡ b → 7 ^ a ≡ 7 ^ b
    same_power a b is = ap (λ (k : ℕ). 7 ^ k) is

last_level : (d n : ℕ) → d < n → 7 ^ d ≤ edits_for_levels n
last_level d zero lt = absurd (omega (arith, lt))
last_level d (suc n) lt = last_or_before d n (λ less. last_level d n less) (cases_lt d n) lt

no_power : (d all : ℕ) → d ≡ 0 → 0 < all → 7 ^ d ≤ all
no_power d all none some = let one_is = ap (λ (k : ℕ). 7 ^ k) none in omega (arith, one_is, some)

deep_root : (from edits all : ℕ) (root : Option Tree) (height : ℕ) → edits ≤ all → 0 < all → MayHaveGrown from edits (state_with root height) → 16 < height → 7 ^ (16 - max 1 from) ≤ all
deep_root from edits all root height le some (inl few) deep = no_power (16 - max 1 from) all (omega (arith, few, deep)) some
deep_root from edits all None height le some (inr grown) deep = absurd grown
deep_root from edits all (Some tree) height le some (inr (n, is, are, paid)) deep = go (cases_lt (16 - max 1 from) n)
  where
    go : (16 - max 1 from < n) ⊎ (n ≤ 16 - max 1 from) → 7 ^ (16 - max 1 from) ≤ all
    go (inl less) = let last = last_level (16 - max 1 from) n less in omega (arith, last, paid, le)
    go (inr few) = no_power (16 - max 1 from) all (omega (arith, is, deep, few)) some

pub levels_deep : (from edits all : ℕ) (state : RootState) → edits ≤ all → 0 < all → MayHaveGrown from edits state → 16 < state.height → 7 ^ (16 - max 1 from) ≤ all
levels_deep from edits all state le some m deep = deep_root from edits all state.root state.height le some m deep
