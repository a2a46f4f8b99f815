-- The order of keys, and bounds.
use Rattle.std.proofs.Common.{◌≡◌, ℕ, Bool, true, false, List, Option, Some, None, Ordering, refl, sym, ap, ◌∙◌, not, ◌&&◌}
use Rattle.std.specs.Ordering.{is_lt, ordering_reverse}
use Rattle.std.specs.declared.cmp.Ordering.TheVariants.{Less, Equal, Greater}
use Rattle.std.proofs.lemmas.Cmp.{nat_list_cmp_total, tied_itself, alike_right}
use Rattle.common_types.specs.ByteOrder.{byte_cmp}
use Rattle.page_store.specs.Keys.{precedes, is_below, is_between}
use Rattle.tree_nodes.specs.Valid.{IsUpTo}

pub both_true : (a b : Bool) → a && b ≡ true → (a ≡ true) × (b ≡ true)
both_true true b h = (refl, h)
both_true false b h = absurd cc

pub not_both : {G : Type 0} (b : Bool) → b ≡ true → b ≡ false → G
not_both b h k = absurd (cc (h, k))

pub by_bool : {G : Type 0} (b : Bool) → (b ≡ true → G) → (b ≡ false → G) → G
by_bool true f g = f refl
by_bool false f g = g refl

by_order : {G : Type 0} (o : Ordering) → (o ≡ Less → G) → (o ≡ Equal → G) → (o ≡ Greater → G) → G
by_order Less f g h = f refl
by_order Equal f g h = g refl
by_order Greater f g h = h refl

pub less_is : (a b : List ℕ) → precedes a b ≡ true → byte_cmp a b ≡ Less
less_is a b h = less (byte_cmp a b) h
  where
    less : (o : Ordering) → is_lt o ≡ true → o ≡ Less
    less Less h = refl
    less Equal h = absurd (cc h)
    less Greater h = absurd (cc h)

pub greater_is : (a b : List ℕ) → precedes a b ≡ true → byte_cmp b a ≡ Greater
greater_is a b h = nat_list_cmp_total.antisymm b a ∙ ap ordering_reverse (less_is a b h)

pub greater_gives : (a b : List ℕ) → byte_cmp a b ≡ Greater → precedes b a ≡ true
greater_gives a b e = ap is_lt (nat_list_cmp_total.antisymm b a ∙ ap ordering_reverse e)

pub below_below : (a b c : List ℕ) → precedes a b ≡ true → precedes b c ≡ true → precedes a c ≡ true
below_below a b c h k = ap is_lt (nat_list_cmp_total.trans a b c (less_is a b h) (less_is b c k))

pub itself : (a : List ℕ) → precedes a a ≡ false
itself a = ap is_lt (tied_itself nat_list_cmp_total a)

pub not_back : (a b : List ℕ) → precedes a b ≡ true → precedes b a ≡ false
not_back a b h = ap is_lt (greater_is a b h)

-- a ≤ b < c
pub upto_below : (a b c : List ℕ) → precedes b a ≡ false → precedes b c ≡ true → precedes a c ≡ true
upto_below a b c h k = by_order (byte_cmp a b) (λ l. below_below a b c (ap is_lt l) k) (λ e. ap is_lt (nat_list_cmp_total.congr a b c e) ∙ k) (λ g. not_both (precedes b a) (greater_gives a b g) h)

-- a < b ≤ c
pub below_upto : (a b c : List ℕ) → precedes a b ≡ true → precedes c b ≡ false → precedes a c ≡ true
below_upto a b c h k = by_order (byte_cmp b c) (λ l. below_below a b c h (ap is_lt l)) (λ e. ap is_lt (sym (alike_right nat_list_cmp_total b c a e)) ∙ h) (λ g. not_both (precedes c b) (greater_gives b c g) k)

-- a ≤ b ≤ c
pub upto_upto : (a b c : List ℕ) → precedes b a ≡ false → precedes c b ≡ false → precedes c a ≡ false
upto_upto a b c h k = by_bool (precedes c a) (λ l. not_both (precedes c b) (below_upto c a b l h) k) (λ e. e)

-- the two parts of a bound
pub between_parts : (low : List ℕ) (high : Option (List ℕ)) (key : List ℕ) → is_between low high key ≡ true → (precedes key low ≡ false) × (is_below high key ≡ true)
between_parts low high key h = go (precedes key low) (is_below high key) h
  where
    go : (a b : Bool) → not a && b ≡ true → (a ≡ false) × (b ≡ true)
    go true b h = absurd (cc h)
    go false b h = (refl, h)

pub between_from : (low : List ℕ) (high : Option (List ℕ)) (key : List ℕ) → precedes key low ≡ false → is_below high key ≡ true → is_between low high key ≡ true
between_from low high key h k = rw (h, k) refl

-- a bound that is no higher than a key below another bound
pub upto_key : (next : List ℕ) (high : Option (List ℕ)) → is_below high next ≡ true → IsUpTo (Some next) high
upto_key next None h key k = refl
upto_key next (Some high) h key k = below_below key next high k h

pub upto_itself : (high : Option (List ℕ)) → IsUpTo high high
upto_itself high key h = h

pub is_below_less : (high : Option (List ℕ)) (a b : List ℕ) → precedes b a ≡ false → is_below high b ≡ true → is_below high a ≡ true
is_below_less None a b h k = refl
is_below_less (Some high) a b h k = upto_below a b high h k

pub wider : (low lower : List ℕ) (high higher : Option (List ℕ)) (key : List ℕ) → precedes low lower ≡ false → IsUpTo high higher → is_between low high key ≡ true → is_between lower higher key ≡ true
wider low lower high higher key h k b =
    let p = between_parts low high key b in
    between_from lower higher key (upto_upto lower low key h p.0) (k key p.1)
