-- One session's pin comes or goes, and all others keep theirs.
use Rattle.std.proofs.Common.{◌≡◌, ◌≤◌, ◌+◌, ℕ, Bool, true, false, not, List, [], ◌∷◌, ◌++◌, length, refl, sym, ap, subst, ◌∙◌, arith, eqb-true, eq-eqb}
use Rattle.std.specs.Prelude.{◌==◌, ◌||◌, ◌&&◌, Option, Some, None, IsTrue}
use Rattle.std.specs.Map.{lookup}
use Rattle.host_types.specs.Site.{Items}
use Rattle.host_types.specs.SiteState.{SiteState, numbers_out}
use Rattle.host_types.specs.Pins.{Pinned, Copied, Numbered, is_among, is_out, items_or_none, pinned_items, IsPinned, IsUnpinned}
use Rattle.group_hub.specs.HeldPins.{one_if, times, count_numbered, HoldsAll, listed, PinsAreApart, MovesPins, MayGiveBack}

-- ---- a keeper whose pins stay

holds_still : (a b : SiteState) (pins : List Pinned) → b.pins ≡ a.pins → HoldsAll a pins → HoldsAll b pins
holds_still a b pins same holds = record {
  once = λ n. holds.once n ∙ ap (λ (p : List (ℕ × Items)). one_if (is_among n (numbers_out (record a { pins = p })))) (sym same);
  count = holds.count ∙ ap (λ (p : List (ℕ × Items)). length p) (sym same);
}

pub kept_still : (a b : SiteState) (pin : Pinned) → b.pins ≡ a.pins → pinned_items b pin ≡ pinned_items a pin
kept_still a b (Copied items) same = refl
kept_still a b (Numbered n) same = ap (λ (p : List (ℕ × Items)). items_or_none (lookup (λ (m : ℕ). m == n) p)) same

pub none_moves : (a b : SiteState) (held : Option Pinned) → b.pins ≡ a.pins → MovesPins a b held held
none_moves a b held same = record { stay = λ pin out apart. kept_still a b pin same; all = λ others holds. holds_still a b (listed held ++ others) same holds }

-- ---- a pin that is made

one_more : (x y : Bool) → (x ≡ true → y ≡ false) → one_if x + one_if y ≡ one_if (x || y)
one_more true y fresh = let no = fresh refl in rw no refl
one_more false y fresh = omega arith

pub made_moves : (a b : SiteState) (pin : Pinned) → IsPinned a b pin → MovesPins a b None (Some pin)
made_moves a b (Copied items) (is, same) = record {
  stay = λ pin out apart. kept_still a b pin (ap (λ (h : SiteState). h.pins) same);
  all = λ others holds. (let still = holds_still a b others (ap (λ (h : SiteState). h.pins) same) holds in record { once = still.once; count = still.count });
}
made_moves a b (Numbered n) is = record {
  stay = stays;
  all = λ others holds. record {
    once = λ m. ap (λ k. one_if (m == n) + k) (holds.once m) ∙ one_more (m == n) (is_among m (numbers_out a)) (λ same. ap (λ (k : ℕ). is_among k (numbers_out a)) (eqb-true m n same) ∙ is.fresh) ∙ ap one_if (sym (is.out m));
    count = (let more : length b.pins ≡ length a.pins + 1 = is.count in let before : count_numbered others ≡ length a.pins = holds.count in omega (arith, more, before));
  };
}
  where
    stays : (pin : Pinned) → IsTrue (is_out a pin) → PinsAreApart None pin → pinned_items b pin ≡ pinned_items a pin
    stays (Copied items) out apart = refl
    stays (Numbered m) out apart = ap items_or_none (is.others m (λ same. (let no : true ≡ false = sym out ∙ ap (λ (k : ℕ). is_among k (numbers_out a)) same ∙ is.fresh in absurd (cc no))))

-- ---- a pin that is spent

one_less : (x y : Bool) (k : ℕ) → one_if x + k ≡ one_if y → k ≡ one_if (not x && y)
one_less true true k is = omega (arith, is)
one_less true false k is = absurd (omega (arith, is))
one_less false y k is = omega (arith, is)

pub spent_moves : (a b : SiteState) (pin : Pinned) → IsUnpinned a b pin → MovesPins a b (Some pin) None
spent_moves a b (Copied items) same = record {
  stay = λ pin out apart. kept_still a b pin (ap (λ (h : SiteState). h.pins) same);
  all = λ others holds. (let still = holds_still a b (Copied items ∷ others) (ap (λ (h : SiteState). h.pins) same) holds in record { once = still.once; count = still.count });
}
spent_moves a b (Numbered n) is = record {
  stay = stays;
  all = λ others holds. record {
    once = λ m. one_less (m == n) (is_among m (numbers_out a)) (times m others) (holds.once m) ∙ ap one_if (sym (is.out m));
    count = (let less : length b.pins + 1 ≡ length a.pins = is.count in let before : 1 + count_numbered others ≡ length a.pins = holds.count in omega (arith, less, before));
  };
}
  where
    stays : (pin : Pinned) → IsTrue (is_out a pin) → PinsAreApart (Some (Numbered n)) pin → pinned_items b pin ≡ pinned_items a pin
    stays (Copied items) out apart = refl
    stays (Numbered m) out apart = ap items_or_none (is.others m (λ same. apart (sym same)))

-- ---- one after the other

pub moves_twice : (a m b : SiteState) (first second third : Option Pinned) → ((pin : Pinned) → IsTrue (is_out a pin) → PinsAreApart first pin → IsTrue (is_out m pin) × PinsAreApart second pin) → MovesPins a m first second → MovesPins m b second third → MovesPins a b first third
moves_twice a m b first second third on one two = record {
  stay = λ pin out apart. (let next = on pin out apart in two.stay pin next.0 next.1 ∙ one.stay pin out apart);
  all = λ others holds. two.all others (one.all others holds);
}

-- ---- what is held is out, and the others are apart

abbrev pub EachIs : (Pinned → Type 0) → List Pinned → Type 0
EachIs P [] = Unit {0}
EachIs P (pin ∷ pins) = P pin × EachIs P pins

pub each : (P : Pinned → Type 0) (pins : List Pinned) → ((items : Items) → P (Copied items)) → ((n : ℕ) → 1 ≤ times n pins → P (Numbered n)) → EachIs P pins
each P [] copies numbers = tt
each P (Copied items ∷ pins) copies numbers = (copies items, each P pins copies numbers)
each P (Numbered m ∷ pins) copies numbers =
    let here : one_if (m == m) ≡ 1 = rw (eq-eqb m m refl) refl in
    (numbers m (omega (arith, here)), each P pins copies (λ n some. numbers n (omega (arith, some))))

some_out : (b : Bool) → 1 ≤ one_if b → b ≡ true
some_out true some = refl
some_out false some = absurd (omega (arith, some))

few : (b : Bool) → one_if b ≤ 1
few true = omega arith
few false = omega arith

-- the pin that a session holds is out
pub held_is_out : (h : SiteState) (pin : Pinned) (others : List Pinned) → HoldsAll h (pin ∷ others) → IsTrue (is_out h pin)
held_is_out h (Copied items) others holds = refl
held_is_out h (Numbered n) others holds =
    let here : one_if (n == n) ≡ 1 = rw (eq-eqb n n refl) refl in
    let once : one_if (n == n) + times n others ≡ one_if (is_among n (numbers_out h)) = holds.once n in
    some_out (is_among n (numbers_out h)) (omega (arith, here, once))

pub others_are_apart : (h : SiteState) (held : Option Pinned) (others : List Pinned) → HoldsAll h (listed held ++ others) → EachIs (λ pin. IsTrue (is_out h pin) × PinsAreApart held pin) others
others_are_apart h None others holds = each _ others (λ items. (refl, tt)) (λ n some. (some_out (is_among n (numbers_out h)) (let once : times n others ≡ one_if (is_among n (numbers_out h)) = holds.once n in omega (arith, some, once)), tt))
others_are_apart h (Some (Copied copy)) others holds = each _ others (λ items. (refl, tt)) (λ n some. (some_out (is_among n (numbers_out h)) (let once : times n others ≡ one_if (is_among n (numbers_out h)) = holds.once n in omega (arith, some, once)), tt))
others_are_apart h (Some (Numbered m)) others holds =
    each (λ pin. IsTrue (is_out h pin) × PinsAreApart (Some (Numbered m)) pin) others (λ items. (refl, tt)) (λ n some.
    (let once : one_if (n == m) + times n others ≡ one_if (is_among n (numbers_out h)) = holds.once n in (
      some_out (is_among n (numbers_out h)) (omega (arith, some, once)),
      λ (same : m ≡ n). (let twice : one_if (n == m) ≡ 1 = rw (eq-eqb n m (sym same)) refl in absurd (omega (arith, some, once, twice, few (is_among n (numbers_out h))))),
    )))

pub each_on : (P Q : Pinned → Type 0) (pins : List Pinned) → ((pin : Pinned) → P pin → Q pin) → EachIs P pins → EachIs Q pins
each_on P Q [] on all = tt
each_on P Q (pin ∷ pins) on all = (on pin all.0, each_on P Q pins on all.1)

-- ---- what a new pin keeps

pub pinned_keeps : (a b : SiteState) (pin : Pinned) → IsPinned a b pin → IsTrue a.honest → pinned_items b pin ≡ a.site.items
pinned_keeps a b (Copied items) is honest = is.0 honest
pinned_keeps a b (Numbered n) is honest = ap items_or_none (is.keeps honest)

-- a move behind reads that left all pins
pub moves_after : (a m b : SiteState) (held now : Option Pinned) → m.pins ≡ a.pins → MovesPins m b held now → MovesPins a b held now
moves_after a m b held now same moves = record {
  stay = λ pin out apart. moves.stay pin (subst IsTrue (out_still pin) out) apart ∙ kept_still a m pin same;
  all = λ others holds. moves.all others (holds_still a m (listed held ++ others) same holds);
}
  where
    out_still : (pin : Pinned) → is_out a pin ≡ is_out m pin
    out_still (Copied items) = refl
    out_still (Numbered n) = ap (λ (p : List (ℕ × Items)). is_among n (numbers_out (record a { pins = p }))) (sym same)

-- a pin given back, and another
pub gives_again : (a m b : SiteState) → MayGiveBack a m → MayGiveBack m b → MayGiveBack a b
gives_again a m b first second = record {
  same = second.same ∙ ap (λ (h : SiteState). let v : SiteState = record h { pins = b.pins; free = b.free } in v) first.same;
  free = omega (arith, first.free, second.free);
}

pub still_honest : (a b : SiteState) → MayGiveBack a b → IsTrue a.honest → IsTrue b.honest
still_honest a b gives honest = subst (λ (h : SiteState). IsTrue h.honest) (sym gives.same) honest

pub no_length : {A : Type 0} (xs : List A) → length xs ≡ 0 → xs ≡ []
no_length [] is = refl
no_length (x ∷ xs) is = absurd (omega (arith, is))

-- no pin is held, and so none is out
pub none_out : (h : SiteState) → HoldsAll h [] → h.pins ≡ []
none_out h holds = no_length h.pins (sym holds.count)
