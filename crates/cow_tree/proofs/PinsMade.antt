-- A pin more, and a pin less.
use Rattle.std.proofs.Common.{◌≡◌, ◌<◌, ◌≤◌, ◌+◌, inl, inr, ℕ, zero, suc, Bool, true, false, List, length, map, Option, Some, None, get_or, set, is_some, refl, sym, ap, subst, ◌∙◌, arith, IsTrue, eq-eqb, ne_eqb, get_or-set_same, get_or-set_other}
use Rattle.std.specs.Prelude.{◌||◌, ◌&&◌, ◌==◌, not, nat_le, nat_lt, cond, option_map}
use Rattle.std.specs.List.{list_any, list_all}
use Rattle.std.specs.Map.{lookup}
use Rattle.std.proofs.lemmas.Bool.{cases_Bool, cases_eq, cases_lt}
use Rattle.std.proofs.lemmas.List.{get_or_past, length-set}
use Rattle.sector_device.specs.Device.{State}
use Rattle.page_alloc.specs.LedgerState.{LedgerState, Mark, pinned, mark_of, has_page, have_page, is_taken, is_retired, is_held, is_free, count_below, free_count, is_crowded, is_some as is_pin, is_out as is_out_there}
use Rattle.page_alloc.specs.Calls.{pinning, unpinned}
use Rattle.page_alloc.proofs.Pins.{any_less, any_more}
use Rattle.page_alloc.proofs.Counting.{count_same}
use Rattle.page_store.specs.Sectors.{Image, page_of}
use Rattle.page_store.specs.Content.{Found, is_among}
use Rattle.page_store.specs.StoreState.{StoreState}
use Rattle.page_store.specs.Pins.{is_out, IsStorePinned, IsStoreUnpinned}
use Rattle.page_store.specs.Pages.{Pair}
use Rattle.page_store.specs.declared.slot.Slot.{Slot}
use Rattle.cow_tree.specs.Opening.{IsRooted}
use Rattle.cow_tree.specs.PinnedTrees.{or_nothing, found_at, tree_under, seal_of, pins_from, IsInside, ArePinned, IsKeptTree, PinnedTreesAreKept}
use Rattle.cow_tree.specs.TreeState.{IsAtRest, FitsTree, IsThere, found_under, tree_holding}
use Rattle.cow_tree.specs.declared.tree_root.TreeRoot.{TreeRoot}
use Rattle.cow_tree.proofs.PinnedTrees.{Pin, out_at, pairs_of_pin, one_more, one_less, room_left, all_out, seal_at, seals_set}
use Rattle.cow_tree.proofs.RootWalks.{found_tree}
use Rattle.cow_tree.proofs.Taken.{untaken_at_rest}

abbrev some_tree : TreeRoot → Option TreeRoot
some_tree tree = Some tree

same_tree : (a b : TreeRoot) → some_tree a ≡ some_tree b → a ≡ b
same_tree a b e = cc

-- ---- the ledger's pins and the trees

pin_is : (o : Option TreeRoot) → is_pin (seal_of o) ≡ is_some o
pin_is None = refl
pin_is (Some tree) = refl

no_tree_there : (o : Option TreeRoot) → is_some o ≡ false → o ≡ None
no_tree_there None e = refl
no_tree_there (Some tree) e = absurd (cc e)

pub out_is : (pages : ℕ) (ledger : LedgerState) (trees : List (Option TreeRoot)) (number : ℕ) → ArePinned pages ledger trees → is_out_there ledger number ≡ is_some (get_or trees number None)
out_is pages ledger trees number pins = ap (λ (l : List (Option ℕ)). is_pin (get_or l number None)) pins.seals ∙ ap is_pin (seal_at trees number) ∙ pin_is (get_or trees number None)

pub out_there : (image : Image) (pages : ℕ) (ledger : LedgerState) (trees : List (Option TreeRoot)) (number : ℕ) → ArePinned pages ledger trees → is_among number (map (λ (pin : Pin). pin.0) (pins_from image 0 trees)) ≡ true → is_out_there ledger number ≡ true
out_there image pages ledger trees number pins out = out_is pages ledger trees number pins ∙ sym (out_at image 0 number number trees (omega arith)) ∙ out

pub all_are_out : (image : Image) (pages : ℕ) (ledger : LedgerState) (trees : List (Option TreeRoot)) → ArePinned pages ledger trees → is_crowded ledger ≡ true → length (pins_from image 0 trees) ≡ 32
all_are_out image pages ledger trees pins crowded = all_out image 0 trees (sym (ap (λ (l : List (Option ℕ)). list_all is_pin l) pins.seals) ∙ crowded) ∙ pins.count

-- the pairs that a pin keeps
pub pairs_there : (image : Image) (trees : List (Option TreeRoot)) (number : ℕ) (tree : TreeRoot) → get_or trees number None ≡ Some tree → lookup (λ n. n == number) (pins_from image 0 trees) ≡ Some (found_at tree image).pairs
pairs_there image trees number tree is = pairs_of_pin image 0 number number trees (omega arith) ∙ ap (λ (o : Option TreeRoot). option_map (λ t. (found_at t image).pairs) o) is

within : (trees : List (Option TreeRoot)) (number : ℕ) (tree : TreeRoot) → get_or trees number None ≡ Some tree → number < length trees
within trees number tree is =
    elim (cases_lt number (length trees)) [
      | inl lt ↦ lt
      | inr ge ↦ absurd (cc (sym (get_or_past trees number None ge) ∙ is))
    ]

-- ---- other pins in the ledger

pub fitted_with : (sectors : ℕ) (slot : Slot) (old new : LedgerState) (pins : List (Option ℕ)) → new ≡ record old { pins = pins } → FitsTree sectors slot old → FitsTree sectors slot new
fitted_with sectors slot old new pins is fit = subst (λ (l : LedgerState). FitsTree sectors slot l) (sym is) (record {
  number = fit.number;
  least = fit.least;
  most = fit.most;
  fits = fit.fits;
  version = fit.version;
  port = fit.port;
  rooted = fit.rooted;
  rest = record {
    pages = fit.rest.pages;
    generation = fit.rest.generation;
    marked = fit.rest.marked;
    unmarked = fit.rest.unmarked;
  };
})

pub there_with : (image : Image) (slot : Slot) (old new : LedgerState) (pins : List (Option ℕ)) → new ≡ record old { pins = pins } → IsThere image slot old → IsThere image slot new
there_with image slot old new pins is there = subst (λ (l : LedgerState). IsThere image slot l) (sym is) (record {
  found_is = there.found_is;
  map = there.map;
  alive = there.alive;
  whole = there.whole;
})

-- ---- the current tree

found_now : (slot : Slot) (image : Image) (ledger : LedgerState) → IsThere image slot ledger → found_at (tree_under slot) image ≡ found_under slot image
found_now slot image ledger there = ap or_nothing (found_tree slot (page_of image) (found_under slot image) there.found_is)

current_kept : (slot : Slot) (image : Image) (ledger : LedgerState) → IsAtRest slot ledger → IsThere image slot ledger → IsKeptTree image ledger (tree_under slot)
current_kept slot image ledger rest there = record {
  found_is = found_tree slot (page_of image) (found_under slot image) there.found_is ∙ ap (λ (x : Found). some_found x) (sym (found_now slot image ledger there));
  has = λ n.
      ap (λ (g : ℕ). has_page ledger g n) (sym rest.generation)
      ∙ sym (ap (λ (m : Mark). has_page ledger ledger.generation n && not (is_retired m)) (untaken_at_rest ledger rest.unmarked n) ∙ and_true (has_page ledger ledger.generation n))
      ∙ there.alive n
      ∙ ap (λ (x : Found). is_among n x.pages) (sym (found_now slot image ledger there));
}
  where
    some_found : Found → Option Found
    some_found x = Some x

    and_true : (b : Bool) → (b && true) ≡ b
    and_true true = refl
    and_true false = refl

-- ---- a pin more

held_same : (s : LedgerState) (number page : ℕ) → get_or s.pins number None ≡ None → is_held (pinning number s) page ≡ is_held s page
held_same s number page none =
    let f = λ (g : ℕ). has_page s g page in
    let more = set s.pins number (Some s.generation) in
    elim (cases_Bool (f s.generation)) [
      | inl t ↦ ap (λ (b : Bool). b || list_any f (pinned more)) t ∙ sym (ap (λ (b : Bool). b || list_any f (pinned s.pins)) t)
      | inr loose ↦ ap (λ (b : Bool). f s.generation || b) (any_more f s.pins number s.generation loose none)
    ]

free_same : (s : LedgerState) (number : ℕ) → get_or s.pins number None ≡ None → free_count (pinning number s) ≡ free_count s
free_same s number none =
    count_same (is_free (pinning number s)) (is_free s) (length s.lives) (λ p lt. ap (λ (b : Bool). nat_le 2 p && (nat_lt p (length s.lives) && (not (is_taken (mark_of s p)) && not b))) (held_same s number p none))

module _ (slot : Slot) (old : LedgerState) (trees : List (Option TreeRoot)) (number : ℕ) (small : number < 32) (fresh : is_out_there old number ≡ false) (rest : IsAtRest slot old) (pins : ArePinned slot.root.pages old trees) where
  abbrev more : List (Option TreeRoot)
  more = set trees number (Some (tree_under slot))

  lower : number < length trees
  lower = let count = pins.count in omega (arith, small, count)

  none : get_or trees number None ≡ None
  none = no_tree_there (get_or trees number None) (sym (out_is slot.root.pages old trees number pins) ∙ fresh)

  no_pin : get_or old.pins number None ≡ None
  no_pin = ap (λ (l : List (Option ℕ)). get_or l number None) pins.seals ∙ seal_at trees number ∙ ap seal_of none

  pub pins_more : IsRooted slot.root → ArePinned slot.root.pages (pinning number old) more
  pins_more rooted = record {
    count = length-set trees number (Some (tree_under slot)) ∙ pins.count;
    seals = ap (λ (l : List (Option ℕ)). set l number (Some old.generation)) pins.seals ∙ ap (λ (g : ℕ). set (map seal_of trees) number (Some g)) rest.generation ∙ sym (seals_set trees number (Some (tree_under slot)));
    inside = λ k tree is.
        elim (cases_eq k number) [
          | inl e ↦ subst (λ (t : TreeRoot). IsInside slot.root.pages t) (same_tree (tree_under slot) tree (sym (here k e) ∙ is)) (record { size = refl; rooted = rooted })
          | inr ne ↦ pins.inside k tree (sym (get_or-set_other trees number k (Some (tree_under slot)) None ne) ∙ is)
        ];
  }
    where
      here : (k : ℕ) → k ≡ number → get_or more k None ≡ Some (tree_under slot)
      here k e = ap (λ (m : ℕ). get_or more m None) e ∙ get_or-set_same trees number (Some (tree_under slot)) None lower

  pub kept_more : (image : Image) → IsThere image slot old → PinnedTreesAreKept image old trees → PinnedTreesAreKept image (pinning number old) more
  kept_more image there kept k tree is =
      let one : IsKeptTree image old tree =
      elim (cases_eq k number) [
        | inl e ↦ subst (λ (t : TreeRoot). IsKeptTree image old t) (same_tree (tree_under slot) tree (sym (ap (λ (m : ℕ). get_or more m None) e ∙ get_or-set_same trees number (Some (tree_under slot)) None lower) ∙ is)) (current_kept slot image old rest there)
        | inr ne ↦ kept k tree (sym (get_or-set_other trees number k (Some (tree_under slot)) None ne) ∙ is)
      ] in
      record { found_is = one.found_is; has = one.has }

  module _ (state : State) (top : ℕ) (usable : Bool) (up : usable ≡ true) (there : IsTrue state.honest → IsThere state.disk.view slot old) where
    abbrev view : Image
    view = state.disk.view

    abbrev before : StoreState
    before = tree_holding state slot old top usable trees

    abbrev after : StoreState
    after = tree_holding state slot (pinning number old) top usable more

    others_out : (n : ℕ) → is_out after n ≡ (n == number || is_out before n)
    others_out n =
        out_at view 0 n n more (omega arith)
        ∙ elim (cases_eq n number) [
          | inl e ↦
              ap is_some (ap (λ (m : ℕ). get_or more m None) e ∙ get_or-set_same trees number (Some (tree_under slot)) None lower)
              ∙ sym (ap (λ (b : Bool). b || is_out before n) (eq-eqb n number e))
          | inr ne ↦
              ap is_some (get_or-set_other trees number n (Some (tree_under slot)) None ne)
              ∙ sym (out_at view 0 n n trees (omega arith))
              ∙ sym (ap (λ (b : Bool). b || is_out before n) (ne_eqb n number ne))
        ]

    pub is_pinned : IsStorePinned before after number
    is_pinned = record {
      usable = up;
      room = let room = room_left view 0 number trees lower none in let count = pins.count in omega (arith, room, count);
      fresh = out_at view 0 number number trees (omega arith) ∙ ap is_some none;
      out = others_out;
      count = one_more view 0 number trees (tree_under slot) lower none;
      keeps = λ honest.
          pairs_there view more number (tree_under slot) (get_or-set_same trees number (Some (tree_under slot)) None lower) ∙ ap (λ (x : Found). some_pairs x.pairs) (found_now slot view old (there honest));
      others = λ honest n ne.
          pairs_of_pin view 0 n n more (omega arith)
          ∙ ap (λ (o : Option TreeRoot). option_map (λ t. (found_at t view).pairs) o) (get_or-set_other trees number n (Some (tree_under slot)) None ne)
          ∙ sym (pairs_of_pin view 0 n n trees (omega arith));
      same = ap (λ (f : ℕ). with_free f) (free_same old number no_pin);
    }
      where
        some_pairs : List Pair → Option (List Pair)
        some_pairs l = Some l

        with_free : ℕ → StoreState
        with_free f = record after { free = f }

-- ---- a pin less

one_or_more : (f g : ℕ → Bool) (n : ℕ) → ((p : ℕ) → f p ≡ true → g p ≡ true) → count_below f n ≤ count_below g n
one_or_more f g zero h = omega arith
one_or_more f g (suc n) h = step (f n) (g n) (count_below f n) (count_below g n) (h n) (one_or_more f g n h)
  where
    step : (a b : Bool) (s t : ℕ) → (a ≡ true → b ≡ true) → s ≤ t → cond a (1 + s) s ≤ cond b (1 + t) t
    step true true s t k le = omega (arith, le)
    step true false s t k le = absurd (cc (k refl))
    step false true s t k le = omega (arith, le)
    step false false s t k le = le

free_still : (s : LedgerState) (number page : ℕ) → is_free s page ≡ true → is_free (unpinned number s) page ≡ true
free_still s number page h = last (nat_le 2 page) (nat_lt page (length s.lives)) (not (is_taken (mark_of s page))) (is_held s page) (is_held (unpinned number s) page) h less
  where
    last : (a b c d e : Bool) → (a && (b && (c && not d))) ≡ true → (d ≡ false → e ≡ false) → (a && (b && (c && not e))) ≡ true
    last false b c d e h k = absurd (cc h)
    last true false c d e h k = absurd (cc h)
    last true true false d e h k = absurd (cc h)
    last true true true true e h k = absurd (cc h)
    last true true true false e h k = ap not (k refl)

    parts : (a b c : Bool) → (a || b) ≡ false → (b ≡ false → c ≡ false) → (a || c) ≡ false
    parts true b c h k = absurd (cc h)
    parts false b c h k = k h

    less : is_held s page ≡ false → is_held (unpinned number s) page ≡ false
    less none = parts (has_page s s.generation page) (have_page s (pinned s.pins) page) (have_page s (pinned (set s.pins number None)) page) none (any_less (λ g. has_page s g page) s.pins number)

module _ (pages : ℕ) (old : LedgerState) (trees : List (Option TreeRoot)) (number : ℕ) (out : is_some (get_or trees number None) ≡ true) (pins : ArePinned pages old trees) where
  abbrev fewer : List (Option TreeRoot)
  fewer = set trees number None

  tree_is : (o : Option TreeRoot) → is_some o ≡ true → (tree : TreeRoot) × (o ≡ Some tree)
  tree_is None e = absurd (cc e)
  tree_is (Some tree) e = (tree, refl)

  there_is : (tree : TreeRoot) × (get_or trees number None ≡ Some tree)
  there_is = tree_is (get_or trees number None) out

  low : number < length trees
  low = within trees number there_is.0 there_is.1

  gone : (k : ℕ) → k ≡ number → get_or fewer k None ≡ None
  gone k e = ap (λ (m : ℕ). get_or fewer m None) e ∙ get_or-set_same trees number None None low

  pub pins_less : ArePinned pages (unpinned number old) fewer
  pins_less = record {
    count = length-set trees number None ∙ pins.count;
    seals = ap (λ (l : List (Option ℕ)). set l number None) pins.seals ∙ sym (seals_set trees number None);
    inside = λ k tree is.
        elim (cases_eq k number) [
          | inl e ↦ absurd (cc (sym (gone k e) ∙ is))
          | inr ne ↦ pins.inside k tree (sym (get_or-set_other trees number k None None ne) ∙ is)
        ];
  }

  pub kept_less : (image : Image) → PinnedTreesAreKept image old trees → PinnedTreesAreKept image (unpinned number old) fewer
  kept_less image kept k tree is =
      elim (cases_eq k number) [
        | inl e ↦ absurd (cc (sym (gone k e) ∙ is))
        | inr ne ↦ let one = kept k tree (sym (get_or-set_other trees number k None None ne) ∙ is) in record { found_is = one.found_is; has = one.has }
      ]

  module _ (state : State) (slot : Slot) (top : ℕ) (usable : Bool) where
    abbrev image : Image
    image = state.disk.view

    abbrev first : StoreState
    first = tree_holding state slot old top usable trees

    abbrev then : StoreState
    then = tree_holding state slot (unpinned number old) top usable fewer

    pub is_unpinned : IsStoreUnpinned first then number
    is_unpinned = record {
      out = λ n.
          out_at image 0 n n fewer (omega arith)
          ∙ elim (cases_eq n number) [
            | inl e ↦ ap is_some (gone n e) ∙ sym (ap (λ (b : Bool). not b && is_out first n) (eq-eqb n number e))
            | inr ne ↦ ap is_some (get_or-set_other trees number n None None ne) ∙ sym (out_at image 0 n n trees (omega arith)) ∙ sym (ap (λ (b : Bool). not b && is_out first n) (ne_eqb n number ne))
          ];
      count = one_less image 0 number trees there_is.0 there_is.1;
      others = λ honest n ne.
          pairs_of_pin image 0 n n fewer (omega arith)
          ∙ ap (λ (o : Option TreeRoot). option_map (λ t. (found_at t image).pairs) o) (get_or-set_other trees number n None None ne)
          ∙ sym (pairs_of_pin image 0 n n trees (omega arith));
      free = one_or_more (is_free old) (is_free (unpinned number old)) (length old.lives) (free_still old number);
      same = refl;
    }
