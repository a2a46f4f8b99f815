-- A write to a page that is no root slot and was not reached.
use Rattle.std.proofs.Common.{◌≡◌, ◌≢◌, ◌⊎◌, inl, inr, ℕ, zero, suc, ◌+◌, ◌*◌, ◌<◌, ◌≤◌, true, false, List, length, Option, Some, refl, sym, ap, subst, ◌∙◌, IsTrue, arith}
use Rattle.std.proofs.lemmas.Bool.{cases_lt}
use Rattle.page_store.specs.Reading.{◌>>=◌}
use Rattle.page_store.specs.Sectors.{Image, sector, sectors_from, page_of}
use Rattle.page_store.specs.Roots.{seal_of, shared_seal, record_from, slot_of, current, slot_in}
use Rattle.page_store.specs.declared.slot.Slot.{Slot}
use Rattle.page_store.specs.Content.{Found, content_under, content, is_among}
use Rattle.page_store.specs.Same.{IsSameBut}
use Rattle.page_store.proofs.Fields.{bind_some, bind_again}
use Rattle.page_store.proofs.ReachedPages.{content_under-local}

-- so many sectors from one on are the same
abbrev pub Same : Image → Image → ℕ → ℕ → Type 0
Same a b n count = (k : ℕ) → n ≤ k → k < n + count → sector a k ≡ sector b k

pub sectors_from-same : (a b : Image) (count n : ℕ) → Same a b n count → sectors_from a n count ≡ sectors_from b n count
sectors_from-same a b zero n h = refl
sectors_from-same a b (suc count) n h =
    let first : sector a n ≡ sector b n = h n (omega arith) (omega arith) in
    let rest = sectors_from-same a b count (suc n) (λ k low high. h k (omega arith) (omega arith)) in
    rw (first, rest) refl

pub record_from-same : (a b : Image) (count n : ℕ) → Same a b n count → record_from a n count ≡ record_from b n count
record_from-same a b zero n h = refl
record_from-same a b (suc count) n h =
    let first : sector a n ≡ sector b n = h n (omega arith) (omega arith) in
    let rest = record_from-same a b count (suc n) (λ k low high. h k (omega arith) (omega arith)) in
    rw (first, rest) refl

pub shared_seal-same : (a b : Image) (count n : ℕ) → Same a b n count → shared_seal a n count ≡ shared_seal b n count
shared_seal-same a b zero n h = refl
shared_seal-same a b (suc zero) n h = ap (seal_of n) (h n (omega arith) (omega arith))
shared_seal-same a b (suc (suc count)) n h =
    let first : sector a n ≡ sector b n = h n (omega arith) (omega arith) in
    let rest = shared_seal-same a b (suc count) (suc n) (λ k low high. h k (omega arith) (omega arith)) in
    rw (first, rest) refl

pub slot_of-same : (a b : Image) (s : ℕ) → length a ≡ length b → Same a b (8 * s) 8 → slot_of a s ≡ slot_of b s
unfolding slot_in
slot_of-same a b s size h =
    let seal = shared_seal-same a b 8 (8 * s) h in
    let bytes = record_from-same a b 8 (8 * s) h in
    rw (seal, bytes, size) refl

pub current-same : (a b : Image) → length a ≡ length b → Same a b 0 16 → current a ≡ current b
current-same a b size h =
    let first = slot_of-same a b 0 size (λ k low high. h k (omega arith) (omega arith)) in
    let second = slot_of-same a b 1 size (λ k low high. h k (omega arith) (omega arith)) in
    rw (first, second) refl

pub page_of-same : (a b : Image) (p : ℕ) → Same a b (8 * p) 8 → page_of a p ≡ page_of b p
unfolding page_of
page_of-same a b p h = sectors_from-same a b 8 (8 * p) h

not_same : (n m : ℕ) (ns : List ℕ) → IsTrue (is_among n ns) → is_among m ns ≡ false → n ≢ m
not_same n m ns h e is = let t : is_among m ns ≡ true = subst (λ (k : ℕ). is_among k ns ≡ true) is h in absurd (cc (t, e))

abbrev some : Slot × Found → Option (Slot × Found)
some x = Some x

pub pair_is : (x y : Slot × Found) → some x ≡ some y → x ≡ y
pair_is x y e = cc

pub content-elsewhere : (a b : Image) (page : ℕ) (slot : Slot) (found : Found) → content a ≡ Some (slot, found) → 2 ≤ page → is_among page found.pages ≡ false → IsSameBut page a b → content b ≡ Some (slot, found)
unfolding content
content-elsewhere a b page slot found e high free same =
    let f = bind_some (current a) (λ s. content_under s (page_of a) >>= λ x. Some (s, x)) (slot, found) e in
    let g = bind_some (content_under f.0 (page_of a)) (λ x. Some (f.0, x)) (slot, found) f.2 in
    let now : current b ≡ Some f.0 = sym (current-same a b same.size (λ k low below. same.each k (inl (omega arith)))) ∙ f.1 in
    let is : g.0 ≡ found = ap (λ (p : Slot × Found). p.1) (pair_is (f.0, g.0) (slot, found) g.2) in
    let under = content_under-local f.0 (page_of a) (page_of b) g.0 g.1
    (λ n m. page_of-same a b n (λ k low below. same.each k (apart n page k (not_same n page g.0.pages m (subst (λ (x : Found). is_among page x.pages ≡ false) (sym is) free)) low below))) in
    bind_again (current b) _ f.0 (Some (slot, found)) now (bind_again (content_under f.0 (page_of b)) _ g.0 (Some (slot, found)) under g.2)
  where
    apart : (n p k : ℕ) → n ≢ p → 8 * n ≤ k → k < 8 * n + 8 → (k < 8 * p) ⊎ (8 * p + 8 ≤ k)
    apart n p k other low below = elim (cases_lt n p) [ inl lt ↦ inl (omega arith) | inr le ↦ inr (omega arith) ]
