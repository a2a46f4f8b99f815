-- What the images hold while a commit is written, and while the root is switched.
use Rattle.std.proofs.Common.{◌∷◌, ◌≡◌, ◌⊎◌, inl, inr, ⊎_elim, ℕ, ◌+◌, ◌*◌, ◌-◌, ◌<◌, ◌≤◌, Bool, true, false, List, length, Option, Some, None, refl, sym, ap, subst, ◌∙◌, IsTrue, arith, cond}
use Rattle.std.specs.Prelude.{nat_lt, OnOk, Result, Ok, Err, ◌||◌, ◌==◌}
use Rattle.std.proofs.lemmas.Bool.{cases_Bool, cases_lt, lt-ltb, le-ltb, eqb-false}
use Rattle.common_types.specs.CrashStates.{CrashStates, AddsOnly, adds_both}
use Rattle.sector_device.proofs.WrittenImages.{weaker}
use Rattle.page_store.specs.Reading.{◌>>=◌}
use Rattle.page_store.specs.Sectors.{Image, sector, page_of}
use Rattle.page_store.specs.Roots.{shared_seal, record_from, root_at, seal_of, slot_of, current, newer, slot_in}
use Rattle.page_store.specs.declared.slot.Slot.{Slot}
use Rattle.page_store.specs.Steps.{Makes, AllAre, After}
use Rattle.page_store.specs.Content.{Found, content_under, content, is_among}
use Rattle.page_store.specs.Switch.{IsAbove, IsSwitching, IsSwitched}
use Rattle.page_store.specs.Same.{Agree}
use Rattle.page_store.specs.Commit.{numbers, patched, IsSameOutside, ArePatched, Commit, IsReady, ShowsFound, IsOldOrNew, IsBetween, IsDone}
use Rattle.page_store.specs.declared.commit.NewPage.{NewPage}
use Rattle.page_store.proofs.Fields.{bind_some, bind_again}
use Rattle.page_store.proofs.ReachedPages.{content_under-local}
use Rattle.page_store.proofs.UntouchedPages.{slot_of-same, page_of-same, pair_is}
use Rattle.page_store.proofs.CommitImages.{content_under-inside}
use Rattle.page_store.proofs.Switches.{slot_is, slot_shares, shared_each}
use Rattle.page_store.proofs.Commits.{apart}

-- ---- the content goes by the current slot and its pages

pub content-parts : (a : Image) (slot : Slot) (found : Found) → content a ≡ Some (slot, found) → (current a ≡ Some slot) × (content_under slot (page_of a) ≡ Some found)
unfolding content
content-parts a slot found e =
    let f = bind_some (current a) (λ s. content_under s (page_of a) >>= λ x. Some (s, x)) (slot, found) e in
    let g = bind_some (content_under f.0 (page_of a)) (λ x. Some (f.0, x)) (slot, found) f.2 in
    let both = pair_is (f.0, g.0) (slot, found) g.2 in
    let s : f.0 ≡ slot = ap (λ (p : Slot × Found). p.0) both in
    let x : g.0 ≡ found = ap (λ (p : Slot × Found). p.1) both in
    (f.1 ∙ ap (λ (z : Slot). Some z) s, ap (λ (z : Slot). content_under z (page_of a)) (sym s) ∙ g.1 ∙ ap (λ (z : Found). Some z) x)

pub content-of : (c : Image) (slot : Slot) (found : Found) → current c ≡ Some slot → content_under slot (page_of c) ≡ Some found → content c ≡ Some (slot, found)
unfolding content
content-of c slot found now under = bind_again (current c) _ slot (Some (slot, found)) now (bind_again (content_under slot (page_of c)) _ found (Some (slot, found)) under refl)

-- ---- slots

slot_number : (a : Image) (s : ℕ) (x : Slot) → slot_of a s ≡ Some x → x.number ≡ s
unfolding slot_in
slot_number a s x e =
    let f = bind_some (shared_seal a (8 * s) 8) (λ seal. root_at (length a) (record_from a (8 * s) 8) >>= λ root. Some (record { number = s; seal = seal; root = root })) x e in
    let g = bind_some (root_at (length a) (record_from a (8 * s) 8)) (λ root. Some (record { number = s; seal = f.0; root = root })) x f.2 in
    sym (ap (λ (z : Slot). z.number) (slot_is _ x g.2))

newer_cases : (x y : Option Slot) (s : Slot) → newer x y ≡ Some s → (x ≡ Some s) ⊎ (y ≡ Some s)
newer_cases None y s e = inr e
newer_cases (Some a) None s e = inl e
newer_cases (Some a) (Some b) s e = pick (nat_lt a.seal b.seal) e
  where
    pick : (t : Bool) → cond t (Some b) (Some a) ≡ Some s → (Some a ≡ Some s) ⊎ (Some b ≡ Some s)
    pick true e = inr e
    pick false e = inl e

-- the current slot is slot 0 or slot 1
pub current_cases : (a : Image) (s : Slot) → current a ≡ Some s → ((s.number ≡ 0) × (slot_of a 0 ≡ Some s)) ⊎ ((s.number ≡ 1) × (slot_of a 1 ≡ Some s))
current_cases a s e = ⊎_elim (λ x. inl (slot_number a 0 s x, x)) (λ y. inr (slot_number a 1 s y, y)) (newer_cases (slot_of a 0) (slot_of a 1) s e)

newer_right : (x : Option Slot) (old new : Slot) → old.seal < new.seal → (x ≡ Some old) → newer x (Some new) ≡ Some new
newer_right x old new lt e = rw e (rw (lt-ltb old.seal new.seal lt) refl)

newer_left : (y : Option Slot) (old new : Slot) → old.seal < new.seal → (y ≡ Some old) → newer (Some new) y ≡ Some new
newer_left y old new lt e = rw e (rw (le-ltb new.seal old.seal (omega arith)) refl)

-- the current slot of an image while the root is switched
switching_current : (b c : Image) (old new : Slot) → current b ≡ Some old → new.number ≡ 1 - old.number → old.seal < new.seal → IsSwitching new b c → (current c ≡ Some old) ⊎ (current c ≡ Some new)
switching_current b c old new now other lt is = ⊎_elim first second (current_cases b old now)
  where
    first : ((old.number ≡ 0) × (slot_of b 0 ≡ Some old)) → (current c ≡ Some old) ⊎ (current c ≡ Some new)
    first h =
        let one : new.number ≡ 1 = omega (arith, other, h.0) in
        let zero_same : slot_of c 0 ≡ slot_of b 0 = slot_of-same c b 0 is.size (λ k low high. is.others k (inl (omega (arith, one)))) in
        let here = subst (λ (n : ℕ). (slot_of c n ≡ slot_of b n) ⊎ ((slot_of c n ≡ None) ⊎ (slot_of c n ≡ Some new))) one is.here in
        ⊎_elim (λ (same : slot_of c 1 ≡ slot_of b 1). inl (rw (zero_same, same) now))
        (λ rest. ⊎_elim (λ (none : slot_of c 1 ≡ None). inl (rw (zero_same, none, h.1) refl)) (λ (is_new : slot_of c 1 ≡ Some new). inr (rw is_new (newer_right (slot_of c 0) old new lt (zero_same ∙ h.1)))) rest) here

    second : ((old.number ≡ 1) × (slot_of b 1 ≡ Some old)) → (current c ≡ Some old) ⊎ (current c ≡ Some new)
    second h =
        let none_is : new.number ≡ 0 = omega (arith, other, h.0) in
        let one_same : slot_of c 1 ≡ slot_of b 1 = slot_of-same c b 1 is.size (λ k low high. is.others k (inr (omega (arith, none_is)))) in
        let here = subst (λ (n : ℕ). (slot_of c n ≡ slot_of b n) ⊎ ((slot_of c n ≡ None) ⊎ (slot_of c n ≡ Some new))) none_is is.here in
        ⊎_elim (λ (same : slot_of c 0 ≡ slot_of b 0). inl (rw (one_same, same) now))
        (λ rest. ⊎_elim (λ (none : slot_of c 0 ≡ None). inl (rw (one_same, none, h.1) refl)) (λ (is_new : slot_of c 0 ≡ Some new). inr (rw is_new (newer_left (slot_of c 1) old new lt (one_same ∙ h.1)))) rest) here

switched_is_switching : (slot : Slot) (a c : Image) → IsSwitched slot a c → IsSwitching slot a c
switched_is_switching slot a c s = record {
  size = s.size;
  others = s.others;
  here = inr (inr s.here);
  sealed = λ k lt. inr (shared_each c 8 (8 * slot.number) slot.seal (slot_shares (length c) c slot.number slot s.here) k lt);
}

-- once it is switched, the current slot is the new one
switched_current : (b c : Image) (old new : Slot) → current b ≡ Some old → new.number ≡ 1 - old.number → old.seal < new.seal → IsSwitched new b c → current c ≡ Some new
switched_current b c old new now other lt is = ⊎_elim first second (current_cases b old now)
  where
    first : ((old.number ≡ 0) × (slot_of b 0 ≡ Some old)) → current c ≡ Some new
    first h =
        let one : new.number ≡ 1 = omega (arith, other, h.0) in
        let same : slot_of c 0 ≡ slot_of b 0 = slot_of-same c b 0 is.size (λ k low high. is.others k (inl (omega (arith, one)))) in
        let here : slot_of c 1 ≡ Some new = subst (λ (n : ℕ). slot_of c n ≡ Some new) one is.here in
        rw here (newer_right (slot_of c 0) old new lt (same ∙ h.1))

    second : ((old.number ≡ 1) × (slot_of b 1 ≡ Some old)) → current c ≡ Some new
    second h =
        let none_is : new.number ≡ 0 = omega (arith, other, h.0) in
        let same : slot_of c 1 ≡ slot_of b 1 = slot_of-same c b 1 is.size (λ k low high. is.others k (inr (omega (arith, none_is)))) in
        let here : slot_of c 0 ≡ Some new = subst (λ (n : ℕ). slot_of c n ≡ Some new) none_is is.here in
        rw here (newer_left (slot_of c 1) old new lt (same ∙ h.1))

-- ---- pages

pub not_there : (n : ℕ) (ns : List ℕ) → (IsTrue (is_among n ns) → ⊥) → is_among n ns ≡ false
not_there n ns h = elim (cases_Bool (is_among n ns)) [ inl t ↦ absurd (h t) | inr f ↦ f ]

-- the sectors of a page that isn't written
same_sectors : (pages : List ℕ) (a c : Image) (n k : ℕ) → IsSameOutside pages a c → is_among n pages ≡ false → 8 * n ≤ k → k < 8 * n + 8 → sector c k ≡ sector a k
same_sectors pages a c n k same out low high = let is : 8 * n + (k - 8 * n) ≡ k = omega arith in subst (λ (j : ℕ). sector c j ≡ sector a j) is (same.each n (k - 8 * n) out (omega arith))

both_false : (a b : Bool) → (a || b) ≡ false → (a ≡ false) × (b ≡ false)
both_false true b h = absurd cc
both_false false b h = (refl, h)

module _ (commit : Commit) (pages : List NewPage) (a : Image) (ready : IsReady commit pages a) where
  root_free : (n : ℕ) → n < 2 → is_among n (numbers pages) ≡ false
  root_free n lt = not_there n (numbers pages) (λ t. let two = (ready.free n t).0 in absurd (omega (arith, two)))

  number_below : commit.new.number < 2
  number_below = omega (arith, ready.number)

  same_slots : (c : Image) → IsSameOutside (numbers pages) a c → current c ≡ current a
  same_slots c same =
      let first = slot_of-same c a 0 same.size (λ k low high. same_sectors (numbers pages) a c 0 k same (root_free 0 (omega arith)) low high) in
      let second = slot_of-same c a 1 same.size (λ k low high. same_sectors (numbers pages) a c 1 k same (root_free 1 (omega arith)) low high) in
      rw (first, second) refl

  -- the pages under the old slot stay while pages are written
  old_pages : (c : Image) → IsSameOutside (numbers pages) a c → Agree commit.old_found.pages (page_of a) (page_of c)
  old_pages c same = λ n m. page_of-same a c n (λ k low high. sym (same_sectors (numbers pages) a c n k same (not_there n (numbers pages) (λ t. absurd (cc (m, (ready.free n t).1)))) low high))

  -- while pages are written
  pub while_written : (c : Image) → IsSameOutside (numbers pages) a c → ShowsFound commit.old commit.old_found (page_of a) c
  while_written c same =
      let parts = content-parts a commit.old commit.old_found ready.content in
      let now = same_slots c same ∙ parts.0 in
      let agree = old_pages c same in
      record { current_is = now; content_is = content-of c commit.old commit.old_found now (content_under-local commit.old (page_of a) (page_of c) commit.old_found parts.1 agree); pages = agree }

  -- the seal remains above all
  pub still_above : (b : Image) → ArePatched pages a b → IsAbove commit.new.seal commit.new.number b
  still_above b is = record {
    each = λ k old lt e.
        ready.above.each k old lt (ap (seal_of (8 * commit.new.number + k)) (sym (is.outside.each commit.new.number k (root_free commit.new.number number_below) lt)) ∙ e);
  }

  high_pages : (b c : Image) → IsSwitching commit.new b c → (n : ℕ) → 2 ≤ n → page_of b n ≡ page_of c n
  high_pages b c is n le = page_of-same b c n (λ k low high. sym (is.others k (inr (omega (arith, ready.number)))))

  old_stands : (b c : Image) → ArePatched pages a b → IsSwitching commit.new b c → current c ≡ Some commit.old → ShowsFound commit.old commit.old_found (page_of a) c
  old_stands b c patch is now =
      let shows = while_written b patch.outside in
      let parts = content-parts b commit.old commit.old_found shows.content_is in
      let agree : Agree commit.old_found.pages (page_of b) (page_of c) = λ n m. high_pages b c is n (content_under-inside commit.old (page_of b) commit.old_found parts.1 n m) in
      record { current_is = now; content_is = content-of c commit.old commit.old_found now (content_under-local commit.old (page_of b) (page_of c) commit.old_found parts.1 agree); pages = λ n m. shows.pages n m ∙ agree n m }

  new_stands : (b c : Image) → ArePatched pages a b → IsSwitching commit.new b c → current c ≡ Some commit.new → ShowsFound commit.new commit.new_found (patched pages (page_of a)) c
  new_stands b c patch is now =
      let agree : Agree commit.new_found.pages (patched pages (page_of a)) (page_of c) = λ n m. sym (patch.bytes n) ∙ high_pages b c is n (content_under-inside commit.new (patched pages (page_of a)) commit.new_found ready.under n m) in
      record { current_is = now; content_is = content-of c commit.new commit.new_found now (content_under-local commit.new (patched pages (page_of a)) (page_of c) commit.new_found ready.under agree); pages = agree }

  -- while the root is switched
  pub while_switched : (b c : Image) → ArePatched pages a b → IsSwitching commit.new b c → IsOldOrNew commit pages a c
  while_switched b c patch is =
      ⊎_elim (λ old. inl (old_stands b c patch is old)) (λ new. inr (new_stands b c patch is new)) (switching_current b c commit.old commit.new (while_written b patch.outside).current_is ready.number ready.seal is)

  pub once_switched : (b c : Image) → ArePatched pages a b → IsSwitched commit.new b c → content c ≡ Some (commit.new, commit.new_found)
  once_switched b c patch is =
      let now = switched_current b c commit.old commit.new (while_written b patch.outside).current_is ready.number ready.seal is in
      (new_stands b c patch (switched_is_switching commit.new b c is) now).content_is

  -- ---- crash states

  -- a page that is neither the new slot's nor new
  kept_written : (c : Image) → IsSameOutside (numbers pages) a c → IsSameOutside (commit.new.number ∷ numbers pages) a c
  kept_written c same = record { size = same.size; each = λ n k out lt. same.each n k (both_false (n == commit.new.number) (is_among n (numbers pages)) out).1 lt }

  kept_switched : (b c : Image) → ArePatched pages a b → IsSwitching commit.new b c → IsSameOutside (commit.new.number ∷ numbers pages) a c
  kept_switched b c patch is = record {
    size = is.size ∙ patch.outside.size;
    each = λ n k out lt.
        let both = both_false (n == commit.new.number) (is_among n (numbers pages)) out in
        is.others (8 * n + k) (apart n commit.new.number k (eqb-false n commit.new.number both.0) lt) ∙ patch.outside.each n k both.1 lt;
  }

  -- the sectors of the slots are as before while pages are written
  same_root : (b : Image) → IsSameOutside (numbers pages) a b → (n : ℕ) → n < 16 → sector b n ≡ sector a n
  same_root b same n lt = elim (cases_lt n 8) [ inl low ↦ (let zero_is : 8 * 0 + n ≡ n = omega arith in subst (λ (k : ℕ). sector b k ≡ sector a k) zero_is (same.each 0 n (root_free 0 (omega arith)) low)) | inr high ↦ second high ]
    where
      second : 8 ≤ n → sector b n ≡ sector a n
      second high =
          let is : 8 * 1 + (n - 8) ≡ n = omega (arith, high) in
          subst (λ (k : ℕ). sector b k ≡ sector a k) is (same.each 1 (n - 8) (root_free 1 (omega arith)) (omega (arith, high, lt)))

  -- a root sector is that from before, or has the new seal
  abbrev IsSealed : Image → ℕ → Type 0
  IsSealed c n = (sector c n ≡ sector a n) ⊎ (seal_of n (sector c n) ≡ Some commit.new.seal)

  sealed_switched : (b c : Image) → ArePatched pages a b → IsSwitching commit.new b c → (n : ℕ) → n < 16 → IsSealed c n
  sealed_switched b c patch is n lt = elim (cases_lt n (8 * commit.new.number)) [
    | inl low ↦ inl (is.others n (inl low) ∙ same_root b patch.outside n lt)
    | inr ge ↦ elim (cases_lt n (8 * commit.new.number + 8)) [ inl inside ↦ here ge inside | inr high ↦ inl (is.others n (inr high) ∙ same_root b patch.outside n lt) ]
  ]
    where
      here : 8 * commit.new.number ≤ n → n < 8 * commit.new.number + 8 → IsSealed c n
      here ge inside =
          let k = n - 8 * commit.new.number in
          let same : 8 * commit.new.number + k ≡ n = omega (arith, ge) in
          subst (IsSealed c) same (⊎_elim (λ old. inl (old ∙ same_root b patch.outside (8 * commit.new.number + k) (omega (arith, ge, lt)))) (λ new. inr new) (is.sealed k (omega (arith, ge, inside))))

  pub pages_at_crash : (old mid : CrashStates Image) → AllAre old a → Makes old mid (IsSameOutside (numbers pages)) → AddsOnly old mid (IsBetween commit pages a)
  pages_at_crash old mid all makes =
      weaker old mid (After old (IsSameOutside (numbers pages))) (IsBetween commit pages a) makes
      (λ c p.
      let same = subst (λ (d : Image). IsSameOutside (numbers pages) d c) (all p.0 p.1) p.2 in
      record { shows = inl (while_written c same); kept = kept_written c same; sealed = λ n lt. inl (same_root c same n lt) })

  pub root_at_crash : (old mid new : CrashStates Image) (b : Image) → ArePatched pages a b → AddsOnly old mid (IsBetween commit pages a) → AddsOnly mid new (IsSwitching commit.new b) → AddsOnly old new (IsBetween commit pages a)
  root_at_crash old mid new b patch first second =
      adds_both old mid new (IsBetween commit pages a) (IsSwitching commit.new b) (IsBetween commit pages a) first second (λ c p. p)
      (λ c is. record { shows = while_switched b c patch is; kept = kept_switched b c patch is; sealed = sealed_switched b c patch is })

  pub done_by : {T E : Type 0} (r : Result T E) (crash_states : CrashStates Image) (b v : Image) → ArePatched pages a b → OnOk r (IsSwitched commit.new b v × AllAre crash_states v) → OnOk r (IsDone commit pages crash_states a v)
  done_by (Ok _) crash_states b v patch h = record {
    all = h.1;
    content = once_switched b v patch h.0;
    bytes = λ n le. sym (high_pages b v (switched_is_switching commit.new b v h.0) n le) ∙ patch.bytes n;
    size = h.0.size ∙ patch.outside.size;
    others = λ n lt away. h.0.others n away ∙ same_root b patch.outside n lt;
  }
  done_by (Err _) crash_states b v patch h = h
