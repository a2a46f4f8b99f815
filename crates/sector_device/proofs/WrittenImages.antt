-- What a write or a sync of one sector does to the images.
use Rattle.std.proofs.Common.{◌≡◌, ◌≢◌, ◌⊎◌, inl, inr, ⊎_elim, ℕ, zero, suc, ◌+◌, ◌<◌, ◌≤◌, List, [], ◌∷◌, ◌++◌, length, refl, sym, ◌∙◌, ap, subst, arith, Some, Result, Ok, Err, slice_set}
use Rattle.std.specs.Prelude.{slice_get, OnOk, OnErr}
use Rattle.std.proofs.lemmas.Bool.{cases_lt}
use Rattle.std.proofs.lemmas.List.{length-set, get_or-set_same, get_or-set_other}
use native.Mathlib.Decide.{ℕ_discrete}
use Prim.{yes, no}
use Rattle.sector_device.specs.Disk.{Disk, IsImage, WasWritten, written, listed, synced, WriteFailed}
use Rattle.sector_device.specs.Device.{Elapses}
use Rattle.common_types.specs.CrashStates.{CrashStates, AddsOnly, adds_both, may_crash_to}
use Rattle.sector_device.specs.Sectors.{Image, sector}
use Rattle.sector_device.specs.Steps.{After, Makes, AllAre, IsWritten, MayBeWritten, AreWritten, MayBeAllWritten, chunk}

listed_cases : (k : ℕ) (b : List ℕ) (ws : List (ℕ × List ℕ)) (w : ℕ × List ℕ) → WasWritten k b (ws ++ w ∷ []) → WasWritten k b ws ⊎ ((w.0 ≡ k) × (w.1 ≡ b))
listed_cases k b [] w (inl h) = inr h
listed_cases k b [] w (inr h) = absurd h
listed_cases k b (v ∷ ws) w (inl h) = inl (inl h)
listed_cases k b (v ∷ ws) w (inr h) = ⊎_elim (λ x. inl (inr x)) (λ x. inr x) (listed_cases k b ws w h)

there : (xs : Image) (n : ℕ) → n < length xs → slice_get xs n ≡ Some (sector xs n)
there [] n lt = absurd (omega arith)
there (x ∷ xs) zero lt = refl
there (x ∷ xs) (suc n) lt = there xs n (omega arith)

within : (xs : Image) (n : ℕ) (x : List ℕ) → slice_get xs n ≡ Some x → n < length xs
within [] n x h = absurd (cc h)
within (y ∷ ys) zero x h = omega arith
within (y ∷ ys) (suc n) x h = let r = within ys n x h in omega (arith, r)

set_there : (xs : Image) (n : ℕ) (b : List ℕ) → n < length xs → slice_get (slice_set xs n b) n ≡ Some b
set_there [] n b lt = absurd (omega arith)
set_there (x ∷ xs) zero b lt = refl
set_there (x ∷ xs) (suc n) b lt = set_there xs n b (omega arith)

set_else : (xs : Image) (n k : ℕ) (b : List ℕ) → n ≢ k → slice_get (slice_set xs n b) k ≡ slice_get xs k
set_else [] n k b ne = refl
set_else (x ∷ xs) zero zero b ne = absurd (ne refl)
set_else (x ∷ xs) zero (suc k) b ne = refl
set_else (x ∷ xs) (suc n) zero b ne = refl
set_else (x ∷ xs) (suc n) (suc k) b ne = set_else xs n k b (λ e. ne (ap suc e))

-- an image after one write more comes of one from before
image_step : (n : ℕ) (b : List ℕ) (d : Disk) (c : Image) → n < length d.base → IsImage (listed n b d) c → (i : Image) × IsImage d i × MayBeWritten n b i c
image_step n b d c lt i =
    let lc : n < length c = omega (arith, i.size) in
    let at : slice_get c n ≡ Some (sector c n) = there c n lc in
    let old : ((slice_get d.base n ≡ Some (sector c n)) ⊎ WasWritten n (sector c n) d.writes) → (i : Image) × IsImage d i × MayBeWritten n b i c =
    λ h. (
      c,
      record {
        size = i.size;
        each = λ k y e. elim (ℕ_discrete n k) [
          | yes same ↦ let is : sector c n ≡ y = cc (sym at ∙ ap (λ (j : ℕ). slice_get c j) same ∙ e) in
              subst (λ (j : ℕ). (slice_get d.base j ≡ Some y) ⊎ WasWritten j y d.writes) same (subst (λ (z : List ℕ). (slice_get d.base n ≡ Some z) ⊎ WasWritten n z d.writes) is h)
          | no other ↦ ⊎_elim (λ base. inl base) (λ w. ⊎_elim (λ ws. inr ws) (λ (p : (n ≡ k) × (b ≡ y)). absurd (other p.0)) (listed_cases k y d.writes (n, b) w)) (i.each k y e)
        ];
      },
      record { size = refl; others = λ k ne. refl; here = inl refl },
    ) in
    ⊎_elim (λ base. old (inl base)) (λ w. ⊎_elim (λ ws. old (inr ws)) (λ (p : (n ≡ n) × (b ≡ sector c n)). (
      slice_set c n (sector d.base n),
      record {
        size = length-set c n (sector d.base n) ∙ i.size;
        each = λ k y e. elim (ℕ_discrete n k) [
          | yes same ↦ inl (subst (λ (j : ℕ). slice_get d.base j ≡ Some y) same (there d.base n lt ∙ sym (set_there c n (sector d.base n) lc) ∙ ap (λ (j : ℕ). slice_get (slice_set c n (sector d.base n)) j) same ∙ e))
          | no other ↦ ⊎_elim (λ base. inl base) (λ v. ⊎_elim (λ ws. inr ws) (λ (q : (n ≡ k) × (b ≡ y)). absurd (other q.0)) (listed_cases k y d.writes (n, b) v)) (i.each k y (sym (set_else c n k (sector d.base n) other) ∙ e))
        ];
      },
      record {
        size = sym (length-set c n (sector d.base n));
        others = λ k ne. sym (get_or-set_other c n k (sector d.base n) [] (apart k n ne));
        here = inr (sym p.1);
      },
    )) (listed_cases n (sector c n) d.writes (n, b) w)) (i.each n (sector c n) at)
  where
    apart : (k n : ℕ) → (k < n) ⊎ (n < k) → k ≢ n
    apart k n (inl lt) e = absurd (omega arith)
    apart k n (inr lt) e = absurd (omega arith)

-- the view plays no part
same_images : (d e : Disk) (c : Image) → d.base ≡ e.base → d.writes ≡ e.writes → IsImage d c → IsImage e c
same_images d e c base writes i = record {
  size = i.size ∙ ap length base;
  each = λ k y h. ⊎_elim (λ (o : slice_get d.base k ≡ Some y). inl (ap (λ (b : Image). slice_get b k) (sym base) ∙ o)) (λ w. inr (subst (λ (ws : List (ℕ × List ℕ)). WasWritten k y ws) writes w)) (i.each k y h);
}

unchanged : (n : ℕ) (b : List ℕ) (d : Disk) (c : Image) → IsImage d c → (i : Image) × IsImage d i × MayBeWritten n b i c
unchanged n b d c i = (c, i, record { size = refl; others = λ k ne. refl; here = inl refl })

after_write : {T E : Type 0} (r : Result T E) (n : ℕ) (b : List ℕ) (old new : Disk) → n < length old.base → OnOk r (new ≡ written n b old) → OnErr r (WriteFailed n b old new) → (c : Image) → IsImage new c → (i : Image) × IsImage old i × MayBeWritten n b i c
after_write (Ok _) n b old new lt ok err c i = image_step n b old c lt (same_images new (listed n b old) c (ap (λ d. d.base) ok) (ap (λ d. d.writes) ok) i)
after_write (Err _) n b old new lt ok (inl same) c i = unchanged n b old c (subst (λ d. IsImage d c) same i)
after_write (Err _) n b old new lt ok (inr (inl same)) c i = image_step n b old c lt (same_images new (listed n b old) c (ap (λ d. d.base) same) (ap (λ d. d.writes) same) i)
after_write (Err _) n b old new lt ok (inr (inr same)) c i = image_step n b old c lt (same_images new (listed n b old) c (ap (λ d. d.base) same) (ap (λ d. d.writes) same) i)

pub weaker : {L : Type 0} (old new : CrashStates L) (P R : L → Type 0) → AddsOnly old new P → ((c : L) → P c → R c) → AddsOnly old new R
weaker old new P R first p = record {
  later = first.later;
  keeps = first.keeps;
  nothing_else = λ t c le left. ⊎_elim (λ o. inl o) (λ x. inr (p c x)) (first.nothing_else t c le left);
  now = λ c left. p c (first.now c left);
}

beside : (k n : ℕ) → (k < n) ⊎ (n < k) → k ≢ n
beside k n (inl lt) e = absurd (omega arith)
beside k n (inr lt) e = absurd (omega arith)

-- a write that succeeded is shown
pub write_shows : {T E : Type 0} (r : Result T E) (n : ℕ) (b : List ℕ) (old new : Disk) → n < length old.view → OnOk r (new ≡ written n b old) → OnOk r (IsWritten n b old.view new.view)
write_shows (Ok _) n b old new lt ok = subst (λ (d : Disk). IsWritten n b old.view d.view) (sym ok) (record {
  size = length-set old.view n b;
  others = λ k ne. get_or-set_other old.view n k b [] (beside k n ne);
  here = get_or-set_same old.view n b [] lt;
})
write_shows (Err _) n b old new lt ok = tt

pub write_makes : {T E : Type 0} (r : Result T E) (n : ℕ) (b : List ℕ) (old new : Disk) (m0 m1 : ℕ) (l0 l1 : ℕ → Image → Type 0) → n < length old.base → OnOk r (new ≡ written n b old) → OnErr r (WriteFailed n b old new)
    → Elapses m0 m1 l0 l1 → ((c : Image) → l1 m1 c → IsImage new c) → ((c : Image) → IsImage old c → l0 m0 c)
    → Makes (record { moment = m0; possible_since = l0 }) (record { moment = m1; possible_since = l1 }) (MayBeWritten n b)
write_makes r n b old new m0 m1 l0 l1 lt ok err time leaves may =
    weaker (record { moment = m0; possible_since = l0 }) (record { moment = m1; possible_since = l1 }) (l1 m1) _ time (λ c left. let a = after_write r n b old new lt ok err c (leaves c left) in (a.0, may a.0 a.1, a.2))

-- one call after another
pub makes_then : (old mid new : CrashStates Image) (P Q R : Image → Image → Type 0) → Makes old mid P → Makes mid new Q → ((i j : Image) → P i j → R i j) → ((i j c : Image) → P i j → Q j c → R i c) → Makes old new R
makes_then old mid new P Q R first second one both =
    adds_both old mid new (After old P) (After mid Q) (After old R) first second
    (λ c p. (p.0, p.1, one p.0 c p.2))
    (λ c q. let p = first.now q.0 q.1 in (p.0, p.1, both p.0 q.0 c p.2 q.2))

-- the next sector of a row
pub more_may : (first count k : ℕ) (bytes : List ℕ) (i j c : Image) → k < count → MayBeAllWritten first count bytes i j → MayBeWritten (first + k) (chunk bytes k) j c → MayBeAllWritten first count bytes i c
more_may first count k bytes i j c lt p q = record {
  size = q.size ∙ p.size;
  others = λ n away. q.others n (apart n away) ∙ p.others n away;
  here = λ m less. elim (ℕ_discrete m k) [
    | yes same ↦ subst (λ (x : ℕ). (sector c (first + x) ≡ sector i (first + x)) ⊎ (sector c (first + x) ≡ chunk bytes x)) (sym same)
        (⊎_elim (λ (old : sector c (first + k) ≡ sector j (first + k)). ⊎_elim (λ (o : sector j (first + k) ≡ sector i (first + k)). inl (old ∙ o)) (λ (w : sector j (first + k) ≡ chunk bytes k). inr (old ∙ w)) (p.here k lt)) (λ (new : sector c (first + k) ≡ chunk bytes k). inr new) q.here)
    | no other ↦ let same = q.others (first + m) (beside m other) in ⊎_elim (λ (o : sector j (first + m) ≡ sector i (first + m)). inl (same ∙ o)) (λ (w : sector j (first + m) ≡ chunk bytes m). inr (same ∙ w)) (p.here m less)
  ];
}
  where
    apart : (n : ℕ) → (n < first) ⊎ (first + count ≤ n) → (n < first + k) ⊎ (first + k < n)
    apart n (inl below) = inl (omega arith)
    apart n (inr above) = inr (omega (arith, lt))

    beside : (m : ℕ) → m ≢ k → (first + m < first + k) ⊎ (first + k < first + m)
    beside m ne = elim (cases_lt m k) [ inl less ↦ inl (omega arith) | inr more ↦ inr (omega (arith, ne)) ]

pub more_is : (first k : ℕ) (bytes : List ℕ) (i j c : Image) → AreWritten first k bytes i j → IsWritten (first + k) (chunk bytes k) j c → AreWritten first (k + 1) bytes i c
more_is first k bytes i j c p q = record {
  size = q.size ∙ p.size;
  others = λ n away. q.others n (apart n away) ∙ p.others n (wider n away);
  here = λ m less. elim (ℕ_discrete m k) [
    | yes same ↦ subst (λ (x : ℕ). sector c (first + x) ≡ chunk bytes x) (sym same) q.here
    | no other ↦ q.others (first + m) (inl (omega (arith, other, less))) ∙ p.here m (omega (arith, other, less))
  ];
}
  where
    apart : (n : ℕ) → (n < first) ⊎ (first + (k + 1) ≤ n) → (n < first + k) ⊎ (first + k < n)
    apart n (inl below) = inl (omega arith)
    apart n (inr above) = inr (omega arith)

    wider : (n : ℕ) → (n < first) ⊎ (first + (k + 1) ≤ n) → (n < first) ⊎ (first + k ≤ n)
    wider n (inl below) = inl below
    wider n (inr above) = inr (omega arith)

pub none_written : (first : ℕ) (bytes : List ℕ) (i : Image) → AreWritten first 0 bytes i i
none_written first bytes i = record { size = refl; others = λ n away. refl; here = λ k less. absurd (omega arith) }

pub none_may : (first count : ℕ) (bytes : List ℕ) (i : Image) → MayBeAllWritten first count bytes i i
none_may first count bytes i = record { size = refl; others = λ n away. refl; here = λ k less. inl refl }

-- ---- a sync

same_image : (a b : Image) → length a ≡ length b → ((n : ℕ) (x : List ℕ) → slice_get a n ≡ Some x → slice_get b n ≡ Some x) → a ≡ b
same_image [] [] size each = refl
same_image [] (y ∷ ys) size each = absurd (omega arith)
same_image (x ∷ xs) [] size each = absurd (omega arith)
same_image (x ∷ xs) (y ∷ ys) size each =
    let head : y ≡ x = cc (each 0 x refl) in
    let tail : xs ≡ ys = same_image xs ys (omega arith) (λ n z h. each (suc n) z h) in
    rw (head, tail) refl

-- after a sync every image is the view
pub synced_is : (d : Disk) (c : Image) → IsImage (synced d) c → c ≡ d.view
synced_is d c i = same_image c d.view i.size (λ n x h. ⊎_elim (λ base. base) (λ w. absurd w) (i.each n x h))

pub all_are_view : {T E : Type 0} (r : Result T E) (old new : Disk) (crash_states : CrashStates Image) → OnOk r (new ≡ synced old) → ((c : Image) → may_crash_to crash_states c → IsImage new c) → OnOk r (AllAre crash_states new.view)
all_are_view (Ok _) old new crash_states ok leaves = λ c left. synced_is old c (subst (λ d. IsImage d c) ok (leaves c left)) ∙ sym (ap (λ d. d.view) ok)
all_are_view (Err _) old new crash_states ok leaves = ok
