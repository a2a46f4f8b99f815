-- What every history of a disk in memory keeps: its view is an image, and a crash now leaves exactly the images.
use Rattle.std.specs.Prelude.{◌≡◌, ◌⊎◌, ℕ, zero, suc, List, [], ◌∷◌, ◌++◌, length, Some, slice_get, slice_set, refl}
use Rattle.std.proofs.Common.{inl, inr, ⊎_elim, sym, ◌∙◌, ap, subst, arith}
use Rattle.std.proofs.lemmas.List.{take_all}
use Rattle.sector_device.specs.Disk.{Disk, IsImage, WasWritten, written, synced}
use Rattle.sector_device.specs.Calls.{fresh, after, replay, MayLeaveSince}
use Rattle.sector_device.specs.declared.call.Call.{Call}
use Rattle.sector_device.specs.declared.call.Call.TheVariants.{Write, Sync}

pub replay-push : (d : Disk) (calls : List Call) (call : Call) → replay d (calls ++ call ∷ []) ≡ after call (replay d calls)
replay-push d [] call = refl
replay-push d (c ∷ calls) call = replay-push (after c d) calls call

pub length-set : (n : ℕ) (x : List ℕ) (xs : List (List ℕ)) → length (slice_set xs n x) ≡ length xs
length-set n x [] = refl
length-set zero x (y ∷ ys) = refl
length-set (suc n) x (y ∷ ys) = ap suc (length-set n x ys)

-- a disk whose view is an image, of so many sectors
pub record IsGood (size : ℕ) (d : Disk) : Type 0 where
  pub size_is : length d.base ≡ size
  pub view : IsImage d d.view

pub listed_old : (n : ℕ) (b : List ℕ) (ws : List (ℕ × List ℕ)) (w : ℕ × List ℕ) → WasWritten n b ws → WasWritten n b (ws ++ w ∷ [])
listed_old n b [] w h = absurd h
listed_old n b (v ∷ ws) w (inl h) = inl h
listed_old n b (v ∷ ws) w (inr h) = inr (listed_old n b ws w h)

listed_new : (n : ℕ) (b : List ℕ) (ws : List (ℕ × List ℕ)) → WasWritten n b (ws ++ (n, b) ∷ [])
listed_new n b [] = inl (refl, refl)
listed_new n b (v ∷ ws) = inr (listed_new n b ws)

-- a sector after one is set: as before, or the one that was set
pub set_at : (xs : List (List ℕ)) (n k : ℕ) (x b : List ℕ) → slice_get (slice_set xs n x) k ≡ Some b → (slice_get xs k ≡ Some b) ⊎ ((n ≡ k) × (x ≡ b))
set_at [] n k x b h = inl h
set_at (y ∷ ys) zero zero x b h = inr (refl, cc h)
set_at (y ∷ ys) zero (suc k) x b h = inl h
set_at (y ∷ ys) (suc n) zero x b h = inl h
set_at (y ∷ ys) (suc n) (suc k) x b h = ⊎_elim (λ old. inl old) (λ (p : (n ≡ k) × (x ≡ b)). inr (ap suc p.0, p.1)) (set_at ys n k x b h)

-- an image of a disk is one after a write is listed
pub image_listed : (n : ℕ) (b : List ℕ) (d : Disk) (c : List (List ℕ)) → IsImage d c → IsImage (written n b d) c
image_listed n b d c i = record { size = i.size; each = λ k x h. ⊎_elim (λ base. inl base) (λ w. inr (listed_old k x d.writes (n, b) w)) (i.each k x h) }

-- a write that is listed may stand in an image
pub image_written : (n : ℕ) (b : List ℕ) (d : Disk) (c : List (List ℕ)) → IsImage d c → IsImage (written n b d) (slice_set c n b)
image_written n b d c i = record {
  size = length-set n b c ∙ i.size;
  each = λ k x h. ⊎_elim (λ old. (image_listed n b d c i).each k x old) (λ (p : (n ≡ k) × (b ≡ x)). inr (subst (λ m. WasWritten m x (d.writes ++ (n, b) ∷ [])) p.0 (subst (λ (y : List ℕ). WasWritten n y (d.writes ++ (n, b) ∷ [])) p.1 (listed_new n b d.writes)))) (set_at c n k b x h);
}

good_write : (size n : ℕ) (b : List ℕ) (d : Disk) → IsGood size d → IsGood size (written n b d)
good_write size n b d g = record { size_is = g.size_is; view = image_written n b d d.view g.view }

good_sync : (size : ℕ) (d : Disk) → IsGood size d → IsGood size (synced d)
good_sync size d g = record { size_is = g.view.size ∙ g.size_is; view = record { size = refl; each = λ k x h. inl h } }

pub good_replay : (calls : List Call) (size : ℕ) (d : Disk) → IsGood size d → IsGood size (replay d calls)
good_replay [] size d g = g
good_replay (Write n b ∷ calls) size d g = good_replay calls size (written n b d) (good_write size n b d g)
good_replay (Sync ∷ calls) size d g = good_replay calls size (synced d) (good_sync size d g)

pub good : (first : List (List ℕ)) (calls : List Call) → IsGood (length first) (replay (fresh first) calls)
good first calls = good_replay calls (length first) (fresh first) (record { size_is = refl; view = record { size = refl; each = λ k x h. inl h } })

pub only_images : (first : List (List ℕ)) (calls : List Call) (c : List (List ℕ)) → MayLeaveSince first calls (length calls) c → IsImage (replay (fresh first) calls) c
only_images first calls c left = subst (λ (l : List Call). IsImage (replay (fresh first) l) c) (take_all left.0 calls left.1) left.3

pub all_images : (first : List (List ℕ)) (calls : List Call) (c : List (List ℕ)) → IsImage (replay (fresh first) calls) c → MayLeaveSince first calls (length calls) c
all_images first calls c i = (length calls, omega arith, omega arith, subst (λ (l : List Call). IsImage (replay (fresh first) l) c) (sym (take_all (length calls) calls (omega arith))) i)
