-- What picks leave is an image, and each image is left by some picks.
use Rattle.std.proofs.Common.{◌≡◌, inl, inr, ⊎_elim, ℕ, ◌+◌, true, false, List, [], ◌∷◌, ◌++◌, slice_set, Result, Ok, Err, IfOk, refl, sym, subst, append_assoc, append-nil, if◌then◌else◌}
use Rattle.sector_device.specs.Disk.{Disk, IsImage, WasWritten}
use Rattle.sector_device.specs.AfterStop.{is_picked, done_where, after_stop}
use Rattle.sector_device.specs.Calls.{History, disk_of}
use Rattle.sector_device.specs.Images.{image_listed, image_written}

-- an image stays one where writes are listed, and some of them done
image_of : (picks : List ℕ) (place : ℕ) (ws : List (ℕ × List ℕ)) (base : List (List ℕ)) (listed : List (ℕ × List ℕ)) (view s : List (List ℕ)) → IsImage (record { base = base; writes = listed; view = view }) s → IsImage (record { base = base; writes = listed ++ ws; view = view }) (done_where picks place ws s)
image_of picks place [] base listed view s i = record { size = i.size; each = λ n b h. ⊎_elim (λ old. inl old) (λ w. inr (subst (λ (l : List (ℕ × List ℕ)). WasWritten n b l) (sym (append-nil listed)) w)) (i.each n b h) }
image_of picks place (w ∷ ws) base listed view s i =
    let d : Disk = record { base = base; writes = listed; view = view } in
    let more = listed ++ w ∷ [] in
    let kept : IsImage (record { base = base; writes = more; view = view }) s = record { size = i.size; each = (image_listed w.0 w.1 d s i).each } in
    let put : IsImage (record { base = base; writes = more; view = view }) (slice_set s w.0 w.1) = record { size = (image_written w.0 w.1 d s i).size; each = (image_written w.0 w.1 d s i).each } in
    let next : IsImage (record { base = base; writes = more; view = view }) (if is_picked picks place then slice_set s w.0 w.1 else s) =
    elim (is_picked picks place) as (λ b. IsImage (record { base = base; writes = more; view = view }) (if b then slice_set s w.0 w.1 else s)) [ true ↦ put | false ↦ kept ] in
    subst (λ (l : List (ℕ × List ℕ)). IsImage (record { base = base; writes = l; view = view }) (done_where picks place (w ∷ ws) s)) (append_assoc listed (w ∷ []) ws)
    (image_of picks (place + 1) ws base more view (if is_picked picks place then slice_set s w.0 w.1 else s) next)

pub picked_is_image : (picks : List ℕ) (d : Disk) → IsImage d (after_stop picks d)
picked_is_image picks d = let i = image_of picks 0 d.writes d.base [] d.view d.base (record { size = refl; each = λ n b h. inl h }) in record { size = i.size; each = i.each }

pub if_ok : {T E : Type 0} {P Q : T → Type 0} (r : Result T E) → ((x : T) → P x → Q x) → IfOk r P → IfOk r Q
if_ok (Ok x) f h = f x h
if_ok (Err e) f h = tt

pub left_of : (picks : List ℕ) (h : History) (left : List (List ℕ)) → left ≡ after_stop picks (disk_of h) → IsImage (disk_of h) left
left_of picks h left is = subst (λ (s : List (List ℕ)). IsImage (disk_of h) s) (sym is) (picked_is_image picks (disk_of h))
