-- Sectors that are read by one call.
use Rattle.std.proofs.Common.{◌≡◌, ℕ, suc, List, [], ◌∷◌, ◌++◌, ◌+◌, ◌<◌, length, take, get_or, refl, sym, ◌∙◌, ap, subst, arith, append_assoc, append-nil}
use Rattle.std.proofs.lemmas.List.{take_more, length-take-le}
use Rattle.sector_device.specs.Disk.{Disk}
use Rattle.file_device.specs.FileCalls.{disk_of, read_calls}
use Rattle.file_device.specs.Opening.{AreRead}
use Rattle.file_device.specs.declared.file_call.FileCall.{FileCall}
use Rattle.file_device.specs.declared.file_call.FileCall.TheVariants.{Read}

-- one sector more is noted behind the others
pub one_more_noted : (first : ℕ) (sectors : List (List ℕ)) (bytes : List ℕ) (earlier : List FileCall) → read_calls first (sectors ++ bytes ∷ []) earlier ≡ Read (first + length sectors) bytes ∷ read_calls first sectors earlier
one_more_noted first [] bytes earlier = ap (λ (n : ℕ). Read n bytes ∷ earlier) (omega arith)
one_more_noted first (x ∷ sectors) bytes earlier =
    one_more_noted (suc first) sectors bytes (Read first x ∷ earlier) ∙ ap (λ (n : ℕ). Read n bytes ∷ read_calls (suc first) sectors (Read first x ∷ earlier)) (omega arith)

-- they were read from the first on
pub read_on : (first : ℕ) (sectors : List (List ℕ)) (before calls : List FileCall) → AreRead first before calls → AreRead (first + length sectors) before (read_calls first sectors calls)
read_on first [] before calls so_far = subst (λ (n : ℕ). AreRead n before calls) (omega arith) so_far
read_on first (x ∷ sectors) before calls so_far =
    let next : AreRead (suc first) before (Read first x ∷ calls) = (x, calls, refl, so_far) in
    subst (λ (n : ℕ). AreRead n before (read_calls (suc first) sectors (Read first x ∷ calls))) (omega arith) (read_on (suc first) sectors before (Read first x ∷ calls) next)

-- and the disk shows them
pub shown_on : (first : ℕ) (sectors : List (List ℕ)) (calls : List FileCall) → (disk_of (read_calls first sectors calls)).view ≡ (disk_of calls).view ++ sectors
shown_on first [] calls = sym (append-nil (disk_of calls).view)
shown_on first (x ∷ sectors) calls = shown_on (suc first) sectors (Read first x ∷ calls) ∙ append_assoc (disk_of calls).view (x ∷ []) sectors

-- so many are noted, and one more
pub noted_on : (first i n : ℕ) (sectors : List (List ℕ)) (x d : List ℕ) (old before now : List FileCall) → i < length sectors → x ≡ get_or sectors i d → n ≡ first + i → before ≡ read_calls first (take i sectors) old → now ≡ Read n x ∷ before → now ≡ read_calls first (take (i + 1) sectors) old
noted_on first i n sectors x d old before now below is at so_far next =
    next
    ∙ ap (λ (calls : List FileCall). Read n x ∷ calls) so_far
    ∙ ap (λ (k : ℕ). Read k x ∷ read_calls first (take i sectors) old) (at ∙ ap (λ (k : ℕ). first + k) (sym (length-take-le i sectors (omega (arith, below)))))
    ∙ sym (one_more_noted first (take i sectors) x old)
    ∙ ap (λ (xs : List (List ℕ)). read_calls first xs old) (ap (λ (y : List ℕ). take i sectors ++ y ∷ []) is ∙ sym (take_more sectors i d below))

-- a piece is read behind those before it
pub piece_read : (first k : ℕ) (sectors : List (List ℕ)) (old new : List FileCall) → new ≡ read_calls first sectors old → length sectors ≡ k → (before : List FileCall) → AreRead first before old → AreRead (first + k) before new
piece_read first k sectors old new is many before so_far =
    subst (λ (calls : List FileCall). AreRead (first + k) before calls) (sym is) (subst (λ (n : ℕ). AreRead (first + n) before (read_calls first sectors old)) many (read_on first sectors before old so_far))

pub piece_shown : (first : ℕ) (sectors view now : List (List ℕ)) (old new : List FileCall) → new ≡ read_calls first sectors old → view ≡ (disk_of old).view → now ≡ view ++ sectors → now ≡ (disk_of new).view
piece_shown first sectors view now old new is shown more =
    more ∙ ap (λ (v : List (List ℕ)). v ++ sectors) shown ∙ sym (shown_on first sectors old) ∙ ap (λ (calls : List FileCall). (disk_of calls).view) (sym is)
