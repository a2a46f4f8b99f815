-- Pairs page by page.
use Rattle.std.proofs.Common.{◌≡◌, inl, inr, ℕ, zero, suc, ◌+◌, ◌-◌, ◌*◌, ◌<◌, ◌≤◌, Bool, true, false, List, [], ◌∷◌, ◌++◌, length, take, drop, replicate, refl, sym, ap, subst, ◌∙◌, arith, IsTrue, length-append, length-drop, append_assoc, append-nil}
use Rattle.std.specs.Prelude.{nat_le, ◌==◌}
use Rattle.std.specs.List.{list_all}
use Rattle.std.proofs.lemmas.Bool.{cases_Bool, leb-true, le-leb}
use Rattle.std.proofs.lemmas.List.{take_all, drop-drop, length-take-le}
use Rattle.page_store.specs.Pages.{Pair}
use Rattle.page_store.specs.Batch.{is_pair, is_key, is_value}
use Rattle.page_store.specs.Flat.{entry_size}
use Rattle.page_store.specs.Encoding.{padded, entry_bytes, entries_bytes, fitting, page_room, paged, flat_bytes, flat_pages, root_sectors, root_sector}
use Rattle.page_store.specs.declared.commit.NewPage.{NewPage}
use Rattle.page_store.proofs.CommitImages.{both_true}

pub padded_is : (n m : ℕ) (xs : List ℕ) → m ≡ length xs → length xs ≤ n → take n xs ++ replicate (n - m) 0 ≡ padded n xs
padded_is n m xs is le = rw (is, take_all n xs le) refl

pub size_of_entry : (pair : Pair) → length (entry_bytes pair) ≡ entry_size pair
size_of_entry pair = simp length-append (omega arith)

pub fitting_le : (room : ℕ) (pairs : List Pair) → fitting room pairs ≤ length pairs
fitting_le room [] = omega arith
fitting_le room (pair ∷ pairs) =
    elim (cases_Bool (nat_le (entry_size pair) room)) [
      | inl t ↦ let rest = fitting_le (room - entry_size pair) pairs in rw t (omega (arith, rest))
      | inr f ↦ rw f (omega arith)
    ]

pub fitting_room : (room : ℕ) (pairs : List Pair) → length (entries_bytes (take (fitting room pairs) pairs)) ≤ room
fitting_room room [] = omega arith
fitting_room room (pair ∷ pairs) =
    elim (cases_Bool (nat_le (entry_size pair) room)) [
      | inl t ↦
          let rest = fitting_room (room - entry_size pair) pairs in
          let here = size_of_entry pair in
          let le = leb-true (entry_size pair) room t in
          rw t (rw (length-append (entry_bytes pair) (entries_bytes (take (fitting (room - entry_size pair) pairs) pairs))) (omega (arith, rest, here, le)))
      | inr f ↦ rw f (omega arith)
    ]

pub entries_count : (pairs : List Pair) → 4 * length pairs ≤ length (entries_bytes pairs)
entries_count [] = omega arith
entries_count (pair ∷ pairs) =
    let rest = entries_count pairs in
    let here = size_of_entry pair in
    rw (length-append (entry_bytes pair) (entries_bytes pairs)) (omega (arith, rest, here))

pair_size : (pair : Pair) → is_pair pair ≡ true → entry_size pair ≤ 1328
unfolding is_value
pair_size pair h =
    let a = both_true (is_key pair.0) (is_value pair.1) h in
    let b = both_true (nat_le 1 (length pair.0)) (nat_le (length pair.0) 300) a.0 in
    let key = leb-true (length pair.0) 300 b.1 in
    let value = leb-true (length pair.1) 1024 a.1 in
    omega (arith, key, value)

pub fitting_some : (pairs : List Pair) → 0 < length pairs → IsTrue (list_all is_pair pairs) → 0 < fitting page_room pairs
unfolding page_room
fitting_some [] lt h = absurd (omega arith)
fitting_some (pair ∷ pairs) lt h =
    let a = both_true (is_pair pair) (list_all is_pair pairs) h in
    let size = pair_size pair a.0 in
    let fits : nat_le (entry_size pair) 4072 ≡ true = le-leb (entry_size pair) 4072 (omega (arith, size)) in
    rw fits (omega arith)

pub all_take : {A : Type 0} (f : A → Bool) (n : ℕ) (xs : List A) → IsTrue (list_all f xs) → IsTrue (list_all f (take n xs))
all_take f n [] h = subst (λ (l : List _). IsTrue (list_all f l)) (sym (take_all n [] (omega arith))) refl
all_take f zero (x ∷ xs) h = refl
all_take f (suc n) (x ∷ xs) h = let a = both_true (f x) (list_all f xs) h in rw a.0 (all_take f n xs a.1)

pub all_drop : {A : Type 0} (f : A → Bool) (n : ℕ) (xs : List A) → IsTrue (list_all f xs) → IsTrue (list_all f (drop n xs))
all_drop f zero xs h = h
all_drop f (suc n) [] h = refl
all_drop f (suc n) (x ∷ xs) h = let a = both_true (f x) (list_all f xs) h in all_drop f n xs a.1

pub paged_step : (most : ℕ) (rest : List Pair) → 0 < most → 0 < length rest → paged most rest ≡ take (fitting page_room rest) rest ∷ paged (most - 1) (drop (fitting page_room rest) rest)
paged_step zero rest a b = absurd (omega arith)
paged_step (suc most) [] a b = absurd (omega arith)
paged_step (suc most) (pair ∷ pairs) a b = let e : suc most - 1 ≡ most = omega arith in rw e refl

pub paged_none : (most : ℕ) (rest : List Pair) → length rest ≡ 0 → paged most rest ≡ []
paged_none zero rest e = refl
paged_none (suc most) [] e = refl
paged_none (suc most) (pair ∷ pairs) e = absurd (omega arith)

pub root_sectors_more : (n seal count : ℕ) (bytes : List ℕ) → 0 < count → root_sectors n seal count bytes ≡ root_sector n seal (take 488 bytes) ++ root_sectors (n + 1) seal (count - 1) (drop 488 bytes)
unfolding root_sectors
root_sectors_more n seal zero bytes lt = absurd (omega arith)
root_sectors_more n seal (suc count) bytes lt = let e : suc count - 1 ≡ count = omega arith in let f : n + 1 ≡ suc n = omega arith in rw (e, f) refl

pub some_left : (n : ℕ) → (n == 0) ≡ false → 0 < n
some_left zero e = absurd (cc e)
some_left (suc n) e = omega arith

pub all_padded : (n : ℕ) (xs : List ℕ) → n ≤ length xs → length xs ≤ n → xs ≡ padded n xs
all_padded n xs ge le = let e : n - length xs ≡ 0 = omega arith in rw e (sym (append-nil xs))

pub regrouped : (o w n s p : List ℕ) → o ++ w ++ n ++ s ++ p ≡ o ++ (w ++ n ++ s ++ p)
regrouped o w n s p = simp append_assoc

-- one more sector at the end
pub next_sector : (out bytes : List ℕ) (first seal k : ℕ) → k < 8 →
    out ++ root_sector (first + k) seal (take 488 (drop (488 * k) bytes)) ++ root_sectors (first + (k + 1)) seal (8 - (k + 1)) (drop (488 * (k + 1)) bytes) ≡ out ++ root_sectors (first + k) seal (8 - k) (drop (488 * k) bytes)
next_sector out bytes first seal k lt =
    let more = root_sectors_more (first + k) seal (8 - k) (drop (488 * k) bytes) (omega (arith, lt)) in
    let a : first + (k + 1) ≡ first + k + 1 = omega arith in
    let b : 8 - k - 1 ≡ 8 - (k + 1) = omega arith in
    let d : 488 * k + 488 ≡ 488 * (k + 1) = omega arith in
    rw (more, b, drop-drop 488 (488 * k) bytes, d, a) (append_assoc out (root_sector (first + k) seal (take 488 (drop (488 * k) bytes))) (root_sectors (first + k + 1) seal (8 - (k + 1)) (drop (488 * (k + 1)) bytes)))

pub root_sectors_none : (n seal : ℕ) (bytes : List ℕ) → root_sectors n seal 0 bytes ≡ []
unfolding root_sectors
root_sectors_none n seal bytes = refl

pub length_of_sector : (n seal : ℕ) (part : List ℕ) → length (root_sector n seal part) ≡ 24 + length part
unfolding root_sector
length_of_sector n seal part = omega arith

pub small_page : (pairs : List Pair) → length (entries_bytes pairs) ≤ page_room → length pairs < 65536
unfolding page_room
small_page pairs le = let count = entries_count pairs in omega (arith, le, count)

pub flat_pages_length : (seal page : ℕ) (groups : List (List Pair)) → length (flat_pages seal page groups) ≡ length groups
flat_pages_length seal page [] = refl
flat_pages_length seal page (group ∷ groups) = ap suc (flat_pages_length seal (suc page) groups)

pub entries_push : (pairs : List Pair) (pair : Pair) → entries_bytes (pairs ++ pair ∷ []) ≡ entries_bytes pairs ++ entry_bytes pair
entries_push [] pair = append-nil (entry_bytes pair)
entries_push (p ∷ pairs) pair = ap (λ (x : List ℕ). entry_bytes p ++ x) (entries_push pairs pair) ∙ sym (append_assoc (entry_bytes p) (entries_bytes pairs) (entry_bytes pair))

pub next_page : (done all : List NewPage) (seal page : ℕ) (bytes : List ℕ) (group : List Pair) (groups more : List (List Pair)) → bytes ≡ flat_bytes seal page group → groups ≡ group ∷ more
    → done ++ flat_pages seal page groups ≡ all → done ++ record { number = page; bytes = bytes } ∷ [] ++ flat_pages seal (page + 1) more ≡ all
next_page done all seal page bytes group groups more is split whole =
    let e : page + 1 ≡ suc page = omega arith in
    rw (e, append_assoc done (record { number = page; bytes = bytes } ∷ []) (flat_pages seal (suc page) more), is) (subst (λ (g : List (List Pair)). done ++ flat_pages seal page g ≡ all) split whole)

pub sector_length : (k n seal : ℕ) (out bytes all : List ℕ) → length bytes ≡ 3904 → k < 8 → length out ≡ 512 * k → all ≡ out ++ root_sector n seal (take 488 (drop (488 * k) bytes)) → length all ≡ 512 * (k + 1)
sector_length k n seal out bytes all size lt before is =
    let a = length_of_sector n seal (take 488 (drop (488 * k) bytes)) in
    let b : length (take 488 (drop (488 * k) bytes)) ≡ 488 = length-take-le 488 (drop (488 * k) bytes) (simp length-drop (omega (arith, size, lt))) in
    ap length is ∙ length-append out (root_sector n seal (take 488 (drop (488 * k) bytes))) ∙ omega (arith, a, b, before)

pub all_sectors : (out rest all : List ℕ) (n seal k : ℕ) → k ≡ 8 → out ++ root_sectors n seal (8 - k) rest ≡ all → out ≡ all
all_sectors out rest all n seal k is h =
    let e : 8 - k ≡ 0 = omega (arith, is) in
    sym (append-nil out) ∙ ap (λ (x : List ℕ). out ++ x) (sym (root_sectors_none n seal rest)) ∙ subst (λ (m : ℕ). out ++ root_sectors n seal m rest ≡ all) e h
