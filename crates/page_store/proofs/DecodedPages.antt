-- What is written is read again.
use Rattle.std.proofs.Common.{◌≡◌, ◌⊎◌, inl, inr, ℕ, zero, suc, ◌+◌, ◌-◌, ◌^◌, ◌<◌, ◌≤◌, true, false, List, [], ◌∷◌, ◌++◌, length, take, drop, replicate, Option, Some, refl, sym, ap, subst, ◌∙◌, arith, IsTrue, take-append-drop, length-append, length-drop, append_assoc, eq-eqb}
use Rattle.std.specs.Prelude.{nat_le, nat_lt, ◌&&◌, ◌==◌}
use Rattle.std.specs.List.{list_all}
use Rattle.std.specs.Int.{w16, w32, w64, to_be_bytes}
use Rattle.std.proofs.lemmas.Nat.{from_be_bytes-to_be_bytes_2, from_be_bytes-to_be_bytes_4, from_be_bytes-to_be_bytes_8}
use Rattle.std.proofs.lemmas.Bool.{cases_Bool, leb-true, leb-false, ne_eqb, le-leb, lt-ltb}
use Rattle.std.proofs.lemmas.List.{take_all, take_at, drop_at, length-take-le}
use Rattle.page_store.specs.Reading.{where_true, number_at, piece_at}
use Rattle.page_store.specs.Roots.{is_zero}
use Rattle.page_store.specs.Pages.{Pair, Head, pair_at, entries_at, head_at}
use Rattle.page_store.specs.Batch.{is_pair, is_key, is_value}
use Rattle.page_store.specs.Flat.{entry_size, flat_word, flat_page, is_flat_head, is_over, flat_next, flat_walk}
use Rattle.page_store.specs.Encoding.{padded, entry_bytes, entries_bytes, flat_head_bytes, flat_bytes, fitting, page_room, paged, flat_pages}
use Rattle.page_store.specs.declared.commit.NewPage.{NewPage}
use Rattle.page_store.proofs.Fields.{bind_again}
use Rattle.page_store.proofs.CommitImages.{both_true}
use Rattle.page_store.proofs.PairsByPage.{size_of_entry, fitting_le, fitting_room, fitting_some, small_page, all_take, all_drop, paged_step}

pub number16_again : (n : ℕ) (rest : List ℕ) → n < 2 ^ 16 → number_at w16 (to_be_bytes w16 n ++ rest) ≡ Some (n, rest)
number16_again n rest lt =
    let t : nat_le 2 (length (to_be_bytes w16 n ++ rest)) ≡ true = le-leb 2 (length (to_be_bytes w16 n ++ rest)) (omega arith) in
    rw t (ap (λ (m : ℕ). Some (m, rest)) (from_be_bytes-to_be_bytes_2 n lt))

pub number32_again : (n : ℕ) (rest : List ℕ) → n < 2 ^ 32 → number_at w32 (to_be_bytes w32 n ++ rest) ≡ Some (n, rest)
number32_again n rest lt =
    let t : nat_le 4 (length (to_be_bytes w32 n ++ rest)) ≡ true = le-leb 4 (length (to_be_bytes w32 n ++ rest)) (omega arith) in
    rw t (ap (λ (m : ℕ). Some (m, rest)) (from_be_bytes-to_be_bytes_4 n lt))

pub number64_again : (n : ℕ) (rest : List ℕ) → n < 2 ^ 64 → number_at w64 (to_be_bytes w64 n ++ rest) ≡ Some (n, rest)
number64_again n rest lt =
    let t : nat_le 8 (length (to_be_bytes w64 n ++ rest)) ≡ true = le-leb 8 (length (to_be_bytes w64 n ++ rest)) (omega arith) in
    rw t (ap (λ (m : ℕ). Some (m, rest)) (from_be_bytes-to_be_bytes_8 n lt))

pub piece_again : (n : ℕ) (xs rest : List ℕ) → n ≡ length xs → piece_at n (xs ++ rest) ≡ Some (xs, rest)
piece_again n xs rest is =
    let t : nat_le n (length (xs ++ rest)) ≡ true = le-leb n (length (xs ++ rest)) (simp length-append (omega (arith, is))) in
    let back : length xs ≡ n = sym is in rw (t, take_at xs rest n back, drop_at xs rest n back) refl

pair_tests : (pair : Pair) → is_pair pair ≡ true → nat_le 1 (length pair.0) && (nat_le (length pair.0) 300 && nat_le (length pair.1) 1024) ≡ true
unfolding is_value
pair_tests pair h =
    let a = both_true (is_key pair.0) (is_value pair.1) h in
    let b = both_true (nat_le 1 (length pair.0)) (nat_le (length pair.0) 300) a.0 in
    rw (b.0, b.1, a.1) refl

pub pair_sizes : (pair : Pair) → is_pair pair ≡ true → (length pair.0 ≤ 300) × (length pair.1 ≤ 1024)
unfolding is_value
pair_sizes pair h =
    let a = both_true (is_key pair.0) (is_value pair.1) h in
    let b = both_true (nat_le 1 (length pair.0)) (nat_le (length pair.0) 300) a.0 in
    (leb-true (length pair.0) 300 b.1, leb-true (length pair.1) 1024 a.1)

pub pair_again : (pair : Pair) (rest : List ℕ) → is_pair pair ≡ true → pair_at (entry_bytes pair ++ rest) ≡ Some (pair, rest)
unfolding pair_at
pair_again pair rest h =
    let size = pair_sizes pair h in
    let tests = pair_tests pair h in
    let regrouped : entry_bytes pair ++ rest ≡ to_be_bytes w16 (length pair.0) ++ (to_be_bytes w16 (length pair.1) ++ (pair.0 ++ (pair.1 ++ rest))) = simp append_assoc in
    ap pair_at regrouped
    ∙ bind_again (number_at w16 (to_be_bytes w16 (length pair.0) ++ (to_be_bytes w16 (length pair.1) ++ (pair.0 ++ (pair.1 ++ rest))))) _ (length pair.0, to_be_bytes w16 (length pair.1) ++ (pair.0 ++ (pair.1 ++ rest))) (Some (pair, rest))
    (number16_again (length pair.0) (to_be_bytes w16 (length pair.1) ++ (pair.0 ++ (pair.1 ++ rest))) (omega (arith, size.0)))
    (bind_again (number_at w16 (to_be_bytes w16 (length pair.1) ++ (pair.0 ++ (pair.1 ++ rest)))) _ (length pair.1, pair.0 ++ (pair.1 ++ rest)) (Some (pair, rest))
    (number16_again (length pair.1) (pair.0 ++ (pair.1 ++ rest)) (omega (arith, size.1)))
    (bind_again (piece_at (length pair.0) (pair.0 ++ (pair.1 ++ rest))) _ (pair.0, pair.1 ++ rest) (Some (pair, rest)) (piece_again (length pair.0) pair.0 (pair.1 ++ rest) refl)
    (bind_again (piece_at (length pair.1) (pair.1 ++ rest)) _ (pair.1, rest) (Some (pair, rest)) (piece_again (length pair.1) pair.1 rest refl) (rw tests refl))))

pub entries_again : (pairs : List Pair) (rest : List ℕ) → IsTrue (list_all is_pair pairs) → entries_at pair_at (length pairs) (entries_bytes pairs ++ rest) ≡ Some (pairs, rest)
entries_again [] rest h = refl
entries_again (pair ∷ pairs) rest h =
    let a = both_true (is_pair pair) (list_all is_pair pairs) h in
    let regrouped : entries_bytes (pair ∷ pairs) ++ rest ≡ entry_bytes pair ++ (entries_bytes pairs ++ rest) = append_assoc (entry_bytes pair) (entries_bytes pairs) rest in
    ap (entries_at pair_at (suc (length pairs))) regrouped
    ∙ bind_again (pair_at (entry_bytes pair ++ (entries_bytes pairs ++ rest))) _ (pair, entries_bytes pairs ++ rest) (Some (pair ∷ pairs, rest)) (pair_again pair (entries_bytes pairs ++ rest) a.0)
    (bind_again (entries_at pair_at (length pairs) (entries_bytes pairs ++ rest)) _ (pairs, rest) (Some (pair ∷ pairs, rest)) (entries_again pairs rest a.1) refl)

abbrev head_of : ℕ → ℕ → ℕ → Head
head_of seal page count = record { number = page; generation = seal; level = 0; count = count }

pub head_again : (seal page count : ℕ) (rest : List ℕ) → seal < 2 ^ 64 → page < 2 ^ 32 → count < 2 ^ 16 → head_at flat_word (flat_head_bytes seal page count ++ rest) ≡ Some (head_of seal page count, rest)
unfolding head_at
head_again seal page count rest s p n =
    let r4 = to_be_bytes w16 count ++ rest in
    let r3 = to_be_bytes w16 0 ++ r4 in
    let r2 = to_be_bytes w64 seal ++ r3 in
    let r1 = to_be_bytes w32 page ++ r2 in
    let regrouped : flat_head_bytes seal page count ++ rest ≡ flat_word ++ (to_be_bytes w32 page ++ (to_be_bytes w64 seal ++ (to_be_bytes w16 0 ++ (to_be_bytes w16 count ++ rest)))) = simp append_assoc in
    ap (head_at flat_word) regrouped
    ∙ bind_again (piece_at 8 (flat_word ++ r1)) _ (flat_word, r1) (Some (head_of seal page count, rest)) (piece_again 8 flat_word r1 refl)
    (bind_again (number_at w32 r1) _ (page, r2) (Some (head_of seal page count, rest)) (number32_again page r2 p)
    (bind_again (number_at w64 r2) _ (seal, r3) (Some (head_of seal page count, rest)) (number64_again seal r3 s)
    (bind_again (number_at w16 r3) _ (0, r4) (Some (head_of seal page count, rest)) (number16_again 0 r4 (omega arith))
    (bind_again (number_at w16 r4) _ (count, rest) (Some (head_of seal page count, rest)) (number16_again count rest n) refl))))

zeros_are : (n : ℕ) → list_all is_zero (replicate n 0) ≡ true
zeros_are zero = refl
zeros_are (suc n) = zeros_are n

zeros_length : (n : ℕ) → length {A = ℕ} (replicate n 0) ≡ n
zeros_length zero = refl
zeros_length (suc n) = ap suc (zeros_length n)

head_tests : (seal page count : ℕ) → 0 < count → is_flat_head seal page (head_of seal page count) ≡ true
head_tests seal page count some = rw (eq-eqb page page refl, eq-eqb seal seal refl, le-leb 1 count some) refl

pub flat_again : (seal page : ℕ) (pairs : List Pair) → seal < 2 ^ 64 → page < 2 ^ 32 → 0 < length pairs → IsTrue (list_all is_pair pairs) → length (entries_bytes pairs) ≤ page_room
    → flat_page seal page (flat_bytes seal page pairs) ≡ Some (pairs, page_room - length (entries_bytes pairs))
unfolding flat_page flat_bytes page_room
flat_again seal page pairs s p some all room =
    let body = entries_bytes pairs in
    let head = flat_head_bytes seal page (length pairs) in
    let n = 4096 - length (head ++ body) in
    let size : n ≡ 4072 - length body = ap (λ (k : ℕ). 4096 - k) (length-append head body) ∙ omega arith in
    let small = small_page pairs room in
    let regrouped : padded 4096 (head ++ body) ≡ head ++ (body ++ replicate n 0) = append_assoc head body (replicate n 0) in
    let answer : Option (List Pair × ℕ) = Some (pairs, 4072 - length body) in
    ap (flat_page seal page) regrouped
    ∙ bind_again (head_at flat_word (head ++ (body ++ replicate n 0))) _ (head_of seal page (length pairs), body ++ replicate n 0) answer (head_again seal page (length pairs) (body ++ replicate n 0) s p (omega (arith, small)))
    (bind_again (entries_at pair_at (length pairs) (body ++ replicate n 0)) _ (pairs, replicate n 0) answer (entries_again pairs (replicate n 0) all)
    (rw (head_tests seal page (length pairs) some, zeros_are n, zeros_length n, size) refl))

-- these pages have their bytes
abbrev pub ImageHas : (ℕ → List ℕ) → List NewPage → Type 0
ImageHas bytes [] = Unit {0}
ImageHas bytes (page ∷ pages) = (bytes page.number ≡ page.bytes) × ImageHas bytes pages

-- a page is begun by these pairs
abbrev pub Begins : ℕ → List Pair → Type 0
Begins room pairs = (length pairs ≡ 0) ⊎ (is_over room pairs ≡ true)

-- after a page is filled
fitting_crash_states : (room : ℕ) (pairs : List Pair) → Begins (room - length (entries_bytes (take (fitting room pairs) pairs))) (drop (fitting room pairs) pairs)
fitting_crash_states room [] = inl refl
fitting_crash_states room (pair ∷ pairs) =
    elim (cases_Bool (nat_le (entry_size pair) room)) [
      | inl t ↦
          let rest = fitting_crash_states (room - entry_size pair) pairs in
          let here = size_of_entry pair in
          let size : room - entry_size pair - length (entries_bytes (take (fitting (room - entry_size pair) pairs) pairs)) ≡ room - length (entry_bytes pair ++ entries_bytes (take (fitting (room - entry_size pair) pairs) pairs)) =
          simp length-append (omega (arith, here)) in
          rw t (subst (λ (n : ℕ). Begins n (drop (fitting (room - entry_size pair) pairs) pairs)) size rest)
      | inr f ↦
          let over : nat_lt room (entry_size pair) ≡ true = lt-ltb room (entry_size pair) (leb-false (entry_size pair) room f) in
          let e : room - 0 ≡ room = omega arith in
          rw (f, e) (inr over)
    ]

-- the first of some pairs is the first of all
same_first : (room n : ℕ) (pairs : List Pair) → 0 < n → is_over room (take n pairs) ≡ is_over room pairs
same_first room n [] lt = ap (is_over room) (take_all n [] (omega arith))
same_first room zero (pair ∷ pairs) lt = absurd (omega arith)
same_first room (suc n) (pair ∷ pairs) lt = refl

begins_over : (room n : ℕ) (pairs : List Pair) → 0 < length pairs → 0 < n → Begins room pairs → is_over room (take n pairs) ≡ true
begins_over room n pairs some lt (inl none) = absurd (omega (arith, none))
begins_over room n pairs some lt (inr over) = same_first room n pairs lt ∙ over

walk_step : (bytes : ℕ → List ℕ) (seal left page room keys : ℕ) (here : List Pair × ℕ) (others : List Pair) → 0 < keys → flat_page seal page (bytes page) ≡ Some here → is_over room here.0 ≡ true → nat_le (length here.0) keys ≡ true
    → flat_walk bytes seal left (suc page) here.1 (keys - length here.0) ≡ Some others → flat_walk bytes seal (suc left) page room keys ≡ Some (here.0 ++ others)
unfolding flat_next
walk_step bytes seal left page room keys here others some read over few more =
    let pos : (keys == 0) ≡ false = ne_eqb keys 0 (λ e. absurd (omega (arith, e, some))) in
    let next : flat_next seal page room keys (bytes page) ≡ Some here = bind_again (flat_page seal page (bytes page)) (λ h. where_true (is_over room h.0 && nat_le (length h.0) keys) (Some h)) here (Some here) read (rw (over, few) refl) in
    rw pos (bind_again (flat_next seal page room keys (bytes page)) _ here (Some (here.0 ++ others)) next (bind_again (flat_walk bytes seal left (suc page) here.1 (keys - length here.0)) _ others (Some (here.0 ++ others)) more refl))

pub walk_again : (bytes : ℕ → List ℕ) (seal left page room most : ℕ) (pairs : List Pair) → seal < 2 ^ 64 → page + left ≤ 2 ^ 32 → IsTrue (list_all is_pair pairs) → length pairs ≤ most → length (paged most pairs) ≤ left
    → Begins room pairs → ImageHas bytes (flat_pages seal page (paged most pairs)) → flat_walk bytes seal left page room (length pairs) ≡ Some pairs
walk_again bytes seal left page room most [] s p all enough fits begins holds = none left
  where
    none : (left : ℕ) → flat_walk bytes seal left page room 0 ≡ Some []
    none zero = refl
    none (suc left) = refl
walk_again bytes seal zero page room most (pair ∷ pairs) s p all enough fits begins holds =
    let step = paged_step most (pair ∷ pairs) (omega arith) (omega arith) in
    let size = ap length step in
    absurd (omega (arith, size))
walk_again bytes seal (suc left) page room most (pair ∷ pairs) s p all enough fits begins holds =
    let ps = pair ∷ pairs in
    let n = fitting page_room ps in
    let some : 0 < n = fitting_some ps (omega arith) all in
    let le = fitting_le page_room ps in
    let step = paged_step most ps (omega arith) (omega arith) in
    let here = take n ps in
    let after = drop n ps in
    let rest = paged (most - 1) after in
    let holds2 : ImageHas bytes (record { number = page; bytes = flat_bytes seal page here } ∷ flat_pages seal (suc page) rest) = subst (λ (g : List (List Pair)). ImageHas bytes (flat_pages seal page g)) step holds in
    let size = length-take-le n ps le in
    let dropped = length-drop n ps in
    let room2 = page_room - length (entries_bytes here) in
    let read : flat_page seal page (bytes page) ≡ Some (here, room2) = ap (flat_page seal page) holds2.0 ∙ flat_again seal page here s (omega (arith, p)) (omega (arith, size, some)) (all_take is_pair n ps all) (fitting_room page_room ps) in
    let over : is_over room here ≡ true = begins_over room n ps (omega arith) some begins in
    let few : nat_le (length here) (length ps) ≡ true = le-leb (length here) (length ps) (omega (arith, size, le)) in
    let left_keys : length ps - length here ≡ length after = omega (arith, size, dropped) in
    let fewer : length rest ≤ left = let e = ap length step in omega (arith, e, fits) in
    let more = walk_again bytes seal left (suc page) room2 (most - 1) after s (omega (arith, p)) (all_drop is_pair n ps all) (omega (arith, dropped, some, enough)) fewer (fitting_crash_states page_room ps) holds2.1 in
    walk_step bytes seal left page room (length ps) (here, room2) after (omega arith) read over few (rw left_keys more) ∙ ap (λ (l : List Pair). Some l) (take-append-drop n ps)
