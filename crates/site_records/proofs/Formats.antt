-- The formats of fields: each reads what it writes, and nothing else.
use Rattle.std.proofs.Common.{◌≡◌, ℕ, zero, suc, ◌+◌, ◌^◌, ◌<◌, ◌≤◌, Bool, true, false, cond, eqb, ltb, List, [], ◌∷◌, ◌++◌, length, take, drop, Option, Some, None, refl, sym, ap, subst, ◌∙◌, append_assoc, arith, inl, inr}
use Rattle.std.specs.Prelude.{IsTrue, ◌&&◌, find, flat_map, ◌⊎◌}
use Rattle.std.specs.List.{list_all}
use Rattle.std.specs.Int.{Width, w16, w32, w64, byte_len, from_be_bytes, to_be_bytes}
use Rattle.std.proofs.lemmas.Bool.{cases_lt, ltb-false, le-ltb, eqb-true, ne_eqb}
use Rattle.std.proofs.lemmas.List.{take_at, drop_at, take-append-drop, length-append, length-take, get_or-drop, get_or-take, get_or_past, nil_from_length}
use Rattle.std.proofs.lemmas.Nat.{be_bytes_2, be_bytes_4, be_bytes_8, from_be_bytes-to_be_bytes_2, from_be_bytes-to_be_bytes_4, from_be_bytes-to_be_bytes_8}
use Rattle.site_records.specs.Field.{Read, ◌>>=◌, number, byte, counted, passing, both, mapped, known, times, listed, until_end, IsBytes, Takes, IsFormat}

IsBytes-drop : (n : ℕ) (bytes : List ℕ) → IsBytes bytes → IsBytes (drop n bytes)
IsBytes-drop n bytes h i = rw get_or-drop (h (n + i))

IsBytes-take : (n : ℕ) (bytes : List ℕ) → IsBytes bytes → IsBytes (take n bytes)
IsBytes-take n bytes h i =
    elim (cases_lt i n) [
      | inl lt ↦ rw (get_or-take n bytes i 0 lt) (h i)
      | inr le ↦ rw (get_or_past (take n bytes) i 0 (omega (arith, length-take n bytes))) (omega arith)
    ]

pub and_first : (a b : Bool) → (a && b) ≡ true → a ≡ true
and_first true b h = refl
and_first false b h = h

pub and_second : (a b : Bool) → (a && b) ≡ true → b ≡ true
and_second true b h = h
and_second false b h = absurd cc

pub and_both : (a b : Bool) → a ≡ true → b ≡ true → (a && b) ≡ true
and_both true b h k = k
and_both false b h k = h

-- the value of a step that found something
pub bind_some : {A B : Type 0} (r : Option A) (f : A → Option B) (y : B) → (r >>= f) ≡ Some y → (x : A) × (r ≡ Some x) × (f x ≡ Some y)
bind_some (Some x) f y e = (x, refl, e)
bind_some None f y e = absurd cc

-- a test that passed
pub guard_some : {A : Type 0} (b : Bool) (x y : A) → cond b (Some x) None ≡ Some y → (b ≡ true) × (x ≡ y)
guard_some true x y e = (refl, cc)
guard_some false x y e = absurd cc

pub guard_none : {A : Type 0} (b : Bool) (x y : A) → cond b None (Some x) ≡ Some y → (b ≡ false) × (x ≡ y)
guard_none true x y e = absurd cc
guard_none false x y e = (refl, cc)

abbrev found : {A : Type 0} → A → Option A
found x = Some x

pub some_is : {A : Type 0} (x y : A) → found x ≡ found y → x ≡ y
some_is x y e = cc

pub Takes-then : (a x b y c : List ℕ) → Takes a x b → Takes b y c → Takes a (x ++ y) c
Takes-then a x b y c p q = record { parts = p.parts ∙ ap (λ (t : List ℕ). x ++ t) q.parts ∙ sym (append_assoc x y c); rest_fits = q.rest_fits }

-- ---- numbers

pub record IsWide (w : Width) (limit : ℕ) : Type 0 where
  pub len : (n : ℕ) → length (to_be_bytes w n) ≡ byte_len w
  pub back : (bytes : List ℕ) → length bytes ≡ byte_len w → IsBytes bytes → to_be_bytes w (from_be_bytes w bytes) ≡ bytes
  pub again : (n : ℕ) → n < limit → from_be_bytes w (to_be_bytes w n) ≡ n
  pub below : (bytes : List ℕ) → IsBytes bytes → from_be_bytes w bytes < limit

pub wide16 : IsWide w16 (2 ^ 16)
wide16 = record {
  len = λ n. refl;
  back = λ bytes len fits. be_bytes_2 bytes _ len fits refl;
  again = λ n lt. from_be_bytes-to_be_bytes_2 n lt;
  below = λ bytes fits. omega (arith, fits 0, fits 1);
}

pub wide32 : IsWide w32 (2 ^ 32)
wide32 = record {
  len = λ n. refl;
  back = λ bytes len fits. be_bytes_4 bytes _ len fits refl;
  again = λ n lt. from_be_bytes-to_be_bytes_4 n lt;
  below = λ bytes fits. omega (arith, fits 0, fits 1, fits 2, fits 3);
}

pub wide64 : IsWide w64 (2 ^ 64)
wide64 = record {
  len = λ n. refl;
  back = λ bytes len fits. be_bytes_8 bytes _ len fits refl;
  again = λ n lt. from_be_bytes-to_be_bytes_8 n lt;
  below = λ bytes fits. omega (arith, fits 0, fits 1, fits 2, fits 3, fits 4, fits 5, fits 6, fits 7);
}

number_takes : (w : Width) (limit : ℕ) (wide : IsWide w limit) (bytes : List ℕ) (n : ℕ) (rest : List ℕ) → IsBytes bytes → number w bytes ≡ Some (n, rest) → Takes bytes (to_be_bytes w n) rest × (n < limit)
unfolding number
number_takes w limit wide bytes n rest fits e =
    let g = guard_none (ltb (length bytes) (byte_len w)) (from_be_bytes w (take (byte_len w) bytes), drop (byte_len w) bytes) (n, rest) e in
    let long : byte_len w ≤ length bytes = ltb-false _ _ g.0 in
    let n-is : from_be_bytes w (take (byte_len w) bytes) ≡ n = ap (λ (p : ℕ × List ℕ). p.0) g.1 in
    let rest-is : drop (byte_len w) bytes ≡ rest = ap (λ (p : ℕ × List ℕ). p.1) g.1 in
    let front : to_be_bytes w n ≡ take (byte_len w) bytes = rw (← n-is) (wide.back (take (byte_len w) bytes) (omega (arith, length-take (byte_len w) bytes)) (IsBytes-take (byte_len w) bytes fits)) in
    (record { parts = rw (front, ← rest-is) (sym (take-append-drop (byte_len w) bytes)); rest_fits = rw (← rest-is) (IsBytes-drop (byte_len w) bytes fits) }, rw (← n-is) (wide.below (take (byte_len w) bytes) (IsBytes-take (byte_len w) bytes fits)))

number_again : (w : Width) (limit : ℕ) (wide : IsWide w limit) (n : ℕ) (rest : List ℕ) → n < limit → number w (to_be_bytes w n ++ rest) ≡ Some (n, rest)
unfolding number
number_again w limit wide n rest lt =
    let len = wide.len n in
    let long : ltb (length (to_be_bytes w n ++ rest)) (byte_len w) ≡ false = le-ltb _ _ (omega (arith, length-append (to_be_bytes w n) rest)) in
    rw (long, take_at (to_be_bytes w n) rest (byte_len w) len, drop_at (to_be_bytes w n) rest (byte_len w) len, wide.again n lt) refl

pub number_format : (w : Width) (limit : ℕ) → IsWide w limit → IsFormat (λ n. n < limit) (to_be_bytes w) (number w)
number_format w limit wide = record { takes = number_takes w limit wide; again = number_again w limit wide }

-- ---- one byte

IsBytes-rest : (b : ℕ) (bytes : List ℕ) → IsBytes (b ∷ bytes) → IsBytes bytes
IsBytes-rest b bytes h i = h (suc i)

byte_takes : (bytes : List ℕ) (n : ℕ) (rest : List ℕ) → IsBytes bytes → byte bytes ≡ Some (n, rest) → Takes bytes (n ∷ []) rest × (n < 256)
unfolding byte
byte_takes [] n rest fits e = absurd cc
byte_takes (b ∷ bytes) n rest fits e =
    subst (λ (x : ℕ × List ℕ). Takes (b ∷ bytes) (x.0 ∷ []) x.1 × (x.0 < 256)) (some_is (b, bytes) (n, rest) e) (record { parts = refl; rest_fits = IsBytes-rest b bytes fits }, fits 0)

byte_again : (n : ℕ) (rest : List ℕ) → n < 256 → byte (n ∷ [] ++ rest) ≡ Some (n, rest)
unfolding byte
byte_again n rest lt = refl

pub byte_format : IsFormat (λ n. n < 256) (λ n. n ∷ []) byte
byte_format = record { takes = byte_takes; again = byte_again }

-- ---- a length, and that many bytes

module _ (limit : ℕ) (write : ℕ → List ℕ) (count : Read ℕ) (format : IsFormat (λ n. n < limit) write count) where
  counted_takes : (bytes text rest : List ℕ) → IsBytes bytes → counted count bytes ≡ Some (text, rest) → Takes bytes (write (length text) ++ text) rest × (length text < limit)
  unfolding counted
  counted_takes bytes text rest fits e =
      let b = bind_some (count bytes) (λ n. cond (ltb (length n.1) n.0) None (Some (take n.0 n.1, drop n.0 n.1))) (text, rest) e in
      let n = b.0 in
      let t = format.takes bytes n.0 n.1 fits b.1 in
      let g = guard_none (ltb (length n.1) n.0) (take n.0 n.1, drop n.0 n.1) (text, rest) b.2 in
      let long : n.0 ≤ length n.1 = ltb-false _ _ g.0 in
      let len : length (take n.0 n.1) ≡ n.0 = omega (arith, length-take n.0 n.1) in
      let second : Takes n.1 (take n.0 n.1) (drop n.0 n.1) = record { parts = sym (take-append-drop n.0 n.1); rest_fits = IsBytes-drop n.0 n.1 t.0.rest_fits } in
      let all = Takes-then bytes (write n.0) n.1 (take n.0 n.1) (drop n.0 n.1) t.0 second in
      let whole : Takes bytes (write (length (take n.0 n.1)) ++ take n.0 n.1) (drop n.0 n.1) = subst (λ (k : ℕ). Takes bytes (write k ++ take n.0 n.1) (drop n.0 n.1)) (sym len) all in
      subst (λ (p : List ℕ × List ℕ). Takes bytes (write (length p.0) ++ p.0) p.1 × (length p.0 < limit)) g.1 (whole, omega (arith, t.1))

  counted_again : (text rest : List ℕ) → length text < limit → counted count (write (length text) ++ text ++ rest) ≡ Some (text, rest)
  unfolding counted
  counted_again text rest lt =
      let long : ltb (length (text ++ rest)) (length text) ≡ false = le-ltb _ _ (omega (arith, length-append text rest)) in
      ap (counted count) (append_assoc (write (length text)) text rest)
      ∙ rw (format.again (length text) (text ++ rest) lt, long, take_at text rest (length text) refl, drop_at text rest (length text) refl) refl

  pub counted_format : IsFormat (λ text. length text < limit) (λ text. write (length text) ++ text) (counted count)
  counted_format = record { takes = counted_takes; again = counted_again }

-- ---- a field that passes a test

module _ {A : Type 0} (Fits : A → Type 0) (write : A → List ℕ) (read : Read A) (format : IsFormat Fits write read) (test : A → Bool) (small : (x : A) → IsTrue (test x) → Fits x) where
  passing_takes : (bytes : List ℕ) (x : A) (rest : List ℕ) → IsBytes bytes → passing test read bytes ≡ Some (x, rest) → Takes bytes (write x) rest × IsTrue (test x)
  unfolding passing
  passing_takes bytes x rest fits e =
      let b = bind_some (read bytes) (λ y. cond (test y.0) (Some y) None) (x, rest) e in
      let g = guard_some (test b.0.0) b.0 (x, rest) b.2 in
      let t = format.takes bytes b.0.0 b.0.1 fits b.1 in
      subst (λ (p : A × List ℕ). Takes bytes (write p.0) p.1 × IsTrue (test p.0)) g.1 (t.0, g.0)

  passing_again : (x : A) (rest : List ℕ) → IsTrue (test x) → passing test read (write x ++ rest) ≡ Some (x, rest)
  unfolding passing
  passing_again x rest h = rw (format.again x rest (small x h), h) refl

  pub passing_format : IsFormat (λ x. IsTrue (test x)) write (passing test read)
  passing_format = record { takes = passing_takes; again = passing_again }

-- what fits and passes
module _ {A : Type 0} (Fits : A → Type 0) (write : A → List ℕ) (read : Read A) (format : IsFormat Fits write read) (test : A → Bool) where
  passing_too_takes : (bytes : List ℕ) (x : A) (rest : List ℕ) → IsBytes bytes → passing test read bytes ≡ Some (x, rest) → Takes bytes (write x) rest × (Fits x × IsTrue (test x))
  unfolding passing
  passing_too_takes bytes x rest fits e =
      let b = bind_some (read bytes) (λ y. cond (test y.0) (Some y) None) (x, rest) e in
      let g = guard_some (test b.0.0) b.0 (x, rest) b.2 in
      let t = format.takes bytes b.0.0 b.0.1 fits b.1 in
      subst (λ (p : A × List ℕ). Takes bytes (write p.0) p.1 × (Fits p.0 × IsTrue (test p.0))) g.1 (t.0, (t.1, g.0))

  passing_too_again : (x : A) (rest : List ℕ) → Fits x × IsTrue (test x) → passing test read (write x ++ rest) ≡ Some (x, rest)
  unfolding passing
  passing_too_again x rest h = rw (format.again x rest h.0, h.1) refl

  pub passing_too_format : IsFormat (λ x. Fits x × IsTrue (test x)) write (passing test read)
  passing_too_format = record { takes = passing_too_takes; again = passing_too_again }

-- ---- one field after the other

module _ {A B : Type 0} (F : A → Type 0) (G : B → Type 0) (w : A → List ℕ) (v : B → List ℕ) (r : Read A) (q : Read B) (first : IsFormat F w r) (second : IsFormat G v q) where
  both_takes : (bytes : List ℕ) (x : A × B) (rest : List ℕ) → IsBytes bytes → both r q bytes ≡ Some (x, rest) → Takes bytes (w x.0 ++ v x.1) rest × (F x.0 × G x.1)
  unfolding both
  both_takes bytes x rest fits e =
      let a = bind_some (r bytes) (λ y. q y.1 >>= λ z. Some ((y.0, z.0), z.1)) (x, rest) e in
      let b = bind_some (q a.0.1) (λ z. Some ((a.0.0, z.0), z.1)) (x, rest) a.2 in
      let s = first.takes bytes a.0.0 a.0.1 fits a.1 in
      let t = second.takes a.0.1 b.0.0 b.0.1 s.0.rest_fits b.1 in
      let all = Takes-then bytes (w a.0.0) a.0.1 (v b.0.0) b.0.1 s.0 t.0 in
      let made : (A × B) × List ℕ = ((a.0.0, b.0.0), b.0.1) in
      subst (λ (p : (A × B) × List ℕ). Takes bytes (w p.0.0 ++ v p.0.1) p.1 × (F p.0.0 × G p.0.1)) (some_is made (x, rest) b.2) (all, (s.1, t.1))

  both_again : (x : A × B) (rest : List ℕ) → F x.0 × G x.1 → both r q (w x.0 ++ v x.1 ++ rest) ≡ Some (x, rest)
  unfolding both
  both_again x rest h =
      ap (both r q) (append_assoc (w x.0) (v x.1) rest)
      ∙ rw (first.again x.0 (v x.1 ++ rest) h.0, second.again x.1 rest h.1) refl

  pub both_format : IsFormat (λ x. F x.0 × G x.1) (λ x. w x.0 ++ v x.1) (both r q)
  both_format = record { takes = both_takes; again = both_again }

-- ---- a field as another value

pub mapped_some : {A B : Type 0} (f : A → B) (read : Read A) (bytes : List ℕ) (y : B) (rest : List ℕ) → mapped f read bytes ≡ Some (y, rest) → (x : A) × (read bytes ≡ Some (x, rest)) × (f x ≡ y)
unfolding mapped
mapped_some {A} {B} f read bytes y rest e =
    let b = bind_some (read bytes) (λ x. Some (f x.0, x.1)) (y, rest) e in
    let values : f b.0.0 ≡ y = ap (λ (p : B × List ℕ). p.0) (some_is (f b.0.0, b.0.1) (y, rest) b.2) in
    let rests : b.0.1 ≡ rest = ap (λ (p : B × List ℕ). p.1) (some_is (f b.0.0, b.0.1) (y, rest) b.2) in
    (b.0.0, b.1 ∙ ap (λ (r : List ℕ). Some (b.0.0, r)) rests, values)

pub mapped_again : {A B : Type 0} (f : A → B) (read : Read A) (bytes : List ℕ) (x : A) (rest : List ℕ) → read bytes ≡ Some (x, rest) → mapped f read bytes ≡ Some (f x, rest)
unfolding mapped
mapped_again f read bytes x rest e = rw e refl

-- a field that is another value, there and back
module _ {A B : Type 0} (F : A → Type 0) (G : B → Type 0) (write : A → List ℕ) (read : Read A) (format : IsFormat F write read) (f : A → B) (g : B → A) (fits : (x : A) → F x → G (f x) × (g (f x) ≡ x)) (back : (y : B) → G y → F (g y) × (f (g y) ≡ y)) where
  turned_takes : (bytes : List ℕ) (y : B) (rest : List ℕ) → IsBytes bytes → mapped f read bytes ≡ Some (y, rest) → Takes bytes (write (g y)) rest × G y
  turned_takes bytes y rest ok e =
      let m = mapped_some f read bytes y rest e in
      let t = format.takes bytes m.0 rest ok m.1 in
      let k = fits m.0 t.1 in
      subst (λ (z : B). Takes bytes (write (g z)) rest × G z) m.2 (subst (λ (x : A). Takes bytes (write x) rest) (sym k.1) t.0, k.0)

  turned_again : (y : B) (rest : List ℕ) → G y → mapped f read (write (g y) ++ rest) ≡ Some (y, rest)
  turned_again y rest h =
      let k = back y h in
      mapped_again f read (write (g y) ++ rest) (g y) rest (format.again (g y) rest k.0) ∙ ap (λ (z : B). Some (z, rest)) k.1

  pub turned_format : IsFormat G (λ y. write (g y)) (mapped f read)
  turned_format = record { takes = turned_takes; again = turned_again }

-- ---- a letter that stands for something

pub find_passes : {A : Type 0} (test : A → Bool) (xs : List A) (x : A) → find test xs ≡ Some x → test x ≡ true
find_passes test [] x e = absurd cc
find_passes {A} test (y ∷ ys) x e =
    elim (test y) as (λ b. test y ≡ b → cond b (found y) (find test ys) ≡ Some x → test x ≡ true) [
      | true ↦ λ h g. subst (λ (z : A). test z ≡ true) (some_is y x g) h
      | false ↦ λ h g. find_passes test ys x g
    ] refl e

module _ {A : Type 0} (letter : A → ℕ) (meaning : ℕ → Option A) (tells : (b : ℕ) (x : A) → meaning b ≡ Some x → b ≡ letter x) (again : (x : A) → meaning (letter x) ≡ Some x) (small : (x : A) → letter x < 256) where
  known_takes : (bytes : List ℕ) (x : A) (rest : List ℕ) → IsBytes bytes → known meaning bytes ≡ Some (x, rest) → Takes bytes (letter x ∷ []) rest × Unit {0}
  unfolding known
  known_takes bytes x rest fits e =
      let b = bind_some (byte bytes) (λ b. meaning b.0 >>= λ y. Some (y, b.1)) (x, rest) e in
      let k = bind_some (meaning b.0.0) (λ y. Some (y, b.0.1)) (x, rest) b.2 in
      let t = byte_format.takes bytes b.0.0 b.0.1 fits b.1 in
      let made : A × List ℕ = (k.0, b.0.1) in
      subst (λ (p : A × List ℕ). Takes bytes (letter p.0 ∷ []) p.1 × Unit {0}) (some_is made (x, rest) k.2) (subst (λ (n : ℕ). Takes bytes (n ∷ []) b.0.1) (tells b.0.0 k.0 k.1) t.0, tt)

  known_again : (x : A) (rest : List ℕ) → Unit {0} → known meaning (letter x ∷ [] ++ rest) ≡ Some (x, rest)
  unfolding known
  known_again x rest h = rw (byte_format.again (letter x) rest (small x), again x) refl

  pub known_format : IsFormat (λ x. Unit {0}) (λ x. letter x ∷ []) (known meaning)
  known_format = record { takes = known_takes; again = known_again }

-- ---- fields of one sort

module _ {A : Type 0} (test : A → Bool) (write : A → List ℕ) (read : Read A) (format : IsFormat (λ x. IsTrue (test x)) write read) where
  times_takes : (n : ℕ) (bytes : List ℕ) (xs : List A) (rest : List ℕ) → IsBytes bytes → times read n bytes ≡ Some (xs, rest) → Takes bytes (flat_map write xs) rest × (IsTrue (list_all test xs) × (length xs ≡ n))
  times_takes zero bytes xs rest fits e =
      let made : List A × List ℕ = ([], bytes) in
      subst (λ (p : List A × List ℕ). Takes bytes (flat_map write p.0) p.1 × (IsTrue (list_all test p.0) × (length p.0 ≡ 0))) (some_is made (xs, rest) e) (record { parts = refl; rest_fits = fits }, (refl, refl))
  times_takes (suc n) bytes xs rest fits e =
      let a = bind_some (read bytes) (λ x. times read n x.1 >>= λ ys. Some (x.0 ∷ ys.0, ys.1)) (xs, rest) e in
      let b = bind_some (times read n a.0.1) (λ ys. Some (a.0.0 ∷ ys.0, ys.1)) (xs, rest) a.2 in
      let s = format.takes bytes a.0.0 a.0.1 fits a.1 in
      let t = times_takes n a.0.1 b.0.0 b.0.1 s.0.rest_fits b.1 in
      let all = Takes-then bytes (write a.0.0) a.0.1 (flat_map write b.0.0) b.0.1 s.0 t.0 in
      let made : List A × List ℕ = (a.0.0 ∷ b.0.0, b.0.1) in
      subst (λ (p : List A × List ℕ). Takes bytes (flat_map write p.0) p.1 × (IsTrue (list_all test p.0) × (length p.0 ≡ suc n))) (some_is made (xs, rest) b.2) (all, (and_both (test a.0.0) (list_all test b.0.0) s.1 t.1.0, ap suc t.1.1))

  times_again : (xs : List A) (rest : List ℕ) → IsTrue (list_all test xs) → times read (length xs) (flat_map write xs ++ rest) ≡ Some (xs, rest)
  times_again [] rest h = refl
  times_again (x ∷ xs) rest h =
      ap (λ (bytes : List ℕ). times read (suc (length xs)) bytes) (append_assoc (write x) (flat_map write xs) rest)
      ∙ rw (format.again x (flat_map write xs ++ rest) (and_first (test x) _ h), times_again xs rest (and_second (test x) _ h)) refl

  module _ (counts : ℕ → Bool) (small : (n : ℕ) → IsTrue (counts n) → n < 256) where
    count_format : IsFormat (λ n. IsTrue (counts n)) (λ n. n ∷ []) (passing counts byte)
    count_format = passing_format (λ n. n < 256) (λ n. n ∷ []) byte byte_format counts small

    abbrev CountFits : List A → Type 0
    CountFits xs = IsTrue (counts (length xs) && list_all test xs)

    listed_takes : (bytes : List ℕ) (xs : List A) (rest : List ℕ) → IsBytes bytes → listed (passing counts byte) read bytes ≡ Some (xs, rest) → Takes bytes (length xs ∷ flat_map write xs) rest × CountFits xs
    unfolding listed
    listed_takes bytes xs rest fits e =
        let a = bind_some (passing counts byte bytes) (λ n. times read n.0 n.1) (xs, rest) e in
        let s = count_format.takes bytes a.0.0 a.0.1 fits a.1 in
        let t = times_takes a.0.0 a.0.1 xs rest s.0.rest_fits a.2 in
        let all = Takes-then bytes (a.0.0 ∷ []) a.0.1 (flat_map write xs) rest s.0 t.0 in
        (subst (λ (n : ℕ). Takes bytes (n ∷ flat_map write xs) rest) (sym t.1.1) all, and_both (counts (length xs)) (list_all test xs) (subst (λ (n : ℕ). IsTrue (counts n)) (sym t.1.1) s.1) t.1.0)

    listed_again : (xs : List A) (rest : List ℕ) → CountFits xs → listed (passing counts byte) read (length xs ∷ flat_map write xs ++ rest) ≡ Some (xs, rest)
    unfolding listed
    listed_again xs rest h =
        rw (count_format.again (length xs) (flat_map write xs ++ rest) (and_first (counts (length xs)) _ h), times_again xs rest (and_second (counts (length xs)) _ h)) refl

    pub listed_format : IsFormat CountFits (λ xs. length xs ∷ flat_map write xs) (listed (passing counts byte) read)
    listed_format = record { takes = listed_takes; again = listed_again }

  abbrev UntilTaken : ℕ → List ℕ → List A → Type 0
  UntilTaken n bytes xs = (bytes ≡ flat_map write xs) × (IsTrue (list_all test xs) × (length xs ≤ n))

  none_left : (n : ℕ) (bytes : List ℕ) (xs : List A) → eqb (length bytes) 0 ≡ true → [] ≡ xs → UntilTaken n bytes xs
  none_left n bytes xs e is = subst (λ (l : List A). UntilTaken n bytes l) is (nil_from_length bytes (eqb-true (length bytes) 0 e), (refl, omega arith))

  abbrev nothing_more : Option (List A)
  nothing_more = Some []

  one_more : (n : ℕ) (bytes : List ℕ) (xs : List A) → IsBytes bytes → ((bytes : List ℕ) (ys : List A) → IsBytes bytes → until_end read n bytes ≡ Some ys → UntilTaken n bytes ys)
      → (read bytes >>= λ x. until_end read n x.1 >>= λ ys. Some (x.0 ∷ ys)) ≡ Some xs → UntilTaken (suc n) bytes xs
  one_more n bytes xs fits others e =
      let a = bind_some (read bytes) (λ x. until_end read n x.1 >>= λ ys. Some (x.0 ∷ ys)) xs e in
      let b = bind_some (until_end read n a.0.1) (λ ys. Some (a.0.0 ∷ ys)) xs a.2 in
      let s = format.takes bytes a.0.0 a.0.1 fits a.1 in
      let t = others a.0.1 b.0 s.0.rest_fits b.1 in
      let whole : bytes ≡ write a.0.0 ++ flat_map write b.0 = s.0.parts ∙ ap (λ (l : List ℕ). write a.0.0 ++ l) t.0 in
      subst (λ (l : List A). UntilTaken (suc n) bytes l) (some_is (a.0.0 ∷ b.0) xs b.2) (whole, (and_both (test a.0.0) (list_all test b.0) s.1 t.1.0, omega (arith, t.1.1)))

  pub until_takes : (n : ℕ) (bytes : List ℕ) (xs : List A) → IsBytes bytes → until_end read n bytes ≡ Some xs → UntilTaken n bytes xs
  until_takes zero bytes xs fits e =
      let g = guard_some (eqb (length bytes) 0) [] xs e in
      none_left 0 bytes xs g.0 g.1
  until_takes (suc n) bytes xs fits e =
      elim (eqb (length bytes) 0) as (λ b. eqb (length bytes) 0 ≡ b → cond b nothing_more (read bytes >>= λ x. until_end read n x.1 >>= λ ys. Some (x.0 ∷ ys)) ≡ Some xs → UntilTaken (suc n) bytes xs) [
        | true ↦ λ h g. none_left (suc n) bytes xs h (some_is [] xs g)
        | false ↦ λ h g. one_more n bytes xs fits (until_takes n) g
      ] refl e

  pub until_again : ((x : A) → 0 < length (write x)) → (n : ℕ) (xs : List A) → IsTrue (list_all test xs) → length xs ≤ n → until_end read n (flat_map write xs) ≡ Some xs
  until_again some zero [] h le = refl
  until_again some zero (x ∷ xs) h le = absurd (omega (arith, le))
  until_again some (suc n) [] h le = refl
  until_again some (suc n) (x ∷ xs) h le =
      let more : eqb (length (write x ++ flat_map write xs)) 0 ≡ false = ne_eqb _ 0 (λ e. omega (arith, e, some x, length-append (write x) (flat_map write xs))) in
      rw (more, format.again x (flat_map write xs) (and_first (test x) _ h), until_again some n xs (and_second (test x) _ h) (omega (arith, le))) refl

-- ---- what stands behind a tag

abbrev pub Behind : {B : Type 0} → (B → List ℕ) → (B → Bool) → (B → ℕ) → ℕ → List ℕ → B → List ℕ → Type 0
Behind write test tag_of tag bytes y rest = Takes bytes (write y) rest × (IsTrue (test y) × (tag ≡ tag_of y))

module _ {A B : Type 0} (write : B → List ℕ) (test : B → Bool) (tag_of : B → ℕ) (f : A → B) (F : A → Type 0) (w : A → List ℕ) (read : Read A) (format : IsFormat F w read) (same : (x : A) → w x ≡ write (f x)) (good : (x : A) → F x → IsTrue (test (f x))) where
  pub behind_takes : (tag : ℕ) → ((x : A) → tag ≡ tag_of (f x)) → (bytes : List ℕ) (y : B) (rest : List ℕ) → IsBytes bytes → mapped f read bytes ≡ Some (y, rest) → Behind write test tag_of tag bytes y rest
  behind_takes tag tagged bytes y rest fits e =
      let b = mapped_some f read bytes y rest e in
      let k = format.takes bytes b.0 rest fits b.1 in
      subst (λ (z : B). Behind write test tag_of tag bytes z rest) b.2 (subst (λ (t : List ℕ). Takes bytes t rest) (same b.0) k.0, (good b.0 k.1, tagged b.0))

pub chosen : {A : Type 0} (b : Bool) (x y : Option A) (z : A) → cond b x y ≡ Some z → ((b ≡ true) × (x ≡ Some z)) ⊎ ((b ≡ false) × (y ≡ Some z))
chosen true x y z e = inl (refl, e)
chosen false x y z e = inr (refl, e)

abbrev none_of : {A : Type 0} → Option A
none_of = None

pub last_chosen : {A : Type 0} (b : Bool) (x : Option A) (z : A) → cond b x None ≡ Some z → (b ≡ true) × (x ≡ Some z)
last_chosen true x z e = (refl, e)
last_chosen {A} false x z e = let no : none_of {A = A} ≡ Some z = e in absurd (cc no)
