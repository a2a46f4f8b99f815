-- A root slot that is written is valid.
use Rattle.std.proofs.Common.{◌≡◌, ℕ, zero, suc, ◌+◌, ◌-◌, ◌*◌, ◌^◌, ◌<◌, ◌≤◌, Bool, true, List, ◌∷◌, ◌++◌, length, take, drop, replicate, Option, Some, refl, sym, ap, subst, ◌∙◌, arith, IsTrue, length-append, length-drop, append_assoc, eq-eqb}
use Rattle.std.specs.Prelude.{nat_le, ◌&&◌}
use Rattle.std.specs.List.{list_all}
use Rattle.std.specs.Int.{w16, w32, w64, to_be_bytes}
use Rattle.std.proofs.lemmas.Nat.{from_be_bytes-to_be_bytes_8}
use Rattle.std.proofs.lemmas.Bool.{le-leb, le-ltb}
use Rattle.std.proofs.lemmas.List.{take_all, take_at, drop_at, length-take-le, drop-drop}
use Rattle.std.proofs.Math.Seq.{take-add}
use Rattle.common_types.specs.Names.{name_of, is_word, is_field}
use Rattle.page_store.specs.Reading.{number_at}
use Rattle.page_store.specs.Roots.{FitsDevice, seal_of, is_zero, if_valid, short_text_at, root_at}
use Rattle.page_store.specs.Steps.{chunk}
use Rattle.page_store.specs.Switch.{record_in, IsSlotPage}
use Rattle.page_store.specs.Encoding.{IsRootTyped, padded, record_fields, record_bytes, root_sector, root_sectors, slot_bytes}
use Rattle.page_store.specs.declared.slot.Root.{Root}
use Rattle.page_store.specs.declared.slot.Slot.{Slot}
use Rattle.page_store.proofs.Fields.{bind_again}
use Rattle.page_store.proofs.DecodedPages.{number16_again, number32_again, number64_again, piece_again}
use Rattle.page_store.proofs.PairsByPage.{length_of_sector}

seal_again : (n seal : ℕ) (part : List ℕ) → n < 2 ^ 64 → seal < 2 ^ 64 → seal_of n (root_sector n seal part) ≡ Some seal
unfolding seal_of root_sector
seal_again n seal part a b = rw (from_be_bytes-to_be_bytes_8 n a, from_be_bytes-to_be_bytes_8 seal b, eq-eqb n n refl) refl

part_again : (n seal : ℕ) (part : List ℕ) → drop 24 (root_sector n seal part) ≡ part
unfolding root_sector
part_again n seal part = refl

-- the sectors of a slot's page, one by one
chunk_first : (xs ys : List ℕ) → length xs ≡ 512 → chunk (xs ++ ys) 0 ≡ xs
chunk_first xs ys size = take_at xs ys 512 size

chunk_next : (xs ys : List ℕ) (k : ℕ) → length xs ≡ 512 → chunk (xs ++ ys) (suc k) ≡ chunk ys k
chunk_next xs ys k size =
    let e : 512 * suc k ≡ 512 + 512 * k = omega arith in
    ap (λ (n : ℕ). take 512 (drop n (xs ++ ys))) e ∙ ap (take 512) (sym (drop-drop (512 * k) 512 (xs ++ ys))) ∙ ap (λ (l : List ℕ). take 512 (drop (512 * k) l)) (drop_at xs ys 512 size)

sector_long : (n seal : ℕ) (bytes : List ℕ) → 488 ≤ length bytes → length (root_sector n seal (take 488 bytes)) ≡ 512
sector_long n seal bytes long = let a = length_of_sector n seal (take 488 bytes) in let b = length-take-le 488 bytes long in omega (arith, a, b)

sector_at : (n seal count k : ℕ) (bytes : List ℕ) → 488 * count ≤ length bytes → k < count → chunk (root_sectors n seal count bytes) k ≡ root_sector (n + k) seal (take 488 (drop (488 * k) bytes))
unfolding root_sectors
sector_at n seal zero k bytes long lt = absurd (omega arith)
sector_at n seal (suc count) zero bytes long lt =
    let e : n + 0 ≡ n = omega arith in
    chunk_first (root_sector n seal (take 488 bytes)) (root_sectors (suc n) seal count (drop 488 bytes)) (sector_long n seal bytes (omega arith)) ∙ rw e refl
sector_at n seal (suc count) (suc k) bytes long lt =
    let e : suc n + k ≡ n + suc k = omega arith in
    let f : 488 + 488 * k ≡ 488 * suc k = omega arith in
    let size = length-drop 488 bytes in
    chunk_next (root_sector n seal (take 488 bytes)) (root_sectors (suc n) seal count (drop 488 bytes)) k (sector_long n seal bytes (omega arith))
    ∙ sector_at (suc n) seal count k (drop 488 bytes) (omega (arith, size)) (omega arith)
    ∙ ap (λ (l : List ℕ). root_sector (suc n + k) seal (take 488 l)) (drop-drop (488 * k) 488 bytes) ∙ ap (λ (m : ℕ). root_sector (suc n + k) seal (take 488 (drop m bytes))) f ∙ ap (λ (m : ℕ). root_sector m seal (take 488 (drop (488 * suc k) bytes))) e

record_row : (page bytes : List ℕ) (total : ℕ) → ((j : ℕ) → j < total → drop 24 (chunk page j) ≡ take 488 (drop (488 * j) bytes)) → (n k : ℕ) → k + n ≤ total → record_in page k n ≡ take (488 * n) (drop (488 * k) bytes)
record_row page bytes total h zero k le = refl
record_row page bytes total h (suc n) k le =
    let more : 488 * suc n ≡ 488 + 488 * n = omega arith in
    let next : 488 * suc k ≡ 488 * k + 488 = omega arith in
    ap (λ (xs : List ℕ). xs ++ record_in page (suc k) n) (h k (omega arith))
    ∙ ap (λ (xs : List ℕ). take 488 (drop (488 * k) bytes) ++ xs) (record_row page bytes total h n (suc k) (omega arith) ∙ ap (λ (m : ℕ). take (488 * n) (drop m bytes)) next ∙ ap (take (488 * n)) (sym (drop-drop 488 (488 * k) bytes)))
    ∙ sym (take-add 488 (488 * n) (drop (488 * k) bytes)) ∙ ap (λ (m : ℕ). take m (drop (488 * k) bytes)) (sym more)

pub slot_again : (sectors : ℕ) (slot : Slot) → slot.number < 2 → slot.seal < 2 ^ 64 → root_at sectors (record_bytes slot.root) ≡ Some slot.root → length (record_bytes slot.root) ≡ 3904 → IsSlotPage sectors slot (slot_bytes slot)
unfolding slot_bytes
slot_again sectors slot number seal reads size =
    let bytes = record_bytes slot.root in
    let first = 8 * slot.number in
    let at = λ (k : ℕ) (lt : k < 8). sector_at first slot.seal 8 k bytes (omega (arith, size)) lt in
    record {
      seals = λ k lt. ap (seal_of (first + k)) (at k lt) ∙ seal_again (first + k) slot.seal (take 488 (drop (488 * k) bytes)) (omega (arith, number, lt)) seal;
      root = ap (root_at sectors)
          (record_row (root_sectors first slot.seal 8 bytes) bytes 8 (λ j lt. ap (drop 24) (at j lt) ∙ part_again (first + j) slot.seal (take 488 (drop (488 * j) bytes))) 8 0 (omega arith) ∙ take_all 3904 bytes (omega (arith, size)))
          ∙ reads;
    }

-- ---- the record

-- what a record can say
pub record Says (sectors : ℕ) (root : Root) : Type 0 where
  pub version : root.banner.version < 2 ^ 16
  pub least : 16 ≤ root.pages
  pub most : root.pages ≤ 65536
  pub fits : 8 * root.pages ≤ sectors
  pub tree : root.tree < 2 ^ 32
  pub height : root.height < 2 ^ 16
  pub keys : root.keys < 2 ^ 64
  pub host : IsTrue (is_word root.banner.host)
  pub host_size : length root.banner.host ≤ 100
  pub some_port : 0 < root.banner.port
  pub port : root.banner.port < 2 ^ 16
  pub admin : IsTrue (is_field root.banner.admin)
  pub admin_size : length root.banner.admin ≤ 100

named : (test : List ℕ → Bool) (bytes : List ℕ) → IsTrue (test bytes) → length bytes ≤ 100 → if_valid (name_of test 100 bytes) ≡ Some bytes
named test bytes valid le = rw (le-ltb 100 (length bytes) le, valid) refl

short_text_again : (bytes rest : List ℕ) → short_text_at (length bytes ∷ (bytes ++ rest)) ≡ Some (bytes, rest)
unfolding short_text_at
short_text_again bytes rest = piece_again (length bytes) bytes rest refl

zeros_are : (n : ℕ) → list_all is_zero (replicate n 0) ≡ true
zeros_are zero = refl
zeros_are (suc n) = zeros_are n

tests_pass : (sectors : ℕ) (root : Root) (n : ℕ) → Says sectors root → nat_le 16 root.pages && (nat_le root.pages 65536 && (nat_le (8 * root.pages) sectors && (nat_le 1 root.banner.port && list_all is_zero (replicate n 0)))) ≡ true
tests_pass sectors root n s = rw (le-leb 16 root.pages s.least, le-leb root.pages 65536 s.most, le-leb (8 * root.pages) sectors s.fits, le-leb 1 root.banner.port s.some_port, zeros_are n) refl

pub root_again : (sectors : ℕ) (root : Root) → Says sectors root → root_at sectors (record_bytes root) ≡ Some root
unfolding root_at record_bytes record_fields
root_again sectors root s =
    let host = root.banner.host in
    let admin = root.banner.admin in
    let n = 3904 - length (record_fields root) in
    let zeros = replicate n 0 in
    let r8 = length admin ∷ (admin ++ zeros) in
    let r7 = to_be_bytes w16 root.banner.port ++ r8 in
    let r6 = length host ∷ (host ++ r7) in
    let r5 = to_be_bytes w64 root.keys ++ r6 in
    let r4 = to_be_bytes w16 root.height ++ r5 in
    let r3 = to_be_bytes w32 root.tree ++ r4 in
    let r2 = to_be_bytes w32 root.pages ++ r3 in
    let answer : Option Root = Some root in
    let regrouped : padded 3904 (record_fields root) ≡ to_be_bytes w16 root.banner.version ++ r2 = simp append_assoc in
    ap (root_at sectors) regrouped
    ∙ bind_again (number_at w16 (to_be_bytes w16 root.banner.version ++ r2)) _ (root.banner.version, r2) answer (number16_again root.banner.version r2 s.version)
    (bind_again (number_at w32 r2) _ (root.pages, r3) answer (number32_again root.pages r3 (let most = s.most in omega (arith, most)))
    (bind_again (number_at w32 r3) _ (root.tree, r4) answer (number32_again root.tree r4 s.tree)
    (bind_again (number_at w16 r4) _ (root.height, r5) answer (number16_again root.height r5 s.height)
    (bind_again (number_at w64 r5) _ (root.keys, r6) answer (number64_again root.keys r6 s.keys)
    (bind_again (short_text_at r6) _ (host, r7) answer (short_text_again host r7)
    (bind_again (number_at w16 r7) _ (root.banner.port, r8) answer (number16_again root.banner.port r8 s.port)
    (bind_again (short_text_at r8) _ (admin, zeros) answer (short_text_again admin zeros)
    (bind_again (if_valid (name_of is_word 100 host)) _ host answer (named is_word host s.host s.host_size)
    (bind_again (if_valid (name_of is_field 100 admin)) _ admin answer (named is_field admin s.admin s.admin_size)
    (rw (tests_pass sectors root n s) refl))))))))))

fields_small : (sectors : ℕ) (root : Root) → Says sectors root → length (record_fields root) ≤ 224
unfolding record_fields
fields_small sectors root s =
    let a = s.host_size in
    let b = s.admin_size in
    simp length-append (omega (arith, a, b))

zeros_length : (n : ℕ) → length {A = ℕ} (replicate n 0) ≡ n
zeros_length zero = refl
zeros_length (suc n) = ap suc (zeros_length n)

padded_long : (n : ℕ) (xs : List ℕ) → length xs ≤ n → length (padded n xs) ≡ n
padded_long n xs le = let z = zeros_length (n - length xs) in length-append xs (replicate (n - length xs) 0) ∙ omega (arith, z, le)

pub record_long : (sectors : ℕ) (root : Root) → Says sectors root → length (record_bytes root) ≡ 3904
unfolding record_bytes
record_long sectors root s = let small = fields_small sectors root s in padded_long 3904 (record_fields root) (omega (arith, small))

pub slot_valid : (sectors : ℕ) (slot : Slot) (bytes : List ℕ) → slot.number < 2 → slot.seal < 2 ^ 64 → IsRootTyped slot.root → FitsDevice sectors slot.root → 0 < slot.root.banner.port → bytes ≡ slot_bytes slot → IsSlotPage sectors slot bytes
slot_valid sectors slot bytes number seal t fits some_port is =
    let says : Says sectors slot.root = record {
      version = t.version;
      least = fits.0;
      most = fits.1;
      fits = fits.2;
      tree = t.tree;
      height = t.height;
      keys = t.keys;
      host = t.host;
      host_size = t.host_size;
      some_port = some_port;
      port = t.port;
      admin = t.admin;
      admin_size = t.admin_size;
    } in
    subst (λ (b : List ℕ). IsSlotPage sectors slot b) (sym is) (slot_again sectors slot number seal (root_again sectors slot.root says) (record_long sectors slot.root says))
