-- How many pages are read by one search after another.
use Rattle.std.proofs.Common.{◌≡◌, ◌≤◌, ◌+◌, ◌*◌, ℕ, suc, List, [], ◌∷◌, ◌++◌, length, refl, sym, ap, subst, ◌∙◌, arith}
use Rattle.std.proofs.lemmas.List.{length-append}
use Rattle.std.proofs.lemmas.Nat.{mul-le}
use Rattle.std.proofs.Math.Nat.{suc-mul, add-mul}
use Rattle.sector_device.specs.CallsMade.{CallsMade}
use Rattle.page_store.specs.StoreState.{StoreState, StoreHasRead}
use Rattle.page_store.specs.Work.{ReadsPages, WritesAtMost, CommitsWithin, no_pages, pages_then, writes_behind, pages_tried}
use Rattle.site_store.specs.Work.{MakesLookUps}

-- pages of one search more
pub one_search_more : (n each : ℕ) {a b c : CallsMade} → ReadsPages (n * each) a b → ReadsPages each b c → ReadsPages ((n + 1) * each) a c
one_search_more n each first next =
    let grown : (n + 1) * each ≡ n * each + each = ap (λ (m : ℕ). m * each) (let e : n + 1 ≡ suc n = omega arith in e) ∙ suc-mul n each in
    pages_then first next (omega (arith, grown))

-- a look-up more, and as many as others are
pub one_look_up_more : (n : ℕ) (a b c : StoreState) → StoreHasRead a b → MakesLookUps n a b → MakesLookUps 1 b c → MakesLookUps (n + 1) a c
one_look_up_more n a b c read first next =
    one_search_more n a.height first (pages_then (no_pages refl 0) (subst (λ (h : ℕ). ReadsPages (1 * h) b.made c.made) read.same.height next) (omega arith))

pub look_ups_then : (n m : ℕ) (a b c : StoreState) → StoreHasRead a b → MakesLookUps n a b → MakesLookUps m b c → MakesLookUps (n + m) a c
look_ups_then n m a b c read first next =
    let both : (n + m) * a.height ≡ n * a.height + m * a.height = add-mul n m a.height in
    pages_then first (subst (λ (h : ℕ). ReadsPages (m * h) b.made c.made) read.same.height next) (omega (arith, both))

pub more_look_ups : (n m : ℕ) (a b : StoreState) → n ≤ m → MakesLookUps n a b → MakesLookUps m a b
more_look_ups n m a b le first =
    let grown : n * a.height ≤ m * a.height = mul-le n a.height m a.height le (omega arith) in
    pages_then first (no_pages refl 0) (omega (arith, grown))

-- a search takes as many pages after a read as before
pub searched_behind : (a b : StoreState) {c : CallsMade} → StoreHasRead a b → ReadsPages (pages_tried b.height) b.made c → ReadsPages (pages_tried a.height) b.made c
searched_behind a b {c} read next = subst (λ (h : ℕ). ReadsPages (pages_tried h) b.made c) read.same.height next

pub one_pair_more : {A : Type 0} (xs : List A) (x : A) (each : ℕ) {a b c : CallsMade} → ReadsPages (length xs * each) a b → ReadsPages each b c → ReadsPages (length (xs ++ x ∷ []) * each) a c
one_pair_more xs x each {a} {b} {c} first next =
    let count : length (xs ++ x ∷ []) ≡ length xs + 1 = length-append xs (x ∷ []) in
    subst (λ (n : ℕ). ReadsPages (n * each) a c) (sym count) (one_search_more (length xs) each first next)

-- what a commit writes behind reads
pub wrote_behind : (a b : StoreState) {c : CallsMade} {read : ℕ} → StoreHasRead a b → CommitsWithin read b.free b.made c → WritesAtMost a.free a.made c
wrote_behind a b {c} read work = subst (λ (free : ℕ). WritesAtMost free a.made c) read.same.free (writes_behind read.same.calls work.wrote)
