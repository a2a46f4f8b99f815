-- A commit: new pages to free places, and then a new root.
use Rattle.std.specs.Prelude.{◌≡◌, ◌⊎◌, ℕ, ◌+◌, ◌*◌, ◌-◌, ◌<◌, ◌≤◌, false, List, [], ◌∷◌, length, Some, IsTrue, ◌==◌, if◌then◌else◌, map}
use Rattle.page_store.specs.Sectors.{Image, sector, page_of}
use Rattle.page_store.specs.declared.slot.Slot.{Slot}
use Rattle.page_store.specs.Content.{Found, content, content_under, is_among}
use Rattle.page_store.specs.Roots.{seal_of, current}
use Rattle.page_store.specs.Same.{Agree}
use Rattle.common_types.specs.CrashStates.{CrashStates}
use Rattle.page_store.specs.Steps.{AllAre}
use Rattle.page_store.specs.Switch.{IsAbove}
use Rattle.page_store.specs.declared.commit.NewPage.{NewPage}

abbrev pub number_of : NewPage → ℕ
number_of page = page.number

abbrev pub numbers : List NewPage → List ℕ
numbers pages = map number_of pages

-- with one page's bytes
abbrev pub put_page : NewPage → (ℕ → List ℕ) → ℕ → List ℕ
put_page page old n = if n == page.number then page.bytes else old n

-- with all these pages' bytes, one after another
abbrev pub patched : List NewPage → (ℕ → List ℕ) → ℕ → List ℕ
patched [] old = old
patched (page ∷ pages) old = patched pages (put_page page old)

-- both have the same sectors but for those of some pages
pub record IsSameOutside (pages : List ℕ) (a c : Image) : Type 0 where
  pub size : length c ≡ length a
  pub each : (n k : ℕ) → is_among n pages ≡ false → k < 8 → sector c (8 * n + k) ≡ sector a (8 * n + k)

-- the pages are written, all else is as before
pub record ArePatched (pages : List NewPage) (a c : Image) : Type 0 where
  pub outside : IsSameOutside (numbers pages) a c
  pub bytes : (n : ℕ) → page_of c n ≡ patched pages (page_of a) n

-- places that are neither a root slot nor a page of the current tree
abbrev pub AreFree : Found → List NewPage → Type 0
AreFree found pages = (n : ℕ) → IsTrue (is_among n (numbers pages)) → (2 ≤ n) × (is_among n found.pages ≡ false)

-- what a commit is to do
pub record Commit : Type 0 where
  pub old : Slot
  pub old_found : Found
  pub new : Slot
  pub new_found : Found

-- a commit that may be done on an image
pub record IsReady (commit : Commit) (pages : List NewPage) (a : Image) : Type 0 where
  pub content : content a ≡ Some (commit.old, commit.old_found)
  pub free : AreFree commit.old_found pages
  pub number : commit.new.number ≡ 1 - commit.old.number
  pub seal : commit.old.seal < commit.new.seal
  pub above : IsAbove commit.new.seal commit.new.number a
  pub under : content_under commit.new (patched pages (page_of a)) ≡ Some commit.new_found

-- these pages and this slot over them are a commit that may be done on an image
abbrev pub MayBeCommitted : Slot → List NewPage → Image → Type 0
MayBeCommitted slot pages a = (commit : Commit) × (commit.new ≡ slot) × IsReady commit pages a

-- A slot is current, this stands under it, and the pages where it stands have these bytes.
pub record ShowsFound (slot : Slot) (found : Found) (bytes : ℕ → List ℕ) (c : Image) : Type 0 where
  pub current_is : current c ≡ Some slot
  pub content_is : content c ≡ Some (slot, found)
  pub pages : Agree found.pages bytes (page_of c)

-- The current slot is the one from before, or the new one. In either case its content and the pages under it are fixed, whatever the image.
abbrev pub IsOldOrNew : Commit → List NewPage → Image → Image → Type 0
IsOldOrNew commit pages a c = ShowsFound commit.old commit.old_found (page_of a) c ⊎ ShowsFound commit.new commit.new_found (patched pages (page_of a)) c

-- every image is this one, which has the new content; pages that weren't written are as before
pub record IsDone (commit : Commit) (pages : List NewPage) (crash_states : CrashStates Image) (a b : Image) : Type 0 where
  pub all : AllAre crash_states b
  pub content : content b ≡ Some (commit.new, commit.new_found)
  pub bytes : (n : ℕ) → 2 ≤ n → page_of b n ≡ patched pages (page_of a) n
  pub size : length b ≡ length a
  pub others : (n : ℕ) → n < 16 → (n < 8 * commit.new.number) ⊎ (8 * commit.new.number + 8 ≤ n) → sector b n ≡ sector a n

-- An image that a crash within the commit may leave: the old slot is current or the new one is; no sector changed but those of the new slot (whose page has its number) and of the new pages; and no root sector changed but to one with the new seal.
pub record IsBetween (commit : Commit) (pages : List NewPage) (a c : Image) : Type 0 where
  pub shows : IsOldOrNew commit pages a c
  pub kept : IsSameOutside (commit.new.number ∷ numbers pages) a c
  pub sealed : (n : ℕ) → n < 16 → (sector c n ≡ sector a n) ⊎ (seal_of n (sector c n) ≡ Some commit.new.seal)
