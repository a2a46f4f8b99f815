-- Reading what is kept of a site.
use Rattle.std.specs.Prelude.{◌≡◌, ℕ, ◌<◌, ◌≤◌, ◌-◌, ◌*◌, ◌^◌, nat_lt, if◌then◌else◌, Bool, true, false, List, Option, Some, None, IsTrue, slice_get, map, length}
use Rattle.host_types.specs.Site.{Site, item_at}
use Rattle.host_types.specs.Card.{card_view}
use Rattle.host_types.specs.declared.view.View.{View}
use Rattle.host_types.specs.declared.card.CardView.{CardView}
use Rattle.host_types.specs.declared.menu.Entry.{Entry}
use Rattle.host_types.specs.declared.form.Question.{Question}
use Rattle.host_types.specs.declared.item.Item.{Item}
use Rattle.host_types.specs.declared.item.Body.{Body}
use Rattle.host_types.specs.declared.item.Body.TheVariants.{Views, Menu, Board, Form, Search, Moved}
use Rattle.page_store.specs.Pages.{Pair}
use Rattle.page_store.specs.Batch.{value_at}
pub use Rattle.page_store.specs.ReadCalls.{StoreReadsOnly}
use Rattle.page_store.specs.StoreState.{StoreState, IsStoreReadFault}
use Rattle.page_store.specs.Counting.{reads_after}
use Rattle.page_store.specs.declared.fault.KeeperFault.{KeeperFault}
use Rattle.site_records.specs.Keys.{chunk_key}
use Rattle.site_records.specs.Layout.{chunk_in}
use Rattle.site_records.specs.Records.{recorded_body, entries_bytes, questions_bytes}
use Rattle.site_records.specs.Limits.{are_entries, are_questions}
use Rattle.site_records.specs.declared.record.RecordBody.{RecordBody}
use Rattle.site_store.specs.Represented.{RepresentedBy}
use Rattle.site_store.specs.declared.fault.SiteOpenFault.{SiteOpenFault}
use Rattle.site_store.specs.declared.fault.SiteOpenFault.TheVariants.{BadRecord, Keeper, Memory}

-- no read failed
abbrev pub NoneFailed : StoreState → StoreState → Type 0
NoneFailed old new = new.failed_reads ≡ old.failed_reads

-- When the key-value store may give a fault, and what it counts.
abbrev pub IsCountedFault : StoreState → StoreState → KeeperFault → Type 0
IsCountedFault old new fault = IsStoreReadFault old new fault × (new.failed_reads ≡ reads_after fault old.failed_reads)

-- When a fault may come of a call that reads what is there where something is known.
abbrev pub IsFaultUnless : Type 0 → StoreState → StoreState → SiteOpenFault → Type 0
IsFaultUnless Known old new BadRecord = NoneFailed old new × (IsTrue old.honest → Known → ⊥)
IsFaultUnless Known old new (Keeper fault) = IsCountedFault old new fault
IsFaultUnless Known old new Memory = NoneFailed old new

-- a fault that the key-value store gave
abbrev pub IsKeeperFault : (KeeperFault → Type 0) → SiteOpenFault → Type 0
IsKeeperFault may BadRecord = ⊥
IsKeeperFault may (Keeper fault) = may fault
IsKeeperFault may Memory = ⊥

-- When a fault may come of a call that reads what is kept of a site.
abbrev pub IsSiteReadFault : StoreState → StoreState → SiteOpenFault → Type 0
IsSiteReadFault old new fault = IsFaultUnless ((s : Site) × RepresentedBy old s) old new fault

-- The chunks of a part are those of some bytes.
abbrev pub HasPart : List Pair → List ℕ → ℕ → List ℕ → Type 0
HasPart pairs selector part bytes = (k : ℕ) → k < 2 ^ 16 → value_at pairs (chunk_key selector part k) ≡ chunk_in (Some bytes) k

-- So many bytes, of which the chunks of a part are.
abbrev pub IsPartOf : List ℕ → ℕ → ℕ → StoreState → List ℕ → Type 0
IsPartOf selector part size h bytes = (length bytes ≡ size) × HasPart h.pairs selector part bytes

-- The chunks of all parts are those of these bytes.
abbrev pub HasParts : List Pair → List ℕ → List (List ℕ) → Type 0
HasParts pairs selector parts = (part k : ℕ) → k < 2 ^ 16 → value_at pairs (chunk_key selector part k) ≡ chunk_in (slice_get parts part) k

-- The parts are those of some views.
abbrev pub HasViews : List Pair → List ℕ → List CardView → List View → Type 0
HasViews pairs selector cards views = (cards ≡ map card_view views) × HasParts pairs selector (map (λ (v : View). v.bytes) views)

-- The first part is the entries of a menu, of so many bytes.
abbrev pub HasEntries : List Pair → List ℕ → ℕ → List Entry → Type 0
HasEntries pairs selector size entries = IsTrue (are_entries entries) × (length (entries_bytes entries) ≡ size) × HasPart pairs selector 0 (entries_bytes entries)

-- The first part is the questions of a form, of so many bytes.
abbrev pub HasQuestions : List Pair → List ℕ → ℕ → List Question → Type 0
HasQuestions pairs selector size questions = IsTrue (are_questions questions) × (length (questions_bytes questions) ≡ size) × HasPart pairs selector 0 (questions_bytes questions)

-- This item stands at a selector of the site that is kept.
abbrev pub StandsAt : List ℕ → StoreState → Item → Type 0
StandsAt selector h item = (s : Site) × RepresentedBy h s × (item_at s selector ≡ Some item)

-- A body that is kept, by what its record says of it.
pub record HasBody (h : StoreState) (selector : List ℕ) (kept : RecordBody) (body : Body) : Type 0 where
  pub site : Site
  pub is_kept : RepresentedBy h site
  pub item : Item
  pub stands : item_at site selector ≡ Some item
  pub body_is : item.body ≡ body
  pub recorded : kept ≡ recorded_body body

-- a length that has come so far, or to the end
abbrev pub HasSize : ℕ → ℕ → ℕ → Type 0
HasSize length most size = (most ≤ size → length ≡ most) × (size ≤ most → length ≡ size)

-- how many bytes the chunk k of so many bytes has
abbrev pub chunk_size : ℕ → ℕ → ℕ
chunk_size size k = if nat_lt (size - 1000 * k) 1000 then size - 1000 * k else 1000

-- When a fault may come of a call that reads what is kept of a site and takes no memory.
abbrev pub IsQuickFault : StoreState → StoreState → SiteOpenFault → Type 0
IsQuickFault old new BadRecord = NoneFailed old new × (IsTrue old.honest → (s : Site) → RepresentedBy old s → ⊥)
IsQuickFault old new (Keeper fault) = IsCountedFault old new fault
IsQuickFault old new Memory = ⊥

abbrev pub is_views : Body → Bool
is_views (Views kind views) = true
is_views (Menu entries) = false
is_views (Board cap next) = false
is_views (Form board questions) = false
is_views (Search scope) = false
is_views (Moved target) = false

-- a document stands there
abbrev pub is_document : Option Item → Bool
is_document None = false
is_document (Some item) = is_views item.body

-- When a fault may come of a call that reads pairs into memory.
abbrev pub IsReadOrMemory : StoreState → StoreState → SiteOpenFault → Type 0
IsReadOrMemory old new BadRecord = ⊥
IsReadOrMemory old new (Keeper fault) = IsCountedFault old new fault
IsReadOrMemory old new Memory = NoneFailed old new
