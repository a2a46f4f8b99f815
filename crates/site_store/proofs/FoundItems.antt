-- What is found of a site in the pairs that are its layout.
use Rattle.std.proofs.Common.{◌≡◌, ℕ, List, Option, Some, None, refl, ap, ◌∙◌}
use Rattle.std.specs.Prelude.{IsTrue, ◌⊎◌, is_some}
use Rattle.std.proofs.Common.{inl, inr}
use Rattle.std.specs.Option.{option_map}
use Rattle.std.specs.FinMap.{is_sorted}
use Rattle.std.proofs.Props.{props}
use mathlib.Core.Logic.{∥∥₁_elim}
use Rattle.host_types.specs.Card.{card_of}
use Rattle.host_types.specs.Fronts.{front_of, front_at}
use Rattle.host_types.specs.Items.{is_valid_item}
use Rattle.host_types.specs.Site.{Site, IsSite, byte_cmp, item_at}
use Rattle.host_types.specs.declared.item.Item.{Item}
use Rattle.page_store.specs.StoreState.{StoreState}
use Rattle.site_records.specs.Keys.{item_key}
use Rattle.site_records.specs.Records.{recorded, record_bytes, item_bytes}
use Rattle.site_records.specs.Limits.{is_record}
use Rattle.site_records.specs.Layout.{Pairs, value_at}
use Rattle.site_records.specs.LayoutLaws.{record_in-layout}
use Rattle.site_records.specs.Laws.{ItemsHaveRecords}
use Rattle.site_store.specs.Represented.{RepresentedBy}
use Rattle.site_store.specs.StoreReads.{NoneFailed, IsFaultUnless}
use Rattle.site_store.specs.declared.fault.SiteOpenFault.{SiteOpenFault}
use Rattle.site_store.specs.declared.fault.SiteOpenFault.TheVariants.{BadRecord, Keeper, Memory}

pub kept_sorted : (s : Site) → ∥ IsSite s ∥₁ → IsTrue (is_sorted byte_cmp s.items)
kept_sorted s site = let prop : IsProp (IsTrue (is_sorted byte_cmp s.items)) = hlevel props in ∥∥₁_elim site prop (λ h. h.sorted)

pub kept_valid : (s : Site) (selector : List ℕ) (item : Item) → ∥ IsSite s ∥₁ → item_at s selector ≡ Some item → IsTrue (is_valid_item selector item)
kept_valid s selector item site is = let prop : IsProp (IsTrue (is_valid_item selector item)) = hlevel props in ∥∥₁_elim site prop (λ h. (h.each selector item is).valid)

pub kept_record : (h : StoreState) (s : Site) (selector : List ℕ) → RepresentedBy h s → value_at h.pairs (item_key selector) ≡ option_map item_bytes (item_at s selector)
kept_record h s selector kept = ap (λ (ps : Pairs). value_at ps (item_key selector)) kept.all ∙ record_in-layout s selector (kept_sorted s kept.valid)

-- no record
nothing : (o : Option Item) → None ≡ option_map item_bytes o → None ≡ option_map recorded o
nothing None e = refl
nothing (Some item) e = absurd cc

pub no_record : (h : StoreState) (s : Site) (selector key : List ℕ) → RepresentedBy h s → key ≡ item_key selector → None ≡ value_at h.pairs key → None ≡ option_map recorded (item_at s selector)
no_record h s selector key kept is none = nothing (item_at s selector) (none ∙ ap (value_at h.pairs) is ∙ kept_record h s selector kept)

-- nor has its line anything to say
pub no_front : (s : Site) (selector : List ℕ) → None ≡ option_map recorded (item_at s selector) → None ≡ front_at s selector
no_front s selector none = by (item_at s selector) none
  where
    by : (o : Option Item) → None ≡ option_map recorded o → None ≡ option_map front_of (option_map card_of o)
    by None e = refl
    by (Some item) e = absurd (cc e)

-- The item whose record some bytes are.
pub record IsRecordOf (s : Site) (selector bytes : List ℕ) (item : Item) : Type 0 where
  pub stands : item_at s selector ≡ Some item
  pub valid : IsTrue (is_record (recorded item))
  pub bytes_are : bytes ≡ record_bytes (recorded item)

pub one_record : ItemsHaveRecords → (h : StoreState) (s : Site) (selector key bytes : List ℕ) → RepresentedBy h s → key ≡ item_key selector → Some bytes ≡ value_at h.pairs key → (item : Item) × IsRecordOf s selector bytes item
one_record have h s selector key bytes kept is some =
    elim (item_at s selector) as (λ o. item_at s selector ≡ o → (item : Item) × IsRecordOf s selector bytes item) [
      | None ↦ λ e. let clash : Some bytes ≡ None = some ∙ ap (value_at h.pairs) is ∙ kept_record h s selector kept ∙ ap (option_map item_bytes) e in absurd (cc clash)
      | Some item ↦ λ e.
          let all : Some bytes ≡ Some (item_bytes item) = some ∙ ap (value_at h.pairs) is ∙ kept_record h s selector kept ∙ ap (option_map item_bytes) e in
          (item, record { stands = e; valid = have selector item (kept_valid s selector item kept.valid e); bytes_are = cc all })
    ] refl

-- a fault of reading some bytes that are what is known is lack of memory
pub not_bad : {Known : Type 0} → (old new : StoreState) (fault : SiteOpenFault) → NoneFailed old new → (fault ≡ BadRecord) ⊎ (fault ≡ Memory) → (IsTrue old.honest → Known → fault ≡ Memory) → IsFaultUnless Known old new fault
not_bad old new BadRecord none cases h = (none, λ honest known. let clash : BadRecord ≡ Memory = h honest known in absurd (cc clash))
not_bad old new (Keeper f) none (inl e) h = absurd (cc e)
not_bad old new (Keeper f) none (inr e) h = absurd (cc e)
not_bad old new Memory none cases h = none

-- whether something stands somewhere
pub there_is : {A : Type 0} (f : A → List ℕ) (found : Option A) (h : StoreState) (s : Site) (selector key : List ℕ) → RepresentedBy h s → key ≡ item_key selector → option_map f found ≡ value_at h.pairs key → is_some found ≡ is_some (item_at s selector)
there_is f found h s selector key kept is value = same found (item_at s selector) (value ∙ ap (value_at h.pairs) is ∙ kept_record h s selector kept)
  where
    same : (a : Option _) (b : Option Item) → option_map f a ≡ option_map item_bytes b → is_some a ≡ is_some b
    same None None e = refl
    same None (Some item) e = absurd (cc e)
    same (Some x) None e = absurd (cc e)
    same (Some x) (Some item) e = refl
