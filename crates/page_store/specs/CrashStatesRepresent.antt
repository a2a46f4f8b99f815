-- Each crash state of a usable store between two calls has its pairs and its banner.
use Rattle.std.specs.Prelude.{◌≡◌, ◌≤◌, ◌==◌, ℕ, List, true}
use Rattle.std.proofs.Common.{ap, sym, arith, ◌∙◌}
use Rattle.sector_device.specs.Disk.{Disk, IsImage}
use Rattle.page_store.specs.Sectors.{Image}
use Rattle.page_store.specs.Content.{content, pairs_and_banner, is_opened, ImageHas}
use Rattle.page_store.specs.Pages.{Pair}
use Rattle.page_store.specs.FlatState.{CrashStatesDoRepresent, FlatNeeds}
use Rattle.page_store.specs.StoreState.{CommitNeed, SoManyPages, TooManyLevels, most_levels}
use Rattle.page_store.specs.declared.edit.Edit.{Edit}
use Rattle.page_store.specs.declared.slot.Slot.{Slot}

-- version 0 is the one that is opened
pub opens_zero : (version : ℕ) → version ≡ 0 → is_opened version ≡ true
opens_zero version is = ap (λ (n : ℕ). n == 0) is

-- flat pages have no levels
pub no_levels : 0 ≤ most_levels
no_levels = omega arith

-- a batch needs so many pages, and no other number
pub one_flat_need : (pairs : List Pair) (batch : List Edit) (a b : CommitNeed) → FlatNeeds pairs batch a → FlatNeeds pairs batch b → a ≡ b
one_flat_need pairs batch (SoManyPages m) (SoManyPages n) first second = ap (λ (k : ℕ). SoManyPages k) (first ∙ sym second)
one_flat_need pairs batch (SoManyPages m) TooManyLevels first second = absurd second
one_flat_need pairs batch TooManyLevels b first second = absurd first

pub crash_states_represent_content : (disk : Disk) (slot : Slot) (pairs : List Pair) (top : ℕ) → CrashStatesDoRepresent disk slot pairs top → slot.root.banner.version ≡ 0 → (c : Image) → IsImage disk c → ImageHas c pairs slot.root.banner
crash_states_represent_content disk slot pairs top s version c image =
    (ap (λ (i : Image). pairs_and_banner (content i)) (s.images c image) ∙ ap pairs_and_banner s.content, opens_zero slot.root.banner.version version)
