-- What pins keep, once a commit is written or a write failed.
use Rattle.std.proofs.Common.{◌≡◌, ℕ, List, Option, sym, ap, ◌∙◌}
use Rattle.page_alloc.specs.LedgerState.{LedgerState}
use Rattle.page_alloc.specs.Calls.{advanced}
use Rattle.page_store.specs.Sectors.{Image, page_of}
use Rattle.cow_tree.specs.Drafts.{OnlyMarks}
use Rattle.cow_tree.specs.PinnedTrees.{pins_from, ArePinned, PinnedTreesAreKept, HeldPagesStay, PinnedStay}
use Rattle.cow_tree.specs.declared.tree_root.TreeRoot.{TreeRoot}
use Rattle.cow_tree.proofs.PinnedTrees.{same_pins, still_at, still_kept, kept_by_ledger, pinned_pages, held_again}
use Rattle.cow_tree.proofs.TreeCommits.{lives_length}

-- the ledger of the next generation has the same pins
pub pins_done : (pages now seal : ℕ) (ledger mid : LedgerState) (trees : List (Option TreeRoot)) → OnlyMarks ledger mid → now ≡ pages → ArePinned pages ledger trees → ArePinned now (advanced seal mid) trees
pins_done pages now seal ledger mid trees marks size pins = record {
  count = pins.count;
  seals = marks.pins ∙ pins.seals;
  inside = λ k tree is. record { size = (pins.inside k tree is).size ∙ sym size; rooted = (pins.inside k tree is).rooted };
}

module _ (view mid now : Image) (pages : ℕ) (ledger between : LedgerState) (trees : List (Option TreeRoot)) (pins : ArePinned pages ledger trees) (marks : OnlyMarks ledger between) (same : mid ≡ view) (stay : HeldPagesStay between (page_of mid) (page_of now)) (kept : PinnedTreesAreKept view ledger trees) where
  pub stay_now : HeldPagesStay ledger (page_of view) (page_of now)
  stay_now n low held = ap (λ (v : Image). page_of v n) (sym same) ∙ stay n low (held_again ledger between marks n ∙ held)

  -- each pin keeps the same pairs
  pub pins_stay : pins_from now 0 trees ≡ pins_from view 0 trees
  pins_stay = same_pins now view 0 trees (λ k tree is. still_at view now ledger trees pins.seals stay_now kept k tree is)

  pub kept_still : PinnedTreesAreKept now ledger trees
  kept_still k tree is = still_kept view now ledger trees pins.seals stay_now kept k tree is

  pub kept_done : (seal : ℕ) → PinnedStay between (advanced seal between) → PinnedTreesAreKept now (advanced seal between) trees
  kept_done seal stays = kept_by_ledger now ledger (advanced seal between) trees (pinned_pages ledger between (advanced seal between) trees pins.seals marks stays (lives_length seal between.lives between.marks)) kept_still
