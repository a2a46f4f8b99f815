-- How many calls walks, searches and commits make.
use Rattle.std.proofs.Common.{inl, inr, ◌<◌, ◌≡◌, ◌≤◌, ◌+◌, ◌-◌, ◌*◌, ℕ, zero, suc, Bool, true, false, Option, Some, None, Result, Ok, Err, cond, ap, ◌∙◌, subst, arith, refl, sym, length, if◌then◌else◌}
use Rattle.std.proofs.lemmas.Bool.{cases_lt}
use Rattle.std.proofs.Math.Nat.{two-pow-succ}
use Rattle.std.proofs.Math.Pow.{pow_mono, suc_ones}
use Rattle.sector_device.specs.Device.{State}
use Rattle.sector_device.specs.Effects.{MadeReads, MadeExactly, MadeAtMost, MadeIfOk}
use Rattle.sector_device.proofs.Works.{at_most}
use Rattle.page_alloc.specs.LedgerState.{LedgerState, is_free, free_count, count_below}
use Rattle.page_alloc.specs.Calls.{fresh}
use Rattle.page_store.specs.Opening.{MadeToOpen}
use Rattle.std.proofs.lemmas.List.{length-replicate}
use Rattle.page_alloc.specs.declared.life.Life.TheVariants.{Never}
use Rattle.page_store.specs.Work.{WritesNothing, ReadsPages, WritesAtMost, CommitsWithin, pages_tried}
use Rattle.cow_tree.specs.Work.{ReadsEachOnce, WritesPages}
use Rattle.cow_tree.specs.PinnedTrees.{IsRootedAt}
use Rattle.cow_tree.proofs.PathReads.{levels_left}
use Rattle.cow_tree.specs.declared.tree_root.TreeRoot.{TreeRoot}

pub whatever : {T E : Type 0} (result : Result T E) {r w s : ℕ} {a b : State} → MadeExactly r w s a b → MadeIfOk result r w s a b
whatever (Ok _) is = is
whatever (Err _) is = at_most is

-- ---- searches

pub tried_more : (n : ℕ) → pages_tried (suc n) ≡ 1 + 2 * pages_tried n
tried_more n = let twice = two-pow-succ n in let some = suc_ones n in omega (arith, twice, some)

pub tried_under : (level : ℕ) → (level ≡ 0 → ⊥) → pages_tried (level + 1) ≡ 1 + 2 * pages_tried (level - 1 + 1)
tried_under level ne = let e : level + 1 ≡ suc (level - 1 + 1) = omega (arith, ne) in ap pages_tried e ∙ tried_more (level - 1 + 1)

-- ---- walks

pub no_pages : (a : State) (before after : LedgerState) → free_count after ≤ free_count before → ReadsEachOnce a a before after
no_pages a before after le = record { rises = omega arith; reads = omega (arith, le); writes = refl; syncs = refl }

pub one_page : {a b : State} (before after : LedgerState) → MadeAtMost 8 0 0 a b → free_count before ≡ free_count after + 1 → ReadsEachOnce a b before after
one_page before after made less = record {
  rises = made.reads.0;
  reads = omega (arith, made.reads.1, less);
  writes = omega (arith, made.writes.0, made.writes.1);
  syncs = omega (arith, made.syncs.0, made.syncs.1);
}

pub pages_then : {a b c : State} {first mid last : LedgerState} → ReadsEachOnce a b first mid → ReadsEachOnce b c mid last → ReadsEachOnce a c first last
pages_then one two = record {
  rises = omega (arith, one.rises, two.rises);
  reads = omega (arith, one.reads, two.reads);
  writes = two.writes ∙ one.writes;
  syncs = two.syncs ∙ one.syncs;
}

-- two numbers fail the test
but_two : (f : ℕ → Bool) → f 0 ≡ false → f 1 ≡ false → (n : ℕ) → count_below f n ≤ n - 2
but_two f none one zero = omega arith
but_two f none one (suc zero) = rw none (omega arith)
but_two f none one (suc (suc zero)) = rw (one, none) (omega arith)
but_two f none one (suc (suc (suc n))) = step (f (suc (suc n))) (count_below f (suc (suc n))) (but_two f none one (suc (suc n)))
  where
    step : (b : Bool) (k : ℕ) → k ≤ suc (suc n) - 2 → cond b (1 + k) k ≤ suc (suc (suc n)) - 2
    step true k le = omega (arith, le)
    step false k le = omega (arith, le)

-- all but the root slots
pub free_at_most : (pages seal : ℕ) → free_count (fresh pages seal) ≤ pages - 2
free_at_most pages seal =
    let most = but_two (is_free (fresh pages seal)) refl refl (length (fresh pages seal).lives) in
    let size : length (fresh pages seal).lives ≡ pages = length-replicate pages Never in
    omega (arith, most, size)

pub opened_once : (old mid new : State) (before after : LedgerState) (pages seal : ℕ) → MadeExactly 16 0 1 old mid → ReadsEachOnce mid new before after → before ≡ fresh pages seal → MadeToOpen (16 + 8 * (pages - 2)) old new
opened_once old mid new before after pages seal first walk is =
    let most : free_count before ≤ pages - 2 = subst (λ (s : LedgerState). free_count s ≤ pages - 2) (sym is) (free_at_most pages seal) in
    record {
      sync = omega (arith, first.syncs, walk.syncs);
      most = record {
        reads = (omega (arith, first.reads, walk.rises), omega (arith, first.reads, walk.reads, most));
        writes = (omega (arith, first.writes, walk.writes), omega (arith, first.writes, walk.writes));
        syncs = (omega (arith, first.syncs, walk.syncs), omega (arith, first.syncs, walk.syncs));
      };
    }

-- ---- commits

pub written : (n : ℕ) {old mid new : State} → MadeReads old mid → MadeExactly 0 (8 * n + 8) 2 mid new → WritesPages n old new
written n reads made = record { writes = omega (arith, reads.writes, made.writes); syncs = omega (arith, reads.syncs, made.syncs) }

pub written_less : (read n free : ℕ) {old mid new : State} → n ≤ free → MadeAtMost (8 * read) 0 0 old mid → MadeAtMost 0 (8 * n + 8) 2 mid new → CommitsWithin read free old.made new.made
written_less read n free le reads made = record {
  reads = (omega (arith, reads.reads.0, made.reads.0), omega (arith, reads.reads.1, made.reads.1));
  wrote = record {
    writes = (omega (arith, reads.writes.0, made.writes.0), omega (arith, reads.writes.1, made.writes.1, le));
    syncs = (omega (arith, reads.syncs.0, made.syncs.0), omega (arith, reads.syncs.1, made.syncs.1));
  };
}

pub read_less : (read free : ℕ) {old new : State} → MadeAtMost (8 * read) 0 0 old new → CommitsWithin read free old.made new.made
read_less read free made = record {
  reads = made.reads;
  wrote = record { writes = (made.writes.0, omega (arith, made.writes.1)); syncs = (made.syncs.0, omega (arith, made.syncs.1)) };
}

-- so many pages are still to be read of so many
pub record ReadsSoFar (left most : ℕ) (old new : State) : Type 0 where
  pub rises : old.made.reads ≤ new.made.reads
  pub reads : new.made.reads + 8 * left ≤ old.made.reads + 8 * most
  pub writes : new.made.writes ≡ old.made.writes
  pub syncs : new.made.syncs ≡ old.made.syncs

pub first_left : (needed : Option ℕ) (height depth most : ℕ) → height ≤ most → 0 < most → levels_left needed (height - 1 - depth) ≤ most
first_left None height depth most low some = omega arith
first_left (Some page) height depth most low some = omega (arith, low, some)

pub some_left : (needed : Option ℕ) (page level : ℕ) → needed ≡ Some page → 0 < levels_left needed level
some_left None page level is = absurd (cc is)
some_left (Some n) page level is = omega arith

pub reads_begin : (left most : ℕ) (a : State) → left ≤ most → ReadsSoFar left most a a
reads_begin left most a le = record { rises = omega arith; reads = omega (arith, le); writes = refl; syncs = refl }

pub reads_on : (left less most : ℕ) {a b c : State} → less < left → ReadsSoFar left most a b → MadeAtMost 8 0 0 b c → ReadsSoFar less most a c
reads_on left less most lt x y = record {
  rises = omega (arith, x.rises, y.reads.0);
  reads = omega (arith, lt, x.reads, y.reads.1);
  writes = omega (arith, x.writes, y.writes.0, y.writes.1);
  syncs = omega (arith, x.syncs, y.syncs.0, y.syncs.1);
}

pub reads_all : (left most : ℕ) {a b : State} → ReadsSoFar left most a b → MadeAtMost (8 * most) 0 0 a b
reads_all left most x = record {
  reads = (x.rises, omega (arith, x.reads));
  writes = (omega (arith, x.writes), omega (arith, x.writes));
  syncs = (omega (arith, x.syncs), omega (arith, x.syncs));
}

pub only_read : (free : ℕ) {old new : State} → MadeReads old new → WritesAtMost free old.made new.made
only_read free reads = record { writes = (omega (arith, reads.writes), omega (arith, reads.writes)); syncs = (omega (arith, reads.syncs), omega (arith, reads.syncs)) }

pub enough : (n free : ℕ) {old new : State} → n ≤ free → WritesPages n old new → WritesAtMost free old.made new.made
enough n free le wrote = record {
  writes = (omega (arith, wrote.writes), omega (arith, wrote.writes, le));
  syncs = (omega (arith, wrote.syncs), omega (arith, wrote.syncs));
}

-- ---- look-ups

pub nothing_written : {a b : State} → MadeReads a b → WritesNothing a.made b.made
nothing_written made = record { reads = made.reads; writes = made.writes; syncs = made.syncs }

pub pages_read : (n most : ℕ) {a b : State} → n ≤ most → MadeAtMost (8 * n) 0 0 a b → ReadsPages most a.made b.made
pages_read n most le made = record {
  reads = (made.reads.0, omega (arith, le, made.reads.1));
  writes = omega (arith, made.writes.0, made.writes.1);
  syncs = omega (arith, made.syncs.0, made.syncs.1);
}

-- a tree has at most 16 levels
pub few_levels : (tree : TreeRoot) → IsRootedAt tree → tree.height ≤ 16
few_levels tree rooted = elim (cases_lt 0 tree.height) [
  | inl some ↦ (rooted some).0
  | inr none ↦ omega (arith, none)
]

-- a search in a tree of more levels may take more pages
pub tried_within : (levels most : ℕ) → levels ≤ most → pages_tried levels ≤ pages_tried most
tried_within levels most le = let grows = pow_mono le in omega (arith, grows)

pub one_less : (b : Bool) (before after : ℕ) → before ≡ after + (if b then 1 else 0) → b ≡ true → before ≡ after + 1
one_less true before after is t = is
one_less false before after is t = absurd (cc t)
