-- How many calls a store makes of its device.
use Rattle.std.proofs.Common.{◌≡◌, ◌≤◌, ◌+◌, ◌-◌, ◌*◌, ◌^◌, ℕ, ◌∙◌, refl, arith}
use Rattle.sector_device.specs.CallsMade.{CallsMade}
use Rattle.sector_device.specs.Effects.{RoseAtMost}

-- Nothing was written, and nothing made sure of.
pub record WritesNothing (old new : CallsMade) : Type 0 where
  pub reads : old.reads ≤ new.reads
  pub writes : new.writes ≡ old.writes
  pub syncs : new.syncs ≡ old.syncs

pub nothing_yet : (calls : CallsMade) → WritesNothing calls calls
nothing_yet calls = record { reads = omega arith; writes = refl; syncs = refl }

pub nothing_then : {a b c : CallsMade} → WritesNothing a b → WritesNothing b c → WritesNothing a c
nothing_then x y = record { reads = omega (arith, x.reads, y.reads); writes = y.writes ∙ x.writes; syncs = y.syncs ∙ x.syncs }

-- Nothing was written, and all was made sure of once.
pub record SyncsOnce (old new : CallsMade) : Type 0 where
  pub reads : old.reads ≤ new.reads
  pub writes : new.writes ≡ old.writes
  pub syncs : new.syncs ≡ old.syncs + 1

-- Nothing was written, and all was made sure of once at most.
pub record SyncsOnceAtMost (old new : CallsMade) : Type 0 where
  pub reads : old.reads ≤ new.reads
  pub writes : new.writes ≡ old.writes
  pub syncs : RoseAtMost 1 old.syncs new.syncs

pub once_then : {a b c : CallsMade} → SyncsOnce a b → WritesNothing b c → SyncsOnce a c
once_then x y = record { reads = omega (arith, x.reads, y.reads); writes = y.writes ∙ x.writes; syncs = y.syncs ∙ x.syncs }

pub at_most_once : {a b : CallsMade} → SyncsOnce a b → SyncsOnceAtMost a b
at_most_once x = record { reads = x.reads; writes = x.writes; syncs = (omega (arith, x.syncs), omega (arith, x.syncs)) }

-- At most so many pages were read, of eight sectors each, and nothing was written.
pub record ReadsPages (most : ℕ) (old new : CallsMade) : Type 0 where
  pub reads : RoseAtMost (8 * most) old.reads new.reads
  pub writes : new.writes ≡ old.writes
  pub syncs : new.syncs ≡ old.syncs

pub no_pages : {a b : CallsMade} → b ≡ a → (most : ℕ) → ReadsPages most a b
no_pages same most = rw same (record { reads = (omega arith, omega arith); writes = refl; syncs = refl })

pub pages_then : {m n most : ℕ} {a b c : CallsMade} → ReadsPages m a b → ReadsPages n b c → m + n ≤ most → ReadsPages most a c
pages_then x y le = record {
  reads = (omega (arith, x.reads.0, y.reads.0), omega (arith, x.reads.1, y.reads.1, le));
  writes = y.writes ∙ x.writes;
  syncs = y.syncs ∙ x.syncs;
}

-- No more was written than so many new pages and the page of a root, with two syncs.
pub record WritesAtMost (most : ℕ) (old new : CallsMade) : Type 0 where
  pub writes : RoseAtMost (8 * most + 8) old.writes new.writes
  pub syncs : RoseAtMost 2 old.syncs new.syncs

-- A commit: no more pages were read than so many, and no more was written than this.
pub record CommitsWithin (read written : ℕ) (old new : CallsMade) : Type 0 where
  pub reads : RoseAtMost (8 * read) old.reads new.reads
  pub wrote : WritesAtMost written old new

-- where it was only read before
pub writes_behind : {most : ℕ} {a b c : CallsMade} → WritesNothing a b → WritesAtMost most b c → WritesAtMost most a c
writes_behind x y = record {
  writes = (omega (arith, x.writes, y.writes.0), omega (arith, x.writes, y.writes.1));
  syncs = (omega (arith, x.syncs, y.syncs.0), omega (arith, x.syncs, y.syncs.1));
}

pub nothing_at_most : {a b : CallsMade} → WritesNothing a b → (most : ℕ) → WritesAtMost most a b
nothing_at_most x most = record {
  writes = (omega (arith, x.writes), omega (arith, x.writes));
  syncs = (omega (arith, x.syncs), omega (arith, x.syncs));
}

-- How many pages a search for the next pair reads at most in a tree of so many levels: where it finds no greater key under a page, it tries the page beside that.
abbrev pub pages_tried : ℕ → ℕ
pages_tried levels = 2 ^ levels - 1
