-- One call that reads what is kept after another.
use Rattle.std.proofs.Common.{◌≡◌, ℕ, ◌<◌, List, length, Some, None, refl, ap, ◌∙◌, arith}
use Rattle.std.specs.Prelude.{IsTrue}
use Rattle.std.proofs.Props.{props}
use mathlib.Core.Logic.{∥∥₁_elim}
use Rattle.host_types.specs.Site.{Site, IsSite, item_at}
use Rattle.host_types.specs.Standing.{limits_at}
use Rattle.host_types.specs.CrashStates.{CrashStates, no_new_crash_state, adds_none_again}
use Rattle.page_store.specs.Work.{nothing_yet, nothing_then}
use Rattle.page_store.specs.StoreState.{StoreState, CommitNeed, StoreHasRead, NeedsTheSame}
use Rattle.page_store.specs.declared.edit.Edit.{Edit}
use Rattle.site_store.specs.Represented.{RepresentedBy}
use Rattle.site_store.specs.StoreReads.{StoreReadsOnly, NoneFailed}

pub read_later : (a b c : StoreState) → StoreHasRead a b → StoreHasRead b c → StoreHasRead a c
read_later a b c x y =
    let now = λ (honest : IsTrue a.honest). let h : IsTrue b.honest = x.honest ∙ honest in h in
    record {
      same = record {
        pairs = λ honest. y.same.pairs (now honest) ∙ x.same.pairs honest;
        banner = y.same.banner ∙ x.same.banner;
        usable = y.same.usable ∙ x.same.usable;
        generation = y.same.generation ∙ x.same.generation;
        height = y.same.height ∙ x.same.height;
        keys = y.same.keys ∙ x.same.keys;
        out = y.same.out ∙ x.same.out;
        pins = λ honest. y.same.pins (x.honest ∙ honest) ∙ x.same.pins honest;
        top = y.same.top ∙ x.same.top;
        free = y.same.free ∙ x.same.free;
        calls = nothing_then x.same.calls y.same.calls;
      };
      honest = y.honest ∙ x.honest;
      reads = omega (arith, x.reads, y.reads);
      writes = y.writes ∙ x.writes;
    }

pub none_later : (a b c : StoreState) → NoneFailed a b → NoneFailed b c → NoneFailed a c
none_later a b c x y = y ∙ x

need_later : (a b c : List Edit → CommitNeed → Type 0) → NeedsTheSame a b → NeedsTheSame b c → NeedsTheSame a c
need_later a b c x y = record {
  after = λ batch need h. y.after batch need (x.after batch need h);
  before = λ batch need h. x.before batch need (y.before batch need h);
}

pub reads_later : {K L : Type 0} → (store_state : K → StoreState) (may_need : K → List Edit → CommitNeed → Type 0) (crash_states : K → CrashStates L) (a b c : K) → StoreReadsOnly store_state may_need crash_states a b → StoreReadsOnly store_state may_need crash_states b c → StoreReadsOnly store_state may_need crash_states a c
reads_later store_state may_need crash_states a b c x y = record {
  read = read_later (store_state a) (store_state b) (store_state c) x.read y.read;
  need = need_later (may_need a) (may_need b) (may_need c) x.need y.need;
  no_new_crash_state = λ honest. adds_none_again (crash_states a) (crash_states b) (crash_states c) (x.no_new_crash_state honest) (y.no_new_crash_state (x.read.honest ∙ honest));
}

pub not_read_yet : (h : StoreState) → StoreHasRead h h
not_read_yet h = record {
  same = record { pairs = λ honest. refl; banner = refl; usable = refl; generation = refl; height = refl; keys = refl; out = refl; pins = λ honest. refl; top = refl; free = refl; calls = nothing_yet h.made };
  honest = refl;
  reads = omega arith;
  writes = refl;
}

pub not_yet : {K L : Type 0} → (store_state : K → StoreState) (may_need : K → List Edit → CommitNeed → Type 0) (crash_states : K → CrashStates L) (a : K) → StoreReadsOnly store_state may_need crash_states a a
not_yet store_state may_need crash_states a = record {
  read = not_read_yet (store_state a);
  need = record { after = λ batch need h. h; before = λ batch need h. h };
  no_new_crash_state = λ honest. no_new_crash_state (crash_states a);
}

-- what is kept is kept after a call that reads
pub kept_after : (a b : StoreState) (s : Site) → StoreHasRead a b → IsTrue a.honest → RepresentedBy a s → RepresentedBy b s
kept_after a b s read honest kept = record {
  valid = kept.valid;
  all = read.same.pairs honest ∙ kept.all;
  host = ap (λ x. x.host) read.same.banner ∙ kept.host;
  port = ap (λ x. x.port) read.same.banner ∙ kept.port;
  admin = ap (λ x. x.admin) read.same.banner ∙ kept.admin;
  version = ap (λ x. x.version) read.same.banner ∙ kept.version;
}

-- nothing stands at a selector that is too long
pub long_none : (s : Site) (q : List ℕ) → ∥ IsSite s ∥₁ → 255 < length q → item_at s q ≡ None
long_none s q site long =
    elim (item_at s q) as (λ o. item_at s q ≡ o → o ≡ None) [
      | None ↦ λ e. refl
      | Some item ↦ λ e. absurd (let none : IsProp ⊥ = hlevel props in ∥∥₁_elim site none (λ h. let short = (limits_at s q item h e).name in omega (arith, long, short)))
    ] refl
