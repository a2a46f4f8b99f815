-- What a site over a key-value store lacks behind a change that was refused.
use Rattle.std.proofs.Common.{◌≡◌, ℕ, true, false, List, sym, ◌∙◌}
use Rattle.host_types.specs.SiteState.{LacksTheSame}
use Rattle.page_store.specs.StoreState.{StoreState, CommitNeed, StoreHasRead, HasStayed, StoreHasTried, NeedsTheSame, IsCommitFault}
use Rattle.page_store.specs.declared.edit.Edit.{Edit}
use Rattle.page_store.specs.declared.fault.KeeperFault.{KeeperFault}
use Rattle.page_store.specs.declared.fault.KeeperFault.TheVariants as kinds
use Rattle.site_store.specs.Lacking.{IsLacking}
use Rattle.site_store.specs.Represented.{HasSite, site_of}
use Rattle.site_store.proofs.StoreAsSite.{site_still, lacks_still, same_after}

-- ---- what is lacking

needs_twice : (a b c : List Edit → CommitNeed → Type 0) → NeedsTheSame a b → NeedsTheSame b c → NeedsTheSame a c
needs_twice a b c x y = record { after = λ batch need h. y.after batch need (x.after batch need h); before = λ batch need h. x.before batch need (y.before batch need h) }

no_flag : (a b : StoreState) → a.usable ≡ true → b.usable ≡ false → b.usable ≡ a.usable → ⊥
no_flag a b up shut same = let clash : true ≡ false = sym (same ∙ up) ∙ shut in cc clash

-- a commit that was refused and has left the flag
stays : (a b : StoreState) (edits : ℕ) (may_need : CommitNeed → Type 0) (fault : KeeperFault) → a.usable ≡ true → b.usable ≡ a.usable → IsCommitFault a b edits may_need fault → HasStayed a b
stays a b edits may_need kinds.Device up same h = h.0
stays a b edits may_need kinds.NoImage up same h = absurd h
stays a b edits may_need kinds.Version up same h = absurd h
stays a b edits may_need (kinds.Damaged page) up same h = h.0
stays a b edits may_need kinds.Small up same h = absurd h
stays a b edits may_need kinds.Spent up same h = h.0
stays a b edits may_need kinds.Deep up same h = h.0
stays a b edits may_need (kinds.Full need free) up same h = h.0
stays a b edits may_need kinds.Failed up same h = absurd (no_flag a b up h.shut same)
stays a b edits may_need kinds.Memory up same h = h

module _ {K : Type 0} (store_state : K → StoreState) (may_need : K → List Edit → CommitNeed → Type 0) (k0 k1 k2 : K) (ka : HasSite (store_state k0)) (kc : HasSite (store_state k2)) (read : StoreHasRead (store_state k0) (store_state k1)) where
  -- behind a read, and a commit that was refused
  pub lacks_behind : (edits : ℕ) (may : CommitNeed → Type 0) (fault : KeeperFault) → NeedsTheSame (may_need k0) (may_need k1) → StoreHasTried (store_state k1) (store_state k2) → (store_state k1).usable ≡ true → IsCommitFault (store_state k1) (store_state k2) edits may fault
      → ((store_state k2).usable ≡ (store_state k1).usable → NeedsTheSame (may_need k1) (may_need k2)) → (store_state k2).usable ≡ (store_state k0).usable
      → LacksTheSame (IsLacking store_state may_need k0 (site_of (store_state k0) ka)) (IsLacking store_state may_need k2 (site_of (store_state k2) kc))
  lacks_behind edits may fault need tried up h still same =
      let flag : (store_state k2).usable ≡ (store_state k1).usable = same ∙ sym read.same.usable in
      let stayed = stays (store_state k1) (store_state k2) edits may fault up flag h in
      let all_same = same_after (store_state k0) (store_state k1) (store_state k2) ka kc read stayed tried.honest in
      lacks_still store_state may_need k0 k2 _ _ (site_still (store_state k0) (store_state k2) ka kc (tried.honest ∙ read.honest) all_same.site)
      (needs_twice (may_need k0) (may_need k1) (may_need k2) need (still flag)) (stayed.top ∙ read.same.top) (stayed.banner ∙ read.same.banner) (stayed.height ∙ read.same.height)
