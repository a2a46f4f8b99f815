-- What holds of looking up the items of the site that is kept.
use Rattle.std.proofs.Common.{◌≡◌, ℕ, Bool, false, List, [], length, Some, refl, sym, ap, subst, ◌∙◌}
use Rattle.std.specs.Prelude.{◌||◌, nat_lt}
use Rattle.std.proofs.lemmas.Bool.{or_parts}
use Rattle.std.proofs.Props.{props}
use Rattle.common_types.specs.Counts.{counted}
use Rattle.host_types.specs.Items.{is_long_body, is_long_item}
use Rattle.host_types.specs.Site.{Site, board_of}
use Rattle.host_types.specs.Change.{board_after}
use Rattle.host_types.specs.CrashStates.{CrashStates}
use Rattle.host_types.specs.declared.item.Item.{Item}
use Rattle.host_types.specs.declared.item.Body.{Body}
use Rattle.host_types.specs.declared.item.Body.TheVariants.{Views, Menu, Board, Form, Search, Moved}
use Rattle.common_types.specs.declared.refused.Refused.{Refused}
use Rattle.host_types.specs.declared.site_fault.SiteFault.{SiteFault}
use Rattle.host_types.specs.declared.site_fault.SiteFault.TheVariants as faults
use Rattle.host_types.proofs.Boards.{body_is}
use Rattle.host_types.specs.Sizes.{longest_summary}
use Rattle.change_plan.specs.LookUps.{HasNoLongNames}
use Rattle.page_store.specs.StoreState.{StoreState, CommitNeed}
use Rattle.page_store.specs.declared.edit.Edit.{Edit}
use Rattle.site_store.specs.LookUps.{IsShown, HasFound, IsLookUpFault, HasNotFound}
use Rattle.site_pairs.specs.ShortReplacements.{IsShortItem}
use Rattle.site_store.specs.ReadLaws.{reads_later, not_yet, kept_after, long_none}

module _ {K L : Type 0} (store_state : K → StoreState) (may_need : K → List Edit → CommitNeed → Type 0) (crash_states : K → CrashStates L) where
  pub nothing_read : (k : K) → HasFound store_state may_need crash_states k k
  nothing_read k = record { reads_only = not_yet store_state may_need crash_states k; none = refl }

  pub reads_again : (a b c : K) → HasFound store_state may_need crash_states a b → HasFound store_state may_need crash_states b c → HasFound store_state may_need crash_states a c
  reads_again a b c x y = record { reads_only = reads_later store_state may_need crash_states a b c x.reads_only y.reads_only; none = y.none ∙ x.none }

  pub shows_still : (a b : K) (s : Site) → HasFound store_state may_need crash_states a b → IsShown store_state a s → IsShown store_state b s
  shows_still a b s x shown = (x.reads_only.read.honest ∙ shown.0, kept_after (store_state a) (store_state b) s x.reads_only.read shown.0 shown.1)

  cause_later : (a b c : K) (fault : SiteFault) → HasFound store_state may_need crash_states a b → IsLookUpFault (store_state b) (store_state c) fault → IsLookUpFault (store_state a) (store_state c) fault
  cause_later a b c (faults.Refused r) x h = h
  cause_later a b c faults.Read x h = λ honest s kept. let shown = shows_still a b s x (honest, kept) in h shown.0 s shown.1 ∙ ap counted x.none
  cause_later a b c (faults.Full need free) x h = h
  cause_later a b c faults.Spent x h = h
  cause_later a b c faults.Deep x h = h
  cause_later a b c faults.Failed x h = sym x.reads_only.read.same.usable ∙ h
  cause_later a b c faults.Memory x h = h ∙ x.none

  pub failed_later : (a b c : K) (fault : SiteFault) → HasFound store_state may_need crash_states a b → HasNotFound store_state may_need crash_states b c fault → HasNotFound store_state may_need crash_states a c fault
  failed_later a b c fault x h = record { reads_only = reads_later store_state may_need crash_states a b c x.reads_only h.reads_only; cause = cause_later a b c fault x h.cause }

  pub may_be_out_of_memory : (a b : K) → HasFound store_state may_need crash_states a b → HasNotFound store_state may_need crash_states a b faults.Memory
  may_be_out_of_memory a b x = record { reads_only = x.reads_only; cause = x.none }

  pub never_refused : (a b : K) (r : Refused) → HasNotFound store_state may_need crash_states a b (faults.Refused r) → ⊥
  never_refused a b r h = h.cause

pub short_names : {K : Type 0} (store_state : K → StoreState) (k : K) (s : Site) → IsShown store_state k s → HasNoLongNames s
short_names store_state k s shown = λ q long. long_none s q shown.1.valid long

pub fits_or_not : (item : Item) → IsProp (IsShortItem item)
fits_or_not item = hlevel props

-- an item that is not too long for its selector is not too long
pub short_fits : (selector : List ℕ) (item : Item) → is_long_item selector item ≡ false → IsShortItem item
short_fits selector item short =
    let parts = or_parts (nat_lt longest_summary (length item.summary)) (is_long_body selector item.body) short in
    rw (parts.0, by item.body parts.1) refl
  where
    by : (body : Body) → is_long_body selector body ≡ false → is_long_body [] body ≡ false
    by (Views kind views) h = h
    by (Menu entries) h = h
    by (Board cap next) h = let sizes = or_parts (nat_lt 100 cap) (nat_lt 229 (length selector)) h in ap (λ (b : Bool). b || false) sizes.0
    by (Form board questions) h = h
    by (Search scope) h = h
    by (Moved target) h = h

-- so is a board after a post, if it was before
pub board_fits : (item : Item) (cap next now : ℕ) → board_of item.body ≡ Some (cap, next) → IsShortItem item → IsShortItem (board_after item cap next now)
board_fits item cap next now is short = same item.body (body_is item.body cap next is) short
  where
    same : (b : Body) → b ≡ Board cap next → IsShortItem (record item { body = b }) → IsShortItem (board_after item cap next now)
    same b e h = subst (λ (x : Body). IsShortItem (record item { body = x })) e h
