-- Plans of several changes, one after another.
use Rattle.std.proofs.Common.{◌≡◌, ℕ, ◌+◌, ◌<◌, ◌≤◌, List, [], ◌∷◌, ◌++◌, append_assoc, Option, Some, None, Result, Ok, Err, refl, sym, ap, subst, ◌∙◌}
use Rattle.std.specs.Prelude.{IsTrue, IfSome}
use Rattle.std.proofs.lemmas.List.Elements.{All-append}
use Rattle.std.proofs.lemmas.List.Sums.{fold-append}
use mathlib.Core.Logic.{∥∥₁_elim, ∥∥₁_prop}
use Rattle.host_types.specs.Site.{Site, IsSite}
use Rattle.host_types.specs.Change.{apply}
use Rattle.host_types.specs.AllChanges.{Changes, then_at, applied_from, all_applied, one_refusal}
use Rattle.host_types.specs.ChangesFaults.{fault_at, one_fault}
use Rattle.host_types.specs.ValidChanges.{ChangesKeepSites, is_typed_change}
use Rattle.host_types.specs.declared.change.Change.{Change}
use Rattle.host_types.specs.declared.item.Item.{Item}
use Rattle.common_types.specs.declared.refused.Refused.{Refused}
use Rattle.host_types.specs.declared.site_fault.SiteFault.{SiteFault}
use Rattle.host_types.specs.declared.site_fault.SiteFault.TheVariants as faults
use Rattle.host_types.specs.declared.changes_fault.ChangesFault.TheVariants as all_faults
use Rattle.change_plan.specs.Plans.{with_host, with_admin, planned, set_last, IsPlan, IsPlanFault, IfRefused}
use Rattle.change_plan.specs.AllPlans.{ShowsValid, ShowsAhead, IsMadeBy, AreMadeBy, IsPlanOfAll, IsPlanOfAllFault}
use Rattle.change_plan.specs.AheadLaws.{planned_items}
use Rattle.change_plan.specs.Replacements.{replaced_at, replaced, all_replaced, IsFit, AreFit}
use Rattle.change_plan.specs.declared.replacement.Replacement.{Replacement}
use Rattle.change_plan.specs.declared.plan.Plan.{Plan}

-- ---- one plan, and then another

one_under_host : (s : Site) (q : List ℕ) (o : Option Item) (host : Option (List ℕ × ℕ)) → replaced_at (with_host s host) q o ≡ with_host (replaced_at s q o) host
one_under_host s q None None = refl
one_under_host s q None (Some name) = refl
one_under_host s q (Some item) None = refl
one_under_host s q (Some item) (Some name) = refl

one_under_admin : (s : Site) (q : List ℕ) (o : Option Item) (admin : Option (List ℕ)) → replaced_at (with_admin s admin) q o ≡ with_admin (replaced_at s q o) admin
one_under_admin s q None None = refl
one_under_admin s q None (Some name) = refl
one_under_admin s q (Some item) None = refl
one_under_admin s q (Some item) (Some name) = refl

under_host : (rs : List Replacement) (s : Site) (host : Option (List ℕ × ℕ)) → all_replaced (with_host s host) rs ≡ with_host (all_replaced s rs) host
under_host [] s host = refl
under_host (r ∷ rs) s host = ap (λ (t : Site). all_replaced t rs) (one_under_host s r.selector r.after host) ∙ under_host rs (replaced s r) host

under_admin : (rs : List Replacement) (s : Site) (admin : Option (List ℕ)) → all_replaced (with_admin s admin) rs ≡ with_admin (all_replaced s rs) admin
under_admin [] s admin = refl
under_admin (r ∷ rs) s admin = ap (λ (t : Site). all_replaced t rs) (one_under_admin s r.selector r.after admin) ∙ under_admin rs (replaced s r) admin

-- the names that are set last stand
names_twice : (s : Site) (h k : Option (List ℕ × ℕ)) (a b : Option (List ℕ)) → with_admin (with_host (with_admin (with_host s h) a) k) b ≡ with_admin (with_host s (set_last h k)) (set_last a b)
names_twice s None None None None = refl
names_twice s None None None (Some b) = refl
names_twice s None None (Some a) None = refl
names_twice s None None (Some a) (Some b) = refl
names_twice s None (Some k) None None = refl
names_twice s None (Some k) None (Some b) = refl
names_twice s None (Some k) (Some a) None = refl
names_twice s None (Some k) (Some a) (Some b) = refl
names_twice s (Some h) None None None = refl
names_twice s (Some h) None None (Some b) = refl
names_twice s (Some h) None (Some a) None = refl
names_twice s (Some h) None (Some a) (Some b) = refl
names_twice s (Some h) (Some k) None None = refl
names_twice s (Some h) (Some k) None (Some b) = refl
names_twice s (Some h) (Some k) (Some a) None = refl
names_twice s (Some h) (Some k) (Some a) (Some b) = refl

pub planned_both : (s : Site) (p q both : Plan) → both.replacements.items ≡ p.replacements.items ++ q.replacements.items → both.host ≡ set_last p.host q.host → both.admin ≡ set_last p.admin q.admin → planned (planned s p) q ≡ planned s both
planned_both s p q both all host admin =
    let ps = p.replacements.items in
    let qs = q.replacements.items in
    let first = all_replaced s ps in
    let inner : all_replaced (planned s p) qs ≡ with_admin (with_host (all_replaced first qs) p.host) p.admin = under_admin qs (with_host first p.host) p.admin ∙ ap (λ (t : Site). with_admin t p.admin) (under_host qs first p.host) in
    let joined : all_replaced first qs ≡ all_replaced s both.replacements.items = sym (fold-append replaced s ps qs) ∙ ap (all_replaced s) (sym all) in
    ap (λ (t : Site). with_admin (with_host t q.host) q.admin) (inner ∙ ap (λ (t : Site). with_admin (with_host t p.host) p.admin) joined)
    ∙ names_twice (all_replaced s both.replacements.items) p.host q.host p.admin q.admin
    ∙ ap (λ (h : Option (List ℕ × ℕ)). with_admin (with_host (all_replaced s both.replacements.items) h) (set_last p.admin q.admin)) (sym host)
    ∙ ap (λ (a : Option (List ℕ)). with_admin (with_host (all_replaced s both.replacements.items) both.host) a) (sym admin)

-- ---- replacements of each change

append_nil : {A : Type 0} (l : List A) → l ++ [] ≡ l
append_nil [] = refl
append_nil (x ∷ l) = ap (λ k. x ∷ k) (append_nil l)

made_more : (s : Site) (changes : Changes) (rs : List Replacement) (t : Site) (c : Change × ℕ) (more : List Replacement) (u : Site) → AreMadeBy s changes rs t → IsMadeBy t c.0 c.1 more u → AreMadeBy s (changes ++ c ∷ []) (rs ++ more) u
made_more s [] rs t c more u (none, same) made = (u, more, [], ap (λ (l : List Replacement). l ++ more) none ∙ sym (append_nil more), subst (λ (x : Site). IsMadeBy x c.0 c.1 more u) same made, (refl, refl))
made_more s (d ∷ changes) rs t c more u (m, front, rest, parts, one, others) made = (m, front, rest ++ more, ap (λ (l : List Replacement). l ++ more) parts ∙ append_assoc front rest more, one, made_more m changes rest t c more u others made)

-- ---- the changes so far

-- Some changes are planned, and those that are left make of the planned site what all make.
pub record IsSoFar (s : Site) (changes front rest : Changes) (place : ℕ) (p : Plan) : Type 0 where
  pub same : all_applied s changes ≡ applied_from place (planned s p) rest
  pub made : AreMadeBy s front p.replacements.items (planned s p)
  pub valid : ∥ IsSite (planned s p) ∥₁

nothing_is : (s : Site) (p : Plan) → p.replacements.items ≡ [] → p.host ≡ None → p.admin ≡ None → planned s p ≡ s
nothing_is s p none host admin =
    ap (λ (l : List Replacement). with_admin (with_host (all_replaced s l) p.host) p.admin) none
    ∙ ap (λ (h : Option (List ℕ × ℕ)). with_admin (with_host s h) p.admin) host
    ∙ ap (λ (a : Option (List ℕ)). with_admin s a) admin

pub none_so_far : (s : Site) (changes : Changes) (p : Plan) → ∥ IsSite s ∥₁ → p.replacements.items ≡ [] → p.host ≡ None → p.admin ≡ None → IsSoFar s changes [] changes 0 p
none_so_far s changes p site none host admin =
    let same = nothing_is s p none host admin in
    record {
      same = ap (λ (t : Site). applied_from 0 t changes) (sym same);
      made = (none, same);
      valid = subst (λ (t : Site). ∥ IsSite t ∥₁) (sym same) site;
    }

still_valid : ChangesKeepSites → (s t : Site) (change : Change) (now : ℕ) → ∥ IsSite s ∥₁ → IsTrue (is_typed_change change) → now ≤ 253402300799 → apply s change now ≡ Ok t → ∥ IsSite t ∥₁
still_valid laws s t change now site typed early applied = ∥∥₁_elim site ∥∥₁_prop (λ h. ∣ laws s t change now h typed early applied ∣₁)

-- a valid site as one that a plan leads to
pub ahead_of : {L : Type 0} (shows : L → Site → Type 0) (l : L) (s : Site) (changes front rest : Changes) (place : ℕ) (p : Plan) → ShowsValid shows l s → IsSoFar s changes front rest place p → ShowsAhead shows l p (planned s p)
ahead_of shows l s changes front rest place p shown so_far = (s, shown, refl, so_far.valid)

pub one_more : ChangesKeepSites → (s : Site) (changes front rest left : Changes) (place : ℕ) (p next both : Plan) (change : Change) (now : ℕ) → IsTrue (is_typed_change change) → now ≤ 253402300799 → rest ≡ (change, now) ∷ left
    → both.replacements.items ≡ p.replacements.items ++ next.replacements.items → both.host ≡ set_last p.host next.host → both.admin ≡ set_last p.admin next.admin
    → IsSoFar s changes front rest place p → IsPlan (planned s p) change now next → IsSoFar s changes (front ++ (change, now) ∷ []) left (place + 1) both
one_more laws s changes front rest left place p next both change now typed early is all host admin so_far plan =
    let t = planned s p in
    let u = planned s both in
    let joined : planned t next ≡ u = planned_both s p next both all host admin in
    let applied : apply t change now ≡ Ok u = plan.makes ∙ ap (λ (x : Site). Ok x) joined in
    let by : IsMadeBy t change now next.replacements.items u = record { applied = applied; items = ap (λ (x : Site). x.items) (sym joined) ∙ planned_items t next; at = plan.at so_far.valid } in
    record {
      same = so_far.same ∙ ap (applied_from place t) is ∙ ap (then_at place (λ x. applied_from (place + 1) x left)) applied;
      made = subst (λ (l : List Replacement). AreMadeBy s (front ++ (change, now) ∷ []) l u) (sym all) (made_more s front p.replacements.items t (change, now) next.replacements.items u so_far.made by);
      valid = still_valid laws t u change now so_far.valid typed early applied;
    }

pub all_planned : (s : Site) (changes front rest : Changes) (place : ℕ) (p : Plan) → changes ≡ front ++ rest → rest ≡ [] → IsSoFar s changes front rest place p → IsPlanOfAll s changes p
all_planned s changes front rest place p parts none so_far =
    let all : front ≡ changes = sym (parts ∙ ap (λ (l : Changes). front ++ l) none ∙ append_nil front) in
    record {
      makes = so_far.same ∙ ap (applied_from place (planned s p)) none;
      made = subst (λ (l : Changes). AreMadeBy s l p.replacements.items (planned s p)) all so_far.made;
      valid = so_far.valid;
    }

-- ---- what plans set

pub port_last : (old new : Option (List ℕ × ℕ)) → IfSome old (λ name. 0 < name.1) → IfSome new (λ name. 0 < name.1) → IfSome (set_last old new) (λ name. 0 < name.1)
port_last old None first second = first
port_last old (Some new) first second = second

pub fit_both : (fits : Item → Type 0) (all first next : List Replacement) → all ≡ first ++ next → AreFit fits first → AreFit fits next → AreFit fits all
fit_both fits all first next is one other = subst (AreFit fits) (sym is) (All-append (IsFit fits) first next one other)

-- ---- a change that is not planned

abbrev refused_as : ℕ → Refused → Result Site (ℕ × Refused)
refused_as place refused = Err (place, refused)

refused_there : (s : Site) (changes front rest left : Changes) (place : ℕ) (p : Plan) (change : Change) (now : ℕ) (refused : Refused) → rest ≡ (change, now) ∷ left → IsSoFar s changes front rest place p → apply (planned s p) change now ≡ Err refused → all_applied s changes ≡ Err (place, refused)
refused_there s changes front rest left place p change now refused is so_far none = so_far.same ∙ ap (applied_from place (planned s p)) is ∙ ap (then_at place (λ x. applied_from (place + 1) x left)) none

module _ {L : Type 0} (shows : L → Site → Type 0) (reads_only : L → L → Type 0) (failed : L → L → SiteFault → Type 0) where
  abbrev AheadFault : L → L → Plan → Change → ℕ → SiteFault → Type 0
  AheadFault old new p change now fault = IsPlanFault (λ l t. ShowsAhead shows l p t) failed old new (λ t. apply t change now) fault

  pub not_planned : (old mid new : L) (changes front rest left : Changes) (place : ℕ) (p : Plan) (change : Change) (now : ℕ) (fault : SiteFault) → ((fault : SiteFault) → failed mid new fault → failed old new fault) → ((s : Site) → shows old s → shows mid s)
      → rest ≡ (change, now) ∷ left → ((s : Site) → ShowsValid shows old s → IsSoFar s changes front rest place p) → AheadFault mid new p change now fault → IsPlanOfAllFault shows failed old new changes (fault_at place fault)
  not_planned old mid new changes front rest left place p change now (faults.Refused r) later still is so_far h =
      let none = λ (s : Site) (shown : ShowsValid shows old s). refused_there s changes front rest left place p change now r is (so_far s shown) (h (planned s p) (s, (still s shown.0, shown.1), refl, (so_far s shown).valid)) in
      record {
        cause = λ s shown. ap one_refusal (none s shown);
        place = λ n refused told s shown. none s shown ∙ pair_of place n r refused told;
      }
    where
      pair_of : (m n : ℕ) (r t : Refused) → all_faults.RefusedAt m r ≡ all_faults.RefusedAt n t → refused_as m r ≡ refused_as n t
      pair_of m n r t e = let a : m ≡ n = cc e in let b : r ≡ t = cc e in λ i. refused_as (a i) (b i)
  not_planned old mid new changes front rest left place p change now faults.Read later still is so_far h = record { cause = later faults.Read h; place = λ n refused told. absurd (cc told) }
  not_planned old mid new changes front rest left place p change now (faults.Full need free) later still is so_far h = record { cause = later (faults.Full need free) h; place = λ n refused told. absurd (cc told) }
  not_planned old mid new changes front rest left place p change now faults.Spent later still is so_far h = record { cause = later faults.Spent h; place = λ n refused told. absurd (cc told) }
  not_planned old mid new changes front rest left place p change now faults.Deep later still is so_far h = record { cause = later faults.Deep h; place = λ n refused told. absurd (cc told) }
  not_planned old mid new changes front rest left place p change now faults.Failed later still is so_far h = record { cause = later faults.Failed h; place = λ n refused told. absurd (cc told) }
  not_planned old mid new changes front rest left place p change now faults.Memory later still is so_far h = record { cause = later faults.Memory h; place = λ n refused told. absurd (cc told) }

  -- look-ups that don't fail, up to a change that is refused
  pub reads_to : (old mid new : L) (place : ℕ) (fault : SiteFault) → (reads_only mid new → reads_only old new) → IfRefused fault (reads_only mid new) → IfRefused (one_fault (fault_at place fault)) (reads_only old new)
  reads_to old mid new place (faults.Refused r) again h = again h
  reads_to old mid new place faults.Read again h = tt
  reads_to old mid new place (faults.Full need free) again h = tt
  reads_to old mid new place faults.Spent again h = tt
  reads_to old mid new place faults.Deep again h = tt
  reads_to old mid new place faults.Failed again h = tt
  reads_to old mid new place faults.Memory again h = tt
