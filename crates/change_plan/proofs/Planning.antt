-- Plans of single changes.
use Rattle.std.proofs.Common.{◌≡◌, ℕ, ◌-◌, ◌^◌, ◌≤◌, Bool, false, List, [], ◌∷◌, Option, Some, None, Result, Ok, Err, refl, sym, ap, subst, ◌∙◌}
use Rattle.std.specs.Prelude.{IfOk, IfErr, length, nat_lt, ◌||◌}
use Rattle.std.proofs.lemmas.Bool.{le-ltb, ne_eqb}
use Rattle.std.proofs.lemmas.List.Elements.{All-nil, All-cons}
use Rattle.host_types.specs.Items.{is_long_body, is_long_item}
use Rattle.host_types.specs.Site.{Site, item_at, board_of, board_in, board_at, text_item}
use Rattle.host_types.specs.Change.{apply, post, most_post_bytes, body_put, item_put, touched, touched_by_post}
use Rattle.host_types.specs.declared.change.Change.{Change}
use Rattle.common_types.specs.declared.refused.Refused.{Refused}
use Rattle.host_types.specs.declared.site_fault.SiteFault.{SiteFault}
use Rattle.host_types.specs.declared.site_fault.SiteFault.TheVariants as faults
use Rattle.host_types.specs.declared.item.Item.{Item}
use Rattle.host_types.specs.declared.item.Body.{Body}
use Rattle.host_types.specs.declared.item.Body.TheVariants.{Views, Menu, Board, Form, Search, Moved}
use Rattle.change_plan.specs.Plans.{AreMade, IsPosted, posted_site, with_host, with_admin, planned, IsPlan, IsPlanFault, IfRefused, UnlessFailed}
use Rattle.change_plan.specs.Replacements.{all_replaced, AreReplacementsAt, IsFit, AreFit}
use Rattle.change_plan.specs.declared.replacement.Replacement.{Replacement}
use Rattle.change_plan.specs.declared.plan.Plan.{Plan}

-- a look-up's fault is one of the plan
pub fault_comes : {L : Type 0} → (shows : L → Site → Type 0) (failed : L → L → SiteFault → Type 0) (old new : L) (applied : Site → Result Site Refused) (fault : SiteFault) → ((r : Refused) → failed old new (faults.Refused r) → ⊥) → failed old new fault → IsPlanFault shows failed old new applied fault
fault_comes shows failed old new applied (faults.Refused r) never h = absurd (never r h)
fault_comes shows failed old new applied faults.Read never h = h
fault_comes shows failed old new applied (faults.Full need free) never h = h
fault_comes shows failed old new applied faults.Spent never h = h
fault_comes shows failed old new applied faults.Deep never h = h
fault_comes shows failed old new applied faults.Failed never h = h
fault_comes shows failed old new applied faults.Memory never h = h

-- and leaves nothing to say of look-ups that don't fail
pub unless_failed : {L : Type 0} → (P : Type 0) (failed : L → L → SiteFault → Type 0) (old new : L) (fault : SiteFault) → ((r : Refused) → failed old new (faults.Refused r) → ⊥) → failed old new fault → IfRefused fault P
unless_failed P failed old new (faults.Refused r) never h = absurd (never r h)
unless_failed P failed old new faults.Read never h = tt
unless_failed P failed old new (faults.Full need free) never h = tt
unless_failed P failed old new faults.Spent never h = tt
unless_failed P failed old new faults.Deep never h = tt
unless_failed P failed old new faults.Failed never h = tt
unless_failed P failed old new faults.Memory never h = tt

-- an item is as long as it is put
long_body : (selector : List ℕ) (old : Option (ℕ × ℕ)) (body : Body) → is_long_body selector (body_put old body) ≡ is_long_body selector body
long_body selector old (Views kind views) = refl
long_body selector old (Menu entries) = refl
long_body selector old (Board cap next) = refl
long_body selector old (Form board questions) = refl
long_body selector old (Search scope) = refl
long_body selector old (Moved target) = refl

pub short_put : (selector : List ℕ) (old : Option (ℕ × ℕ)) (item put : Item) (now : ℕ) → put ≡ item_put old item now → is_long_item selector item ≡ false → is_long_item selector put ≡ false
short_put selector old item put now is short = ap (is_long_item selector) is ∙ ap (λ (b : Bool). nat_lt 400 (length item.summary) || b) (long_body selector old item.body) ∙ short

-- replacements whose items are fit
pub fit_alone : (fits : Item → Type 0) (l : List Replacement) (r : Replacement) → l ≡ r ∷ [] → IsFit fits r → AreFit fits l
fit_alone fits l r is fit = subst (AreFit fits) (sym is) (All-cons (IsFit fits) r [] fit (All-nil (IsFit fits)))

pub fit_both : (fits : Item → Type 0) (l : List Replacement) (r t : Replacement) → l ≡ r ∷ t ∷ [] → IsFit fits r → IsFit fits t → AreFit fits l
fit_both fits l r t is first second = subst (AreFit fits) (sym is) (All-cons (IsFit fits) r (t ∷ []) first (All-cons (IsFit fits) t [] second (All-nil (IsFit fits))))

-- what a post on a board makes is what the post makes
pub post_made : {T : Type 0} → (r : Result T SiteFault) (items : T → List Replacement) (s : Site) (board title text : List ℕ) (now : ℕ) (item posted : Item) (numbers : ℕ × ℕ) → length text ≤ 65536 → Some item ≡ item_at s board → board_of item.body ≡ Some numbers → (numbers.1 ≡ 2 ^ 64 - 1 → ⊥)
    → posted ≡ text_item title now text → IfOk r (λ l. IsPosted s board item numbers posted now (items l)) → IfOk r (λ l. AreMade s (post s board title text now) (touched_by_post board (board_at s board)) (items l))
unfolding post most_post_bytes
post_made (Err e) items s board title text now item posted numbers fits stands is less made h = tt
post_made (Ok l) items s board title text now item posted numbers fits stands is less made h =
    let there : item_at s board ≡ Some item = sym stands in
    let applied : post s board title text now ≡ Ok (posted_site s board item numbers (text_item title now text) now) = rw (le-ltb 65536 (length text) fits, there, is, ne_eqb numbers.1 (2 ^ 64 - 1) less) refl in
    let same : post s board title text now ≡ Ok (posted_site s board item numbers posted now) = applied ∙ ap (λ (i : Item). Ok (posted_site s board item numbers i now)) (sym made) in
    let at : board_at s board ≡ Some numbers = ap board_in there ∙ is in
    record {
      makes = same ∙ h.makes;
      first = h.first;
      at = λ site. subst (λ (b : Option (ℕ × ℕ)). AreReplacementsAt s (touched_by_post board b) (items l)) (sym at) (h.at site);
    }

-- ---- plans of replacements alone

pub items_planned : {T : Type 0} → (of : Plan → T) (items : T → List Replacement) (found : Result T SiteFault) (r : Result Plan SiteFault) (s : Site) (change : Change) (now : ℕ) (applied : Result Site Refused) (selectors : List (List ℕ))
    → ((p : Plan) → items (of p) ≡ p.replacements.items) → apply s change now ≡ applied → touched s change ≡ selectors → IfOk found (λ l. AreMade s applied selectors (items l)) → IfOk r (λ p. found ≡ Ok (of p)) → IfOk r (λ p. p.host ≡ None) → IfOk r (λ p. p.admin ≡ None)
    → IfOk r (IsPlan s change now)
items_planned of items found (Err e) s change now applied selectors same apply_is at made is host admin = tt
items_planned of items found (Ok p) s change now applied selectors same apply_is at made is host admin =
    let h : AreMade s applied selectors (items (of p)) = subst (λ x. IfOk x (λ l. AreMade s applied selectors (items l))) is made in
    let m : AreMade s applied selectors p.replacements.items = subst (AreMade s applied selectors) (same p) h in
    let names : planned s p ≡ all_replaced s p.replacements.items = ap (λ (o : Option (List ℕ)). with_admin (with_host (all_replaced s p.replacements.items) p.host) o) admin ∙ ap (with_host (all_replaced s p.replacements.items)) host in
    record {
      makes = apply_is ∙ m.makes ∙ ap (λ (t : Site). Ok t) (sym names);
      first = m.first;
      at = λ site. subst (λ (l : List (List ℕ)). AreReplacementsAt s l p.replacements.items) (sym at) (m.at site);
    }

pub items_fit : {T : Type 0} → (of : Plan → T) (items : T → List Replacement) (found : Result T SiteFault) (r : Result Plan SiteFault) (fits : Item → Type 0)
    → ((p : Plan) → items (of p) ≡ p.replacements.items) → IfOk found (λ l. AreFit fits (items l)) → IfOk r (λ p. found ≡ Ok (of p)) → IfOk r (λ p. AreFit fits p.replacements.items)
items_fit of items found (Err e) fits same fit is = tt
items_fit of items found (Ok p) fits same fit is = subst (AreFit fits) (same p) (subst (λ x. IfOk x (λ l. AreFit fits (items l))) is fit)

pub items_reads_only : {T : Type 0} → (of : Plan → T) (found : Result T SiteFault) (r : Result Plan SiteFault) (P : Type 0) → UnlessFailed found P → IfOk r (λ p. found ≡ Ok (of p)) → IfErr r (λ fault. found ≡ Err fault) → UnlessFailed r P
items_reads_only of found (Ok p) P h ok err = subst (λ x. UnlessFailed x P) ok h
items_reads_only of found (Err fault) P h ok err = subst (λ x. UnlessFailed x P) err h

pub items_fault : {T L : Type 0} → (found : Result T SiteFault) (r : Result Plan SiteFault) (shows : L → Site → Type 0) (failed : L → L → SiteFault → Type 0) (old new : L) (change : Change) (now : ℕ) (applied : Site → Result Site Refused)
    → ((s : Site) → apply s change now ≡ applied s) → IfErr found (IsPlanFault shows failed old new applied) → IfErr r (λ fault. found ≡ Err fault) → IfErr r (IsPlanFault shows failed old new (λ s. apply s change now))
items_fault found (Ok p) shows failed old new change now applied same h err = tt
items_fault found (Err fault) shows failed old new change now applied same h err = by fault (subst (λ x. IfErr x (IsPlanFault shows failed old new applied)) err h)
  where
    by : (fault : SiteFault) → IsPlanFault shows failed old new applied fault → IsPlanFault shows failed old new (λ s. apply s change now) fault
    by (faults.Refused r) h = λ s shown. same s ∙ h s shown
    by faults.Read h = h
    by (faults.Full need free) h = h
    by faults.Spent h = h
    by faults.Deep h = h
    by faults.Failed h = h
    by faults.Memory h = h
