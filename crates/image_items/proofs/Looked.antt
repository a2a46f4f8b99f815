-- A site that is read while it is pinned.
use Rattle.std.proofs.Common.{◌≡◌, ◌≤◌, ℕ, Bool, true, false, List, [], ◌∷◌, length, refl, ap, sym, subst, ◌∙◌, arith, IsTrue, take, Ok}
use Rattle.std.proofs.Math.Seq.{take-length}
use Rattle.std.proofs.lemmas.List.{length-take-le}
use Rattle.host_types.specs.Site.{Items, Site}
use Rattle.host_types.specs.Card.{viewed_at}
use Rattle.host_types.specs.SiteState.{SiteState, HasRead, IsReadFault, Rose}
use Rattle.host_types.specs.Pins.{Pinned, Copied, Numbered, items_or_none, pinned_items, viewed_among, IsPinned, IsUnpinned}
use Rattle.host_types.specs.declared.site_fault.SiteFault.{SiteFault}
use Rattle.host_types.specs.declared.site_fault.SiteFault.TheVariants as faults
use Rattle.view_draws.specs.ViewDraw.{body_at, rest_of, IsOf, DrawsView}
use Rattle.view_draws.specs.declared.view_draw.ViewDraw.{ViewDraw}
use Rattle.image_items.specs.Looks.{HasLooked}

-- ---- what a pin keeps

pub pinned_keeps : (a b : SiteState) (pin : Pinned) → IsPinned a b pin → IsTrue a.honest → pinned_items b pin ≡ a.site.items
pinned_keeps a b (Copied items) is honest = is.0 honest
pinned_keeps a b (Numbered n) is honest = ap items_or_none (is.keeps honest)

pub pinned_honest : (a b : SiteState) (pin : Pinned) → IsPinned a b pin → b.honest ≡ a.honest
pinned_honest a b (Copied items) is = ap (λ (h : SiteState). h.honest) is.1
pinned_honest a b (Numbered n) is = ap (λ (h : SiteState). h.honest) is.same

pinned_usable : (a b : SiteState) (pin : Pinned) → IsPinned a b pin → b.usable ≡ a.usable
pinned_usable a b (Copied items) is = ap (λ (h : SiteState). h.usable) is.1
pinned_usable a b (Numbered n) is = ap (λ (h : SiteState). h.usable) is.same

pinned_reads : (a b : SiteState) (pin : Pinned) → IsPinned a b pin → b.failed_reads ≡ a.failed_reads
pinned_reads a b (Copied items) is = ap (λ (h : SiteState). h.failed_reads) is.1
pinned_reads a b (Numbered n) is = ap (λ (h : SiteState). h.failed_reads) is.same

unpinned_reads : (a b : SiteState) (pin : Pinned) → IsUnpinned a b pin → b.failed_reads ≡ a.failed_reads
unpinned_reads a b (Copied items) is = ap (λ (h : SiteState). h.failed_reads) is
unpinned_reads a b (Numbered n) is = ap (λ (h : SiteState). h.failed_reads) is.same

-- no pin is out once the only one is given back
none_out : {A : Type 0} (xs : List A) → length xs ≡ 0 → xs ≡ []
none_out [] none = refl
none_out (x ∷ xs) none = absurd (omega (arith, none))

unpinned_none : (a b c d : SiteState) (pin : Pinned) → IsPinned a b pin → c.pins ≡ b.pins → IsUnpinned c d pin → a.pins ≡ [] → d.pins ≡ []
unpinned_none a b c d (Copied items) first same last none = ap (λ (h : SiteState). h.pins) last ∙ same ∙ ap (λ (h : SiteState). h.pins) first.1 ∙ none
unpinned_none a b c d (Numbered n) first same last none =
    let before : length a.pins ≡ 0 = ap (λ (ps : List (ℕ × Items)). length ps) none in
    let kept : length c.pins ≡ length b.pins = ap (λ (ps : List (ℕ × Items)). length ps) same in
    none_out d.pins (omega (arith, before, kept, first.count, last.count))

-- the view that is drawn is as long as it was before the pin
pub drawn_size : (a b : SiteState) (pin : Pinned) (d : ViewDraw) (selector : List ℕ) (view size : ℕ) → IsPinned a b pin → d.source.selector ≡ selector → d.source.view ≡ view →
    (IsTrue a.honest → length (viewed_at a.site selector view) ≡ size) → IsTrue b.honest → length (body_at b pin d) ≡ size
drawn_size a b pin d selector view size is same_selector same_view sized honest =
    let before : IsTrue a.honest = sym (pinned_honest a b pin is) ∙ honest in
    ap (λ (items : Items). length (viewed_among items d.source.selector d.source.view)) (pinned_keeps a b pin is before)
    ∙ ap (λ (s : List ℕ). length (viewed_at a.site s d.source.view)) same_selector
    ∙ ap (λ (v : ℕ). length (viewed_at a.site selector v)) same_view
    ∙ sized before

-- a draw with room for the whole view gives the view as it was before the pin
pub whole_drawn : (a b : SiteState) (pin : Pinned) (d new : ViewDraw) (selector : List ℕ) (view size n : ℕ) (out_old out_new : List ℕ) → IsPinned a b pin → d.source.selector ≡ selector → d.source.view ≡ view → IsTrue a.honest → length (viewed_at a.site selector view) ≡ size
    → ((body : List ℕ) → rest_of d body ≡ body) → ((body : List ℕ) → length body ≡ size → IsOf body d) → DrawsView b pin d new out_old out_new (Ok n) → length out_old ≡ size → length out_new ≡ size → n ≤ length out_new → out_new ≡ viewed_at a.site selector view
whole_drawn a b pin d new selector view size n out_old out_new is same_selector same_view honest sized rest of draws old_room new_room within =
    let still : IsTrue b.honest = pinned_honest a b pin is ∙ honest in
    let body = body_at b pin d in
    let body_is : body ≡ viewed_at a.site selector view =
    ap (λ (items : Items). viewed_among items d.source.selector d.source.view) (pinned_keeps a b pin is honest)
    ∙ ap (λ (s : List ℕ). viewed_at a.site s d.source.view) same_selector
    ∙ ap (λ (v : ℕ). viewed_at a.site selector v) same_view in
    let long : length body ≡ size = ap (λ (l : List ℕ). length l) body_is ∙ sized in
    let given = (draws.drawn still (of body long)).given in
    let front : take n out_new ≡ body = given ∙ ap (take (length out_old)) (rest body) ∙ ap (λ (k : ℕ). take k body) (old_room ∙ sym long) ∙ take-length body in
    let count : n ≡ length out_new = sym (length-take-le n out_new within) ∙ ap (λ (l : List ℕ). length l) front ∙ long ∙ sym new_room in
    sym (take-length out_new) ∙ ap (λ (k : ℕ). take k out_new) (sym count) ∙ front ∙ body_is

-- a fault of a read while the site is pinned
pub read_fault : (a b c d : SiteState) (pin : Pinned) (fault : SiteFault) → IsPinned a b pin → IsUnpinned c d pin → IsReadFault false b c fault → IsReadFault true a d fault
read_fault a b c d pin (faults.Refused r) first last is = absurd is
read_fault a b c d pin faults.Read first last is = λ honest.
    subst (λ (n : ℕ). Rose n d.failed_reads) (pinned_reads a b pin first) (subst (λ (n : ℕ). Rose b.failed_reads n) (sym (unpinned_reads c d pin last)) (is (pinned_honest a b pin first ∙ honest)))
read_fault a b c d pin (faults.Full need free) first last is = absurd is
read_fault a b c d pin faults.Spent first last is = absurd is
read_fault a b c d pin faults.Deep first last is = absurd is
read_fault a b c d pin faults.Failed first last is = sym (pinned_usable a b pin first) ∙ is
read_fault a b c d pin faults.Memory first last is = refl

-- a site that is pinned, read and unpinned
module _ (a b c d : SiteState) (pin : Pinned) (first : IsPinned a b pin) (kept : HasRead b c) (last : IsUnpinned c d pin) where
  pinned_whole : (A : Type 0) (f : SiteState → A) → ((ps : List (ℕ × Items)) → f (record a { pins = ps }) ≡ f a) → f b ≡ f a
  pinned_whole A f same = by pin first
    where
      by : (p : Pinned) → IsPinned a b p → f b ≡ f a
      by (Copied items) is = ap f is.1
      by (Numbered n) is = ap f is.same ∙ same b.pins

  unpinned_whole : (A : Type 0) (f : SiteState → A) → ((ps : List (ℕ × Items)) (free : ℕ) → f (record c { pins = ps; free = free }) ≡ f c) → f d ≡ f c
  unpinned_whole A f same = by pin last
    where
      by : (p : Pinned) → IsUnpinned c d p → f d ≡ f c
      by (Copied items) is = ap f is
      by (Numbered n) is = ap f is.same ∙ same d.pins d.free

  pub looked_pinned : HasLooked a d
  looked_pinned =
      let reads_before : b.failed_reads ≡ a.failed_reads = pinned_whole ℕ (λ h. h.failed_reads) (λ ps. refl) in
      let reads_after : d.failed_reads ≡ c.failed_reads = unpinned_whole ℕ (λ h. h.failed_reads) (λ ps free. refl) in
      record {
        site = λ honest. unpinned_whole Site (λ h. h.site) (λ ps free. refl) ∙ kept.site (subst IsTrue (sym (pinned_whole Bool (λ h. h.honest) (λ ps. refl))) honest) ∙ pinned_whole Site (λ h. h.site) (λ ps. refl);
        honest = unpinned_whole Bool (λ h. h.honest) (λ ps free. refl) ∙ kept.honest ∙ pinned_whole Bool (λ h. h.honest) (λ ps. refl);
        usable = unpinned_whole Bool (λ h. h.usable) (λ ps free. refl) ∙ kept.usable ∙ pinned_whole Bool (λ h. h.usable) (λ ps. refl);
        reads = omega (arith, reads_before, reads_after, kept.reads);
        writes = unpinned_whole ℕ (λ h. h.failed_writes) (λ ps free. refl) ∙ kept.writes ∙ pinned_whole ℕ (λ h. h.failed_writes) (λ ps. refl);
        pins = unpinned_none a b c d pin first kept.pins last;
      }

-- ---- one call after another

pub read : (a b : SiteState) → HasRead a b → HasLooked a b
read a b is = record { site = is.site; honest = is.honest; usable = is.usable; reads = is.reads; writes = is.writes; pins = λ none. is.pins ∙ none }

pub then : (a b c : SiteState) → HasLooked a b → HasLooked b c → HasLooked a c
then a b c first second = record {
  site = λ honest. second.site (subst IsTrue (sym first.honest) honest) ∙ first.site honest;
  honest = second.honest ∙ first.honest;
  usable = second.usable ∙ first.usable;
  reads = omega (arith, first.reads, second.reads);
  writes = second.writes ∙ first.writes;
  pins = λ none. second.pins (first.pins none);
}
