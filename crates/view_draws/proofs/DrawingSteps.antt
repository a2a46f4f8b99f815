-- One step of drawing after another.
use Rattle.std.proofs.Common.{◌≡◌, ◌+◌, ◌-◌, ◌≤◌, ◌++◌, ℕ, List, ap, sym, ◌∙◌, subst, refl, drop, length, arith}
use Rattle.std.proofs.lemmas.List.{drop-drop}
use Rattle.host_types.specs.SiteState.{SiteState, HasRead, IsUnchangedBehind}
use Rattle.host_types.specs.Pins.{Pinned, pinned_items, viewed_among}
use Rattle.view_draws.specs.Drawing.{HasPassedOn}
use Rattle.view_draws.specs.Progress.{body_left}
use Rattle.view_draws.specs.Source.{viewed_by, IsSameView}
use Rattle.view_draws.specs.declared.progress.DrawProgress.{DrawProgress}
use Rattle.view_draws.specs.declared.source.ViewSource.{ViewSource}
use Rattle.view_draws.proofs.LaterReads.{pinned_same}

-- what stands behind a place stands behind each later one
pub unchanged_on : (n m : ℕ) (xs ys : List ℕ) → n ≤ m → drop n xs ≡ drop n ys → drop m xs ≡ drop m ys
unchanged_on n m xs ys onward same =
    let split : m ≡ n + (m - n) = omega (arith, onward) in
    ap (λ k. drop k xs) split ∙ sym (drop-drop (m - n) n xs) ∙ ap (drop (m - n)) same ∙ drop-drop (m - n) n ys ∙ sym (ap (λ k. drop k ys) split)

pub passed_on : (source next : ViewSource) (p q r : DrawProgress) (first mid last : List ℕ) (at half end : ℕ) → IsSameView source next → HasPassedOn source p q first mid at half → HasPassedOn next q r mid last half end → HasPassedOn source p r first last at end
passed_on source next p q r first mid last at half end same before later = record {
  onward = omega (arith, before.onward, later.onward);
  within = later.within;
  behind = later.behind ∙ unchanged_on half end mid first later.onward before.behind;
  taken = omega (arith, before.taken, later.taken);
  within_view = omega (arith, later.within_view, same.size);
  head = later.head ∙ before.head;
}

pub nothing_passed : (source : ViewSource) (p : DrawProgress) (out : List ℕ) (at : ℕ) → at ≤ length out → p.taken ≤ source.size → HasPassedOn source p p out out at at
nothing_passed source p out at room within = record { onward = omega arith; within = room; behind = refl; taken = omega arith; within_view = within; head = refl }

pub same_on : (a b c : ViewSource) → IsSameView a b → IsSameView b c → IsSameView a c
same_on a b c first second = record {
  selector = second.selector ∙ first.selector;
  view = second.view ∙ first.view;
  size = second.size ∙ first.size;
}

pub same_view : (a : ViewSource) → IsSameView a a
same_view a = record { selector = refl; view = refl; size = refl }

-- a view has the same bytes once something was read
pub viewed_same : (a b : SiteState) (pin : Pinned) (s t : ViewSource) → HasRead a b → IsSameView s t → viewed_by b pin t ≡ viewed_by a pin s
viewed_same a b pin s t read same =
    ap (λ items. viewed_among items t.selector t.view) (pinned_same a b pin read)
    ∙ ap (λ selector. viewed_among (pinned_items a pin) selector t.view) same.selector
    ∙ ap (λ view. viewed_among (pinned_items a pin) s.selector view) same.view

-- what one step gave of the view, and those before it, where its bytes are known by two names
pub given_on : (now body before mid after : List ℕ) (p q r : DrawProgress) → now ≡ body → after ++ body_left r now ≡ mid ++ body_left q now → mid ++ body_left q body ≡ before ++ body_left p body → after ++ body_left r body ≡ before ++ body_left p body
given_on now body before mid after p q r same step first = subst (λ bytes. after ++ body_left r bytes ≡ mid ++ body_left q bytes) same step ∙ first

-- what the end of a view gives, once all before it was given
pub passed_at_end : (source : ViewSource) (p q r : DrawProgress) (first mid last : List ℕ) (at half end : ℕ) → HasPassedOn source p q first mid at half → half ≤ end → end ≤ length last → IsUnchangedBehind end mid last → r.head_drawn ≡ q.head_drawn → r.taken ≡ q.taken → HasPassedOn source p r first last at end
passed_at_end source p q r first mid last at half end before onward within behind head taken = record {
  onward = omega (arith, before.onward, onward);
  within = within;
  behind = behind ∙ unchanged_on half end mid first onward before.behind;
  taken = omega (arith, before.taken, taken);
  within_view = omega (arith, before.within_view, taken);
  head = head ∙ before.head;
}
