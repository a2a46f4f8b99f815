use Rattle.std.proofs.Common.{◌≡◌, ◌≤◌, ◌++◌, ◌⊎◌, ℕ, List, [], take, length, refl, sym, ap, subst, ◌∙◌, arith, rules}
use Rattle.std.proofs.lemmas.List.{length-take}
use Rattle.view_draws.specs.Progress.{left_of}
use Rattle.view_draws.specs.ViewDraw.{rest_of, body_at}
use Rattle.view_draws.specs.declared.progress.DrawProgress.{DrawProgress}
use Rattle.view_draws.proofs.DrawingSteps.{unchanged_on}
use Rattle.view_draws.proofs.WholeDraws.{whole_given, none_or_full, given_to_end, left_at_end, front_begun, after_fault}
use Rattle.view_draws.proofs.view_draw.ViewDraw.draw.Goals as goal

-- what was given of the head, of equal heads and progresses
of_same : (head slice : List ℕ) (start copy now : DrawProgress) (given body : List ℕ) → slice ≡ head → copy ≡ start → given ++ left_of slice now body ≡ left_of slice copy body → given ++ left_of head now body ≡ left_of head start body
of_same head slice start copy now given body same_head same_start is =
    ap (λ l. given ++ left_of l now body) (sym same_head) ∙ is ∙ ap (λ l. left_of l copy body) same_head ∙ ap (λ p. left_of head p body) same_start

head_or_full : (head slice mid : List ℕ) (now : DrawProgress) (half : ℕ) → slice ≡ head → (now.head_drawn ≡ length slice) ⊎ (half ≡ length mid) → (now.head_drawn ≡ length head) ⊎ (half ≡ length mid)
head_or_full head slice mid now half same is = subst (λ l. (now.head_drawn ≡ length l) ⊎ (half ≡ length mid)) same is

pub returns-in_err-end-clause-lost : goal.returns-in_err-end-clause-lost
unfolding rest_of
returns-in_err-end-clause-lost g c =
    let part = c.in_err-end.ensures.begun in
    let start = c.args.self.now in
    let body = body_at (g.S.SiteKeeper.site_state c.args.site.now) (g.S.SiteKeeper.pinned c.args.pin.now) start in
    let head = c.give_head-head_end in
    let mid = head.new.out in
    let half = head.result in
    let new = c.draw_body.new.out in
    let size : length new ≡ length mid = omega arith in
    let first : take half mid ++ left_of start.head head.new.self body ≡ left_of start.head start.progress body =
    of_same start.head c.as_slice.result.now start.progress c.copied-progress.result head.new.self (take half mid) body c.as_slice.ensures c.copied-progress.ensures (head.ensures.given body) in
    after_fault c.from_residual.result (record {
      none_lost = λ bytes. refl;
      begun = record {
        count = part.end;
        within = part.within;
        behind = part.behind ∙ unchanged_on half part.end mid c.args.out.now part.onward head.ensures.behind;
        next = λ honest of. front_begun start.head body mid new start.progress head.new.self half part.end head.ensures.within part.within size part.onward
            (head_or_full start.head c.as_slice.result.now mid head.new.self half c.as_slice.ensures head.ensures.progress) first (part.next honest of);
      };
    })

pub returns-clause-behind : goal.returns-clause-behind
returns-clause-behind g c =
    let drawn = c.in_ok-end.ensures.gives.passed in
    let head = c.give_head-head_end in
    drawn.behind ∙ unchanged_on head.result c.in_ok-end.end head.new.out c.args.out.now drawn.onward head.ensures.behind

pub returns-clause-draws : goal.returns-clause-draws
unfolding rest_of
returns-clause-draws g c =
    let start = c.args.self.now in
    let body = body_at (g.S.SiteKeeper.site_state c.args.site.now) (g.S.SiteKeeper.pinned c.args.pin.now) start in
    let head = c.give_head-head_end in
    let mid = head.new.out in
    let half = head.result in
    let new = c.draw_body.new.out in
    let end = c.in_ok-end.end in
    let drawn = c.in_ok-end.ensures.gives.passed in
    let later = c.draw_body.new.progress in
    let n = length c.args.out.now in
    let size : length new ≡ length mid = omega arith in
    let room : length new ≡ n = omega arith in
    let within : end ≤ n = omega (arith, drawn.within, room) in
    let first : take half mid ++ left_of start.head head.new.self body ≡ left_of start.head start.progress body =
    of_same start.head c.as_slice.result.now start.progress c.copied-progress.result head.new.self (take half mid) body c.as_slice.ensures c.copied-progress.ensures (head.ensures.given body) in
    let all = head_or_full start.head c.as_slice.result.now mid head.new.self half c.as_slice.ensures head.ensures.progress in
    record {
      same = search rules;
      still_of = search rules;
      drawn = λ honest of.
          let joined : take end new ++ left_of start.head later body ≡ left_of start.head start.progress body =
          whole_given start.head body mid new start.progress head.new.self later half end head.ensures.within drawn.within size drawn.onward drawn.head all first (c.in_ok-end.ensures.gives.given honest of) in
          let ended : (left_of start.head later body ≡ []) ⊎ (end ≡ n) =
          subst (λ m. (left_of start.head later body ≡ []) ⊎ (end ≡ m)) room
          (none_or_full start.head body mid new head.new.self later half end drawn.within size drawn.onward drawn.head all (c.in_ok-end.ensures.ended of.size)) in
          let many : length (take end new) ≡ end = omega (arith, length-take end new, drawn.within) in
          record {
            given = given_to_end n end (take end new) (left_of start.head later body) (left_of start.head start.progress body) many within joined ended;
            rest = left_at_end n end (take end new) (left_of start.head later body) (left_of start.head start.progress body) many within joined ended;
          };
    }
