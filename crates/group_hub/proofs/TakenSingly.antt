-- Posts that are taken one at a time: what was taken so far.
use Rattle.std.proofs.Common.{◌≡◌, ◌⊎◌, ⊎_elim, inl, inr, ℕ, zero, suc, ◌+◌, ◌<◌, ◌≤◌, Bool, true, false, List, [], ◌∷◌, ◌++◌, length, get_or, set, refl, sym, ap, subst, ◌∙◌, arith, append_assoc, length-append, nat_lt}
use Rattle.std.specs.Prelude.{Option, Some, None}
use Rattle.std.proofs.lemmas.List.{append-nil, map-append, length-map, take_all}
use Rattle.host_types.specs.AllChanges.{Changes}
use Rattle.host_types.specs.Site.{Site}
use Rattle.host_types.specs.CrashStates.{CrashStates, AddsOnly, AddsNone, may_crash_to, adds_both, no_new_crash_state}
use Rattle.host_types.specs.declared.change.Change.{Change}
use Rattle.site_replies.specs.Reply.{reply}
use Rattle.group_world.specs.World.{Phase, Heard, Waits, Reply, Early, one_waiting, count_waiting}
use Rattle.group_world.specs.Step.{Group, with_change, at_moment, answered_from, post_from, site_from, taken}
use Rattle.group_world.specs.CrashStates.{CommitOfChanges, with_changes, with_commits, one_by_one, HoldsCommits}
use Rattle.group_world.proofs.Crashes.{more_come, comes_after, stands_now}
use Rattle.group_world.proofs.Groups.{groups_are_right}
use Rattle.group_world.proofs.Leaving.{weaker}
use Rattle.group_world.proofs.Stored.{singles_make, right_make}
use Rattle.group_world.proofs.TakenMore.{one_more, with_rest, taken_more, taken_front}
use Rattle.group_hub.specs.Flushing.{LeavesSo, TakesAll, TakesUpTo}

-- ---- one session

made_from : (s : Site) (p : Phase) → with_changes s (post_from s p) ≡ site_from s p
made_from s (Heard stream) = refl
made_from s (Waits request now) = by (reply s request now).post
  where
    by : (post : Option Change) → with_changes s (at_moment now post) ≡ with_change s now post
    by None = refl
    by (Some change) = refl
made_from s (Reply rest) = refl
made_from s Early = refl

answered_waits : (s : Site) (p : Phase) → one_waiting (answered_from s p) ≡ 0
answered_waits s (Heard stream) = refl
answered_waits s (Waits request now) = refl
answered_waits s (Reply rest) = refl
answered_waits s Early = refl

-- one that doesn't wait is left as it is
pub stays_answered : (s : Site) (p : Phase) → one_waiting p ≡ 0 → (answered_from s p ≡ p) × (post_from s p ≡ [])
stays_answered s (Heard stream) none = (refl, refl)
stays_answered s (Waits request now) none = absurd (omega (arith, none))
stays_answered s (Reply rest) none = (refl, refl)
stays_answered s Early none = (refl, refl)

one_post : (s : Site) (p : Phase) → nat_lt 0 (length (post_from s p)) ≡ true → length (post_from s p) ≡ 1
one_post s (Heard stream) some = absurd (cc some)
one_post s (Waits request now) some = by (reply s request now).post some
  where
    by : (post : Option Change) → nat_lt 0 (length (at_moment now post)) ≡ true → length (at_moment now post) ≡ 1
    by None some = absurd (cc some)
    by (Some change) some = refl
one_post s (Reply rest) some = absurd (cc some)
one_post s Early some = absurd (cc some)

-- ---- sessions

taken_length : (s : Site) (choices : List Bool) (xs : List (ℕ × Phase)) → length (taken s choices xs).sessions ≡ length xs
taken_length s [] xs = refl
taken_length s (takes ∷ choices) [] = refl
taken_length s (true ∷ choices) (x ∷ xs) = let rest = taken_length (site_from s x.1) choices xs in omega (arith, rest)
taken_length s (false ∷ choices) (x ∷ xs) = let rest = taken_length s choices xs in omega (arith, rest)

waiting_both : (xs ys : List (ℕ × Phase)) → count_waiting (xs ++ ys) ≡ count_waiting xs + count_waiting ys
waiting_both [] ys = omega arith
waiting_both (x ∷ xs) ys = let rest = waiting_both xs ys in omega (arith, rest)

record Opened (T rest : List (ℕ × Phase)) (i : ℕ) (x : ℕ × Phase) : Type 0 where
  pub more : List (ℕ × Phase)
  pub is : rest ≡ x ∷ more
  pub with_next : (z : ℕ × Phase) → set (T ++ rest) i z ≡ T ++ (z ∷ more)

opened : (T rest : List (ℕ × Phase)) (i : ℕ) (x : ℕ × Phase) → i ≡ length T → i < length (T ++ rest) → x ≡ get_or (T ++ rest) i x → Opened T rest i x
opened [] [] i x at within read = absurd (omega (arith, within))
opened [] (y ∷ rest) zero x at within read = record { more = rest; is = ap (λ (u : ℕ × Phase). u ∷ rest) (sym read); with_next = λ z. refl }
opened [] (y ∷ rest) (suc i) x at within read = absurd (omega (arith, at))
opened (y ∷ T) rest zero x at within read = absurd (omega (arith, at))
opened (y ∷ T) rest (suc i) x at within read =
    let all = opened T rest i x (omega (arith, at)) (omega (arith, within)) read in
    record { more = all.more; is = all.is; with_next = λ z. ap (λ (l : List (ℕ × Phase)). y ∷ l) (all.with_next z) }

-- ---- commits

singles_both : (a b : Changes) → one_by_one (a ++ b) ≡ one_by_one a ++ one_by_one b
singles_both a b = map-append (λ c. c ∷ []) a b

group_made : (s : Site) (choices : List Bool) (xs : List (ℕ × Phase)) → (taken s choices xs).site ≡ with_commits s (one_by_one (taken s choices xs).changes)
group_made s choices xs = sym (singles_make s (taken s choices xs).changes ∙ right_make s (taken s choices xs).site (taken s choices xs).changes (groups_are_right s choices xs))

module _ {L : Type 0} (represents : L → Site → Type 0) where
  abbrev Holds : Site → Changes → ℕ → L → Type 0
  Holds s changes least c = HoldsCommits represents s (one_by_one changes) least c

  holds_made : (s : Site) (changes : Changes) (c : L) → represents c (with_changes s changes) → Holds s changes (length changes) c
  holds_made s changes c here =
      let all : List CommitOfChanges = one_by_one changes in
      let same : length all ≡ length changes = length-map changes _ in
      record {
        count = length all;
        at_least = omega (arith, same);
        at_most = omega arith;
        represented = subst (λ (l : List CommitOfChanges). represents c (with_commits s l)) (sym (take_all (length all) all (omega arith))) (subst (represents c) (sym (singles_make s changes)) here);
      }

  -- before some changes, and with them
  holds_before : (s t : Site) (commits post : Changes) (least : ℕ) (c : L) → t ≡ with_commits s (one_by_one commits) → least ≤ length commits → represents c t → Holds s (commits ++ post) least c
  holds_before s t commits post least c made le here =
      let same : length (one_by_one commits) ≡ length commits = length-map commits _ in
      subst (λ (l : List CommitOfChanges). HoldsCommits represents s l least c) (sym (singles_both commits post)) (comes_after represents s t (one_by_one commits) (one_by_one post) 0 least c made (omega (arith, le, same)) (stands_now represents t (one_by_one post) c here))

  holds_with : (s t : Site) (commits post : Changes) (least : ℕ) (c : L) → t ≡ with_commits s (one_by_one commits) → least ≤ length commits + length post → represents c (with_changes t post) → Holds s (commits ++ post) least c
  holds_with s t commits post least c made le here =
      let same : length (one_by_one commits) ≡ length commits = length-map commits _ in
      subst (λ (l : List CommitOfChanges). HoldsCommits represents s l least c) (sym (singles_both commits post)) (comes_after represents s t (one_by_one commits) (one_by_one post) (length post) least c made (omega (arith, le, same)) (holds_made t post c here))

  holds_more : (s : Site) (commits post : Changes) (c : L) → Holds s (commits ++ []) 0 c → Holds s (commits ++ post) 0 c
  holds_more s commits post c h =
      let before : HoldsCommits represents s (one_by_one commits) 0 c = subst (λ (l : Changes). Holds s l 0 c) (append-nil commits) h in
      subst (λ (l : List CommitOfChanges). HoldsCommits represents s l 0 c) (sym (singles_both commits post)) (more_come represents s (one_by_one commits) (one_by_one post) 0 0 c (omega arith) before)

  module _ (s : Site) (first : CrashStates L) where
    abbrev Adds : CrashStates L → Changes → Type 0
    Adds now changes = AddsOnly first now (λ c. may_crash_to first c ⊎ Holds s changes 0 c)

    abbrev OneOf : Site → Changes → L → Type 0
    OneOf t post c = represents c t ⊎ represents c (with_changes t post)

    adds_more : (now then : CrashStates L) (t : Site) (commits post : Changes) → t ≡ with_commits s (one_by_one commits) → Adds now (commits ++ []) → AddsOnly now then (OneOf t post) → Adds then (commits ++ post)
    adds_more now then t commits post made adds only =
        adds_both first now then _ (OneOf t post) _ adds only (λ c left. ⊎_elim (λ old. inl old) (λ h. inr (holds_more s commits post c h)) left)
        (λ c left. inr (⊎_elim (λ here. holds_before s t commits post 0 c made (omega arith) here) (λ here. holds_with s t commits post 0 c made (omega arith) here) left))

    abbrev Leaves : CrashStates L → Changes → Changes → Type 0
    Leaves now commits flying = LeavesSo represents s first now commits flying

    -- a post that was made
    leaves_made : (now then : CrashStates L) (t u : Site) (commits post : Changes) → t ≡ with_commits s (one_by_one commits) → u ≡ with_changes t post → AddsOnly now then (OneOf t post) → ((c : L) → may_crash_to then c → represents c u) → Leaves now commits [] → Leaves then (commits ++ post) []
    leaves_made now then t u commits post made new only stands leaves =
        let same : (commits ++ post) ++ [] ≡ commits ++ post = append-nil (commits ++ post) in
        record {
          adds = subst (λ (l : Changes). Adds then l) (sym same) (adds_more now then t commits post made leaves.adds only);
          behind = λ c left. subst (λ (l : Changes). Holds s l (length (commits ++ post)) c) (sym same) (holds_with s t commits post (length (commits ++ post)) c made (omega (arith, length-append commits post)) (subst (represents c) new (stands c left)));
        }

    -- one that is in flight
    leaves_flying : (now then : CrashStates L) (t : Site) (commits post : Changes) → t ≡ with_commits s (one_by_one commits) → AddsOnly now then (OneOf t post) → Leaves now commits [] → Leaves then commits post
    leaves_flying now then t commits post made only leaves = record {
      adds = adds_more now then t commits post made leaves.adds only;
      behind = λ c left. ⊎_elim (λ here. holds_before s t commits post (length commits) c made (omega arith) here) (λ here. holds_with s t commits post (length commits) c made (omega arith) here) (only.now c left);
    }

    -- nothing was written
    leaves_same : (now then : CrashStates L) (commits : Changes) → AddsNone now then → Leaves now commits [] → Leaves then commits []
    leaves_same now then commits none leaves = record {
      adds = adds_both first now then _ (may_crash_to now) _ leaves.adds none (λ c left. left) (λ c left. leaves.adds.now c left);
      behind = λ c left. leaves.behind c (none.now c left);
    }

    -- ---- so far

    module _ (start : List (ℕ × Phase)) where
      -- The first i sessions have had their turns: some are answered, and so many are left.
      pub record TakenUpTo (t : Site) (now : CrashStates L) (all_sessions : List (ℕ × Phase)) (i left : ℕ) : Type 0 where
        pub front : List (ℕ × Phase)
        pub rest : List (ℕ × Phase)
        pub choices : List Bool
        pub parts : start ≡ front ++ rest
        pub counted : i ≡ length front
        pub each : length choices ≡ length front
        pub site : t ≡ (taken s choices front).site
        pub seen : all_sessions ≡ (taken s choices front).sessions ++ rest
        pub waiting : left ≡ count_waiting (taken s choices front).sessions
        pub few : left ≤ count_waiting front
        pub leaves : Leaves now (taken s choices front).changes []

      pub none_taken : ((c : L) → may_crash_to first c → represents c s) → TakenUpTo s first start 0 0
      none_taken stands = record {
        front = [];
        rest = start;
        choices = [];
        parts = refl;
        counted = refl;
        each = refl;
        site = refl;
        seen = refl;
        waiting = refl;
        few = omega arith;
        leaves = record {
          adds = weaker first first (may_crash_to first) _ (no_new_crash_state first) (λ c left. inl left);
          behind = λ c left. stands_now represents s [] c (stands c left);
        };
      }

      pub left_few : (t : Site) (now : CrashStates L) (all_sessions : List (ℕ × Phase)) (i left : ℕ) → TakenUpTo t now all_sessions i left → left ≤ count_waiting start
      left_few t now all_sessions i left so = omega (arith, so.few, ap count_waiting so.parts, waiting_both so.front so.rest)

      module _ (t : Site) (now : CrashStates L) (all_sessions : List (ℕ × Phase)) (i left : ℕ) (x : ℕ × Phase) (within : i < length all_sessions) (read : x ≡ get_or all_sessions i x) (so : TakenUpTo t now all_sessions i left) where
        abbrev g : Group
        g = taken s so.choices so.front

        open_at : Opened g.sessions so.rest i x
        open_at = opened g.sessions so.rest i x (omega (arith, so.counted, taken_length s so.choices so.front)) (subst (λ (l : List (ℕ × Phase)). i < length l) so.seen within) (subst (λ (l : List (ℕ × Phase)). x ≡ get_or l i x) so.seen read)

        made_so : t ≡ with_commits s (one_by_one g.changes)
        made_so = so.site ∙ group_made s so.choices so.front

        more : (takes : Bool) → taken s (so.choices ++ takes ∷ []) (so.front ++ x ∷ []) ≡ one_more g takes x
        more takes = taken_more s so.choices takes so.front x so.each

        more_parts : start ≡ (so.front ++ x ∷ []) ++ open_at.more
        more_parts = so.parts ∙ ap (λ (l : List (ℕ × Phase)). so.front ++ l) open_at.is ∙ sym (append_assoc so.front (x ∷ []) open_at.more)

        more_counted : i + 1 ≡ length (so.front ++ x ∷ [])
        more_counted = omega (arith, so.counted, length-append so.front (x ∷ []))

        more_each : (takes : Bool) → length (so.choices ++ takes ∷ []) ≡ length (so.front ++ x ∷ [])
        more_each takes = omega (arith, so.each, length-append so.choices (takes ∷ []), length-append so.front (x ∷ []))

        waiting_more : (z : ℕ × Phase) → count_waiting (g.sessions ++ z ∷ []) ≡ left + one_waiting z.1
        waiting_more z = omega (arith, so.waiting, waiting_both g.sessions (z ∷ []))

        few_more : count_waiting (so.front ++ x ∷ []) ≡ count_waiting so.front + one_waiting x.1
        few_more = omega (arith, waiting_both so.front (x ∷ []))

        -- it is answered
        pub one_taken : (u : Site) (then : CrashStates L) → u ≡ with_changes t (post_from t x.1) → AddsOnly now then (OneOf t (post_from t x.1)) → ((c : L) → may_crash_to then c → represents c u) → TakenUpTo u then (set all_sessions i (x.0, answered_from t x.1)) (i + 1) left
        one_taken u then new only stands =
            let z : ℕ × Phase = (x.0, answered_from g.site x.1) in
            let z_is : (x.0, answered_from t x.1) ≡ z = ap (λ (v : Site). (x.0, answered_from v x.1)) so.site in
            let back = sym (more true) in
            record {
              front = so.front ++ x ∷ [];
              rest = open_at.more;
              choices = so.choices ++ true ∷ [];
              parts = more_parts;
              counted = more_counted;
              each = more_each true;
              site = new ∙ made_from t x.1 ∙ ap (λ (v : Site). site_from v x.1) so.site ∙ ap (λ (h : Group). h.site) back;
              seen = ap (λ (l : List (ℕ × Phase)). set l i (x.0, answered_from t x.1)) so.seen ∙ open_at.with_next (x.0, answered_from t x.1) ∙ ap (λ (w : ℕ × Phase). g.sessions ++ (w ∷ open_at.more)) z_is ∙ sym (append_assoc g.sessions (z ∷ []) open_at.more) ∙ ap (λ (h : Group). h.sessions ++ open_at.more) back;
              waiting = (let none = answered_waits g.site x.1 in omega (arith, waiting_more z, none)) ∙ ap (λ (h : Group). count_waiting h.sessions) back;
              few = omega (arith, so.few, few_more);
              leaves = subst (λ (l : Changes). Leaves then l []) (ap (λ (v : Site). g.changes ++ post_from v x.1) so.site ∙ ap (λ (h : Group). h.changes) back) (leaves_made now then t u g.changes (post_from t x.1) made_so new only stands so.leaves);
            }

        -- it is left
        pub one_left : (u : Site) (then : CrashStates L) → u ≡ t → AddsNone now then → one_waiting x.1 ≡ 1 → TakenUpTo u then all_sessions (i + 1) (left + 1)
        one_left u then same none waits =
            let back = sym (more false) in
            record {
              front = so.front ++ x ∷ [];
              rest = open_at.more;
              choices = so.choices ++ false ∷ [];
              parts = more_parts;
              counted = more_counted;
              each = more_each false;
              site = same ∙ so.site ∙ ap (λ (h : Group). h.site) back;
              seen = so.seen ∙ ap (λ (l : List (ℕ × Phase)). g.sessions ++ l) open_at.is ∙ sym (append_assoc g.sessions (x ∷ []) open_at.more) ∙ ap (λ (h : Group). h.sessions ++ open_at.more) back;
              waiting = omega (arith, waiting_more x, waits) ∙ ap (λ (h : Group). count_waiting h.sessions) back;
              few = omega (arith, so.few, few_more, waits);
              leaves = subst (λ (l : Changes). Leaves then l []) (sym (append-nil g.changes) ∙ ap (λ (h : Group). h.changes) back) (leaves_same now then g.changes none so.leaves);
            }

        -- its commit failed
        pub one_fails : (u : Site) (then : CrashStates L) → u ≡ t → AddsOnly now then (OneOf t (post_from t x.1)) → nat_lt 0 (length (post_from t x.1)) ≡ true → TakesUpTo represents s u first then start all_sessions
        one_fails u then same only some =
            let front_is = taken_front s so.choices so.front so.rest so.each in
            let whole : taken s so.choices start ≡ with_rest g so.rest = ap (taken s so.choices) so.parts ∙ front_is in
            let next_is : taken s (so.choices ++ true ∷ []) start ≡ with_rest (taken s (so.choices ++ true ∷ []) (so.front ++ x ∷ [])) open_at.more = ap (taken s (so.choices ++ true ∷ [])) more_parts ∙ taken_front s (so.choices ++ true ∷ []) (so.front ++ x ∷ []) open_at.more (more_each true) in
            record {
              choices = so.choices;
              flying = post_from t x.1;
              one = one_post t x.1 some;
              next = ap (λ (h : Group). h.changes) next_is ∙ ap (λ (h : Group). h.changes) (more true) ∙ ap (λ (v : Site). g.changes ++ post_from v x.1) (sym so.site) ∙ ap (λ (h : Group). h.changes ++ post_from t x.1) (sym whole);
              so = record {
                within = omega (arith, so.each, ap length so.parts, length-append so.front so.rest);
                site = same ∙ so.site ∙ ap (λ (h : Group). h.site) (sym whole);
                sessions = so.seen ∙ ap (λ (h : Group). h.sessions) (sym whole);
              };
              leaves = subst (λ (l : Changes). Leaves then l (post_from t x.1)) (ap (λ (h : Group). h.changes) (sym whole)) (leaves_flying now then t g.changes (post_from t x.1) made_so only so.leaves);
            }

      -- all have had their turns
      pub all_taken : (t : Site) (now : CrashStates L) (all_sessions : List (ℕ × Phase)) (i left : ℕ) → i ≡ length all_sessions → TakenUpTo t now all_sessions i left → TakesAll represents s t first now start all_sessions left
      all_taken t now all_sessions i left done so =
          let h = taken s so.choices so.front in
          let none : so.rest ≡ [] = none_behind so.rest (omega (arith, done, so.counted, ap length so.seen, length-append h.sessions so.rest, taken_length s so.choices so.front)) in
          let all : start ≡ so.front = so.parts ∙ ap (λ (l : List (ℕ × Phase)). so.front ++ l) none ∙ append-nil so.front in
          let whole : taken s so.choices start ≡ h = ap (taken s so.choices) all in
          let seen : all_sessions ≡ h.sessions = so.seen ∙ ap (λ (l : List (ℕ × Phase)). h.sessions ++ l) none ∙ append-nil h.sessions in
          record {
            choices = so.choices;
            all = so.each ∙ ap length (sym all);
            so = record {
              within = omega (arith, so.each, ap length all);
              site = so.site ∙ ap (λ (v : Group). v.site) (sym whole);
              sessions = seen ∙ ap (λ (v : Group). v.sessions) (sym whole);
            };
            waiting = so.waiting ∙ ap count_waiting (sym seen);
            leaves = subst (λ (l : Changes). Leaves now l []) (ap (λ (v : Group). v.changes) (sym whole)) so.leaves;
          }
        where
          none_behind : (l : List (ℕ × Phase)) → length l ≡ 0 → l ≡ []
          none_behind [] zero_is = refl
          none_behind (y ∷ l) zero_is = absurd (omega (arith, zero_is))
