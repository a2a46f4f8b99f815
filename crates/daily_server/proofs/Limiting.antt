-- Turns of clients whose posts are limited.
use Rattle.std.proofs.Common.{◌≡◌, ℕ, Bool, true, false, not, ◌&&◌, Option, Some, None, List, [], ◌++◌, refl, sym, ap, subst, ◌∙◌}
use Rattle.std.proofs.lemmas.List.{append-nil}
use Rattle.group_world.specs.declared.event.Event.{Event}
use Rattle.group_world.specs.declared.event.Outcome.{Outcome}
use Rattle.daily_turns.specs.ReadyConnections.{is_waiting}
use Rattle.daily_turns.specs.declared.ready_connection.ConnectionStage.{ConnectionStage}
use Rattle.daily_server.specs.Posts.{may_post, noted}
use Rattle.daily_server.specs.DailyClients.{Beside, HadTurn, HadLimitedTurn, IsLetThrough, IsLetThroughBy, IsLimited}
use Rattle.daily_server.specs.declared.posts.RecentPost.{RecentPost}
use Rattle.daily_server.specs.declared.daily_client.DailyClient.{DailyClient}

-- ---- a post that came to wait

pub unlimited : (most : Option ℕ) (now : ℕ) (all : Beside DailyClient) → ((n : ℕ) → most ≡ Some n → ⊥) → IsLetThroughBy most now all [] [] all
unlimited None now all none = (refl, refl, refl)
unlimited (Some n) now all none = absurd (none n refl)

pub let_through : (most : Option ℕ) (n now : ℕ) (client : DailyClient) (posts after : List RecentPost) (may : Bool) → most ≡ Some n → may ≡ may_post n now client.from posts → may ≡ true → after ≡ noted may now client.from posts → IsLetThroughBy most now (client, posts) [] [] (client, after)
let_through most n now client posts after may is may_is free noted_is =
    let with_it : after ≡ noted true now client.from posts = noted_is ∙ ap (λ b. noted b now client.from posts) free in
    subst (λ m. IsLetThroughBy m now (client, posts) [] [] (client, after)) (sym is)
    (subst (λ b. IsLetThrough b now (client, posts) [] [] (client, after)) (sym free ∙ may_is) (refl, refl, ap (λ l. (client, l)) with_it))

-- ---- whether a post came to wait in a turn

pub waits_now : (old mid : ConnectionStage) (before after : Bool) → before ≡ is_waiting old → before ≡ false → after ≡ is_waiting mid → after ≡ true → (not (is_waiting old) && is_waiting mid) ≡ true
waits_now old mid before after before_is first after_is now = ap (λ b. not b && is_waiting mid) (sym before_is ∙ first) ∙ sym after_is ∙ now

pub waits_not : (old mid : ConnectionStage) (before after : Bool) → before ≡ is_waiting old → before ≡ false → after ≡ is_waiting mid → after ≡ false → (not (is_waiting old) && is_waiting mid) ≡ false
waits_not old mid before after before_is first after_is now = ap (λ b. not b && is_waiting mid) (sym before_is ∙ first) ∙ sym after_is ∙ now

pub waited_before : (old mid : ConnectionStage) (before : Bool) → before ≡ is_waiting old → before ≡ true → (not (is_waiting old) && is_waiting mid) ≡ false
waited_before old mid before before_is first = ap (λ b. not b && is_waiting mid) (sym before_is ∙ first)

-- ---- a turn

pub limited_turn : (most : Option ℕ) (now : ℕ) (old : Beside DailyClient) (mid : DailyClient) (new : Beside DailyClient) (es fs : List Event) (os ps : List Outcome) → (not (is_waiting old.0.connection.stage) && is_waiting mid.connection.stage) ≡ true → HadTurn now old.0 es os mid → IsLetThroughBy most now (mid, old.1) fs ps new → HadLimitedTurn most now old (es ++ fs) (os ++ ps) new
limited_turn most now old mid new es fs os ps waits turn taken = record {
  mid = mid;
  first_events = es;
  first_outcomes = os;
  later_events = fs;
  later_outcomes = ps;
  turn = turn;
  limited = subst (λ b. IsLimited b most now (mid, old.1) fs ps new) (sym waits) taken;
  events_are = refl;
  outcomes_are = refl;
}

pub free_turn : (most : Option ℕ) (now : ℕ) (old : Beside DailyClient) (mid : DailyClient) (es : List Event) (os : List Outcome) → (not (is_waiting old.0.connection.stage) && is_waiting mid.connection.stage) ≡ false → HadTurn now old.0 es os mid → HadLimitedTurn most now old es os (mid, old.1)
free_turn most now old mid es os waits turn = record {
  mid = mid;
  first_events = es;
  first_outcomes = os;
  later_events = [];
  later_outcomes = [];
  turn = turn;
  limited = subst (λ b. IsLimited b most now (mid, old.1) [] [] (mid, old.1)) (sym waits) (refl, refl, refl);
  events_are = sym (append-nil es);
  outcomes_are = sym (append-nil os);
}
