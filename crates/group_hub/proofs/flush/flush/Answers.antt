use Rattle.std.proofs.Common.{◌≡◌, ◌≤◌, ◌⊎◌, ℕ, true, List, refl, sym, ap, subst, ◌∙◌, ◌-◌, arith}
use Rattle.std.specs.Prelude.{IsTrue, nat_lt}
use Rattle.std.proofs.lemmas.Bool.{lt-ltb}
use Rattle.host_types.specs.SiteState.{SiteState, Rose}
use Rattle.host_types.specs.CrashStates.{AddsOnly, adds_both, adds_none_again, may_crash_to, no_new_crash_state}
use Rattle.group_world.specs.World.{Phase, count_waiting}
use Rattle.group_world.specs.Step.{all_of, without_forms}
use Rattle.group_world.specs.declared.event.Event.TheVariants.{Flush}
use Rattle.group_world.specs.declared.event.Outcome.TheVariants.{Fault}
use Rattle.group_world.specs.declared.fault.HubFault.{HubFault}
use Rattle.group_world.specs.declared.fault.HubFault.TheVariants.{Memory}
use Rattle.group_world.specs.CrashStates.{with_changes}
use Rattle.group_hub.specs.Sessions.{sessions_of, pins_of, AreSound}
use Rattle.group_hub.specs.Flushing.{next_pins, AreForWaiting, StandsBeside, put_sessions}
use Rattle.group_hub.specs.Calls.{CallOverKeeper}
use Rattle.group_hub.specs.Worlds.{world_at}
use Rattle.group_hub.specs.Together.{group_of, IsApart, IsTogetherFault}
use Rattle.group_hub.specs.declared.next.Putting.TheVariants.{All, Gone}
use Rattle.group_hub.specs.declared.session.Session.{Session}
use Rattle.group_hub.proofs.Flushes.{Begins, whole_call, nobody_call, kept_call, split_call, split_failed_call, together_fault_call, fewer_taken, fewer_without, all_before, some_before, singly_counts, singly_failed_counts}
use Rattle.group_hub.proofs.PutWaiting.{fewer_put}
use Rattle.group_hub.proofs.flush.flush.Goals as goal

pub returns-then-waiting-eq0-clause-call : goal.returns-then-waiting-eq0-clause-call
returns-then-waiting-eq0-clause-call g c = λ next grouped.
    let s = g.S.SiteKeeper in
    let k = c.args.site.now in
    let old = sessions_of s.pinned (s.site_state k) c.args.sessions.now.items in
    let counted : c.waiting_in-waiting.result ≡ count_waiting old = c.waiting_in-waiting.ensures.count s.pinned (s.site_state k) ∙ ap (λ (xs : List (Session g.row.S-Pin.Denot)). count_waiting (sessions_of s.pinned (s.site_state k) xs)) c.deref.ensures.value in
    let none : count_waiting old ≡ 0 = sym counted ∙ c.if-waiting-eq0.true in
    nobody_call s.site_state s.lacks s.crash_states s.represents k k next grouped old old (record { usable = c.requires.usable; honest = refl; represent = g.met.S.SiteKeeper.crash_states_represent k; represent_now = g.met.S.SiteKeeper.crash_states_represent k }) refl refl none (no_new_crash_state (s.crash_states k))

pub returns-in_default-clause-call : goal.returns-in_default-clause-call
returns-in_default-clause-call g c = λ next grouped.
    let s = g.S.SiteKeeper in
    let k = c.args.site.now in
    let old = sessions_of s.pinned (s.site_state k) c.args.sessions.now.items in
    let counted : c.waiting_in-waiting.result ≡ count_waiting old = c.waiting_in-waiting.ensures.count s.pinned (s.site_state k) ∙ ap (λ (xs : List (Session g.row.S-Pin.Denot)). count_waiting (sessions_of s.pinned (s.site_state k) xs)) c.deref.ensures.value in
    let some : nat_lt 0 (count_waiting old) ≡ true = lt-ltb 0 (count_waiting old) (omega (arith, counted, c.if-waiting-eq0.false)) in
    kept_call s.site_state s.lacks s.crash_states s.represents k k next grouped old old (record { usable = c.requires.usable; honest = refl; represent = g.met.S.SiteKeeper.crash_states_represent k; represent_now = g.met.S.SiteKeeper.crash_states_represent k })
    Memory some tt (record { reads = refl; writes = refl }) c.requires.usable (λ honest. refl) refl (λ honest. no_new_crash_state (s.crash_states k))

pub returns-in-Ok-Whole-clause-call : goal.returns-in-Ok-Whole-clause-call
returns-in-Ok-Whole-clause-call g c = λ next grouped.
    let s = g.S.SiteKeeper in
    let k = c.args.site.now in
    let m = c.make_together.new.site in
    let l = c.put_next.new.site in
    let a = s.site_state k in
    let items = c.args.sessions.now.items in
    let old = sessions_of s.pinned a items in
    let new = sessions_of s.pinned (s.site_state l) c.put_next.new.sessions.items in
    let makes = c.in-Ok-Whole.ensures.makes in
    let put = c.put_next.ensures.puts in
    let same = put.keeper.same in
    let beside = subst (λ (xs : List (Session g.row.S-Pin.Denot)). StandsBeside s.pinned a (s.site_state m) (next_pins s.pinned c.make_together.new.next.items) xs) c.deref-2.ensures.value makes.stands in
    let counted : c.waiting_in-waiting.result ≡ count_waiting old = c.waiting_in-waiting.ensures.count s.pinned a ∙ ap (λ (xs : List (Session g.row.S-Pin.Denot)). count_waiting (sessions_of s.pinned a xs)) c.deref.ensures.value in
    let begins : Begins s.site_state s.lacks s.crash_states s.represents k l next grouped old new = record { usable = c.requires.usable; honest = ap (λ (h : SiteState). h.honest) same ∙ makes.honest; represent = g.met.S.SiteKeeper.crash_states_represent k; represent_now = g.met.S.SiteKeeper.crash_states_represent l } in
    whole_call s.site_state s.lacks s.crash_states s.represents k l next grouped old new begins c.waiting_in-waiting.result counted (ap (λ (h : SiteState). h.usable) same ∙ makes.still_usable)
    (λ honest. ap (λ (h : SiteState). h.site) same ∙ makes.whole honest c.in-Ok-Whole.field-0-is ∙ ap (λ (xs : List (Session g.row.S-Pin.Denot)). (group_of s.pinned a xs).site) c.deref-2.ensures.value)
    (λ honest. put.sessions ∙ ap (λ (xs : List (ℕ × Phase)). put_sessions All s.pinned (s.site_state m) xs c.make_together.new.next.items) (beside.seen ∙ ap (sessions_of s.pinned a) (sym c.deref-2.ensures.value)) ∙ makes.put honest ∙ ap (λ (xs : List (Session g.row.S-Pin.Denot)). (group_of s.pinned a xs).sessions) c.deref-2.ensures.value)
    (ap (λ (h : SiteState). h.failed_reads) same ∙ makes.counts.reads) (ap (λ (h : SiteState). h.failed_writes) same ∙ makes.counts.writes)
    (λ honest.
    let first = subst (λ (xs : List (Session g.row.S-Pin.Denot)). AddsOnly (s.crash_states k) (s.crash_states m) (λ x. s.represents x a.site ⊎ s.represents x (with_changes a.site (group_of s.pinned a xs).changes))) c.deref-2.ensures.value (makes.at_crash honest) in
    adds_both (s.crash_states k) (s.crash_states m) (s.crash_states l) _ (may_crash_to (s.crash_states m)) _ first (c.put_next.ensures.at_crash (subst IsTrue (sym makes.honest) honest)) (λ x p. p) (λ x left. first.now x left))

pub returns-in-Ok-Whole-clause-sessions : goal.returns-in-Ok-Whole-clause-sessions
returns-in-Ok-Whole-clause-sessions g c =
    let s = g.S.SiteKeeper in
    let a = s.site_state c.args.site.now in
    let m = s.site_state c.make_together.new.site in
    let makes = c.in-Ok-Whole.ensures.makes in
    let put = c.put_next.ensures.puts in
    let beside = subst (λ (xs : List (Session g.row.S-Pin.Denot)). StandsBeside s.pinned a m (next_pins s.pinned c.make_together.new.next.items) xs) c.deref-2.ensures.value makes.stands in
    record {
      held = put.held;
      sound = λ honest.
          let then = subst IsTrue (ap (λ (h : SiteState). h.honest) put.keeper.same) honest in
          let first = subst IsTrue makes.honest then in
          put.sound then (makes.sound first) (beside.sound (c.requires.stand.sound first));
      fewer = omega (arith, put.fewer, ap count_waiting beside.seen);
    }

pub overflow_sub-result : goal.overflow_sub-result
overflow_sub-result g c =
    let s = g.S.SiteKeeper in
    let k = c.args.site.now in
    let m = c.make_together.new.site in
    let n = c.put_next-in-Ok-TooLarge.new.site in
    let a = s.site_state k in
    let items = c.args.sessions.now.items in
    let old = sessions_of s.pinned a items in
    let makes = c.in-Ok-TooLarge.ensures.makes in
    let put = c.put_next-in-Ok-TooLarge.ensures.puts in
    let beside = subst (λ (xs : List (Session g.row.S-Pin.Denot)). StandsBeside s.pinned a (s.site_state m) (next_pins s.pinned c.make_together.new.next.items) xs) c.deref-2.ensures.value makes.stands in
    let for_waiting = subst (λ (xs : List (Session g.row.S-Pin.Denot)). AreForWaiting xs c.make_together.new.next.items) c.deref-2.ensures.value makes.waiting in
    let counted : c.waiting_in-waiting.result ≡ count_waiting old = c.waiting_in-waiting.ensures.count s.pinned a ∙ ap (λ (xs : List (Session g.row.S-Pin.Denot)). count_waiting (sessions_of s.pinned a xs)) c.deref.ensures.value in
    let between = sessions_of s.pinned (s.site_state n) c.put_next-in-Ok-TooLarge.new.sessions.items in
    let fewer : count_waiting between ≤ count_waiting old = omega (arith, ap count_waiting put.sessions, ap count_waiting beside.seen, fewer_put s.pinned (s.site_state m) (s.site_state m) Gone items c.make_together.new.next.items for_waiting) in
    omega (arith, counted, fewer, c.in-Ok-answer_singly.ensures.works.few)

pub returns-in-Ok-answer_singly-clause-call : goal.returns-in-Ok-answer_singly-clause-call
returns-in-Ok-answer_singly-clause-call g c = λ next grouped.
    let s = g.S.SiteKeeper in
    let k = c.args.site.now in
    let m = c.make_together.new.site in
    let n = c.put_next-in-Ok-TooLarge.new.site in
    let a = s.site_state k in
    let items = c.args.sessions.now.items in
    let old = sessions_of s.pinned a items in
    let makes = c.in-Ok-TooLarge.ensures.makes in
    let put = c.put_next-in-Ok-TooLarge.ensures.puts in
    let beside = subst (λ (xs : List (Session g.row.S-Pin.Denot)). StandsBeside s.pinned a (s.site_state m) (next_pins s.pinned c.make_together.new.next.items) xs) c.deref-2.ensures.value makes.stands in
    let for_waiting = subst (λ (xs : List (Session g.row.S-Pin.Denot)). AreForWaiting xs c.make_together.new.next.items) c.deref-2.ensures.value makes.waiting in
    let counted : c.waiting_in-waiting.result ≡ count_waiting old = c.waiting_in-waiting.ensures.count s.pinned a ∙ ap (λ (xs : List (Session g.row.S-Pin.Denot)). count_waiting (sessions_of s.pinned a xs)) c.deref.ensures.value in
    let between = sessions_of s.pinned (s.site_state n) c.put_next-in-Ok-TooLarge.new.sessions.items in
    let fewer : count_waiting between ≤ count_waiting old = omega (arith, ap count_waiting put.sessions, ap count_waiting beside.seen, fewer_put s.pinned (s.site_state m) (s.site_state m) Gone items c.make_together.new.next.items for_waiting) in
    let l = c.answer_singly.new.site in
    let new = sessions_of s.pinned (s.site_state l) c.answer_singly.new.sessions.items in
    let same = put.keeper.same in
    let apart = subst (λ (xs : List (Session g.row.S-Pin.Denot)). IsApart s.site_state s.lacks s.crash_states (group_of s.pinned a xs).changes k m) c.deref-2.ensures.value (makes.apart c.in-Ok-TooLarge.field-0-is) in
    let works = c.answer_singly.ensures.works in
    let honest_then : (s.site_state n).honest ≡ a.honest = ap (λ (h : SiteState). h.honest) same ∙ makes.honest in
    let then = λ (honest : IsTrue a.honest). subst IsTrue (sym honest_then) honest in
    let site_then = λ (honest : IsTrue a.honest). ap (λ (h : SiteState). h.site) same ∙ apart.untouched.site honest in
    let sessions_then = λ (honest : IsTrue a.honest). put.sessions ∙ ap (λ (xs : List (ℕ × Phase)). put_sessions Gone s.pinned (s.site_state m) xs c.make_together.new.next.items) (beside.seen ∙ ap (sessions_of s.pinned a) (sym c.deref-2.ensures.value)) ∙ makes.gone honest ∙ ap (λ (xs : List (Session g.row.S-Pin.Denot)). without_forms a.site (sessions_of s.pinned a xs)) c.deref-2.ensures.value in
    let none = λ (honest : IsTrue a.honest). adds_none_again (s.crash_states k) (s.crash_states m) (s.crash_states n) (apart.untouched.no_new_crash_state honest) (c.put_next-in-Ok-TooLarge.ensures.at_crash (subst IsTrue (sym makes.honest) honest)) in
    let reads_then : (s.site_state n).failed_reads ≡ a.failed_reads = ap (λ (h : SiteState). h.failed_reads) same ∙ makes.counts.reads in
    let writes_then : (s.site_state n).failed_writes ≡ a.failed_writes = ap (λ (h : SiteState). h.failed_writes) same ∙ makes.counts.writes in
    let usable_then : (s.site_state n).usable ≡ a.usable = ap (λ (h : SiteState). h.usable) same ∙ makes.still_usable ∙ sym c.requires.usable in
    let begins : Begins s.site_state s.lacks s.crash_states s.represents k l next grouped old new = record { usable = c.requires.usable; honest = works.worked.honest ∙ honest_then; represent = g.met.S.SiteKeeper.crash_states_represent k; represent_now = g.met.S.SiteKeeper.crash_states_represent l } in
    let left = c.in-Ok-answer_singly.left in
    split_call s.site_state s.lacks s.crash_states s.represents k l next grouped old new begins c.waiting_in-waiting.result left counted apart.some apart.split c.in-Ok-answer_singly.ensures.works.still_usable
    (λ honest. all_before s.represents a.site (s.site_state n).site (s.site_state l).site (s.crash_states k) (s.crash_states n) (s.crash_states l) (without_forms a.site old) between new left (none honest) (site_then honest) (sessions_then honest) (c.in-Ok-answer_singly.ensures.takes.takes (then honest)))
    (singly_counts (world_at a next grouped old) (c.waiting_in-waiting.result - left) left (count_waiting between) a (s.site_state n) (s.site_state l) honest_then reads_then writes_then c.in-Ok-answer_singly.ensures.works)

pub returns-in-Ok-answer_singly-clause-sessions : goal.returns-in-Ok-answer_singly-clause-sessions
returns-in-Ok-answer_singly-clause-sessions g c =
    let s = g.S.SiteKeeper in
    let a = s.site_state c.args.site.now in
    let m = s.site_state c.make_together.new.site in
    let all_sessions = c.in-Ok-answer_singly.ensures.sessions in
    let beside = subst (λ (xs : List (Session g.row.S-Pin.Denot)). StandsBeside s.pinned a m (next_pins s.pinned c.make_together.new.next.items) xs) c.deref-2.ensures.value c.in-Ok-TooLarge.ensures.makes.stands in
    record { held = all_sessions.held; sound = all_sessions.sound; fewer = omega (arith, all_sessions.fewer, c.put_next-in-Ok-TooLarge.ensures.puts.fewer, ap count_waiting beside.seen) }

pub returns-in-Err-answer_singly-clause-call : goal.returns-in-Err-answer_singly-clause-call
returns-in-Err-answer_singly-clause-call g c = λ next grouped.
    let s = g.S.SiteKeeper in
    let k = c.args.site.now in
    let m = c.make_together.new.site in
    let n = c.put_next-in-Ok-TooLarge.new.site in
    let a = s.site_state k in
    let items = c.args.sessions.now.items in
    let old = sessions_of s.pinned a items in
    let makes = c.in-Ok-TooLarge.ensures.makes in
    let put = c.put_next-in-Ok-TooLarge.ensures.puts in
    let beside = subst (λ (xs : List (Session g.row.S-Pin.Denot)). StandsBeside s.pinned a (s.site_state m) (next_pins s.pinned c.make_together.new.next.items) xs) c.deref-2.ensures.value makes.stands in
    let for_waiting = subst (λ (xs : List (Session g.row.S-Pin.Denot)). AreForWaiting xs c.make_together.new.next.items) c.deref-2.ensures.value makes.waiting in
    let counted : c.waiting_in-waiting.result ≡ count_waiting old = c.waiting_in-waiting.ensures.count s.pinned a ∙ ap (λ (xs : List (Session g.row.S-Pin.Denot)). count_waiting (sessions_of s.pinned a xs)) c.deref.ensures.value in
    let between = sessions_of s.pinned (s.site_state n) c.put_next-in-Ok-TooLarge.new.sessions.items in
    let fewer : count_waiting between ≤ count_waiting old = omega (arith, ap count_waiting put.sessions, ap count_waiting beside.seen, fewer_put s.pinned (s.site_state m) (s.site_state m) Gone items c.make_together.new.next.items for_waiting) in
    let l = c.answer_singly.new.site in
    let new = sessions_of s.pinned (s.site_state l) c.answer_singly.new.sessions.items in
    let same = put.keeper.same in
    let apart = subst (λ (xs : List (Session g.row.S-Pin.Denot)). IsApart s.site_state s.lacks s.crash_states (group_of s.pinned a xs).changes k m) c.deref-2.ensures.value (makes.apart c.in-Ok-TooLarge.field-0-is) in
    let works = c.answer_singly.ensures.works in
    let honest_then : (s.site_state n).honest ≡ a.honest = ap (λ (h : SiteState). h.honest) same ∙ makes.honest in
    let then = λ (honest : IsTrue a.honest). subst IsTrue (sym honest_then) honest in
    let site_then = λ (honest : IsTrue a.honest). ap (λ (h : SiteState). h.site) same ∙ apart.untouched.site honest in
    let sessions_then = λ (honest : IsTrue a.honest). put.sessions ∙ ap (λ (xs : List (ℕ × Phase)). put_sessions Gone s.pinned (s.site_state m) xs c.make_together.new.next.items) (beside.seen ∙ ap (sessions_of s.pinned a) (sym c.deref-2.ensures.value)) ∙ makes.gone honest ∙ ap (λ (xs : List (Session g.row.S-Pin.Denot)). without_forms a.site (sessions_of s.pinned a xs)) c.deref-2.ensures.value in
    let none = λ (honest : IsTrue a.honest). adds_none_again (s.crash_states k) (s.crash_states m) (s.crash_states n) (apart.untouched.no_new_crash_state honest) (c.put_next-in-Ok-TooLarge.ensures.at_crash (subst IsTrue (sym makes.honest) honest)) in
    let reads_then : (s.site_state n).failed_reads ≡ a.failed_reads = ap (λ (h : SiteState). h.failed_reads) same ∙ makes.counts.reads in
    let writes_then : (s.site_state n).failed_writes ≡ a.failed_writes = ap (λ (h : SiteState). h.failed_writes) same ∙ makes.counts.writes in
    let usable_then : (s.site_state n).usable ≡ a.usable = ap (λ (h : SiteState). h.usable) same ∙ makes.still_usable ∙ sym c.requires.usable in
    let begins : Begins s.site_state s.lacks s.crash_states s.represents k l next grouped old new = record { usable = c.requires.usable; honest = works.worked.honest ∙ honest_then; represent = g.met.S.SiteKeeper.crash_states_represent k; represent_now = g.met.S.SiteKeeper.crash_states_represent l } in
    let fails = c.in-Err-answer_singly.ensures.works.fault in
    subst (λ (x : HubFault). CallOverKeeper s.site_state s.lacks s.crash_states s.represents (world_at a next grouped old) k Flush (Fault x) (world_at (s.site_state l) next grouped new) l) (sym fails.0)
    (split_failed_call s.site_state s.lacks s.crash_states s.represents k l next grouped old new begins apart.some apart.split fails.1
    (λ honest. subst (λ (x : ℕ). Rose x (s.site_state l).failed_writes) writes_then (c.in-Err-answer_singly.ensures.works.cause (then honest)))
    (λ honest. some_before s.represents a.site (s.site_state n).site (s.site_state l).site (s.crash_states k) (s.crash_states n) (s.crash_states l) (without_forms a.site old) between new (none honest) (site_then honest) (sessions_then honest) (c.in-Err-answer_singly.ensures.takes.fails (then honest)))
    (singly_failed_counts (world_at a next grouped old) (count_waiting between) c.in-Err-answer_singly.fault a (s.site_state n) (s.site_state l) fewer fails.0 honest_then usable_then reads_then writes_then c.in-Err-answer_singly.ensures.works))

pub returns-in-Err-answer_singly-clause-sessions : goal.returns-in-Err-answer_singly-clause-sessions
returns-in-Err-answer_singly-clause-sessions g c =
    let s = g.S.SiteKeeper in
    let a = s.site_state c.args.site.now in
    let m = s.site_state c.make_together.new.site in
    let all_sessions = c.in-Err-answer_singly.ensures.sessions in
    let beside = subst (λ (xs : List (Session g.row.S-Pin.Denot)). StandsBeside s.pinned a m (next_pins s.pinned c.make_together.new.next.items) xs) c.deref-2.ensures.value c.in-Ok-TooLarge.ensures.makes.stands in
    record { held = all_sessions.held; sound = all_sessions.sound; fewer = omega (arith, all_sessions.fewer, c.put_next-in-Ok-TooLarge.ensures.puts.fewer, ap count_waiting beside.seen) }

pub put_nobody-requires : goal.put_nobody-requires
put_nobody-requires g c = record { held = record { others = pins_of g.S.SiteKeeper.pinned c.deref-2.result.now; held = c.in-Err.ensures.makes.stands.held } }

pub returns-in-Err-clause-call : goal.returns-in-Err-clause-call
returns-in-Err-clause-call g c = λ next grouped.
    let s = g.S.SiteKeeper in
    let k = c.args.site.now in
    let m = c.make_together.new.site in
    let l = c.put_nobody.new.site in
    let a = s.site_state k in
    let items = c.args.sessions.now.items in
    let old = sessions_of s.pinned a items in
    let new = sessions_of s.pinned (s.site_state l) items in
    let makes = c.in-Err.ensures.makes in
    let gives = c.put_nobody.ensures.keeper in
    let beside = subst (λ (xs : List (Session g.row.S-Pin.Denot)). StandsBeside s.pinned a (s.site_state m) (next_pins s.pinned c.make_together.new.next.items) xs) c.deref-2.ensures.value makes.stands in
    let after = c.put_nobody.ensures.stands items beside.held in
    let counted : c.waiting_in-waiting.result ≡ count_waiting old = c.waiting_in-waiting.ensures.count s.pinned a ∙ ap (λ (xs : List (Session g.row.S-Pin.Denot)). count_waiting (sessions_of s.pinned a xs)) c.deref.ensures.value in
    let some : nat_lt 0 (count_waiting old) ≡ true = lt-ltb 0 (count_waiting old) (omega (arith, counted, c.if-waiting-eq0.false)) in
    let begins : Begins s.site_state s.lacks s.crash_states s.represents k l next grouped old new = record { usable = c.requires.usable; honest = ap (λ (h : SiteState). h.honest) gives.same ∙ makes.honest; represent = g.met.S.SiteKeeper.crash_states_represent k; represent_now = g.met.S.SiteKeeper.crash_states_represent l } in
    together_fault_call s.site_state s.lacks s.crash_states s.represents k l next grouped old new begins m c.in-Err.fault some
    (subst (λ (xs : List (Session g.row.S-Pin.Denot)). IsTogetherFault s.site_state s.lacks s.crash_states (group_of s.pinned a xs).changes k m c.in-Err.fault) c.deref-2.ensures.value makes.fault)
    (record { reads = makes.counts.reads; writes = makes.counts.writes })
    (λ honest. subst (λ (xs : List (Session g.row.S-Pin.Denot)). AddsOnly (s.crash_states k) (s.crash_states m) (λ x. s.represents x a.site ⊎ s.represents x (with_changes a.site (group_of s.pinned a xs).changes))) c.deref-2.ensures.value (makes.at_crash honest))
    gives (λ honest. c.put_nobody.ensures.at_crash (subst IsTrue (sym makes.honest) honest)) (after.seen ∙ beside.seen)

pub returns-in-Err-clause-sessions : goal.returns-in-Err-clause-sessions
returns-in-Err-clause-sessions g c =
    let s = g.S.SiteKeeper in
    let a = s.site_state c.args.site.now in
    let m = s.site_state c.make_together.new.site in
    let makes = c.in-Err.ensures.makes in
    let same = c.put_nobody.ensures.keeper.same in
    let beside = subst (λ (xs : List (Session g.row.S-Pin.Denot)). StandsBeside s.pinned a m (next_pins s.pinned c.make_together.new.next.items) xs) c.deref-2.ensures.value makes.stands in
    let after = c.put_nobody.ensures.stands c.args.sessions.now.items beside.held in
    record {
      held = after.held;
      sound = λ honest. after.sound (beside.sound (c.requires.stand.sound (subst IsTrue (ap (λ (h : SiteState). h.honest) same ∙ makes.honest) honest)));
      fewer = omega (arith, ap count_waiting (after.seen ∙ beside.seen));
    }
