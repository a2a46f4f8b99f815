use Rattle.std.proofs.Common.{◌≡◌, ◌++◌, true, false, ap, sym, subst, ◌∙◌, take, drop, length, arith}
use Rattle.std.specs.List.{list_any}
use Rattle.host_types.specs.Lines.{is_lf, without_cr}
use Rattle.old_clients.specs.AdaptedRequest.{adapted_line, is_old}
use Rattle.old_clients.proofs.Hearings.{ended_passes, ended_says, lacks_drop, long_passes, long_says}
use Rattle.old_clients.proofs.Requests.{lacks_front}
use Rattle.old_clients.proofs.request.RequestAdapter.hear.Goals as goal

pub returns-then-end-len-clause-passes : goal.returns-then-end-len-clause-passes
returns-then-end-len-clause-passes c more =
    let inside = c.self.inside in
    let waits = c.self.invariant.1 c.if-not-self.false in
    let end = c.first_of-end in
    let hears : c.args.self.now.hears ≡ true = ap (λ a. a.hears) (sym c.self.view_is) ∙ c.if-not-self.false in
    let lacks : list_any is_lf c.args.self.now.held ≡ false = subst (λ a. list_any is_lf a.held ≡ false) c.self.view_is (lacks_drop inside.given inside.held.items waits.0 waits.1) in
    let size : length c.args.self.now.held ≡ length inside.held.items = ap (λ a. length a.held) (sym c.self.view_is) ∙ ap (λ n. length (drop n inside.held.items)) waits.0 in
    ap (λ a. a.held ++ (c.args.chunk.now ++ more)) c.self.view_is
    ∙ long_passes c.args.self.now c.args.chunk.now end.result hears lacks end.ensures.place end.ensures.within (omega (arith, size, c.if-end-len.true, c.len.ensures.value)) more

pub returns-then-end-len-clause-rewrites : goal.returns-then-end-len-clause-rewrites
returns-then-end-len-clause-rewrites c more =
    let inside = c.self.inside in
    let waits = c.self.invariant.1 c.if-not-self.false in
    let end = c.first_of-end in
    let hears : c.args.self.now.hears ≡ true = ap (λ a. a.hears) (sym c.self.view_is) ∙ c.if-not-self.false in
    let lacks : list_any is_lf c.args.self.now.held ≡ false = subst (λ a. list_any is_lf a.held ≡ false) c.self.view_is (lacks_drop inside.given inside.held.items waits.0 waits.1) in
    let size : length c.args.self.now.held ≡ length inside.held.items = ap (λ a. length a.held) (sym c.self.view_is) ∙ ap (λ n. length (drop n inside.held.items)) waits.0 in
    waits.2 ∙ long_says c.args.self.now c.args.chunk.now end.result hears lacks end.ensures.place end.ensures.within (omega (arith, size, c.if-end-len.true, c.len.ensures.value)) more

pub hold-requires-clause-line : goal.hold-requires-clause-line
hold-requires-clause-line c = ap (λ n. list_any is_lf (take n c.args.chunk.now)) c.first_of-end.ensures.place ∙ lacks_front c.args.chunk.now

pub returns-then-end-chunk-clause-passes : goal.returns-then-end-chunk-clause-passes
returns-then-end-chunk-clause-passes c =
    let inside = c.self.inside in
    let waits = c.self.invariant.1 c.if-not-self.false in
    let end = c.first_of-end in
    let hears : c.args.self.now.hears ≡ true = ap (λ a. a.hears) (sym c.self.view_is) ∙ c.if-not-self.false in
    let lacks : list_any is_lf c.args.self.now.held ≡ false = subst (λ a. list_any is_lf a.held ≡ false) c.self.view_is (lacks_drop inside.given inside.held.items waits.0 waits.1) in
    let size : length c.args.self.now.held ≡ length inside.held.items = ap (λ a. length a.held) (sym c.self.view_is) ∙ ap (λ n. length (drop n inside.held.items)) waits.0 in
    ended_passes c.args.self.now c.end_line.new.self c.args.chunk.now end.result hears lacks end.ensures.place c.if-end-chunk.true (omega (arith, size, c.if-end-len.false, c.len.ensures.value)) c.end_line.ensures.hears
    (c.end_line.ensures.line ∙ ap adapted_line c.hold.ensures.held)

pub returns-then-end-chunk-clause-rewrites : goal.returns-then-end-chunk-clause-rewrites
returns-then-end-chunk-clause-rewrites c =
    let inside = c.self.inside in
    let waits = c.self.invariant.1 c.if-not-self.false in
    let end = c.first_of-end in
    let hears : c.args.self.now.hears ≡ true = ap (λ a. a.hears) (sym c.self.view_is) ∙ c.if-not-self.false in
    let lacks : list_any is_lf c.args.self.now.held ≡ false = subst (λ a. list_any is_lf a.held ≡ false) c.self.view_is (lacks_drop inside.given inside.held.items waits.0 waits.1) in
    let size : length c.args.self.now.held ≡ length inside.held.items = ap (λ a. length a.held) (sym c.self.view_is) ∙ ap (λ n. length (drop n inside.held.items)) waits.0 in
    ended_says c.args.self.now c.end_line.new.self c.args.chunk.now end.result hears lacks end.ensures.place c.if-end-chunk.true (omega (arith, size, c.if-end-len.false, c.len.ensures.value)) c.end_line.ensures.hears
    (c.end_line.ensures.old ∙ ap (λ l. is_old (without_cr l)) c.hold.ensures.held)
