use Rattle.std.proofs.Common.{ℕ, length, ◌∙◌, arith, ⊎_elim, inl, inr}
use Rattle.page_alloc.specs.declared.runs.Runs.{Runs}
use Rattle.page_alloc.specs.Runs.{Use, Retired, Held, Taken, Free, use_of}
use Rattle.page_alloc.proofs.Changes.{changes_twice}
use Rattle.page_alloc.proofs.runs.Runs.release.Goals as goal

uses : Runs → ℕ → Use
uses runs = use_of runs.starts runs.order.places.items

size : Runs → ℕ
size runs = length runs.order.pages.items

pub returns-clause-moves : goal.returns-clause-moves
unfolding uses size
returns-clause-moves c =
    let r0 = c.args.self.now in
    let r1 = c.waiting_to_retired.new.self in
    let r2 = c.retired_to_held.new.self in
    let r3 = c.held_to_taken.new.self in
    let r4 = c.taken_to_free.new.self in
    let n = size r0 in
    let page = c.args.page in
    let s1 = c.waiting_to_retired.ensures.moves.size in
    let s2 = c.retired_to_held.ensures.moves.size ∙ s1 in
    let s3 = c.held_to_taken.ensures.moves.size ∙ s2 in
    let two = changes_twice n (size r1) page Retired Held (uses r0) (uses r1) (uses r2) s1 c.waiting_to_retired.ensures.moves.uses c.retired_to_held.ensures.moves.uses in
    let three = changes_twice n (size r2) page Held Taken (uses r0) (uses r2) (uses r3) s2 two c.held_to_taken.ensures.moves.uses in
    record {
      uses = changes_twice n (size r3) page Taken Free (uses r0) (uses r3) (uses r4) s3 three c.taken_to_free.ensures.moves.uses;
      size = c.taken_to_free.ensures.moves.size ∙ s3;
    }

pub returns-clause-waiting : goal.returns-clause-waiting
returns-clause-waiting c = λ p lt below.
    let s1 = c.waiting_to_retired.ensures.moves.size in
    let s2 = c.retired_to_held.ensures.moves.size in
    let s3 = c.held_to_taken.ensures.moves.size in
    let e1 = c.waiting_to_retired.ensures.retired in
    let e2 = c.retired_to_held.ensures.waiting.retired in
    let e3 = c.held_to_taken.ensures.waiting.retired in
    let e4 = c.taken_to_free.ensures.waiting.retired in
    let m4 = c.taken_to_free.ensures.waiting.places p (omega (arith, lt, s1, s2, s3)) below in
    let m3 = c.held_to_taken.ensures.waiting.places p (omega (arith, lt, s1, s2)) (omega (arith, below, m4, e4)) in
    let m2 = c.retired_to_held.ensures.waiting.places p (omega (arith, lt, s1)) (omega (arith, below, m4, m3, e4, e3)) in
    let m1 = c.waiting_to_retired.ensures.waiting p lt (omega (arith, below, m4, m3, m2, e4, e3, e2)) in
    ⊎_elim (λ same. inl (m4 ∙ m3 ∙ m2 ∙ same)) (λ last. inr (omega (arith, last, e4, e3, e2))) m1
