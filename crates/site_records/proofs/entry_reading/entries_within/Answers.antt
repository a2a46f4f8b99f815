use Rattle.std.proofs.Common.{◌≡◌, ◌-◌, ◌+◌, List, false, eqb, length, suc, Option, Some, None, ap, sym, subst, ◌∙◌, arith}
use Rattle.std.specs.Prelude.{IsTrue}
use Rattle.std.proofs.lemmas.Bool.Decides.{nat_tests}
use Rattle.std.proofs.lemmas.Result.{err_from_is_err_and}
use Rattle.host_types.specs.declared.menu.Entry.{Entry}
use Rattle.site_records.specs.Field.{until_end, with_all}
use Rattle.site_records.specs.Reading.{ReadingFails, entry_at}
use Rattle.site_records.specs.declared.record.RecordFault.{RecordFault}
use Rattle.site_records.proofs.Loops.{until_more, until_done, until_stop, until_fails}
use Rattle.site_records.proofs.entry_reading.entries_within.Goals as goal

pub loop-count-preserved : goal.loop-count-preserved
loop-count-preserved c =
    let t = c.loop-count-test.true in
    let all = until_end entry_at c.args.most c.args.bytes.now in
    let is : c.args.most - c.loop-count.count ≡ suc (c.args.most - (c.loop-count.count + 1)) = omega (arith, t) in
    let more : eqb (length c.loop-count.rest.now) 0 ≡ false = sym c.is_empty.ensures ∙ c.if-is_empty.false in
    let added = c.in_ok-is_added.ensures.added in
    let there : IsTrue c.in_ok-is_added.is_added = grind (arith, nat_tests) in
    subst (λ (l : List Entry). with_all l (until_end entry_at (c.args.most - (c.loop-count.count + 1)) c.in_ok-is_added.behind.now) ≡ all) (sym (added.2 there))
    (until_more entry_at c.loop-count.entries.items (c.args.most - c.loop-count.count) (c.args.most - (c.loop-count.count + 1)) added.0 c.loop-count.rest.now c.in_ok-is_added.behind.now all is more added.1 c.loop-count.invariant)

pub returns-then-is_empty : goal.returns-then-is_empty
returns-then-is_empty c =
    until_done entry_at c.loop-count.entries.items (c.args.most - c.loop-count.count) c.loop-count.rest.now (until_end entry_at c.args.most c.args.bytes.now) (sym c.is_empty.ensures ∙ c.if-is_empty.true) c.loop-count.invariant
    ∙ ap (λ (l : List Entry). Some l) (sym c.from.ensures)

pub returns-in_err-is_added : goal.returns-in_err-is_added
returns-in_err-is_added c =
    let t = c.loop-count-test.true in
    let all = until_end entry_at c.args.most c.args.bytes.now in
    let is : c.args.most - c.loop-count.count ≡ suc (c.args.most - (c.loop-count.count + 1)) = omega (arith, t) in
    let fault = c.in_err-is_added.ensures.fault in
    let none : all ≡ None = until_stop entry_at c.loop-count.entries.items (c.args.most - c.loop-count.count) (c.args.most - (c.loop-count.count + 1)) c.loop-count.rest.now all is (sym c.is_empty.ensures ∙ c.if-is_empty.false) fault.1 c.loop-count.invariant in
    let p = err_from_is_err_and c.from_residual.result c.from_residual.ensures.1 in
    rw (p.1, p.2) (subst (λ (e : RecordFault). ReadingFails e all) (sym fault.0) none)

pub returns-then-not-is_added : goal.returns-then-not-is_added
returns-then-not-is_added c =
    let t = c.loop-count-test.true in
    let all = until_end entry_at c.args.most c.args.bytes.now in
    let is : c.args.most - c.loop-count.count ≡ suc (c.args.most - 1 - c.loop-count.count) = omega (arith, t) in
    let added = c.in_ok-is_added.ensures.added in
    until_fails entry_at c.loop-count.entries.items (c.args.most - c.loop-count.count) (c.args.most - 1 - c.loop-count.count) added.0 c.loop-count.rest.now c.in_ok-is_added.behind.now all c.lacking-then-not-is_added.result
    is (sym c.is_empty.ensures ∙ c.if-is_empty.false) added.1 c.loop-count.invariant c.lacking-then-not-is_added.ensures
