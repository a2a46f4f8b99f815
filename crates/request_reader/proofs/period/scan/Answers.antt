use Rattle.std.proofs.Common.{◌-◌, length, take, drop, arith, ap, sym, ◌∙◌}
use Rattle.std.proofs.lemmas.List.{take_rest}
use Rattle.request_reader.specs.DataLines.{is_period}
use Rattle.request_reader.proofs.Periods.{scanned_past, period_found, lines_before, no_period}
use Rattle.request_reader.proofs.period.scan.Goals as goal

pub returns-then-end-rest-clause-found : goal.returns-then-end-rest-clause-found
returns-then-end-rest-clause-found c =
    let b = c.args.bytes.now in let at = c.loop-at.at in
    sym (no_period b (take (length b - at) (drop at b)) at c.first_of-end.result
    (record { scanned = c.loop-at.invariant; is = take_rest b at; place = c.first_of-end.ensures.place })
    c.if-end-rest.true)

pub returns-then-is_period-clause-found : goal.returns-then-is_period-clause-found
returns-then-is_period-clause-found c =
    let b = c.args.bytes.now in let at = c.loop-at.at in
    sym (period_found b (take (length b - at) (drop at b)) at c.first_of-end.result
    (record { scanned = c.loop-at.invariant; is = take_rest b at; place = c.first_of-end.ensures.place })
    (omega arith)
    (ap is_period (sym c.without_cr.ensures) ∙ sym c.is_period.ensures ∙ c.if-is_period.true))

pub returns-then-is_period-clause-lines : goal.returns-then-is_period-clause-lines
returns-then-is_period-clause-lines c _ =
    let b = c.args.bytes.now in let at = c.loop-at.at in
    lines_before b (take (length b - at) (drop at b)) at c.first_of-end.result
    (record { scanned = c.loop-at.invariant; is = take_rest b at; place = c.first_of-end.ensures.place })
    (omega arith)
    (ap is_period (sym c.without_cr.ensures) ∙ sym c.is_period.ensures ∙ c.if-is_period.true)

pub loop-at-preserved : goal.loop-at-preserved
loop-at-preserved c =
    let b = c.args.bytes.now in let at = c.loop-at.at in
    scanned_past b (take (length b - at) (drop at b)) at c.first_of-end.result
    (record { scanned = c.loop-at.invariant; is = take_rest b at; place = c.first_of-end.ensures.place })
    (omega arith)
    (ap is_period (sym c.without_cr.ensures) ∙ sym c.is_period.ensures ∙ c.if-is_period.false)
