use Rattle.std.proofs.Common.{◌≡◌, ◌+◌, ◌-◌, ◌<◌, true, false, ap, sym, subst, ◌∙◌, length, arith}
use Rattle.std.specs.List.{position_or_len}
use Rattle.host_types.specs.Lines.{without_cr}
use Rattle.request_reader.specs.RequestLine.{is_tab}
use Rattle.old_clients.specs.AdaptedRequest.{has_data, has_words}
use Rattle.old_clients.specs.Signs.{IsSign}
use Rattle.old_clients.proofs.Signs.{data_sign, flag_read, no_sign, no_tab, words_read, words_sign}
use Rattle.old_clients.proofs.line.sign_of.Goals as goal

pub returns-then-tab-content-clause-none : goal.returns-then-tab-content-clause-none
returns-then-tab-content-clause-none c =
    let content = c.without_cr-content.ensures in
    no_tab c.args.line.now (ap (position_or_len is_tab) (sym content) ∙ sym c.first_of-tab.ensures.place ∙ c.if-tab-content.true ∙ ap length content)

pub returns-then-eq-clause-found : goal.returns-then-eq-clause-found
returns-then-eq-clause-found c =
    let content = c.without_cr-content in
    let tab = c.first_of-tab in
    let place = tab.ensures.place ∙ ap (position_or_len is_tab) content.ensures in
    let less : tab.result < length content.result.now = omega (arith, tab.ensures.within, c.if-tab-content.false) in
    let flag : has_data (without_cr c.args.line.now) ≡ true = flag_read c.args.line.now content.result.now c.as_slice.result.now tab.result c.eq.result content.ensures tab.ensures.place c.as_slice.ensures c.eq.ensures ∙ c.if-eq.true in
    subst (λ n. IsSign c.args.line.now (n + 1)) (sym place) (data_sign c.args.line.now (omega (arith, less, place, ap length content.ensures)) flag)

pub returns-then-is_search-clause-found : goal.returns-then-is_search-clause-found
returns-then-is_search-clause-found c =
    let content = c.without_cr-content in
    let tab = c.first_of-tab in
    let place = tab.ensures.place ∙ ap (position_or_len is_tab) content.ensures in
    let less : tab.result < length content.result.now = omega (arith, tab.ensures.within, c.if-tab-content.false) in
    let flag : has_data (without_cr c.args.line.now) ≡ false = flag_read c.args.line.now content.result.now c.as_slice.result.now tab.result c.eq.result content.ensures tab.ensures.place c.as_slice.ensures c.eq.ensures ∙ c.if-eq.false in
    let words : has_words (without_cr c.args.line.now) ≡ true = words_read c.args.line.now content.result.now tab.result c.is_search.result content.ensures tab.ensures.place c.is_search.ensures ∙ c.if-is_search.true in
    subst (λ n. IsSign c.args.line.now (n - 1)) (sym (ap length content.ensures)) (words_sign c.args.line.now (omega (arith, less, place, ap length content.ensures)) flag words)

pub returns-clause-none : goal.returns-clause-none
returns-clause-none c =
    let content = c.without_cr-content in
    let tab = c.first_of-tab in
    let flag : has_data (without_cr c.args.line.now) ≡ false = flag_read c.args.line.now content.result.now c.as_slice.result.now tab.result c.eq.result content.ensures tab.ensures.place c.as_slice.ensures c.eq.ensures ∙ c.if-eq.false in
    let words : has_words (without_cr c.args.line.now) ≡ false = words_read c.args.line.now content.result.now tab.result c.is_search.result content.ensures tab.ensures.place c.is_search.ensures ∙ c.if-is_search.false in
    no_sign c.args.line.now flag words
