use Rattle.std.proofs.Common.{◌≡◌, ◌++◌, ◌+◌, ◌∷◌, [], List, ℕ, take, sym, ap, ◌∙◌, append_assoc}
use Rattle.std.proofs.lemmas.List.{take_more}
use Rattle.page_store.specs.Pages.{Pair}
use Rattle.page_store.specs.Encoding.{entries_bytes, entry_bytes}
use Rattle.page_store.proofs.PairsByPage.{entries_push}
use Rattle.page_store.proofs.encoding.put_entries.Goals as goal

pub loop-pair-preserved : goal.loop-pair-preserved
loop-pair-preserved c =
    let i = c.loop-pair.pair-index in
    let pairs = c.args.pairs.now in
    let pair = c.pair-item.result in
    let more = take_more pairs i pair c.loop-pair-test.true in
    let is = c.pair-item.is in
    let push = entries_push (take i pairs) pair in
    let more2 : take (i + 1) pairs ≡ take i pairs ++ pair ∷ [] = more ∙ ap (λ (x : Pair). take i pairs ++ x ∷ []) (sym is) in
    c.in_ok-put_entry.ensures ∙ ap (λ (x : List ℕ). x ++ entry_bytes pair) c.loop-pair.invariant
    ∙ append_assoc c.args.out.now.items (entries_bytes (take i pairs)) (entry_bytes pair) ∙ ap (λ (x : List ℕ). c.args.out.now.items ++ x) (sym push ∙ ap entries_bytes (sym more2))
