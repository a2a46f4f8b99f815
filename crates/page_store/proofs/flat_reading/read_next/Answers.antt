use Rattle.std.proofs.Common.{◌≡◌, ℕ, inl, inr, length, drop, sym, ap, ◌∙◌, Some}
use Rattle.page_store.specs.Flat.{flat_page, with_front}
use Rattle.page_store.proofs.Parsing.{next_unread, next_refused, next_taken}
use Rattle.page_store.proofs.flat_reading.read_next.Goals as goal

pub returns-in_default : goal.returns-in_default
returns-in_default c = let e = rw c.in_default.is at c.in_ok-left.ensures in next_unread c.args.seal c.args.page c.args.room c.args.keys c.args.bytes.now c.args.pairs.now.items e

pub returns-then-not-is_over : goal.returns-then-not-is_over
returns-then-not-is_over c =
    let old = c.args.pairs.now.items in
    let e : Some (c.read_flat.new.pairs.items, c.in-Some.left) ≡ with_front old (flat_page c.args.seal c.args.page c.args.bytes.now) = rw c.in-Some.is at c.in_ok-left.ensures in
    let slice : c.split_at.result.1.now ≡ drop (length old) c.read_flat.new.pairs.items =
    c.split_at.ensures.back ∙ ap (λ (n : ℕ). drop n c.as_slice.result.now) (ap length c.as_slice-start.ensures.value) ∙ ap (drop (length old)) c.as_slice.ensures.value in
    next_refused c.args.seal c.args.page c.args.room c.args.keys c.in-Some.left c.args.bytes.now old c.read_flat.new.pairs.items c.split_at.result.1.now e slice (inl (sym c.is_over.ensures ∙ c.if-not-is_over.true))

pub returns-then-count-keys : goal.returns-then-count-keys
returns-then-count-keys c =
    let old = c.args.pairs.now.items in
    let e : Some (c.read_flat.new.pairs.items, c.in-Some.left) ≡ with_front old (flat_page c.args.seal c.args.page c.args.bytes.now) = rw c.in-Some.is at c.in_ok-left.ensures in
    let slice : c.split_at.result.1.now ≡ drop (length old) c.read_flat.new.pairs.items =
    c.split_at.ensures.back ∙ ap (λ (n : ℕ). drop n c.as_slice.result.now) (ap length c.as_slice-start.ensures.value) ∙ ap (drop (length old)) c.as_slice.ensures.value in
    next_refused c.args.seal c.args.page c.args.room c.args.keys c.in-Some.left c.args.bytes.now old c.read_flat.new.pairs.items c.split_at.result.1.now e slice (inr c.if-count-keys.true)

pub returns : goal.returns
returns c =
    let old = c.args.pairs.now.items in
    let e : Some (c.read_flat.new.pairs.items, c.in-Some.left) ≡ with_front old (flat_page c.args.seal c.args.page c.args.bytes.now) = rw c.in-Some.is at c.in_ok-left.ensures in
    let slice : c.split_at.result.1.now ≡ drop (length old) c.read_flat.new.pairs.items =
    c.split_at.ensures.back ∙ ap (λ (n : ℕ). drop n c.as_slice.result.now) (ap length c.as_slice-start.ensures.value) ∙ ap (drop (length old)) c.as_slice.ensures.value in
    next_taken c.args.seal c.args.page c.args.room c.args.keys c.in-Some.left c.args.bytes.now old c.read_flat.new.pairs.items c.split_at.result.1.now e slice (sym c.is_over.ensures ∙ c.if-not-is_over.false) c.if-count-keys.false
