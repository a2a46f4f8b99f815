use Rattle.std.proofs.Common.{◌≡◌, ◌≤◌, ◌+◌, ◌*◌, ℕ, true, List, Option, Some, length, sym, ap, subst, ◌∙◌, arith}
use Rattle.std.specs.Prelude.{IfSome}
use Rattle.std.proofs.lemmas.List.Elements.{All-push}
use Rattle.page_store.specs.Batch.{pair_after}
use Rattle.page_store.specs.Pages.{Pair}
use Rattle.site_store.specs.ReadLaws.{none_later}
use Rattle.site_store.specs.Opening.{last_key}
use Rattle.site_store.proofs.AfterReads.{done, fails, read_on}
use Rattle.page_store.proofs.PairsInOrder.{first_more, first_all}
use Rattle.std.proofs.lemmas.Bool.{false_from_ne_true}
use Rattle.page_store.specs.Work.{ReadsPages, pages_tried}
use Rattle.site_store.proofs.PagesSearched.{one_search_more, searched_behind, one_pair_more}
use Rattle.site_store.proofs.opening.pairs_of.Goals as goal

pub returns-in-Ok-None : goal.returns-in-Ok-None
returns-in-Ok-None g c =
    let store_state = g.K.Keeper.store_state in
    let inv = c.loop.invariant in
    let read = inv.only.read in
    let last = c.in-Ok-None.ensures.pair in
    record {
      pairs = record {
        reads = done (read_on inv.only last.reads.only) (none_later (store_state c.args.keeper.now) (store_state c.loop.keeper) (store_state c.pair_behind.new.keeper) inv.none last.reads.none) (λ honest.
            first_all c.loop.pairs.items (store_state c.args.keeper.now).pairs (g.met.K.Keeper.ordered c.args.keeper.now honest) (inv.first honest)
            (sym c.in-Ok-None.field-0-is ∙ last.reads.gives (read.honest ∙ honest) ∙ ap (λ (l : List Pair). pair_after (store_state c.loop.keeper).pairs (last_key l)) c.deref.ensures.value ∙ ap (λ (l : List Pair). pair_after l (last_key c.loop.pairs.items)) (read.same.pairs honest)));
        closed = λ shut. let clash = last.closed (read.same.usable ∙ shut) in absurd (cc clash);
      };
      fit = inv.fit;
      keys = inv.keys;
      counted =
          let told = c.are_all.ensures.0 c.if-are_all.true in
          let same = (read_on inv.only last.reads.only).read.same.keys in
          cc (told, same);
      work =
          let told = c.are_all.ensures.0 c.if-are_all.true in
          let same = (read_on inv.only last.reads.only).read.same.keys in
          let count : length c.loop.pairs.items ≡ (store_state c.args.keeper.now).keys = cc (told, same) in
          let each = pages_tried (store_state c.args.keeper.now).height in
          let searched = one_search_more (length c.loop.pairs.items) each inv.work (searched_behind (store_state c.args.keeper.now) (store_state c.loop.keeper) read c.pair_behind.ensures.work) in
          subst (λ (n : ℕ). ReadsPages ((n + 1) * each) (store_state c.args.keeper.now).made (store_state c.pair_behind.new.keeper).made) count searched;
    }

pub returns-in-Ok-None-2-clause-pairs : goal.returns-in-Ok-None-2-clause-pairs
returns-in-Ok-None-2-clause-pairs g c =
    let store_state = g.K.Keeper.store_state in
    let inv = c.loop.invariant in
    let read = inv.only.read in
    let last = c.in-Ok-None.ensures.pair in
    let only = read_on inv.only last.reads.only in
    record {
      reads = record {
        gives = λ honest. tt;
        only = only;
        none = tt;
        fault = (
          false_from_ne_true (store_state c.args.keeper.now).honest (λ honest.
              let all =
              first_all c.loop.pairs.items (store_state c.args.keeper.now).pairs (g.met.K.Keeper.ordered c.args.keeper.now honest) (inv.first honest)
              (sym c.in-Ok-None.field-0-is ∙ last.reads.gives (read.honest ∙ honest) ∙ ap (λ (l : List Pair). pair_after (store_state c.loop.keeper).pairs (last_key l)) c.deref.ensures.value ∙ ap (λ (l : List Pair). pair_after l (last_key c.loop.pairs.items)) (read.same.pairs honest)) in
              let many = ap (λ (l : List Pair). length l) all in
              let counted = g.met.K.Keeper.counts c.args.keeper.now honest in
              let same = only.read.same.keys in
              let found : c.are_all.result ≡ true = c.are_all.ensures.1 (cc (many, counted, same)) in
              let not_found = c.if-are_all.false in
              absurd (cc (found, not_found))),
          none_later (store_state c.args.keeper.now) (store_state c.loop.keeper) (store_state c.pair_behind.new.keeper) inv.none last.reads.none,
        );
      };
      closed = λ shut. let clash = last.closed (read.same.usable ∙ shut) in absurd (cc clash);
    }

pub loop-preserved : goal.loop-preserved
loop-preserved g c =
    let store_state = g.K.Keeper.store_state in
    let inv = c.loop.invariant in
    let read = inv.only.read in
    let next = c.in-Ok-Some.ensures.pair in
    record {
      only = read_on inv.only next.reads.only;
      none = none_later (store_state c.args.keeper.now) (store_state c.loop.keeper) (store_state c.pair_behind.new.keeper) inv.none next.reads.none;
      first = λ honest.
          let found : Some c.in-Ok-Some.pair ≡ pair_after (store_state c.args.keeper.now).pairs (last_key c.loop.pairs.items) =
          sym c.in-Ok-Some.field-0-is ∙ next.reads.gives (read.honest ∙ honest) ∙ ap (λ (l : List Pair). pair_after (store_state c.loop.keeper).pairs (last_key l)) c.deref.ensures.value ∙ ap (λ (l : List Pair). pair_after l (last_key c.loop.pairs.items)) (read.same.pairs honest) in
          let more = first_more c.loop.pairs.items (store_state c.args.keeper.now).pairs c.in-Ok-Some.pair (g.met.K.Keeper.ordered c.args.keeper.now honest) (inv.first honest) found in
          rw c.in_ok-push-in-Ok-Some.ensures.items more;
      fit = rw c.in_ok-push-in-Ok-Some.ensures.items (All-push (λ p. length p.1 ≤ 1024) c.loop.pairs.items c.in-Ok-Some.pair inv.fit (subst (λ (o : Option Pair). IfSome o (λ p. length p.1 ≤ 1024)) c.in-Ok-Some.field-0-is c.in-Ok-Some.ensures.fit));
      keys = rw c.in_ok-push-in-Ok-Some.ensures.items (All-push (λ p. length p.0 ≤ 300) c.loop.pairs.items c.in-Ok-Some.pair inv.keys (subst (λ (o : Option Pair). IfSome o (λ p. length p.0 ≤ 300)) c.in-Ok-Some.field-0-is c.in-Ok-Some.ensures.keys));
      work = rw c.in_ok-push-in-Ok-Some.ensures.items (one_pair_more c.loop.pairs.items c.in-Ok-Some.pair (pages_tried (store_state c.args.keeper.now).height) inv.work (searched_behind (store_state c.args.keeper.now) (store_state c.loop.keeper) read c.pair_behind.ensures.work));
      shut = λ shut. let clash = next.closed (read.same.usable ∙ shut) in absurd (cc clash);
    }

pub returns : goal.returns
returns g c = record {
  pairs = record {
    reads = fails c.loop.invariant.only c.loop.invariant.none;
    closed = λ shut. absurd (let none = c.loop.invariant.shut shut in omega (arith, none, c.loop-test.false));
  };
  fit = tt;
  keys = tt;
  counted = tt;
  work = tt;
}
