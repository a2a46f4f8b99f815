use Rattle.std.proofs.Common.{◌≡◌, ◌≤◌, true, List, [], ◌∷◌, length, Option, Some, None, refl, sym, ap, subst, ◌∙◌, arith, rules}
use Rattle.std.specs.Prelude.{IfSome}
use Rattle.std.proofs.lemmas.List.{length-append}
use Rattle.common_types.specs.CrashStates.{adds_none_again}
use Rattle.page_store.specs.Pages.{Pair}
use Rattle.page_store.specs.Batch.{pair_after}
use Rattle.page_store.specs.PairsInOrder.{last_key}
use Rattle.page_store.proofs.PairsInOrder.{first_more, first_all}
use Rattle.page_store.specs.Sectors.{page_of}
use Rattle.cow_tree.specs.KeysCounted.{keys_told}
use Rattle.cow_tree.specs.TreeState.{found_under}
use Rattle.cow_tree.specs.TreeSeen.{held, kept_by}
use Rattle.cow_tree.proofs.DraftsBegin.{keys_bounded}
use Rattle.cow_tree.proofs.PairsRead.{map_more, first_few}
use Rattle.site_store.specs.ReadLaws.{read_later}
use Rattle.image_copies.proofs.PairsRead.{not_read_since, pair_fits}
use Rattle.image_copies.proofs.all_pairs.all_pairs.Goals as goal

pub pair_behind-requires : goal.pair_behind-requires
pair_behind-requires g c = record { usable = c.loop.invariant.only.same.usable ∙ c.requires.usable }

pub returns-in-Ok-None-clause-pairs : goal.returns-in-Ok-None-clause-pairs
returns-in-Ok-None-clause-pairs g c = λ honest.
    let state = g.D.Device.state in
    let inv = c.loop.invariant in
    let old = held state c.args.keeper.now in
    let mid = held state c.loop.keeper in
    first_all c.loop.pairs.items old.pairs ((c.args.keeper.now.there honest).map) (inv.first honest)
    (sym c.in-Ok-None.field-0-is ∙ c.in-Ok-None.ensures.pair (inv.only.honest ∙ honest) ∙ ap (λ (l : List Pair). pair_after mid.pairs (last_key l)) c.deref.ensures.value ∙ ap (λ (l : List Pair). pair_after l (last_key c.loop.pairs.items)) (inv.only.same.pairs honest))

pub returns-in-Ok-None-clause-reads : goal.returns-in-Ok-None-clause-reads
returns-in-Ok-None-clause-reads g c = record {
  kept = read_later (held g.D.Device.state c.args.keeper.now) (held g.D.Device.state c.loop.keeper) (held g.D.Device.state c.pair_behind.new.keeper) c.loop.invariant.only c.in-Ok-None.ensures.reads.kept;
  counts = search rules;
  fault = search rules;
  at_crash = search rules;
}

pub returns-in-Ok-None-clause-counted : goal.returns-in-Ok-None-clause-counted
returns-in-Ok-None-clause-counted g c =
    let told = c.are_all.ensures.0 c.if-are_all.true in
    let same = (read_later (held g.D.Device.state c.args.keeper.now) (held g.D.Device.state c.loop.keeper) (held g.D.Device.state c.pair_behind.new.keeper) c.loop.invariant.only c.in-Ok-None.ensures.reads.kept).same.keys in
    cc (told, same)

pub returns-in-Ok-None-2-clause-reads : goal.returns-in-Ok-None-2-clause-reads
returns-in-Ok-None-2-clause-reads g c = record {
  kept = read_later (held g.D.Device.state c.args.keeper.now) (held g.D.Device.state c.loop.keeper) (held g.D.Device.state c.pair_behind.new.keeper) c.loop.invariant.only c.in-Ok-None.ensures.reads.kept;
  counts = search rules;
  fault = (
    refl,
    λ honest.
        let state = g.D.Device.state in
        let inv = c.loop.invariant in
        let old = held state c.args.keeper.now in
        let mid = held state c.loop.keeper in
        let keeper = c.args.keeper.now in
        let view = (state keeper.device).disk.view in
        let all =
        first_all c.loop.pairs.items old.pairs ((c.args.keeper.now.there honest).map) (inv.first honest)
        (sym c.in-Ok-None.field-0-is ∙ c.in-Ok-None.ensures.pair (inv.only.honest ∙ honest) ∙ ap (λ (l : List Pair). pair_after mid.pairs (last_key l)) c.deref.ensures.value ∙ ap (λ (l : List Pair). pair_after l (last_key c.loop.pairs.items)) (inv.only.same.pairs honest)) in
        let counted = keys_told keeper.slot (page_of view) (found_under keeper.slot view) (keeper.there honest).found_is in
        let same = (read_later old mid (held state c.pair_behind.new.keeper) inv.only c.in-Ok-None.ensures.reads.kept).same.keys in
        let found : c.are_all.result ≡ true = c.are_all.ensures.1 (cc (all, counted, same)) in
        let not_found = c.if-are_all.false in
        absurd (cc (found, not_found)),
  );
  at_crash = search rules;
}

pub returns-in-Err-clause-reads : goal.returns-in-Err-clause-reads
returns-in-Err-clause-reads g c = record {
  kept = read_later (held g.D.Device.state c.args.keeper.now) (held g.D.Device.state c.loop.keeper) (held g.D.Device.state c.pair_behind.new.keeper) c.loop.invariant.only c.in-Err.ensures.reads.kept;
  counts = search rules;
  fault = not_read_since (held g.D.Device.state c.args.keeper.now) (held g.D.Device.state c.loop.keeper) (held g.D.Device.state c.pair_behind.new.keeper) c.in-Err.fault c.loop.invariant.only.honest c.loop.invariant.none c.in-Err.ensures.reads.fault;
  at_crash = search rules;
}

pub returns-clause-reads : goal.returns-clause-reads
returns-clause-reads g c = record {
  kept = search rules;
  counts = search rules;
  fault = (
    refl,
    λ honest.
        let state = g.D.Device.state in
        let inv = c.loop.invariant in
        let keeper = c.args.keeper.now in
        let most = keys_bounded (state keeper.device).size keeper.slot (state keeper.device).disk.view keeper.ledger keeper.fitted (keeper.there honest) in
        let few = first_few c.loop.pairs.items (held state keeper).pairs (inv.first honest) in
        let many = inv.many in
        let end = c.loop-test.false in
        absurd (omega (arith, most, few, many, end)),
  );
  at_crash = search rules;
}

pub loop-preserved : goal.loop-preserved
loop-preserved g c =
    let state = g.D.Device.state in
    let inv = c.loop.invariant in
    let old = held state c.args.keeper.now in
    let mid = held state c.loop.keeper in
    let next = c.in-Ok-Some.ensures in
    let items = c.in_ok-push-in-Ok-Some.ensures.items in
    let kept = kept_by c.pair_behind.new.keeper in
    let told : Some c.in-Ok-Some.pair ≡ pair_after kept (last_key c.loop.pairs.items) = sym c.in-Ok-Some.field-0-is ∙ next.tells ∙ ap (λ (l : List Pair). pair_after kept (last_key l)) c.deref.ensures.value in
    let short = subst (λ (o : Option Pair). IfSome o (λ p. length p.0 ≤ 300)) c.in-Ok-Some.field-0-is next.short in
    let few = subst (λ (o : Option Pair). IfSome o (λ p. length p.1 ≤ 1024)) c.in-Ok-Some.field-0-is next.few in
    let fits = pair_fits kept (last_key c.loop.pairs.items) c.in-Ok-Some.pair told short few in
    record {
      only = read_later old mid (held state c.pair_behind.new.keeper) inv.only next.reads.kept;
      none = next.reads.counts ∙ inv.none;
      first = λ honest.
          let found : Some c.in-Ok-Some.pair ≡ pair_after old.pairs (last_key c.loop.pairs.items) =
          sym c.in-Ok-Some.field-0-is ∙ next.pair (inv.only.honest ∙ honest) ∙ ap (λ (l : List Pair). pair_after mid.pairs (last_key l)) c.deref.ensures.value ∙ ap (λ (l : List Pair). pair_after l (last_key c.loop.pairs.items)) (inv.only.same.pairs honest) in
          let more = first_more c.loop.pairs.items old.pairs c.in-Ok-Some.pair ((c.args.keeper.now.there honest).map) (inv.first honest) found in
          rw items more;
      map = rw items (map_more c.loop.pairs.items c.in-Ok-Some.pair inv.map fits.0 fits.1);
      many =
          let all = ap (λ (l : List Pair). length l) items in
          let one = length-append c.loop.pairs.items (c.in-Ok-Some.pair ∷ []) in
          let so_far = inv.many in
          omega (arith, all, one, so_far);
      crash = λ honest. adds_none_again _ _ _ (inv.crash honest) (next.reads.at_crash (inv.only.honest ∙ honest));
    }
