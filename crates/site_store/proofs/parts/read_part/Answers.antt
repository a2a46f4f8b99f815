use Rattle.std.proofs.Common.{rules, ◌≡◌, ◌+◌, ◌*◌, ℕ, List, take, sym, ap, subst, ◌∙◌, arith}
use Rattle.std.specs.Prelude.{IsTrue}
use Rattle.page_store.specs.Pages.{Pair}
use Rattle.site_store.specs.ReadLaws.{none_later}
use Rattle.site_records.specs.Layout.{chunk_count}
use Rattle.site_store.specs.StoreReads.{HasPart}
use Rattle.site_store.proofs.PagesSearched.{one_look_up_more, more_look_ups}
use Rattle.site_store.proofs.AfterReads.{fails, read_on}
use Rattle.site_store.proofs.LocalReads.{fault_later}
use Rattle.site_store.proofs.parts.read_part.Goals as goal

pub returns-in-Err-clause-bytes : goal.returns-in-Err-clause-bytes
returns-in-Err-clause-bytes g c =
    let store_state = g.V.ValueLookup.store_state in
    let only = c.loop-k.invariant.only in
    let chunk = c.in-Err.ensures.bytes.reads in
    fails (read_on only chunk.only) (fault_later (store_state c.args.from.now) (store_state c.loop-k.from) (store_state c.add_chunk.new.from) c.in-Err.fault only.read c.loop-k.invariant.none
    (λ honest known. (known.0, (known.1.0, subst (λ (ps : List Pair). HasPart ps c.args.selector.now c.args.part known.0) (sym (only.read.same.pairs honest)) known.1.1))) chunk.fault)

pub returns-in-Err-clause-work : goal.returns-in-Err-clause-work
unfolding chunk_count
returns-in-Err-clause-work g c =
    let store_state = g.V.ValueLookup.store_state in
    let inv = c.loop-k.invariant in
    let lt = c.loop-k-test.true in
    more_look_ups (c.loop-k.k + 1) (chunk_count c.args.size) (store_state c.args.from.now) (store_state c.add_chunk.new.from) (omega (arith, lt))
    (one_look_up_more c.loop-k.k (store_state c.args.from.now) (store_state c.loop-k.from) (store_state c.add_chunk.new.from) inv.only.read inv.work c.add_chunk.ensures.work)

pub returns-clause-work : goal.returns-clause-work
unfolding chunk_count
returns-clause-work g c = more_look_ups c.loop-k.k (chunk_count c.args.size) (g.V.ValueLookup.store_state c.args.from.now) (g.V.ValueLookup.store_state c.loop-k.from) (omega (arith, c.loop-k.auto)) c.loop-k.invariant.work

pub loop-k-preserved : goal.loop-k-preserved
loop-k-preserved g c =
    let store_state = g.V.ValueLookup.store_state in
    let inv = c.loop-k.invariant in
    let read = inv.only.read in
    let chunk = c.in-Ok.ensures.bytes.reads in
    let next : 1000 * c.loop-k.k + 1000 ≡ 1000 * (c.loop-k.k + 1) = omega arith in
    record {
      only = read_on inv.only chunk.only;
      none = none_later (store_state c.args.from.now) (store_state c.loop-k.from) (store_state c.add_chunk.new.from) inv.none chunk.none;
      bytes = λ honest p is.
          let now : IsTrue (store_state c.loop-k.from).honest = read.honest ∙ honest in
          chunk.gives now p (is.0, subst (λ (ps : List Pair). HasPart ps c.args.selector.now c.args.part p) (sym (read.same.pairs honest)) is.1) (inv.bytes honest p is)
          ∙ ap (λ (n : ℕ). take n p) next;
      work = one_look_up_more c.loop-k.k (store_state c.args.from.now) (store_state c.loop-k.from) (store_state c.add_chunk.new.from) read inv.work c.add_chunk.ensures.work;
      size = search rules;
    }
