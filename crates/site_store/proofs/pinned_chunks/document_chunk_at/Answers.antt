use Rattle.std.proofs.Common.{◌≤◌, ℕ, Option, Some, None, length, take, inl, inr, sym, refl, ap, subst, ◌∙◌, arith}
use Rattle.std.specs.Prelude.{IfSome}
use Rattle.std.specs.Option.{option_map}
use Rattle.host_types.specs.SiteState.{IsUnchangedBehind}
use Rattle.std.proofs.lemmas.List.{length-take-le}
use Rattle.site_store.specs.ReadLaws.{not_yet}
use Rattle.site_store.proofs.AfterReads.{done, fails, begins}
use Rattle.site_store.proofs.Chunking.{far_chunk, one_chunk, long_value}
use Rattle.site_store.proofs.PinnedReads.{holding, stands_there, found_there}
use Rattle.site_store.proofs.pinned_chunks.document_chunk_at.Goals as goal

pub returns-in-Ok-Some-clause-chunk : goal.returns-in-Ok-Some-clause-chunk
returns-in-Ok-Some-clause-chunk g c =
    let h = g.K.Keeper.store_state c.args.keeper.now in
    let look = c.in-Ok-Some.ensures.value in
    begins look (done look.reads.only look.reads.none (λ honest s stood document.
    let number = g.K.PinKeeper.number c.args.pin.now in
    let n = c.in-Ok-Some.length in
    let found = c.look_up_at.new.buffer in
    let within : n ≤ length found = subst (λ (o : Option ℕ). IfSome o (λ n. n ≤ length found)) c.in-Ok-Some.field-0-is c.in-Ok-Some.ensures.within in
    let few = c.if-k-gt65535.false in
    let value = sym (ap (option_map (λ n. take n found)) c.in-Ok-Some.field-0-is) ∙ found_there h number s stood _ c.chunk_key-key.result (look.reads.gives honest) in
    ap (λ (m : ℕ). take m c.copy_front.new.buffer) (sym (length-take-le n found within)) ∙ c.copy_front.ensures.front
    ∙ one_chunk (holding h stood.pairs s) s c.args.selector.now c.chunk_key-key.result c.args.view c.args.k (Some (take n found)) (stands_there h number s stood) document c.chunk_key-key.ensures (omega (arith, few)) value))

pub returns-in-Ok-Some-clause-behind : goal.returns-in-Ok-Some-clause-behind
returns-in-Ok-Some-clause-behind g c =
    let n = c.in-Ok-Some.length in
    let found = c.look_up_at.new.buffer in
    let within : n ≤ length found = subst (λ (o : Option ℕ). IfSome o (λ n. n ≤ length found)) c.in-Ok-Some.field-0-is c.in-Ok-Some.ensures.within in
    subst (λ (m : ℕ). IsUnchangedBehind m c.args.buffer.now c.copy_front.new.buffer) (length-take-le n found within) c.copy_front.ensures.behind

pub returns-then-view-gt255-clause-chunk : goal.returns-then-view-gt255-clause-chunk
returns-then-view-gt255-clause-chunk g c = record {
  reads = done (not_yet g.K.Keeper.store_state g.K.Keeper.may_need g.K.Keeper.crash_states c.args.keeper.now) refl (λ honest s stood document. sym (far_chunk s c.args.selector.now c.args.view c.args.k stood.valid (elim c.then-view-gt255.either [ inl v ↦ inl v | inr both ↦ inr both.1 ])));
  closed = λ shut. let clash = sym c.if-not-is_usable.false ∙ c.is_usable.ensures ∙ shut in absurd (cc clash);
}

pub returns-in-Ok-Some-2-clause-chunk : goal.returns-in-Ok-Some-2-clause-chunk
returns-in-Ok-Some-2-clause-chunk g c =
    let h = g.K.Keeper.store_state c.args.keeper.now in
    let look = c.in-Ok-Some.ensures.value in
    begins look (fails look.reads.only (
      look.reads.none,
      λ honest s stood.
          let number = g.K.PinKeeper.number c.args.pin.now in
          let n = c.in-Ok-Some.length in
          let found = c.look_up_at.new.buffer in
          let within : n ≤ length found = subst (λ (o : Option ℕ). IfSome o (λ n. n ≤ length found)) c.in-Ok-Some.field-0-is c.in-Ok-Some.ensures.within in
          let few = c.if-k-gt65535.false in
          let value = sym (ap (option_map (λ n. take n found)) c.in-Ok-Some.field-0-is) ∙ found_there h number s stood _ c.chunk_key-key.result (look.reads.gives honest) in
          long_value (holding h stood.pairs s) s c.args.selector.now c.chunk_key-key.result found c.args.view c.args.k n (stands_there h number s stood) c.chunk_key-key.ensures (omega (arith, few)) within value c.if-length-le1000.false,
    ))

pub returns-in-Ok-None-clause-chunk : goal.returns-in-Ok-None-clause-chunk
returns-in-Ok-None-clause-chunk g c =
    let h = g.K.Keeper.store_state c.args.keeper.now in
    let look = c.in-Ok-None.ensures.value in
    begins look (done look.reads.only look.reads.none (λ honest s stood document.
    let number = g.K.PinKeeper.number c.args.pin.now in
    let few = c.if-k-gt65535.false in
    let value = sym (ap (option_map (λ n. take n c.look_up_at.new.buffer)) c.in-Ok-None.field-0-is) ∙ found_there h number s stood _ c.chunk_key-key.result (look.reads.gives honest) in
    one_chunk (holding h stood.pairs s) s c.args.selector.now c.chunk_key-key.result c.args.view c.args.k None (stands_there h number s stood) document c.chunk_key-key.ensures (omega (arith, few)) value))
