use Rattle.std.proofs.Common.{◌≡◌, ◌<◌, ◌*◌, ℕ, length, take, Some, None, sym, ap, subst, ◌∙◌, arith}
use Rattle.std.proofs.Common.{◌≤◌, Option}
use Rattle.std.specs.Prelude.{IfSome}
use Rattle.std.specs.Option.{option_map}
use Rattle.host_types.specs.Card.{chunk_of}
use Rattle.site_store.specs.StoreReads.{chunk_size}
use Rattle.site_store.proofs.AfterReads.{done, fails, begins}
use Rattle.site_store.proofs.PartChunks.{one_more, found_chunk, found_size}
use Rattle.site_store.proofs.parts.add_chunk.Goals as goal

pub returns-in_ok-extend_from_slice-in-Some-clause-bytes : goal.returns-in_ok-extend_from_slice-in-Some-clause-bytes
returns-in_ok-extend_from_slice-in-Some-clause-bytes g c =
    let look = c.in_ok-found.ensures.value in
    begins look (done look.reads.only look.reads.none (λ honest p is before.
    let fits = c.ranges.k.fits in
    let within : 1000 * c.args.k < length p = subst (λ (n : ℕ). 1000 * c.args.k < n) (sym is.0) c.requires in
    let found = found_chunk (g.V.ValueLookup.store_state c.args.from.now).pairs c.args.selector.now c.args.part p c.args.k c.chunk_key.result (Some (take c.in-Some.length c.look_up.new.buffer)) is.1 c.chunk_key.ensures (omega (arith, fits)) within (sym (ap (option_map (λ n. take n c.look_up.new.buffer)) c.in-Some.is) ∙ look.reads.gives honest) in
    let same : take c.in-Some.length c.look_up.new.buffer ≡ chunk_of p c.args.k = cc found in
    one_more c.args.bytes.now.items (take c.in-Some.length c.look_up.new.buffer) p c.extend_from_slice.new.self.items c.args.k before same c.in_ok-extend_from_slice-in-Some.ensures.items))

pub returns-in_default-clause-bytes : goal.returns-in_default-clause-bytes
returns-in_default-clause-bytes g c =
    let look = c.in_ok-found.ensures.value in
    begins look (fails look.reads.only (
      look.reads.none,
      λ honest known.
          let p = known.0 in
          let fits = c.ranges.k.fits in
          let within : 1000 * c.args.k < length p = subst (λ (n : ℕ). 1000 * c.args.k < n) (sym known.1.0) c.requires in
          let found = found_chunk (g.V.ValueLookup.store_state c.args.from.now).pairs c.args.selector.now c.args.part p c.args.k c.chunk_key.result (Some (take c.in-Some.length c.look_up.new.buffer)) known.1.1 c.chunk_key.ensures (omega (arith, fits)) within (sym (ap (option_map (λ n. take n c.look_up.new.buffer)) c.in-Some.is) ∙ look.reads.gives honest) in
          let far = found_size p c.look_up.new.buffer c.in-Some.length c.args.k within (subst (λ (o : Option ℕ). IfSome o (λ n. n ≤ length c.look_up.new.buffer)) c.in-Some.is c.in_ok-found.ensures.within) found in
          c.if-length-expected.false (far ∙ ap (λ (n : ℕ). chunk_size n c.args.k) known.1.0 ∙ sym c.chunk_size-expected.ensures),
    ))

pub returns-in_default-2-clause-bytes : goal.returns-in_default-2-clause-bytes
returns-in_default-2-clause-bytes g c =
    let look = c.in_ok-found.ensures.value in
    begins look (fails look.reads.only (
      look.reads.none,
      λ honest known.
          let p = known.0 in
          let fits = c.ranges.k.fits in
          let within : 1000 * c.args.k < length p = subst (λ (n : ℕ). 1000 * c.args.k < n) (sym known.1.0) c.requires in
          let found : None ≡ Some (chunk_of p c.args.k) = found_chunk (g.V.ValueLookup.store_state c.args.from.now).pairs c.args.selector.now c.args.part p c.args.k c.chunk_key.result None known.1.1 c.chunk_key.ensures (omega (arith, fits)) within (sym (ap (option_map (λ n. take n c.look_up.new.buffer)) c.in_default.is) ∙ look.reads.gives honest) in
          absurd (cc found),
    ))
