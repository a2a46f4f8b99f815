use Rattle.std.proofs.Common.{◌≡◌, ℕ, IsTrue, inl, refl, sym, subst, ap, ◌∙◌, arith}
use Rattle.page_store.specs.Content.{Found, is_among}
use Rattle.page_store.specs.Roots.{greatest_seal}
use Rattle.page_store.specs.Sectors.{Image, page_of}
use Rattle.cow_tree.specs.Opening.{LivePagesAreWhole}
use Rattle.cow_tree.specs.TreeState.{FitsTree, found_under}
use Rattle.cow_tree.proofs.PinnedTrees.{no_tree}
use Rattle.cow_tree.proofs.TreesAreMaps.{found_map}
use Rattle.cow_tree.proofs.Openings.{tree_is, durable_content, under_now, has_content}
use Rattle.cow_tree.proofs.tree_keeper.TreeKeeper.open.Goals as goal

pub invariant_of-result : goal.invariant_of-result
invariant_of-result g c =
    let d = g.met.D.Device in
    let opened = c.in-Ok.ensures.opened in
    record {
      fitted = subst (λ (n : ℕ). FitsTree n c.in-Ok.slot c.in-Ok.ledger) (sym c.open_parts.ensures.opens.device.same.size) c.in-Ok.ensures.fits.tree;
      there = λ keeps1.
          let keeps : IsTrue (g.D.Device.state c.args.device).honest = subst IsTrue c.open_parts.ensures.opens.device.same.honest keeps1 in
          let holds = opened.holds keeps in
          let version = c.in-Ok.ensures.fits.tree.version in
          let view = (g.D.Device.state c.open_parts.new.device).disk.view in
          let tree = (tree_is view c.in-Ok.slot (found_under c.in-Ok.slot view) (durable_content view _ c.in-Ok.slot c.in-Ok.ledger (opened.view keeps) version holds) version).1 in
          record {
            found_is = tree;
            map = found_map c.in-Ok.slot (page_of view) (found_under c.in-Ok.slot view) tree;
            alive = λ n. holds.alive n ∙ ap (λ (f : Found). is_among n f.pages) (sym (under_now view _ c.in-Ok.slot c.in-Ok.ledger (opened.view keeps) version holds));
            whole = subst (λ (i : Image). LivePagesAreWhole i c.in-Ok.ledger) (sym (opened.view keeps)) holds.whole;
          };
      sealed = c.in-Ok.ensures.fits.sealed;
      pins = record {
        count = refl;
        seals = c.in-Ok.ensures.fits.unpinned;
        inside = λ number tree is. absurd (no_tree 32 number tree is);
      };
      pins_there = λ keeps1 number tree is. absurd (no_tree 32 number tree is);
      leaf = λ keeps1. ∣ inl c.none.ensures ∣₁;
      places_kept = λ keeps1. c.none-in-Ok.ensures (page_of (g.D.Device.state c.open_parts.new.device).disk.view);
      durable = λ keeps1 up.
          let keeps : IsTrue (g.D.Device.state c.args.device).honest = subst IsTrue c.open_parts.ensures.opens.device.same.honest keeps1 in
          let holds = opened.holds keeps in
          let version = c.in-Ok.ensures.fits.tree.version in
          let view = (g.D.Device.state c.open_parts.new.device).disk.view in
          record {
            images = λ i image. opened.all keeps i (d.each_image_is_a_crash_state c.open_parts.new.device i keeps1 image);
            current_is = (tree_is view c.in-Ok.slot (found_under c.in-Ok.slot view) (durable_content view _ c.in-Ok.slot c.in-Ok.ledger (opened.view keeps) version holds) version).0;
            seals = let e : greatest_seal view 16 ≡ c.in-Ok.top = ap (λ (i : Image). greatest_seal i 16) (opened.view keeps) ∙ opened.top_is keeps in omega (arith, e);
          };
    }

pub returns-in-Ok-clause-opened : goal.returns-in-Ok-clause-opened
returns-in-Ok-clause-opened g c =
    let opened = c.in-Ok.ensures.opened in
    let device = c.open_parts.ensures.opens.device in
    record {
      content = λ keeps. has_content (g.D.Device.state c.args.device).disk.view (g.D.Device.state c.open_parts.new.device).disk.view c.in-Ok.slot c.in-Ok.ledger (opened.view keeps) c.in-Ok.ensures.fits.tree.version (opened.holds keeps);
      holds = opened.holds;
      top = λ keeps. sym (opened.top_is keeps);
      usable = refl;
      unpinned = refl;
      honest = device.same.honest;
      large = c.in-Ok.ensures.fits.large;
      fits = c.in-Ok.ensures.fits.tree.fits;
      counts = c.in-Ok.ensures.opens.counts;
      work = c.in-Ok.ensures.work;
      at_crash = device.no_new_crash_state;
    }
