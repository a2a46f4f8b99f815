use Rattle.std.proofs.Common.{◌≡◌, IsTrue, sym, subst, ap, ◌∙◌, arith}
use Rattle.page_store.specs.FlatState.{IsFitted}
use Rattle.page_store.specs.Content.{content}
use Rattle.page_store.specs.Roots.{greatest_seal}
use Rattle.page_store.specs.Sectors.{Image}
use Rattle.page_store.proofs.flat_keeper.FlatKeeper.open.Goals as goal

pub invariant_of-result : goal.invariant_of-result
invariant_of-result g c =
    let d = g.met.D.Device in
    let opened = c.in-Ok.ensures.opened in
    record {
      fitted = subst (λ n. IsFitted n c.in-Ok.slot c.in-Ok.pairs.items) (sym c.open_parts.ensures.opens.device.same.size) c.in-Ok.ensures.fitted;
      crash_states_represent = λ keeps1 up.
          let keeps : IsTrue (g.D.Device.state c.args.device).honest = subst IsTrue c.open_parts.ensures.opens.device.same.honest keeps1 in
          record {
            images = λ i image. opened.all keeps i (d.each_image_is_a_crash_state c.open_parts.new.device i keeps1 image);
            content = ap content (opened.view keeps) ∙ opened.content_is keeps;
            seals = let e : greatest_seal (g.D.Device.state c.open_parts.new.device).disk.view 16 ≡ c.in-Ok.top = ap (λ (i : Image). greatest_seal i 16) (opened.view keeps) ∙ opened.top_is keeps in omega (arith, e);
          };
    }
