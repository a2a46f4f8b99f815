use Rattle.std.proofs.Common.{ℕ, length, ap, ◌∙◌}
use Rattle.site_records.specs.Layout.{layout}
use Rattle.site_store.specs.Represented.{site_of, site_kept}
use Rattle.image_commands.specs.Lines.{figures_line}
use Rattle.image_commands.proofs.checking.check_site.Goals as goal

pub returns-clause-line : goal.returns-clause-line
returns-clause-line g c =
    let h = g.K.Keeper.store_state c.args.site.now.keeper in
    let s = site_of h c.args.site.now.kept in
    let figures = c.in_ok-figures.figures in
    let store = c.in_ok-figures.ensures.figures.store in
    record {
      gives = λ honest.
          c.in_ok-line.ensures
          ∙ ap (λ (n : ℕ). figures_line n figures.store.keys figures.store.free figures.store.generation) (c.in_ok-figures.ensures.figures.items honest)
          ∙ ap (λ (n : ℕ). figures_line (length s.items) n figures.store.free figures.store.generation) (store.keys honest ∙ ap length (site_kept h c.args.site.now.kept honest).all)
          ∙ ap (λ (n : ℕ). figures_line (length s.items) (length (layout s)) n figures.store.generation) store.free
          ∙ ap (λ (n : ℕ). figures_line (length s.items) (length (layout s)) h.free n) store.generation;
      only = c.in_ok-figures.ensures.only;
      fault = tt;
      counts = c.in_ok-figures.ensures.ended.reads;
    }
