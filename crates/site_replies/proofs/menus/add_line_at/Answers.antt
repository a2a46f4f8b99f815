use Rattle.std.proofs.Common.{sym, refl, ◌∙◌}
use Rattle.host_types.specs.Card.{card_at}
use Rattle.host_types.specs.Visible.{visible}
use Rattle.host_types.specs.Address.{address}
use Rattle.site_replies.proofs.VisibleCards.{one_card, line_shown}
use Rattle.site_replies.proofs.menus.add_line_at.Goals as goal

pub returns : goal.returns
returns g c =
    let a = g.S.SiteKeeper.site_state c.args.site.now in
    let first = c.in_ok-front.ensures.front in
    record {
      line = record {
        gives = λ honest same.
            let got = one_card c.in-Some.front (card_at (visible a.site c.args.now) c.args.selector.now) (sym c.in-Some.is ∙ first.gives honest) in
            line_shown (address a.site) (address a.site) c.args.selector.now got.0 (card_at (visible a.site c.args.now) c.args.selector.now) c.add_menu_line.new.lines.items c.args.lines.now.items
            refl got.1 (c.in_ok-add_menu_line.ensures.line (address a.site) got.0 same got.2);
        only = first.only;
        fault = tt;
        counts = first.counts;
      };
    }
