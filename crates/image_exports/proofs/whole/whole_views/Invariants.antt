use Rattle.std.proofs.Common.{◌≡◌, List, Ok, take, IsTrue}
use Rattle.host_types.specs.declared.view.View.{View}
use Rattle.image_exports.specs.Looks.{Looks}
use Rattle.image_exports.specs.Whole.{AreViewsAt}
use Rattle.image_exports.proofs.whole.whole_views.Given as goal

-- the views so far, and nothing has changed
abbrev pub invariant-loop-place : goal.invariant-loop-place
invariant-loop-place g l =
    let state = g.S.SiteKeeper.site_state in
    record {
      only : Looks {T = Unit {0}} state g.S.SiteKeeper.crash_states l.fn.site l.site (Ok tt);
      so_far : IsTrue (state l.fn.site).honest → (views : List View) → AreViewsAt (state l.fn.site).site l.selector l.cards views → l.views ≡ take l.place views;
    }
