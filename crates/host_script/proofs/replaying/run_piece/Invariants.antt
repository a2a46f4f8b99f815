use Rattle.std.proofs.Common.{◌≡◌, false, ◌++◌, take}
use Rattle.std.specs.List.{list_any}
use Rattle.group_hub.specs.Calls.{HubRun}
use Rattle.host_script.specs.Lines.{RanSo, IsRunTo, place_of, is_lf}
use Rattle.host_script.proofs.replaying.run_piece.Given as goal

-- what came so far was run
abbrev pub invariant-loop-byte : goal.invariant-loop-byte
invariant-loop-byte g l =
    let s = g.S.SiteKeeper in
    let contents = g.W.Write.contents in
    record {
      ran : RanSo (HubRun s.site_state s.lacks s.crash_states s.represents) l.fn.hub l.hub;
      run : list_any is_lf l.fn.place.line.items ≡ false →
          IsRunTo (HubRun s.site_state s.lacks s.crash_states s.represents) l.fn.hub l.hub (place_of l.fn.place) (place_of l.place) (contents l.fn.writer) (contents l.writer)
          (l.fn.place.line.items ++ take l.byte-index l.piece) l.place.line.items;
    }
