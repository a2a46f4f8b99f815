use Rattle.std.proofs.Common.{◌≡◌, length}
use Rattle.group_hub.specs.Calls.{HubRun}
use Rattle.host_script.specs.Lines.{RanSo, place_of}
use Rattle.host_script.proofs.Replays.{IsReadTo}
use Rattle.host_script.proofs.replaying.replay.Given as goal

-- what was read so far was run
abbrev pub invariant-loop : goal.invariant-loop
invariant-loop g l =
    let s = g.S.SiteKeeper in
    let contents = g.W.Write.contents in
    let remaining = g.R.Read.remaining in
    record {
      ran : RanSo (HubRun s.site_state s.lacks s.crash_states s.represents) l.fn.hub l.hub;
      room : length l.buffer ≡ 4096;
      run : IsReadTo (HubRun s.site_state s.lacks s.crash_states s.represents) l.fn.hub l.hub (place_of l.place) (contents l.fn.writer) (contents l.writer) (remaining l.fn.reader) (remaining l.reader) l.place.line.items;
    }
