-- Any number of crashes in turn.
use Rattle.std.proofs.Common.{◌≡◌, List, [], ◌∷◌, refl, sym, subst}
use Rattle.host_types.specs.Site.{Site}
use Rattle.host_types.specs.CrashStates.{CrashStates}
use Rattle.sector_device.specs.Device.{State}
use Rattle.page_store.specs.Sectors.{Image}
use Rattle.group_world.specs.World.{started_as}
use Rattle.group_world.specs.CrashStates.{accepted}
use Rattle.host_on_disk.specs.ImageSites.{ImageRepresents}
use Rattle.host_on_disk.specs.Headline.{IsFound, IsRunFrom, RunInTurn, InTurn, FoundInTurn}
use Rattle.host_on_disk.proofs.Images.{one_site}

pub found_in_turn : {D : Type 0} (state : D → State) (crash_states : D → CrashStates Image) (first last : Image) (s : Site) (turns : List (RunInTurn D)) → InTurn state crash_states first turns last → ImageRepresents first s → (t : Site) × ImageRepresents last t × FoundInTurn s turns t
found_in_turn state crash_states first last s [] same stands = (s, subst (λ (c : Image). ImageRepresents c s) (sym same) stands, refl)
found_in_turn state crash_states first last s (turn ∷ turns) run stands =
    let one = run.0 in
    let here : one.survives.site ≡ s = one_site first one.survives.site s (subst (λ (c : Image). ImageRepresents c one.survives.site) one.shows one.survives.stands) stands in
    let found = one.survives.again turn.left one.left in
    let links = one.survives.links in
    let rest = found_in_turn state crash_states turn.left last found.0 turns run.1 found.1 in
    (rest.0, rest.1, (links, found.0, subst (λ (x : Site). IsRunFrom (started_as turn.grouped x turn.first) turn.events turn.outcomes links) here one.survives.run, subst (λ (x : Site). IsFound x (accepted links) 0 found.0) here found.2, rest.2))
