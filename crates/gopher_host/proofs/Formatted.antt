-- How many sectors were asked for.
use Rattle.std.proofs.Common.{◌≡◌, ℕ, Ok, Err, sym, ap}
use Rattle.std.specs.Prelude.{Result}
use Rattle.page_store.specs.declared.fault.KeeperFault.{KeeperFault}
use Rattle.image_commands.specs.declared.fault.ImageFault.{ImageFault}
use Rattle.image_commands.specs.declared.names.SiteNames.{SiteNames}
use Rattle.gopher_host.specs.NewImages.{with_sectors}

pub fits_of : (asked : Result SiteNames ImageFault) (fits : Result ℕ KeeperFault) (names : SiteNames) (sectors : ℕ) → Ok (names, sectors) ≡ with_sectors asked fits → fits ≡ Ok sectors
fits_of (Err e) fits names sectors is = absurd (cc is)
fits_of (Ok n) (Err e) names sectors is = absurd (cc is)
fits_of (Ok n) (Ok s) names sectors is =
    let same : (names, sectors) ≡ (n, s) = cc is in
    sym (ap (λ (p : SiteNames × ℕ). Ok p.1) same)
