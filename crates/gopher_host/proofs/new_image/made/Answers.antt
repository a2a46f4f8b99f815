use Rattle.std.proofs.Common.{inr}
use Rattle.image_commands.specs.Formatted.{sectors_of}
use Rattle.gopher_host.specs.NewImages.{names_for}
use Rattle.gopher_host.proofs.Ended.{two_more}
use Rattle.gopher_host.proofs.Formatted.{fits_of}
use Rattle.gopher_host.proofs.new_image.made.Goals as goal

pub returns-in-Err-clause-fault : goal.returns-in-Err-clause-fault
returns-in-Err-clause-fault c = inr (inr (record {
  sectors = c.in_ok-names.sectors;
  fits = fits_of (names_for c.args.site) (sectors_of c.args.pages) c.in_ok-names.names c.in_ok-names.sectors c.in_ok-names.ensures.asked;
  created = c.in_ok-device.device;
  left = c.format_image-formatted.new.device;
  used = two_more _ _ _ _ _ c.in_ok-device.ensures.noted c.close.ensures;
  named = c.in_ok-device.ensures.named;
  file = c.in_ok-device.ensures.opened;
  unused = c.in_ok-device.ensures.unused;
  cause = c.in-Err.fault;
  is = c.from.ensures;
  caused = c.in-Err.ensures.fault;
}))
