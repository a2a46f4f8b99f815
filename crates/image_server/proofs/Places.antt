-- Where it is listened, by the device that was opened.
use Rattle.std.proofs.Common.{◌≡◌, ℕ, Option}
use Rattle.std.specs.Prelude.{IsTrue}
use Rattle.std.specs.declared.net.socket_addr.SocketAddr.{SocketAddr}
use Rattle.host_types.specs.Site.{Site}
use Rattle.sector_device.specs.Device.{State}
use Rattle.host_on_disk.specs.ImageSites.{ImageRepresents}
use Rattle.image_server.specs.DailyServing.{IsGivenOrOwn, IsPlace}

pub place_of : (device : State) (address : Option SocketAddr) (at : SocketAddr) (port : ℕ) (s : Site) → IsGivenOrOwn address port at → (IsTrue device.honest → ImageRepresents device.disk.view s) → (IsTrue device.honest → port ≡ s.port) → IsPlace device address at
place_of device address at port s is shows own = record { port = port; is = is; own = λ honest. (s, shows honest, own honest) }
