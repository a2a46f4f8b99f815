-- What a call over a device does to it and to its crash states.
pub use Rattle.sector_device.specs.DeviceEffects.{KeepsDevice, IsReadCall, ReadsDevice, WritesDevice}
