-- Why the system gives no listener at an address: by the kinds of errors of bind(2).
use Rattle.std.specs.declared.io.ErrorKind.{ErrorKind}
use Rattle.std.specs.declared.io.ErrorKind.TheVariants.{AddrInUse, AddrNotAvailable, PermissionDenied}
use Rattle.daily_server.specs.declared.listen_fault.NetCause.{NetCause}
use Rattle.daily_server.specs.declared.listen_fault.NetCause.TheVariants.{Taken, Elsewhere, Forbidden, Other}

abbrev pub cause_of : ErrorKind → NetCause
cause_of AddrInUse = Taken
cause_of AddrNotAvailable = Elsewhere
cause_of PermissionDenied = Forbidden
cause_of _ = Other
