-- The moment of so many seconds is those seconds.
use Rattle.std.proofs.Common.{◌≡◌, ℕ, Bool, true, false, Ok, Err, nat_lt, if◌then◌else◌}
use Rattle.common_types.specs.declared.refused.Refused.TheVariants.{TooLong}
use Rattle.gopher_host.specs.NewImages.{named, moment_of}

named_is : (late : Bool) (seconds moment : ℕ) → Ok moment ≡ named (if late then Err TooLong else Ok seconds) → moment ≡ seconds
named_is true seconds moment is = absurd (cc is)
named_is false seconds moment is = cc is

pub same_moment : (seconds moment : ℕ) → Ok moment ≡ moment_of seconds → moment ≡ seconds
same_moment seconds moment is = named_is (nat_lt 253402300799 seconds) seconds moment is
