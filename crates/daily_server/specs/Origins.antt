-- Where a client comes from, as far as places go by it: an IPv4 address, or the first 64 bits of one of IPv6, which one network has of it (RFC 4291, 2.5.4).
use Rattle.std.specs.Prelude.{ℕ, Bool, false, List, [], ◌∷◌, take, bytes_eq, if◌then◌else◌}
use Rattle.std.specs.Net.Addr.{ipv4_octets, ipv6_octets, ipv6_segments, low_octets}
use Rattle.std.specs.Net.Text.{ip_text, ipv4_text}
use Rattle.std.specs.declared.net.ip_addr.IpAddr.{IpAddr}
use Rattle.std.specs.declared.net.ip_addr.IpAddr.TheVariants.{V4, V6}
use Rattle.std.specs.declared.net.ipv6_addr.Ipv6Addr.{Ipv6Addr}

pub data Origin : Type 0 where
  Ipv4 : List ℕ → Origin
  Ipv6 : List ℕ → Origin

-- an IPv4 address that is mapped into IPv6, `::ffff:a.b.c.d` (RFC 4291, 2.5.5.2)
abbrev pub is_mapped : Ipv6Addr → Bool
is_mapped address = bytes_eq (take 6 (ipv6_segments address)) (0 ∷ 0 ∷ 0 ∷ 0 ∷ 0 ∷ 0xffff ∷ [])

-- The octets of an IPv4 address, mapped or not; and the first eight of any other.
abbrev pub origin_of : IpAddr → Origin
origin_of (V4 address) = Ipv4 (ipv4_octets address)
origin_of (V6 address) = if is_mapped address then Ipv4 (low_octets address) else Ipv6 (take 8 (ipv6_octets address))

abbrev pub is_same : Origin → Origin → Bool
is_same (Ipv4 one) (Ipv4 other) = bytes_eq one other
is_same (Ipv6 one) (Ipv6 other) = bytes_eq one other
is_same one other = false

-- an address as it is printed: of a mapped one the IPv4 address in it
abbrev pub address_text : IpAddr → List ℕ
address_text (V4 address) = ip_text (V4 address)
address_text (V6 address) = if is_mapped address then ipv4_text (low_octets address) else ip_text (V6 address)
