-- IP addresses.
use Rattle.std.specs.Prelude.{ℕ, List, ◌==◌, length, if◌then◌else◌}
use Rattle.std.specs.Net.Addr.{segments_of}
use Rattle.std.specs.Net.Text.{ipv4_text, ipv6_text}
use Rattle.asn1_certificate_text.specs.Octets.{octets_text}

-- four octets as an address of IPv4, sixteen as one of IPv6, others in hexadecimal
abbrev pub address_text : List ℕ → List ℕ
address_text octets =
    if length octets == 4 then ipv4_text octets
    else (if length octets == 16 then ipv6_text (segments_of octets) else octets_text octets)
