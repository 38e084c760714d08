-- The checksums of IPv4, TCP and UDP (RFC 1071).
use Rattle.std.specs.Prelude.{ℕ, ◌+◌, ◌*◌, ◌%◌, ◌==◌, length, if◌then◌else◌}
use Rattle.capture.specs.Words.{words, words4, words8, is_right}
use Rattle.capture.specs.Transport.{Segment, UserDatagram, Content, Tcp, Udp, Fragment, Other}
use Rattle.capture.specs.Ip.{Address, V4, V6, Datagram}
use Rattle.capture.specs.declared.checksum.Checksum.{Checksum}
use Rattle.capture.specs.declared.checksum.Checksum.TheVariants.{Right, Partial, Wrong}

abbrev pub address_words : Address → ℕ
address_words (V4 n) = words4 n
address_words (V6 upper lower) = words8 upper + words8 lower

-- The sum of the pseudo-header's words: both addresses, the protocol, and the length of header and
-- data (RFC 9293, section 3.1; RFC 8200, section 8.1).
abbrev pub pseudo_words : Datagram → ℕ → ℕ → ℕ
pseudo_words d protocol len =
    address_words d.source + address_words d.destination + (protocol + words4 len)

-- The sum of a segment's words, its checksum among them.
abbrev pub segment_words : Segment → ℕ
segment_words s =
    s.source + s.destination + words4 s.sequence + words4 s.acknowledgment
    + (s.offset * 256 + s.flags + s.window + s.checksum + s.urgent_pointer + words s.options
    + words s.payload)

abbrev pub segment_length : Segment → ℕ
segment_length s = 20 + length s.options + length s.payload

-- The sum of a UDP datagram's words, its checksum among them.
abbrev pub user_words : UserDatagram → ℕ
user_words d = d.source + d.destination + d.length + d.checksum + words d.payload

-- The result for a UDP datagram without a checksum. IPv4 allows that (RFC 768); over IPv6 hosts
-- drop it (RFC 8200, section 8.1).
abbrev pub checksum_without : Address → Checksum
checksum_without (V4 n) = Right
checksum_without (V6 upper lower) = Wrong

-- The result, by the sum of the pseudo-header, the sum of the words of header and data, and the
-- checksum. A checksum that equals the pseudo-header's sum is partial: the sender's network card
-- would have completed it.
unfoldable pub checksum_by : ℕ → ℕ → ℕ → Checksum
checksum_by pseudo words checksum =
    if is_right (pseudo + words) then Right
    else if checksum % 65535 == pseudo % 65535 then Partial
    else Wrong

-- The result for the content of a datagram; `Right` if there is no checksum to verify. A UDP
-- checksum that would be 0 is sent as 0xffff, which is the same in ones' complement.
abbrev pub content_checksum : Datagram → Content → Checksum
content_checksum d (Tcp s) =
    checksum_by (pseudo_words d 6 (segment_length s)) (segment_words s) s.checksum
content_checksum d (Udp u) =
    if u.checksum == 0 then checksum_without d.source
    else checksum_by (pseudo_words d 17 u.length) (user_words u) u.checksum
content_checksum d Fragment = Right
content_checksum d (Other protocol payload) = Right

-- The result for a datagram: `Wrong` if the IPv4 header's checksum is.
abbrev pub checksum_of : Datagram → Checksum
checksum_of d = if d.is_header_right then content_checksum d d.content else Wrong
