-- Link headers, by the link type of the capture (the LINKTYPE pages of tcpdump.org).
use Rattle.std.specs.Prelude.{ℕ, ◌/◌, ◌%◌, ◌==◌, ◌||◌, Bool, Option, Some, None, if◌then◌else◌}
use Rattle.std.specs.Option.{option_map}
use Rattle.layouts.specs.Layout.{Layout, done, refuse, number, block, list, look, test, choose, mapped, ◌>>=◌, ◌>>◌}
use Rattle.layouts.specs.declared.result.ErrorKind.TheVariants.{Tag, Verify, Switch}
use Rattle.capture.specs.Ip.{Datagram, ipv4, ipv6, view_datagram}
use Rattle.capture.specs.declared.ip.IpDatagram.{IpDatagram as LentDatagram}

-- The datagram, or `None` for another protocol.
abbrev pub view_packet : Option LentDatagram → Option Datagram
view_packet p = option_map view_datagram p

-- The types of VLAN tags: C-TAG and S-TAG (IEEE 802.1Q, table 9-1), and 0x9100, the older type of
-- outer tags.
abbrev pub is_vlan : ℕ → Bool
is_vlan kind = (kind == 0x8100) || ((kind == 0x88a8) || (kind == 0x9100))

-- The type of a tag, and 2 bytes of tag control information (IEEE 802.1Q, section 9.3).
unfoldable pub vlan_tag : Layout Unit
vlan_tag = do
  kind ← number 2
  test (is_vlan kind) Tag
  mapped (λ _. tt) (block 2)

-- Any number of tags, and then the EtherType of what follows.
unfoldable pub ether_type : Layout ℕ
ether_type = do
  list vlan_tag
  number 2

-- This many bytes, tags, and the EtherType of what follows.
unfoldable pub behind : ℕ → Layout ℕ
behind count = block count >> ether_type

-- The EtherTypes to which the numbers of address families and PPP protocols are mapped; 0 for an
-- unknown one.
abbrev pub IPV4 : ℕ
IPV4 = 0x0800

abbrev pub IPV6 : ℕ
IPV6 = 0x86dd

-- LINKTYPE_NULL and LINKTYPE_LOOP: the number of an address family. 2 is IPv4; 24, 28 and 30 are
-- IPv6, depending on the system that wrote it. Its byte order is that of the capturing machine, or
-- big-endian.
abbrev pub is_family_v6 : ℕ → Bool
is_family_v6 n = (n == 24) || ((n == 28) || (n == 30))

abbrev pub family : ℕ → ℕ
family n =
    if (n == 2) || (n == 0x02000000) then IPV4 else
    if is_family_v6 n || ((n == 0x18000000) || ((n == 0x1c000000) || (n == 0x1e000000))) then
    IPV6 else 0

unfoldable pub loopback : Layout ℕ
loopback = mapped family (number 4)

-- The EtherType behind one that was read. If that is a tag's: its tag control information, and any
-- number of further tags.
unfoldable pub behind_type : ℕ → Layout ℕ
behind_type kind = choose (is_vlan kind) (block 2 >> ether_type) (done kind)

-- LINKTYPE_LINUX_SLL2: protocol; reserved, interface, ARPHRD type, packet type, length of the
-- link-layer address and 8 bytes of it; tags.
unfoldable pub sll2 : Layout ℕ
sll2 = do
  kind ← number 2
  block 18
  behind_type kind

-- LINKTYPE_RAW: the upper 4 bits of the first byte, which is the datagram's own, are the version.
unfoldable pub raw_ip : Layout ℕ
raw_ip = do
  first ← look (number 1)
  choose (first / 16 == 4) (done IPV4) (choose (first / 16 == 6) (done IPV6) (refuse Verify))

-- The EtherType of a PPP protocol: 0x0021 is IPv4 (RFC 1332, section 2), 0x0057 IPv6 (RFC 5072,
-- section 2).
abbrev pub type_of_ppp : ℕ → ℕ
type_of_ppp protocol = if protocol == 0x0021 then IPV4 else if protocol == 0x0057 then IPV6 else 0

-- The upper byte of a PPP protocol is even and the lower odd. So an odd first byte is the whole
-- number in compressed form (RFC 1661, sections 2 and 6.5).
unfoldable pub ppp : Layout ℕ
ppp = do
  first ← look (number 1)
  mapped type_of_ppp (choose (first % 2 == 1) (number 1) (number 2))

-- What follows, by the first 2 bytes. PPP comes behind the address and control bytes of HDLC (RFC
-- 1662, section 3.1), and an EtherType behind those of Cisco HDLC (RFC 1547, section 4.3.1). Any
-- others are the PPP protocol itself.
unfoldable pub ppp_by : ℕ → Layout ℕ
ppp_by front =
    choose (front == 0xff03) (block 2 >> ppp) (
    choose (front == 0x0f00) (block 2 >> ether_type) (
    choose (front == 0x8f00) (block 2 >> ether_type) (
    ppp)))

-- LINKTYPE_PPP and LINKTYPE_PPP_HDLC.
unfoldable pub ppp_link : Layout ℕ
ppp_link = look (number 2) >>= ppp_by

-- The EtherType of a PPPoE session packet.
abbrev pub PPPOE : ℕ
PPPOE = 0x8864

-- The EtherType of what follows a link header, by the link type (LINKTYPE of tcpdump.org): NULL,
-- ETHERNET (destination and source: IEEE 802.3, section 3.1.1), PPP, PPP_HDLC, PPP_ETHER (PPPoE),
-- RAW, LOOP, LINUX_SLL (packet type, ARPHRD type, length of the link-layer address and 8 bytes of
-- it), IPV4, IPV6, LINUX_SLL2.
unfoldable pub link : ℕ → Layout ℕ
link link_type =
    choose (link_type == 0) loopback (
    choose (link_type == 1) (behind 12) (
    choose (link_type == 9) ppp_link (
    choose (link_type == 50) ppp_link (
    choose (link_type == 51) (done PPPOE) (
    choose (link_type == 101) raw_ip (
    choose (link_type == 108) loopback (
    choose (link_type == 113) (behind 14) (
    choose (link_type == 228) (done IPV4) (
    choose (link_type == 229) (done IPV6) (
    choose (link_type == 276) sll2 (
    refuse Switch)))))))))))

-- A PPPoE session packet: version and type, code 0, session, length; and PPP (RFC 2516, section 4).
unfoldable pub pppoe : Layout ℕ
pppoe = do
  front ← number 2
  test (front == 0x1100) Verify
  block 4
  ppp

-- The EtherType of what follows, behind a PPPoE session header if there is one.
unfoldable pub network : ℕ → Layout ℕ
network kind = choose (kind == PPPOE) pppoe (done kind)

-- The EtherType of what a packet of this link type carries.
unfoldable pub carried : ℕ → Layout ℕ
carried link_type = link link_type >>= network

-- A datagram of this EtherType.
unfoldable pub datagram : ℕ → Layout (Option Datagram)
datagram kind =
    choose (kind == IPV4) (mapped Some ipv4) (choose (kind == IPV6) (mapped Some ipv6) (done None))

-- A packet of this link type.
unfoldable pub packet : ℕ → Layout (Option Datagram)
packet link_type = carried link_type >>= datagram
