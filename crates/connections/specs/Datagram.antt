-- UDP datagrams (RFC 768).
use Rattle.connections.specs.FiveTuple.{five_tuple_between}
use Rattle.connections.specs.declared.datagram.Datagram.{Datagram}
use Rattle.connections.specs.declared.five_tuple.FiveTuple.{FiveTuple}
use Rattle.connections.specs.declared.five_tuple.Protocol.TheVariants.{Udp}

-- A datagram's five-tuple.
abbrev pub five_tuple_of_datagram : Datagram → FiveTuple
five_tuple_of_datagram d = five_tuple_between d.network Udp d.source d.destination
