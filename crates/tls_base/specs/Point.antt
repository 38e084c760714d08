-- A point of an elliptic curve.
use Rattle.layouts.specs.Bytes.{Bytes}
use Rattle.layouts.specs.Layout.{Layout, counted}
use Rattle.tls_base.specs.declared.ec_point.ECPoint as point_of

-- struct { opaque point<1..2^8-1>; } ECPoint (RFC 8422, section 5.4). An empty block is accepted
-- too.
abbrev pub view_point : point_of.ECPoint → Bytes
view_point p = p.point.now

abbrev pub point : Layout Bytes
point = counted 1
