-- Lists of signed certificate timestamps in extensions (RFC 6962, section 3.3).
use Rattle.layouts.specs.Bytes.{Bytes}
use Rattle.layouts.specs.Layout.{Layout, rest}
use Rattle.der.specs.Element.{tagged}

-- An OCTET STRING with a SignedCertificateTimestampList as TLS encodes it.
unfoldable pub timestamp_list : Layout Bytes
timestamp_list = tagged 4 rest
