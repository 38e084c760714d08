-- Looking things up in a hello's extensions.
use Rattle.layouts.specs.Bytes.{Bytes}
use Rattle.layouts.specs.Items.{items_in}
use Rattle.layouts.specs.Layout.{counted}
use Rattle.tls_ext.specs.Extension as extension
use Rattle.tls_ext.specs.Extension.{Extension}

-- The extension with the protocol names in these bytes (RFC 7301, section 3.1).
abbrev pub protocol_names_in : Bytes → Extension
protocol_names_in b = extension.application_layer_protocol_negotiation (items_in (counted 1) b)
