-- The fields of a hello that a fingerprint uses.
use Rattle.std.specs.Prelude.{ℕ, List}
use Rattle.std.specs.List.Sorted.{IsPermutation}
use Rattle.std.specs.Option.{option_map}
use Rattle.layouts.specs.Bytes.{Bytes}
use Rattle.layouts.specs.Layout.{number}
use Rattle.layouts.specs.Items.{items_in}
use Rattle.layouts.specs.Text.{held}
use Rattle.tls_ext.specs.InPlace.{extension_type}
use Rattle.tls_fingerprints.specs.declared.hellos.ClientHelloParts.{ClientHelloParts}
use Rattle.tls_fingerprints.specs.declared.hellos.ServerHelloParts.{ServerHelloParts}

pub record Client : Type 0 where
  -- the version field of the hello
  pub version : ℕ
  -- the cipher suites that the client offers, in its order
  pub suites : List ℕ
  -- the bytes of its extensions
  pub extensions : Bytes

pub record Server : Type 0 where
  pub version : ℕ
  -- the cipher suite that the server chose
  pub suite : ℕ
  pub extensions : Bytes

abbrev pub view_client : ClientHelloParts → Client
view_client h = record {
  version = h.version.0;
  suites = items_in (number 2) h.ciphers.bytes.now;
  extensions = held (option_map (λ x. x.now) h.ext);
}

abbrev pub view_server : ServerHelloParts → Server
view_server h = record {
  version = h.version.0;
  suite = h.cipher.0;
  extensions = held (option_map (λ x. x.now) h.ext);
}

-- The extension types, in order, up to the first extension that isn't whole.
abbrev pub types_in : Bytes → List ℕ
types_in b = items_in extension_type b

-- Both send extensions of the same types, in any order.
abbrev pub SendSameTypes : Client → Client → Type 0
SendSameTypes g h = IsPermutation (types_in g.extensions) (types_in h.extensions)
