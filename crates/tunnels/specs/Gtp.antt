-- GTP-U, the tunnels of mobile networks (3GPP TS 29.281).
use Rattle.std.specs.Prelude.{ℕ, ◌-◌, ◌*◌, ◌/◌, ◌%◌, ◌==◌, ◌&&◌, not, nat_le, Bool, Some}
use Rattle.layouts.specs.Layout.{Layout, done, number, block, window, list, complete, test, choose, ◌>>=◌, ◌>>◌}
use Rattle.layouts.specs.declared.result.ErrorKind.TheVariants.{Tag, Verify, LengthValue}
use Rattle.tunnels.specs.Tunnel.{Header, carrying, version_type, tunnel_of}
use Rattle.tunnels.specs.declared.tunnel.TunnelKind.TheVariants.{GtpU}

-- An extension header: its length in words of 4 bytes, its content, the type of the next one
-- (section 5.2.1).
unfoldable pub extension : Layout ℕ
extension = do
  words ← number 1
  test (nat_le 1 words) LengthValue
  block (words * 4 - 2)
  number 1

-- An extension header with another behind it.
unfoldable pub further_extension : Layout Unit
further_extension = do
  next ← extension
  test (not (next == 0)) Tag

-- Any number of extension headers, and the last.
unfoldable pub extensions : Layout ℕ
extensions = list further_extension >> extension

unfoldable pub extensions_if : Bool → Layout ℕ
extensions_if present = choose present extensions (done 0)

-- If one of the flags E, S and PN is set, these fields are present: sequence number, N-PDU number,
-- and the type of the next extension header, which counts only if E is set (section 5.1).
unfoldable pub optional_fields : ℕ → Layout ℕ
optional_fields flags = choose (flags == 0) (done 0) (do
  block 3
  next ← number 1
  extensions_if ((flags / 4 == 1) && not (next == 0)))

-- The optional fields and a datagram.
unfoldable pub gtp_payload : ℕ → ℕ → Layout Header
gtp_payload flags id = do
  optional_fields flags
  kind ← version_type
  carrying (tunnel_of GtpU (Some id)) kind

-- GTP version 1 and the flags; message type 255, user data; length of what follows these 8 bytes;
-- tunnel endpoint (section 5.1).
unfoldable pub gtp : Layout Header
gtp = do
  first ← number 1
  test (first / 16 == 3) Verify
  message ← number 1
  test (message == 255) Verify
  len ← number 2
  id ← number 4
  window len (complete (gtp_payload (first % 8) id))
