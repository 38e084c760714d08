-- Whole extensions: a type, a length, and a content of that length (RFC 8446, section 4.2).
use Rattle.std.specs.Prelude.{ℕ, ◌==◌}
use Rattle.layouts.specs.Bytes.{Bytes, bytes_of}
use Rattle.layouts.specs.Layout.{Layout, done, number, tag, window, ◌>>=◌, ◌>>◌, test, counted, counted_window}
use Rattle.layouts.specs.declared.result.ErrorKind.TheVariants.{Verify}
use Rattle.tls_base.specs.ExtensionNumbers as extension_number
use Rattle.tls_ext.specs.Extension as ext
use Rattle.tls_ext.specs.Extension.{Extension}
use Rattle.tls_ext.specs.Content as content

-- An extension of this type. Its content is read within its length.
unfoldable pub tagged : ℕ → Layout Extension → Layout Extension
tagged kind l = do
  tag (bytes_of 2 kind)
  counted_window 2 l

-- An extension of this type whose content isn't parsed.
unfoldable pub tagged_bytes : ℕ → Layout Bytes
tagged_bytes kind = do
  tag (bytes_of 2 kind)
  counted 2

-- A Heartbeat extension (RFC 6520, section 2), whose content has 1 byte.
unfoldable pub tagged_heartbeat : Layout Extension
tagged_heartbeat = do
  tag (bytes_of 2 extension_number.heartbeat)
  n ← number 2
  test (n == 1) Verify
  window 1 content.heartbeat

-- An extension of any type whose content isn't parsed.
unfoldable pub unknown : Layout Extension
unknown = do
  kind ← number 2
  bytes ← counted 2
  done (ext.unknown kind bytes)
