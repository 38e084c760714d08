-- Records and handshake messages of DTLS as C structs.
use Rattle.std.specs.Prelude.{◌≡◌}
use Rattle.std.specs.Option.{is_some}
use Rattle.layouts.specs.Bytes.{Bytes}
use Rattle.layouts.specs.Layout.{number}
use Rattle.layouts.specs.Text.{held}
use Rattle.tls_records.specs.DtlsHello as hello
use Rattle.tls_records.specs.DtlsRecord as dtls
use Rattle.tls_records.specs.DtlsInPlace as in_place
use Rattle.tls_records.specs.DtlsInPlace.{is_part}
use Rattle.wispuddera_c.specs.declared.dtls.DtlsRecord.{DtlsRecord}
use Rattle.wispuddera_c.specs.declared.dtls.DtlsClientHello.{DtlsClientHello}
use Rattle.wispuddera_c.specs.declared.dtls.DtlsMessage.{DtlsMessage}
use Rattle.wispuddera_c.specs.Place.{StandsAt, ItemsStandAt, Follows}

-- The struct shows the record v in b, and that r follows it.
pub record ShowsDtlsRecord (b : Bytes) (c : DtlsRecord) (v : dtls.RawRecord)
    (r : Bytes) : Type 0 where
  pub content_type : c.content_type ≡ v.header.content_type
  pub version : c.version ≡ v.header.version
  pub epoch : c.epoch ≡ v.header.epoch
  pub sequence_number : c.sequence_number ≡ v.header.sequence_number
  pub length : c.length ≡ v.header.length
  pub fragment : StandsAt b c.fragment v.fragment
  pub next : Follows b c.next r

-- The struct shows the message v, or the part of one, in b, and that r follows it.
pub record ShowsDtlsMessage (b : Bytes) (c : DtlsMessage) (v : in_place.RawHandshake)
    (r : Bytes) : Type 0 where
  pub kind : c.kind ≡ v.msg_type
  pub length : c.length ≡ v.length
  pub message_seq : c.message_seq ≡ v.message_seq
  pub fragment_offset : c.fragment_offset ≡ v.fragment_offset
  pub fragment_length : c.fragment_length ≡ v.fragment_length
  pub is_part : c.is_part ≡ in_place.is_part v
  pub body : StandsAt b c.body v.body
  pub next : Follows b c.next r

-- The struct shows the ClientHello v in b, and that r follows it.
pub record ShowsDtlsClientHello (b : Bytes) (c : DtlsClientHello) (v : hello.ClientHello)
    (r : Bytes) : Type 0 where
  pub version : c.version ≡ v.hello.client_version
  pub random : StandsAt b c.random v.hello.random
  pub session_id : StandsAt b c.session_id (held v.hello.session_id)
  pub cookie : StandsAt b c.cookie v.cookie
  pub cipher_suites : ItemsStandAt (number 2) b c.cipher_suites v.hello.cipher_suites
  pub compression_methods : ItemsStandAt (number 1) b c.compression_methods
      v.hello.compression_methods
  pub has_extensions : c.has_extensions ≡ is_some v.hello.extensions
  pub extensions : StandsAt b c.extensions (held v.hello.extensions)
  pub next : Follows b c.next r
