-- Signed certificate timestamps (RFC 6962).
use Rattle.std.specs.Prelude.{ℕ, List}
use Rattle.layouts.specs.Bytes.{Bytes}
use Rattle.layouts.specs.Layout.{Layout, done, number, block, list, ◌>>=◌, counted, counted_window}
use Rattle.tls_key_exchange.specs.Signature as signatures
use Rattle.tls_key_exchange.specs.declared.timestamp.CtLogID as log_id_of
use Rattle.tls_key_exchange.specs.declared.timestamp.SignedCertificateTimestamp as timestamp_of

-- struct { opaque key_id[32]; } LogID (RFC 6962, section 3.2).
abbrev pub view_log_id : log_id_of.CtLogID → Bytes
view_log_id i = i.key_id.now

abbrev pub log_id : Layout Bytes
log_id = block 32

-- struct { Version sct_version; LogID id; uint64 timestamp; CtExtensions extensions;
-- digitally-signed struct { .. }; } SignedCertificateTimestamp (RFC 6962, section 3.2), where
-- opaque CtExtensions<0..2^16-1>.
pub record SignedCertificateTimestamp : Type 0 where
  pub sct_version : ℕ
  pub id : Bytes
  pub timestamp : ℕ
  pub extensions : Bytes
  pub signature : signatures.DigitallySigned

abbrev pub view_timestamp : timestamp_of.SignedCertificateTimestamp → SignedCertificateTimestamp
view_timestamp t = record {
  sct_version = t.version.0;
  id = view_log_id t.id;
  timestamp = t.timestamp;
  extensions = t.extensions.0.now;
  signature = signatures.view_signed t.signature;
}

unfoldable pub timestamp : Layout SignedCertificateTimestamp
timestamp = do
  version ← number 1
  id ← log_id
  time ← number 8
  extensions ← counted 2
  signature ← signatures.digitally_signed
  done (record {
    sct_version = version;
    id = id;
    timestamp = time;
    extensions =
        extensions;
    signature = signature;
  })

-- A SignedCertificateTimestamp within opaque SerializedSCT<1..2^16-1> (RFC 6962, section 3.3).
abbrev pub serialized_timestamp : Layout SignedCertificateTimestamp
serialized_timestamp = counted_window 2 timestamp

-- struct { SerializedSCT sct_list<1..2^16-1>; } SignedCertificateTimestampList (RFC 6962, section
-- 3.3). An empty list is accepted too.
abbrev pub timestamp_list : Layout (List SignedCertificateTimestamp)
timestamp_list = counted_window 2 (list serialized_timestamp)
