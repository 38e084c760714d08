-- OCSP responses (RFC 6960, section 4.2.1).
use Rattle.std.specs.Prelude.{ℕ, ℤ, ◌==◌, List, [], Option, Some, None}
use Rattle.std.specs.Option.{option_map}
use Rattle.layouts.specs.Bytes.{Bytes}
use Rattle.layouts.specs.Layout.{Layout, done, refuse, number, look, rest, choose, mapped, ◌>>=◌, ◌>>◌}
use Rattle.layouts.specs.Items.{items_in}
use Rattle.layouts.specs.declared.result.ErrorKind.TheVariants.{Tag}
use Rattle.der.specs.Element.{items_of, optional, tagged}
use Rattle.der.specs.ObjectIdentifier.{object_identifier}
use Rattle.der.specs.Values.{BitString, bit_string, integer, view_bit_string}
use Rattle.x509.specs.Certificate.{AlgorithmIdentifier, Certificate, Extension, algorithm_identifier, certificate, extension, extensions, or_none, view_algorithm}
use Rattle.x509.specs.Name.{AttributeTypeAndValue, name, relative_distinguished_name}
use Rattle.ocsp.specs.Single.{SingleResponse, enumerated, single_response, time}
use Rattle.ocsp.specs.declared.response.OcspResponse.{OcspResponse as LentResponse}
use Rattle.ocsp.specs.declared.response.ResponseBytes.{ResponseBytes as LentBytes}
use Rattle.ocsp.specs.declared.basic.BasicOcspResponse.{BasicOcspResponse as LentBasic}
use Rattle.ocsp.specs.declared.basic.ResponseData.{ResponseData as LentData}
use Rattle.ocsp.specs.declared.basic.ResponderId.{ResponderId as LentResponder}
use Rattle.ocsp.specs.declared.basic.ResponderId.TheVariants as lent

-- ResponseBytes: OBJECT IDENTIFIER responseType; OCTET STRING response.
pub record ResponseBytes : Type 0 where
  pub response_type : Bytes
  pub response : Bytes

abbrev pub view_response_bytes : LentBytes → ResponseBytes
view_response_bytes b =
    record { response_type = b.response_type.content.now; response = b.response.now }

unfoldable pub response_bytes_content : Layout ResponseBytes
response_bytes_content = do
  response_type ← object_identifier
  response ← tagged 4 rest
  done (record { response_type = response_type; response = response })

unfoldable pub response_bytes : Layout ResponseBytes
response_bytes = tagged 0x30 response_bytes_content

-- OCSPResponse: ENUMERATED responseStatus; [0] EXPLICIT ResponseBytes responseBytes OPTIONAL.
pub record OcspResponse : Type 0 where
  pub response_status : ℕ
  pub response_bytes : Option ResponseBytes

abbrev pub view_response : LentResponse → OcspResponse
view_response r = record {
  response_status = r.response_status.0;
  response_bytes = option_map view_response_bytes r.response_bytes;
}

unfoldable pub ocsp_response_content : Layout OcspResponse
ocsp_response_content = do
  status ← tagged 0x0a enumerated
  bytes ← optional 0xa0 response_bytes
  done (record { response_status = status; response_bytes = bytes })

unfoldable pub ocsp_response : Layout OcspResponse
ocsp_response = tagged 0x30 ocsp_response_content

-- ResponderID: CHOICE { byName [1] EXPLICIT Name, byKey [2] EXPLICIT OCTET STRING }.
pub data ResponderId : Type 0 where
  ByName : List (List AttributeTypeAndValue) → ResponderId
  ByKey : Bytes → ResponderId

abbrev pub view_responder : LentResponder → ResponderId
view_responder (lent.ByName n) = ByName (items_in relative_distinguished_name n.bytes.now)
view_responder (lent.ByKey b) = ByKey b.now

unfoldable pub key_hash : Layout Bytes
key_hash = tagged 4 rest

unfoldable pub responder_by : ℕ → Layout ResponderId
responder_by t =
    choose (t == 0xa1) (mapped ByName (tagged 0xa1 name)) (
    choose (t == 0xa2) (mapped ByKey (tagged 0xa2 key_hash)) (
    refuse Tag))

unfoldable pub responder_id : Layout ResponderId
responder_id = look (number 1) >>= responder_by

unfoldable pub version : Layout Bytes
version = tagged 2 integer

-- ResponseData: [0] EXPLICIT INTEGER version DEFAULT 0; ResponderID responderID; GeneralizedTime
-- producedAt; SEQUENCE OF SingleResponse responses; [1] EXPLICIT Extensions responseExtensions
-- OPTIONAL.
pub record ResponseData : Type 0 where
  pub version : Option Bytes
  pub responder_id : ResponderId
  pub produced_at : ℤ
  pub responses : List SingleResponse
  pub extensions : List Extension

abbrev pub view_data : LentData → ResponseData
view_data d = record {
  version = option_map (λ b. b.now) d.version;
  responder_id = view_responder d.responder_id;
  produced_at = d.produced_at;
  responses = items_in single_response d.responses.bytes.now;
  extensions = items_in extension d.extensions.bytes.now;
}

unfoldable pub data_content : Layout ResponseData
data_content = do
  version ← optional 0xa0 version
  responder ← responder_id
  produced_at ← time
  responses ← tagged 0x30 (items_of single_response)
  extensions ← optional 0xa1 extensions
  done (record {
    version = version;
    responder_id = responder;
    produced_at = produced_at;
    responses = responses;
    extensions = or_none extensions;
  })

unfoldable pub certificates : Layout (List Certificate)
certificates = tagged 0x30 (items_of certificate)

-- BasicOCSPResponse: ResponseData tbsResponseData; AlgorithmIdentifier signatureAlgorithm; BIT
-- STRING signature; [0] EXPLICIT SEQUENCE OF Certificate certs OPTIONAL.
pub record BasicOcspResponse : Type 0 where
  pub tbs_response_data : ResponseData
  pub signature_algorithm : AlgorithmIdentifier
  pub signature : BitString
  pub certs : List Certificate

abbrev pub certificates_or_none : Option (List Certificate) → List Certificate
certificates_or_none (Some xs) = xs
certificates_or_none None = []

abbrev pub view_basic : LentBasic → BasicOcspResponse
view_basic r = record {
  tbs_response_data = view_data r.tbs_response_data;
  signature_algorithm = view_algorithm r.signature_algorithm;
  signature = view_bit_string r.signature;
  certs = items_in certificate r.certs.bytes.now;
}

unfoldable pub basic_content : Layout BasicOcspResponse
basic_content = do
  response_data ← tagged 0x30 data_content
  algorithm ← algorithm_identifier
  signature ← tagged 3 bit_string
  certs ← optional 0xa0 certificates
  done (record {
    tbs_response_data = response_data;
    signature_algorithm = algorithm;
    signature = signature;
    certs = certificates_or_none certs;
  })

unfoldable pub basic_ocsp_response : Layout BasicOcspResponse
basic_ocsp_response = tagged 0x30 basic_content
