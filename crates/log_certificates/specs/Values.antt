-- The values of a certificate's fields.
use Rattle.std.specs.Prelude.{
  ℕ,
  ◌+◌,
  ◌/◌,
  ◌==◌,
  ℤ,
  pos,
  ◌-ℤ◌,
  int_lt,
  Bool,
  false,
  ◌&&◌,
  cond,
  List,
  [],
  ◌∷◌,
  filter,
  map,
  Option,
  Some,
  None,
}
use Rattle.std.specs.Option.{option_and_then, option_map, unwrap_or}
use Rattle.layouts.specs.Bytes.{Bytes}
use Rattle.json_objects.specs.Data as form
use Rattle.json_objects.specs.Data.{Data, plain}
use Rattle.x509.specs.Certificate.{AlgorithmIdentifier, Extension, SubjectPublicKeyInfo}
use Rattle.x509.specs.Extensions.{BasicConstraints, basic_constraints, first_of}
use Rattle.x509.specs.GeneralName.{
  GeneralName,
  Rfc822Name,
  DnsName,
  UniformResourceIdentifier,
  IpAddress,
  Other,
}
use Rattle.x509.specs.Name.{AttributeTypeAndValue}
use Rattle.x509_text.specs.Algorithm.{same_algorithm}
use Rattle.x509_text.specs.Exponent.{exponent_of, natural_text, natural_value}
use Rattle.x509_text.specs.GeneralName.{general_name_text}
use Rattle.x509_text.specs.Host.{alt_names, is_host, labels, names_host}
use Rattle.x509_text.specs.Key.{is_weak_by, key_curve_of, key_length_by, key_type_of}
use Rattle.x509_text.specs.Name.{name_text}
use Rattle.x509_text.specs.Number.{serial_number_text}
use Rattle.x509_text.specs.ObjectText.{object_text}
use Rattle.x509_text.specs.Signature.{is_weak_signature}
use Rattle.x509_text.specs.Validity.{whole_days}
use Rattle.log_formats.specs.Data.{count_data, mark_data, marked, some_texts, text_data}
use Rattle.log_certificates.specs.Read.{ReadFields, readable_in}
use Rattle.log_certificates.specs.Timestamps.{
  timestamp_count_value,
  timestamp_logs_value,
  timestamp_times_value,
}
use Rattle.log_certificates.specs.declared.field.CertificateField.{CertificateField}
use Rattle.log_certificates.specs.declared.field.CertificateField.TheVariants as of

abbrev pub version_value : Option ℕ → Option Data
version_value = option_map (λ n. count_data (n + 1))

abbrev pub serial_value : Option Bytes → Option Data
serial_value = option_map (λ n. text_data (serial_number_text n))

-- A name as RFC 4514 writes it.
abbrev pub name_value : Option (List (List AttributeTypeAndValue)) → Option Data
name_value = option_map (λ n. text_data (name_text n))

-- A time, in seconds since 1970-01-01 00:00 UTC.
abbrev pub time_value : Option ℤ → Option Data
time_value = option_map (λ t. plain (form.whole t))

-- The whole days from the first second to the last.
abbrev pub days_between : Option ℤ → Option ℤ → Option ℕ
days_between (Some start) (Some end) = whole_days (end -ℤ start)
days_between (Some start) None = None
days_between None end = None

abbrev pub days_value : Option ℤ → Option ℤ → Option Data
days_value start end = option_map count_data (days_between start end)

abbrev pub key_algorithm_value : Option SubjectPublicKeyInfo → Option Data
key_algorithm_value = option_map (λ k. text_data (object_text k.algorithm.algorithm))

abbrev pub key_type_value : Option SubjectPublicKeyInfo → Option Data
key_type_value = option_map (λ k. text_data (key_type_of k.algorithm.algorithm))

abbrev pub key_length_in : Option SubjectPublicKeyInfo → Option ℕ
key_length_in = option_and_then key_length_by

abbrev pub exponent_in : Option SubjectPublicKeyInfo → Option Bytes
exponent_in = option_and_then exponent_of

abbrev pub curve_in : Option SubjectPublicKeyInfo → Option Bytes
curve_in = option_and_then key_curve_of

-- The key has less than 112 bits of security.
abbrev pub is_weak : SubjectPublicKeyInfo → Option Bool
is_weak k = is_weak_by k.algorithm.algorithm (key_length_by k)

abbrev pub has_weak_key : Option SubjectPublicKeyInfo → Bool
has_weak_key k = unwrap_or (option_and_then is_weak k) false

-- The hash of the signature is broken.
abbrev pub has_weak_signature : Option AlgorithmIdentifier → Bool
has_weak_signature a = unwrap_or (option_and_then is_weak_signature a) false

abbrev pub algorithm_value : Option AlgorithmIdentifier → Option Data
algorithm_value = option_map (λ a. text_data (object_text a.algorithm))

-- The algorithm in the signed part, if it isn't the signature's.
abbrev pub differing : AlgorithmIdentifier → AlgorithmIdentifier → Option Data
differing inner outer =
    cond (same_algorithm inner outer) None (Some (text_data (object_text inner.algorithm)))

abbrev pub inner_algorithm_value : Option AlgorithmIdentifier → Option AlgorithmIdentifier
    → Option Data
inner_algorithm_value (Some inner) (Some outer) = differing inner outer
inner_algorithm_value (Some inner) None = None
inner_algorithm_value None outer = None

-- The kind of a name, by its tag (RFC 5280, section 4.2.1.6): rfc822Name [1], dNSName [2],
-- uniformResourceIdentifier [6], iPAddress [7]; 0 for all others.
abbrev pub tag_of : GeneralName → ℕ
tag_of (Rfc822Name b) = 1
tag_of (DnsName b) = 2
tag_of (UniformResourceIdentifier b) = 6
tag_of (IpAddress b) = 7
tag_of (Other e) = 0

-- The texts of the names of a kind.
abbrev pub texts_of_kind : ℕ → List GeneralName → List Bytes
texts_of_kind tag names = map general_name_text (filter (λ n. tag_of n == tag) names)

-- The names of a kind in the subjectAltName.
abbrev pub names_value : ℕ → Option (List Extension) → Option Data
names_value tag None = None
names_value tag (Some extensions) = some_texts (texts_of_kind tag (alt_names extensions))

-- id-ce-basicConstraints: 2.5.29.19 (RFC 5280, section 4.2.1.9)
abbrev pub BASIC_CONSTRAINTS : Bytes
BASIC_CONSTRAINTS = 0x55 ∷ 0x1d ∷ 0x13 ∷ []

abbrev pub constraints_by : Option Extension → Option BasicConstraints
constraints_by None = None
constraints_by (Some e) = readable_in basic_constraints e.extn_value

abbrev pub constraints_in : List Extension → Option BasicConstraints
constraints_in extensions = constraints_by (first_of BASIC_CONSTRAINTS extensions)

-- Whether it may sign others; not so without basicConstraints.
abbrev pub is_ca : List Extension → Bool
is_ca extensions = unwrap_or (option_map (λ c. c.ca) (constraints_in extensions)) false

abbrev pub is_ca_value : Option (List Extension) → Option Data
is_ca_value = option_map (λ xs. mark_data (is_ca xs))

-- Whether it may sign others; None without basicConstraints.
abbrev pub may_be_ca_value : Option (List Extension) → Option Data
may_be_ca_value xs = option_map (λ c. mark_data c.ca) (option_and_then constraints_in xs)

-- How many certificates may come between it and the last.
abbrev pub path_length_in : Option (List Extension) → Option ℕ
path_length_in xs =
    option_and_then natural_value
    (option_and_then (λ c. c.path_len_constraint) (option_and_then constraints_in xs))

-- A host is one of its dNSNames (RFC 9525, section 6.3).
abbrev pub is_named : Bytes → List Extension → Bool
is_named host extensions = is_host (labels host) && names_host (labels host) (alt_names extensions)

abbrev pub names_host_in : Bytes → ReadFields → Option Bool
names_host_in host r = option_map (is_named host) r.extensions

-- Nanoseconds as whole seconds.
abbrev pub seconds_of : ℕ → ℤ
seconds_of time = pos (time / 1000000000)

abbrev pub is_before : Option ℤ → ℤ → Bool
is_before (Some end) at = int_lt end at
is_before None at = false

abbrev pub is_after : Option ℤ → ℤ → Bool
is_after (Some start) at = int_lt at start
is_after None at = false

-- Its last second was before a time, in nanoseconds; its first second is after it.
abbrev pub has_expired : ReadFields → ℕ → Bool
has_expired r time = is_before r.not_after (seconds_of time)

abbrev pub is_not_yet_valid : ReadFields → ℕ → Bool
is_not_yet_valid r time = is_after r.not_before (seconds_of time)

-- The value of a field: None if it is left out. Fields without a definition here have none at all:
-- times as text, self_issued, what can't be read, decoded names, what the key may be used for,
-- where to find the issuer, policies.
abbrev pub certificate_value : CertificateField → ReadFields → Option (Option Data)
certificate_value of.Version r = Some (version_value r.version)
certificate_value of.Serial r = Some (serial_value r.serial_number)
certificate_value of.Subject r = Some (name_value r.subject)
certificate_value of.Issuer r = Some (name_value r.issuer)
certificate_value of.NotBefore r = None
certificate_value of.NotAfter r = None
certificate_value of.ValidFrom r = Some (time_value r.not_before)
certificate_value of.ValidUntil r = Some (time_value r.not_after)
certificate_value of.ValidityDays r = Some (days_value r.not_before r.not_after)
certificate_value of.KeyAlgorithm r = Some (key_algorithm_value r.key)
certificate_value of.KeyType r = Some (key_type_value r.key)
certificate_value of.KeyLength r = Some (option_map count_data (key_length_in r.key))
certificate_value of.Exponent r =
    Some (option_map (λ e. text_data (natural_text e)) (exponent_in r.key))
certificate_value of.Curve r =
    Some (option_map (λ c. text_data (object_text c)) (curve_in r.key))
certificate_value of.WeakKey r = Some (marked (has_weak_key r.key))
certificate_value of.SignatureAlgorithm r = Some (algorithm_value r.signature_algorithm)
certificate_value of.InnerSignatureAlgorithm r =
    Some (inner_algorithm_value r.inner_signature r.signature_algorithm)
certificate_value of.WeakSignature r = Some (marked (has_weak_signature r.signature_algorithm))
certificate_value of.DnsNames r = Some (names_value 2 r.extensions)
certificate_value of.Uris r = Some (names_value 6 r.extensions)
certificate_value of.Emails r = Some (names_value 1 r.extensions)
certificate_value of.Addresses r = Some (names_value 7 r.extensions)
certificate_value of.OtherNames r = Some (names_value 0 r.extensions)
certificate_value of.UserNames r = None
certificate_value of.DirectoryNames r = None
certificate_value of.IsCa r = Some (is_ca_value r.extensions)
certificate_value of.MayBeCa r = Some (may_be_ca_value r.extensions)
certificate_value of.PathLength r = Some (option_map count_data (path_length_in r.extensions))
certificate_value of.SelfIssued r = None
certificate_value of.KeyUsage r = None
certificate_value of.Purposes r = None
certificate_value of.Timestamps r = Some (timestamp_count_value r.extensions)
certificate_value of.TimestampLogs r = Some (timestamp_logs_value r.extensions)
certificate_value of.TimestampTimes r = Some (timestamp_times_value r.extensions)
certificate_value of.OcspResponders r = None
certificate_value of.CaIssuers r = None
certificate_value of.Policies r = None
certificate_value of.UnreadFields r = None
