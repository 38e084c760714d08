-- How much memory the summary of a connection takes, in bytes.
use Rattle.std.specs.Prelude.{ℕ, ◌+◌, ◌*◌, ◌-◌, ◌^◌, min, Option, Some, None, vec_capacity}
use Rattle.std.specs.Global.{Vec}
use Rattle.tls_summary.specs.declared.parts.CertificateSummary.{CertificateSummary}
use Rattle.tls_summary.specs.declared.parts.ClientParts.{ClientParts}
use Rattle.tls_summary.specs.declared.parts.ServerParts.{ServerParts}
use Rattle.tls_summary.specs.declared.summary.HandshakeSummary.{HandshakeSummary}
use Rattle.tls_observer.specs.declared.capacity.TheConstants.{CERTIFICATE_COST}

-- Sums and products saturate.
abbrev pub plus : ℕ → ℕ → ℕ
plus n m = min (n + m) (2 ^ 64 - 1)

abbrev pub times : ℕ → ℕ → ℕ
times n m = min (n * m) (2 ^ 64 - 1)

abbrev pub of_bytes : Option (Vec ℕ) → ℕ
of_bytes None = 0
of_bytes (Some v) = vec_capacity v

abbrev pub of_chain : Option (Vec CertificateSummary) → ℕ
of_chain None = 0
of_chain (Some v) = times (vec_capacity v) CERTIFICATE_COST

abbrev pub of_client : Option ClientParts → ℕ
of_client None = 0
of_client (Some c) =
    plus (plus (plus (plus (vec_capacity c.random) (of_bytes c.session_id))
    (vec_capacity c.ciphers)) (vec_capacity c.compressions)) (of_bytes c.ext)

abbrev pub of_server : Option ServerParts → ℕ
of_server None = 0
of_server (Some s) = plus (plus (vec_capacity s.random) (of_bytes s.session_id)) (of_bytes s.ext)

-- The vectors of a summary.
abbrev pub of_handshake : HandshakeSummary → ℕ
of_handshake h =
    plus (plus (plus (plus (plus (plus (plus (of_client h.client) (of_server h.server))
    (of_chain h.client_certificates)) (of_chain h.server_certificates))
    (of_bytes h.client_certificate)) (of_bytes h.server_certificate))
    (of_bytes h.ocsp_response)) (of_bytes h.ssl2_cipher_specs)
