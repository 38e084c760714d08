-- Names of the states.
use Rattle.std.specs.Prelude.{◌≡◌, ℕ, List, codes, slice_get, Some}
use Rattle.tls_states.specs.declared.state.TlsState.{TlsState}
use Rattle.tls_states.specs.declared.state.TlsState.TheVariants as states

-- No state is at two positions.
abbrev pub IsOncePlaced : List TlsState → Type 0
IsOncePlaced qs = (i j : ℕ) (q : TlsState) → slice_get qs i ≡ Some q
    → slice_get qs j ≡ Some q → i ≡ j

-- The name of a state is that of its variant.
abbrev pub state_name : TlsState → List ℕ
state_name states.None = codes "None"
state_name states.ClientHello = codes "ClientHello"
state_name states.AskResumeSession = codes "AskResumeSession"
state_name states.ResumeSession = codes "ResumeSession"
state_name states.ServerHello = codes "ServerHello"
state_name states.Certificate = codes "Certificate"
state_name states.CertificateSt = codes "CertificateSt"
state_name states.ServerKeyExchange = codes "ServerKeyExchange"
state_name states.ServerHelloDone = codes "ServerHelloDone"
state_name states.ClientKeyExchange = codes "ClientKeyExchange"
state_name states.ClientChangeCipherSpec = codes "ClientChangeCipherSpec"
state_name states.CRCertRequest = codes "CRCertRequest"
state_name states.CRHelloDone = codes "CRHelloDone"
state_name states.CRCert = codes "CRCert"
state_name states.CRClientKeyExchange = codes "CRClientKeyExchange"
state_name states.CRCertVerify = codes "CRCertVerify"
state_name states.NoCertSKE = codes "NoCertSKE"
state_name states.NoCertHelloDone = codes "NoCertHelloDone"
state_name states.NoCertCKE = codes "NoCertCKE"
state_name states.PskHelloDone = codes "PskHelloDone"
state_name states.PskCKE = codes "PskCKE"
state_name states.SessionEncrypted = codes "SessionEncrypted"
state_name states.Alert = codes "Alert"
state_name states.Finished = codes "Finished"
state_name states.Invalid = codes "Invalid"
