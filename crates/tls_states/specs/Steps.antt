-- The table of transitions.
use Rattle.std.specs.Prelude.{◌≡◌, Result, Ok, Err}
use Rattle.tls_words.specs.Words as words
use Rattle.tls_states.specs.Symbols.{Symbol, symbol, Word}
use Rattle.tls_states.specs.declared.symbol.Kind.{Kind}
use Rattle.tls_states.specs.declared.symbol.Kind.TheVariants as kind
use Rattle.tls_states.specs.declared.symbol.Direction.TheVariants.{ToServer, FromServer}
use Rattle.tls_states.specs.declared.state.TlsState.{TlsState}
use Rattle.tls_states.specs.declared.state.TlsState.TheVariants as state
use Rattle.tls_states.specs.declared.state.StateChangeError.{StateChangeError}
use Rattle.tls_states.specs.declared.state.StateChangeError.TheVariants.{InvalidTransition}

-- The state after a symbol. This is the code's table, written a second time, with d for either
-- direction.
abbrev pub step : TlsState → Symbol → Result TlsState StateChangeError
step state.None (symbol kind.ClientHello ToServer) = Ok state.ClientHello
step state.None (symbol kind.ClientHelloWithId ToServer) = Ok state.AskResumeSession
step state.ClientHello (symbol kind.ServerHello FromServer) = Ok state.ServerHello
step state.ClientHello (symbol kind.ServerHelloV13Draft18 FromServer) =
    Ok state.ClientChangeCipherSpec
step state.AskResumeSession (symbol kind.ChangeCipherSpec ToServer) = Ok state.AskResumeSession
step state.AskResumeSession (symbol kind.ServerHello FromServer) = Ok state.ResumeSession
step state.ResumeSession (symbol kind.Certificate FromServer) = Ok state.Certificate
step state.ResumeSession (symbol kind.ChangeCipherSpec d) = Ok state.ClientChangeCipherSpec
step state.ServerHello (symbol kind.Certificate FromServer) = Ok state.Certificate
step state.ServerHello (symbol kind.ServerKeyExchange FromServer) = Ok state.NoCertSKE
step state.Certificate (symbol kind.ServerKeyExchange FromServer) = Ok state.ServerKeyExchange
step state.Certificate (symbol kind.CertificateStatus FromServer) = Ok state.CertificateSt
step state.Certificate (symbol kind.CertificateRequest FromServer) = Ok state.CRCertRequest
step state.Certificate (symbol kind.ServerDone FromServer) = Ok state.PskHelloDone
step state.CertificateSt (symbol kind.ServerKeyExchange FromServer) = Ok state.ServerKeyExchange
step state.ServerKeyExchange (symbol kind.ServerDone FromServer) = Ok state.ServerHelloDone
step state.ServerKeyExchange (symbol kind.CertificateRequest FromServer) = Ok state.CRCertRequest
step state.CRCertRequest (symbol kind.ServerDone FromServer) = Ok state.CRHelloDone
step state.CRHelloDone (symbol kind.Certificate ToServer) = Ok state.CRCert
step state.CRCert (symbol kind.ClientKeyExchange ToServer) = Ok state.CRClientKeyExchange
step state.CRClientKeyExchange (symbol kind.CertificateVerify d) = Ok state.CRCertVerify
step state.CRClientKeyExchange (symbol kind.ChangeCipherSpec d) = Ok state.ClientChangeCipherSpec
step state.NoCertSKE (symbol kind.ServerDone FromServer) = Ok state.NoCertHelloDone
step state.ServerHelloDone (symbol kind.ClientKeyExchange ToServer) = Ok state.ClientKeyExchange
step state.NoCertHelloDone (symbol kind.ClientKeyExchange ToServer) = Ok state.NoCertCKE
step state.PskHelloDone (symbol kind.ClientKeyExchange ToServer) = Ok state.PskCKE
step state.ClientKeyExchange (symbol kind.ChangeCipherSpec d) = Ok state.ClientChangeCipherSpec
step state.CRCertVerify (symbol kind.ChangeCipherSpec d) = Ok state.ClientChangeCipherSpec
step state.NoCertCKE (symbol kind.ChangeCipherSpec d) = Ok state.ClientChangeCipherSpec
step state.PskCKE (symbol kind.ChangeCipherSpec d) = Ok state.ClientChangeCipherSpec
step state.ClientChangeCipherSpec (symbol kind.NewSessionTicket FromServer) =
    Ok state.ClientChangeCipherSpec
step state.ClientChangeCipherSpec (symbol kind.ChangeCipherSpec FromServer) =
    Ok state.SessionEncrypted
step state.Invalid l = Ok state.Invalid
step state.SessionEncrypted l = Ok state.SessionEncrypted
step state.Finished l = Ok state.Invalid
step state.None (symbol kind.HelloRequest d) = Err InvalidTransition
step q (symbol kind.HelloRequest d) = Ok q
step q (symbol kind.Warning d) = Ok q
step q (symbol kind.Fatal d) = Ok state.Finished
step q l = Err InvalidTransition

-- The effect of a kind of message if the table has no row for it: the last lines of step.
abbrev pub rule : TlsState → Kind → Result TlsState StateChangeError
rule state.Invalid k = Ok state.Invalid
rule state.SessionEncrypted k = Ok state.SessionEncrypted
rule state.Finished k = Ok state.Invalid
rule state.None kind.HelloRequest = Err InvalidTransition
rule q kind.HelloRequest = Ok q
rule q kind.Warning = Ok q
rule q kind.Fatal = Ok state.Finished
rule q k = Err InvalidTransition

-- An error counts as Invalid.
abbrev pub or_invalid : Result TlsState StateChangeError → TlsState
or_invalid (Ok q) = q
or_invalid (Err e) = state.Invalid

abbrev pub next : TlsState → Symbol → TlsState
next q l = or_invalid (step q l)

-- The state after a conversation.
abbrev pub run : TlsState → Word → TlsState
run q w = words.run next q w

-- A step was taken: the state that it leads to, and the result of the call.
abbrev pub IsUpdate : Result TlsState StateChangeError → TlsState
    → Result Unit StateChangeError → Type 0
IsUpdate (Ok q) end answer = (end ≡ q) × (answer ≡ Ok tt)
IsUpdate (Err e) end answer = (end ≡ state.Invalid) × (answer ≡ Err e)
