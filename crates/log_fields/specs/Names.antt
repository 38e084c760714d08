-- The names that are printed.
use Rattle.std.specs.Prelude.{ℕ, Bool, true, false, List, [], ◌∷◌, Option, Some, None, codes}
use Rattle.tls_base.specs.Names.{look_up}
use Rattle.tls_base.specs.Registered.{registered_alerts}
use Rattle.log_certificates.specs.Names.{error_text}
use Rattle.log_formats.specs.Texts.{name_or_number}
use Rattle.preambles.specs.declared.phase.Protocol as dialogues
use Rattle.preambles.specs.declared.phase.Protocol.TheVariants as dialogue
use Rattle.connections.specs.declared.five_tuple.Protocol as protocols
use Rattle.connections.specs.declared.five_tuple.Protocol.TheVariants as protocol
use Rattle.connections.specs.declared.receiver.DropReason as reasons
use Rattle.connections.specs.declared.receiver.DropReason.TheVariants as reason
use Rattle.tls_flow.specs.declared.state.Outcome as outcomes
use Rattle.tls_flow.specs.declared.state.Outcome.TheVariants as outcome
use Rattle.tls_flow.specs.declared.symbol.Direction as directions
use Rattle.tls_flow.specs.declared.symbol.Direction.TheVariants as direction
use Rattle.tls_flow.specs.declared.symbol.Kind as kinds
use Rattle.tls_flow.specs.declared.symbol.Kind.TheVariants as kind
use Rattle.tls_summary.specs.declared.parts.CertificateFault as faults
use Rattle.tls_summary.specs.declared.parts.CertificateFault.TheVariants as fault
use Rattle.tunnels.specs.declared.tunnel.TunnelKind as tunnels
use Rattle.tunnels.specs.declared.tunnel.TunnelKind.TheVariants as tunnel

abbrev pub protocol_text : protocols.Protocol → List ℕ
protocol_text protocol.Tcp = codes "tcp"
protocol_text protocol.Udp = codes "udp"

abbrev pub outcome_text : outcomes.Outcome → List ℕ
outcome_text outcome.Waiting = codes "waiting"
outcome_text outcome.Full = codes "full"
outcome_text outcome.Resumed = codes "resumed"
outcome_text (outcome.Tls13 retried early) = codes "tls13"
outcome_text outcome.BrokenOff = codes "broken_off"
outcome_text outcome.Unknown = codes "unknown"
outcome_text outcome.NoHandshake = codes "no_handshake"

-- The sender of a message.
abbrev pub sender_text : directions.Direction → List ℕ
sender_text direction.ToServer = codes "client"
sender_text direction.FromServer = codes "server"

abbrev pub is_clients : directions.Direction → Bool
is_clients direction.ToServer = true
is_clients direction.FromServer = false

abbrev pub kind_text : kinds.Kind → List ℕ
kind_text kind.HelloRequest = codes "hello_request"
kind_text kind.ClientHello = codes "client_hello"
kind_text kind.HelloVerifyRequest = codes "hello_verify_request"
kind_text kind.ServerHello = codes "server_hello"
kind_text kind.HelloRetryRequest = codes "hello_retry_request"
kind_text kind.ServerHello13 = codes "server_hello"
kind_text kind.NewSessionTicket = codes "new_session_ticket"
kind_text kind.Certificate = codes "certificate"
kind_text kind.ServerKeyExchange = codes "server_key_exchange"
kind_text kind.CertificateRequest = codes "certificate_request"
kind_text kind.ServerDone = codes "server_hello_done"
kind_text kind.CertificateVerify = codes "certificate_verify"
kind_text kind.ClientKeyExchange = codes "client_key_exchange"
kind_text kind.CertificateStatus = codes "certificate_status"
kind_text kind.ChangeCipherSpec = codes "change_cipher_spec"
kind_text kind.Encrypted = codes "encrypted"
kind_text kind.Warning = codes "alert"
kind_text kind.NoCertificate = codes "alert"
kind_text kind.Fatal = codes "alert"
kind_text kind.Heartbeat = codes "heartbeat"
kind_text kind.Unknown = codes "unknown"
kind_text kind.Other = codes "other"

-- Alerts by their names in IANA's registry.
unfoldable pub alert_text : ℕ → List ℕ
alert_text n = name_or_number (look_up registered_alerts n) n

abbrev pub reason_text : reasons.DropReason → List ℕ
reason_text reason.Checksum = codes "checksum"
reason_text reason.NoAck = codes "no_ack"
reason_text reason.Acknowledgment = codes "ack"
reason_text reason.Window = codes "window"
reason_text reason.Clock = codes "paws"
reason_text reason.Signature = codes "signature"
reason_text reason.Syn = codes "syn"
reason_text reason.Reset = codes "rst"
reason_text reason.Fin = codes "fin"

-- The reasons in the order in which they are printed.
abbrev pub drop_reasons : List reasons.DropReason
drop_reasons =
    reason.Checksum
    ∷ reason.NoAck
    ∷ reason.Acknowledgment
    ∷ reason.Window
    ∷ reason.Clock
    ∷ reason.Signature
    ∷ reason.Syn
    ∷ reason.Reset
    ∷ reason.Fin
    ∷ []

-- Why a certificate can't be parsed.
abbrev pub fault_text : faults.CertificateFault → List ℕ
fault_text fault.Incomplete = codes "incomplete"
fault_text fault.Trailing = codes "trailing"
fault_text (fault.Broken kind) = error_text kind

abbrev pub tunnel_text : tunnels.TunnelKind → List ℕ
tunnel_text tunnel.Ipv4 = codes "ipv4"
tunnel_text tunnel.Ipv6 = codes "ipv6"
tunnel_text tunnel.Gre = codes "gre"
tunnel_text tunnel.Erspan = codes "erspan"
tunnel_text tunnel.Mpls = codes "mpls"
tunnel_text tunnel.Vxlan = codes "vxlan"
tunnel_text tunnel.Geneve = codes "geneve"
tunnel_text tunnel.GtpU = codes "gtp"
tunnel_text tunnel.Teredo = codes "teredo"
tunnel_text tunnel.Backbone = codes "pbb"

-- The protocol in front of TLS.
abbrev pub dialogue_text : dialogues.Protocol → List ℕ
dialogue_text dialogue.Smtp = codes "smtp"
dialogue_text dialogue.Lmtp = codes "lmtp"
dialogue_text dialogue.Ftp = codes "ftp"
dialogue_text dialogue.Pop3 = codes "pop3"
dialogue_text dialogue.Imap = codes "imap"
dialogue_text dialogue.Sieve = codes "sieve"
dialogue_text dialogue.Nntp = codes "nntp"
dialogue_text dialogue.Irc = codes "irc"
dialogue_text dialogue.Proxy = codes "proxy"
dialogue_text dialogue.HttpConnect = codes "http_connect"
dialogue_text dialogue.Socks4 = codes "socks4"
dialogue_text dialogue.Socks5 = codes "socks5"
dialogue_text dialogue.Postgres = codes "postgresql"
dialogue_text dialogue.Mysql = codes "mysql"
dialogue_text dialogue.Rdp = codes "rdp"
dialogue_text dialogue.Tds = codes "tds"
dialogue_text dialogue.Ldap = codes "ldap"
dialogue_text dialogue.Xmpp = codes "xmpp"

-- The search that found TLS, if bytes came before it. The arguments say whether each side sent
-- none.
abbrev pub search_text : Bool → Bool → Option (List ℕ)
search_text true true = None
search_text true false = Some (codes "search")
search_text false b = Some (codes "search")

-- What found TLS behind other bytes.
abbrev pub found_by_text : Option dialogues.Protocol → Bool → Bool → Option (List ℕ)
found_by_text (Some p) a b = Some (dialogue_text p)
found_by_text None a b = search_text a b

-- The sides with missing bytes: the originator, the responder.
abbrev pub gap_text : Bool → Bool → Option (List ℕ)
gap_text true true = Some (codes "both")
gap_text true false = Some (codes "orig")
gap_text false true = Some (codes "resp")
gap_text false false = None
