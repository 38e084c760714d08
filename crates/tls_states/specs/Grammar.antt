-- The grammar of handshakes, by the message flows of RFC 5246, section 7.3. A conversation is
-- followed up to the server's ChangeCipherSpec, after which all is encrypted.
use Rattle.std.specs.Prelude.{[], ◌∷◌, Bool, true, false, not, if◌then◌else◌, filter}
use Rattle.tls_states.specs.Symbols.{Symbol, symbol, Word}
use Rattle.tls_words.specs.Words.{Pattern, one, ◌then◌, ◌or◌, maybe, many}
use Rattle.tls_states.specs.declared.symbol.Kind.{Kind}
use Rattle.tls_states.specs.declared.symbol.Kind.TheVariants.{
  HelloRequest,
  ClientHello,
  ClientHelloWithId,
  ServerHello,
  ServerHelloV13Draft18,
  NewSessionTicket,
  Certificate,
  ServerKeyExchange,
  CertificateRequest,
  ServerDone,
  CertificateVerify,
  ClientKeyExchange,
  CertificateStatus,
  ChangeCipherSpec,
  Warning,
}
use Rattle.tls_states.specs.declared.symbol.Direction.TheVariants.{ToServer, FromServer}

-- A message of the client, of the server, and of either side.
abbrev pub client : Kind → Pattern Symbol
client k = one (symbol k ToServer)

abbrev pub server : Kind → Pattern Symbol
server k = one (symbol k FromServer)

abbrev pub any : Kind → Pattern Symbol
any k = client k or server k

-- The end of the server's first messages, and the client's answer without a certificate.
abbrev pub without_client_certificate : Pattern Symbol
without_client_certificate = server ServerDone then client ClientKeyExchange then
    any ChangeCipherSpec

-- The end of the server's first messages with a request for a certificate: the client sends one,
-- and may prove that it owns it.
abbrev pub with_client_certificate : Pattern Symbol
with_client_certificate =
    server CertificateRequest then server ServerDone
    then client Certificate then client ClientKeyExchange then maybe (any CertificateVerify) then
    any ChangeCipherSpec

-- The server's key exchange, optionally after the status of its certificate (RFC 6066, section 8).
abbrev pub key_exchange : Pattern Symbol
key_exchange = maybe (server CertificateStatus) then server ServerKeyExchange

-- What follows the server's certificate.
abbrev pub after_certificate : Pattern Symbol
after_certificate =
    maybe key_exchange then with_client_certificate
    or key_exchange then without_client_certificate
    or without_client_certificate

-- What follows the ServerHello of a new session: a certificate, or a key exchange alone.
abbrev pub new_session : Pattern Symbol
new_session = server Certificate then after_certificate or server ServerKeyExchange then
    without_client_certificate

-- The first figure of section 7.3, in which the client offers no session.
abbrev pub full_handshake : Pattern Symbol
full_handshake = client ClientHello then server ServerHello then new_session

-- The second figure, in which the client offers a session: it may change its cipher at once. Either
-- the session is resumed, or the server continues with its certificate as for a new one.
abbrev pub resumed : Pattern Symbol
resumed = any ChangeCipherSpec

abbrev pub not_resumed : Pattern Symbol
not_resumed = server Certificate then after_certificate

abbrev pub resumption : Pattern Symbol
resumption =
    client ClientHelloWithId then many (client ChangeCipherSpec) then server ServerHello then
    (resumed or not_resumed)

-- Draft 18 of TLS 1.3, section 2, up to the first encrypted message.
abbrev pub draft_18 : Pattern Symbol
draft_18 = client ClientHello then server ServerHelloV13Draft18

-- The server's tickets (RFC 5077, section 3.1), and its ChangeCipherSpec.
abbrev pub servers_change : Pattern Symbol
servers_change = many (server NewSessionTicket) then server ChangeCipherSpec

abbrev pub handshake : Pattern Symbol
handshake = (full_handshake or resumption or draft_18) then servers_change

-- Noise: alerts of severity 1, and HelloRequests after the first ClientHello (section 7.4.1.1).
abbrev pub is_warning : Symbol → Bool
is_warning (symbol Warning d) = true
is_warning _ = false

abbrev pub is_hello_request : Symbol → Bool
is_hello_request (symbol HelloRequest d) = true
is_hello_request _ = false

abbrev pub is_client_hello : Symbol → Bool
is_client_hello (symbol ClientHello d) = true
is_client_hello (symbol ClientHelloWithId d) = true
is_client_hello _ = false

abbrev pub without_later_requests : Word → Word
without_later_requests [] = []
without_later_requests (l ∷ w) = l ∷ (if is_client_hello l then filter
    (λ x. not (is_hello_request x)) w else without_later_requests w)

-- A conversation without its noise.
abbrev pub clean : Word → Word
clean w = without_later_requests (filter (λ x. not (is_warning x)) w)
