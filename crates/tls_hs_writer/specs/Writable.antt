-- The values of the handshake messages that the writer knows.
use Rattle.tls_hs.specs.Hello.{view_client_hello}
use Rattle.tls_hs.specs.ServerHello.{view_server_hello, view_server_hello_draft18}
use Rattle.tls_hs.specs.Session.{view_client_key_exchange}
use Rattle.tls_hs.specs.Handshake.{Handshake, HelloRequest, ClientHello, ServerHello, ServerHelloV13Draft18}
use Rattle.tls_hs.specs.Handshake.{ClientKeyExchange, Finished}
use Rattle.tls_hs_writer.specs.declared.writer.Writable.{Writable}
use Rattle.tls_hs_writer.specs.declared.writer.Writable.TheVariants as writable

abbrev pub view_writable : Writable → Handshake
view_writable writable.HelloRequest = HelloRequest
view_writable (writable.ClientHello h) = ClientHello (view_client_hello h.now)
view_writable (writable.ServerHello h) = ServerHello (view_server_hello h.now)
view_writable (writable.ServerHelloV13Draft18 h) =
    ServerHelloV13Draft18 (view_server_hello_draft18 h.now)
view_writable (writable.ClientKeyExchange k) = ClientKeyExchange (view_client_key_exchange k.now)
view_writable (writable.Finished b) = Finished b.now
