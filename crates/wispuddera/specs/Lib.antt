pub use Rattle.layouts.specs.Bytes
pub use Rattle.layouts.specs.Layout
pub use Rattle.layouts.specs.Meaning
pub use Rattle.layouts.specs.Reading
pub use Rattle.layouts.specs.Stable
pub use Rattle.layouts.specs.Answers
pub use Rattle.layouts.specs.Items
pub use Rattle.layouts.specs.Framed
pub use Rattle.layouts.specs.Place
pub use Rattle.layouts.specs.Text
pub use Rattle.layouts.specs.Writer
pub use Rattle.tls_base.specs.Names
pub use Rattle.tls_base.specs.ExtensionNumbers
pub use Rattle.tls_base.specs.Constants
pub use Rattle.tls_key_exchange.specs.KeyExchange
pub use Rattle.tls_base.specs.Alert
pub use Rattle.tls_key_exchange.specs.Signature
pub use Rattle.tls_key_exchange.specs.Timestamp
pub use Rattle.tls_base.specs.Cipher
pub use Rattle.tls_base.specs.CipherTable
pub use Rattle.tls_ext.specs.Extension
pub use Rattle.tls_ext.specs.Content
pub use Rattle.tls_ext.specs.Tagged
pub use Rattle.tls_ext.specs.Dispatch
pub use Rattle.tls_ext.specs.InPlace as ExtensionInPlace
pub use Rattle.tls_ext.specs.ExtensionText
pub use Rattle.tls_hs.specs.Hello
pub use Rattle.tls_hs.specs.ServerHello
pub use Rattle.tls_hs.specs.Certificate
pub use Rattle.tls_hs.specs.Session
pub use Rattle.tls_hs.specs.Handshake
pub use Rattle.tls_hs.specs.Message
pub use Rattle.tls_hs.specs.InPlace as HandshakeInPlace
pub use Rattle.tls_hs.specs.Places
pub use Rattle.tls_hs.specs.Messages
pub use Rattle.tls_hs.specs.HandshakeText
pub use Rattle.tls_hs_writer.specs.HandshakeWriter
pub use Rattle.tls_hs_writer.specs.Writable
pub use Rattle.tls_words.specs.Words
pub use Rattle.tls_states.specs.Symbols
pub use Rattle.tls_states.specs.Grammar
pub use Rattle.tls_states.specs.Conversations
pub use Rattle.tls_states.specs.Steps
pub use Rattle.tls_states.specs.Table
pub use Rattle.tls_states.specs.States
pub use Rattle.raw_records.specs.Framing
pub use Rattle.raw_records.specs.RawRecord
pub use Rattle.raw_records.specs.RawDtlsRecord
pub use Rattle.raw_records.specs.First
pub use Rattle.tls_records.specs.Record
pub use Rattle.tls_records.specs.InPlace
pub use Rattle.tls_records.specs.RecordText
pub use Rattle.tls_records.specs.RecordWriter
pub use Rattle.dtls_records.specs.DtlsHello
pub use Rattle.dtls_records.specs.DtlsHandshake
pub use Rattle.dtls_records.specs.DtlsRecord
pub use Rattle.dtls_records.specs.DtlsInPlace
pub use Rattle.tls_places.specs.Place as PlacePlace
pub use Rattle.tls_places.specs.Last
pub use Rattle.tls_places.specs.Hello as PlaceHello
pub use Rattle.tls_places.specs.DtlsHello as PlaceDtlsHello
pub use Rattle.tls_detection.specs.Front as Detection
pub use Rattle.tls_stream.specs.Frames
pub use Rattle.tls_stream.specs.Records
pub use Rattle.tls_stream.specs.Held
pub use Rattle.tls_stream.specs.Item
pub use Rattle.tls_stream.specs.Messages as EventMessages
pub use Rattle.tls_stream.specs.Stream
pub use Rattle.tls_stream.specs.Events
pub use Rattle.tls_stream.specs.Taken
pub use Rattle.tls_flow.specs.Symbols as FlowSymbols
pub use Rattle.tls_flow.specs.Grammar as FlowGrammar
pub use Rattle.tls_flow.specs.Conversations as FlowConversations
pub use Rattle.tls_flow.specs.Table as FlowTable
pub use Rattle.tls_flow.specs.Steps as FlowSteps
pub use Rattle.tls_flow.specs.Messages as FlowMessages
pub use Rattle.tls_flow.specs.Bytes as FlowBytes
pub use Rattle.tls_flow.specs.Events as FlowEvents
pub use Rattle.tls_flow.specs.Read
pub use Rattle.dtls_stream.specs.Fragments
pub use Rattle.dtls_stream.specs.Messages as DtlsMessages
pub use Rattle.dtls_stream.specs.Sent
pub use Rattle.dtls_stream.specs.Datagrams
pub use Rattle.raw_records.specs.Ciphertext
pub use Rattle.dtls_stream.specs.Ack
pub use Rattle.raw_records.specs.DatagramRecord
pub mod BothEvents
pub use Rattle.tls_stream.specs.SideReaders
pub use Rattle.tls_stream.specs.Readers
pub use Rattle.tls_stream.specs.Conversations as BothConversations
pub use Rattle.der.specs.Element
pub use Rattle.der.specs.Values
pub use Rattle.der.specs.ObjectIdentifier
pub use Rattle.der.specs.Time as DerTime
pub use Rattle.der.specs.Text as DerText
pub use Rattle.x509.specs.Name as X509Name
pub use Rattle.x509.specs.Certificate as X509Certificate
pub use Rattle.x509.specs.GeneralName as X509GeneralName
pub use Rattle.x509.specs.Extensions as X509Extensions
pub use Rattle.x509.specs.PublicKey as X509PublicKey
pub use Rattle.x509_text.specs.Name as X509NameText
pub use Rattle.x509_text.specs.ObjectText as X509ObjectText
pub use Rattle.x509_text.specs.GeneralName as X509GeneralNameText
pub use Rattle.x509_text.specs.Number as X509NumberText
pub use Rattle.x509_text.specs.Time as X509TimeText
pub use Rattle.x509_text.specs.Key as X509KeyText
pub use Rattle.x509_text.specs.Usage as X509UsageText
pub use Rattle.x509_text.specs.Host as X509Host
pub use Rattle.x509_places.specs.Place as X509Place
pub use Rattle.x509_places.specs.Certificate as X509Places
pub use Rattle.x509_places.specs.Walk as X509Walk
