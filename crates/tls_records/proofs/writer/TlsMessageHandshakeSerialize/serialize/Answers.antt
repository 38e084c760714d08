use Rattle.std.proofs.Common.{◌≡◌, refl}
use Rattle.tls_hs.specs.Handshake.{view_handshake}
use Rattle.tls_hs.specs.HandshakeText.{refusal_of_handshake}
use Rattle.tls_hs_writer.proofs.HandshakeTextLemmas.{built_read}
use Rattle.tls_records.proofs.writer.TlsMessageHandshakeSerialize.serialize.Goals as goal

pub returns-clause-read_back : goal.returns-clause-read_back
returns-clause-read_back c =
    let m = view_handshake c.args.self.now in
    built_read (λ v. v.items) c.handshake_bytes.result m m (λ e. e ≡ refusal_of_handshake m)
    c.handshake_bytes.ensures.builds c.handshake_bytes.ensures.range refl
