use Rattle.std.proofs.Common.{◌++◌, ◌∙◌, ap}
use Rattle.layouts.specs.Bytes.{bytes_of}
use Rattle.layouts.specs.Text.{counted_text, held}
use Rattle.tls_hs.specs.ServerHello.{view_server_hello}
use Rattle.tls_hs.specs.HandshakeText.{server_hello_text}
use Rattle.tls_hs_writer.proofs.LengthLemmas.{six_added}
use Rattle.tls_hs_writer.proofs.writer.builder.append_server_hello.Goals as goal

pub returns-clause-items : goal.returns-clause-items
unfolding server_hello_text
returns-clause-items c =
    let h = view_server_hello c.args.h.now in
    six_added c.args.out.now.items c.append2.new.out.items c.append_bytes.new.out.items
    c.append_counted1.new.out.items
    c.append2-2.new.out.items c.append1.new.out.items c.append_counted2.new.out.items
    (bytes_of 2 h.server_version) h.random (counted_text 1 (held h.session_id))
    (bytes_of 2 h.cipher_suite)
    (bytes_of 1 h.compression_method) (counted_text 2 (held h.extensions))
    c.append2.ensures.items
    c.append_bytes.ensures.items
    (c.append_counted1.ensures.items
    ∙ ap (λ x. c.append_bytes.new.out.items ++ counted_text 1 x) c.held.ensures.bytes)
    c.append2-2.ensures.items
    c.append1.ensures.items
    (c.append_counted2.ensures.items
    ∙ ap (λ x. c.append1.new.out.items ++ counted_text 2 x) c.held-2.ensures.bytes)
