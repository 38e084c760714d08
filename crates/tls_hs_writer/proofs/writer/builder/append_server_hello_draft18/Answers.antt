use Rattle.std.proofs.Common.{◌++◌, ◌∙◌, ap}
use Rattle.layouts.specs.Bytes.{bytes_of}
use Rattle.layouts.specs.Text.{counted_text, held}
use Rattle.tls_hs.specs.ServerHello.{view_server_hello_draft18}
use Rattle.tls_hs.specs.HandshakeText.{server_hello_draft18_text}
use Rattle.tls_hs_writer.proofs.LengthLemmas.{four_added}
use Rattle.tls_hs_writer.proofs.writer.builder.append_server_hello_draft18.Goals as goal

pub returns-clause-items : goal.returns-clause-items
unfolding server_hello_draft18_text
returns-clause-items c =
    let h = view_server_hello_draft18 c.args.h.now in
    four_added c.args.out.now.items c.append2.new.out.items c.append_bytes.new.out.items
    c.append2-2.new.out.items
    c.append_counted2.new.out.items
    (bytes_of 2 h.version) h.random (bytes_of 2 h.cipher_suite) (counted_text 2 (held h.extensions))
    c.append2.ensures.items
    c.append_bytes.ensures.items
    c.append2-2.ensures.items
    (c.append_counted2.ensures.items
    ∙ ap (λ x. c.append2-2.new.out.items ++ counted_text 2 x) c.held.ensures.bytes)
