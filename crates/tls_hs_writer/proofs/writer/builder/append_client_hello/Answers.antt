use Rattle.std.proofs.Common.{◌++◌, ◌∙◌, ap, map}
use Rattle.layouts.specs.Bytes.{bytes_of}
use Rattle.layouts.specs.Text.{counted_text, numbers_text, held}
use Rattle.tls_hs.specs.Hello.{view_client_hello}
use Rattle.tls_hs.specs.HandshakeText.{client_hello_text}
use Rattle.tls_hs_writer.proofs.LengthLemmas.{six_added}
use Rattle.tls_hs_writer.proofs.writer.builder.append_client_hello.Goals as goal

pub returns-clause-items : goal.returns-clause-items
unfolding client_hello_text
returns-clause-items c =
    let h = view_client_hello c.args.h.now in
    six_added c.args.out.now.items c.append2.new.out.items c.append_bytes.new.out.items
    c.append_counted1.new.out.items
    c.append_suites.new.out.items c.append_methods.new.out.items c.append_counted2.new.out.items
    (bytes_of 2 h.client_version) h.random (counted_text 1 (held h.session_id))
    (counted_text 2 (numbers_text 2 h.cipher_suites))
    (counted_text 1 (numbers_text 1 h.compression_methods))
    (counted_text 2 (held h.extensions))
    c.append2.ensures.items
    c.append_bytes.ensures.items
    (c.append_counted1.ensures.items
    ∙ ap (λ x. c.append_bytes.new.out.items ++ counted_text 1 x) c.held.ensures.bytes)
    (c.append_suites.ensures.items ∙ ap (λ x. c.append_counted1.new.out.items ++ counted_text 2
    (numbers_text 2 (map (λ x. x.0) x))) c.deref.ensures.value)
    (c.append_methods.ensures.items ∙ ap (λ x. c.append_suites.new.out.items ++ counted_text 1
    (numbers_text 1 (map (λ x. x.0) x))) c.deref-2.ensures.value)
    (c.append_counted2.ensures.items
    ∙ ap (λ x. c.append_methods.new.out.items ++ counted_text 2 x) c.held-2.ensures.bytes)
