use Rattle.std.proofs.Common.{rules, arith}
use Rattle.tls_hs_writer.proofs.LengthLemmas.{client_hello_length, client_hello_fits}
use Rattle.tls_hs_writer.proofs.writer.judge.client_hello_len.Goals as goal

pub returns : goal.returns
returns c =
    let h = c.args.h.now in
    let id = c.held-id.ensures.len in
    let ext = c.held-ext.ensures.len in
    let suites = c.len-suites.ensures in
    let methods = c.len-methods.ensures in (
      client_hello_fits h (search rules) (search (rules, id)) (search (rules, suites))
          (search (rules, methods))
          (search (rules, ext)),
      omega (arith, client_hello_length h, id, ext, suites, methods),
    )
