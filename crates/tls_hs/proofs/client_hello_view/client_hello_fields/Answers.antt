use Rattle.std.specs.Option.{option_map}
use Rattle.tls_hs.proofs.PlacesLemmas.{
  lies,
  number_leads,
  block_leads,
  session_id_leads,
  cookie_leads,
  extensions_lead,
}
use Rattle.tls_hs.proofs.client_hello_view.client_hello_fields.Goals as goal

pub returns-clause-lies : goal.returns-clause-lies
returns-clause-lies c =
    let random = block_leads 32 c.in_ok-i.i.now c.in_ok-i-2.random.now c.in_ok-i-2.i.now
    c.in_ok-i-2.ensures.allowed in
    lies c.args.i.now _ _ c.extension_block.result.0.now (record {
      after_version = c.in_ok-i.i.now;
      after_random = c.in_ok-i-2.i.now;
      after_id = c.in_ok-i-3.i.now;
      after_cookie = c.in_ok-i-4.i.now;
      after_suites = c.in_ok-i-5.i.now;
      after_methods = c.in_ok-i-6.i.now;
      version = number_leads 2 c.args.i.now c.in_ok-i.version.0 c.in_ok-i.i.now
          c.in_ok-i.ensures.allowed;
      random = random.0;
      size = random.1;
      session_id =
          session_id_leads c.in_ok-i-2.i.now (option_map (λ x. x.now) c.in_ok-i-3.session_id)
          c.in_ok-i-3.i.now c.in_ok-i-3.ensures.allowed;
      cookie = cookie_leads c.args.has_cookie c.in_ok-i-3.i.now
          (option_map (λ x. x.now) c.in_ok-i-4.cookie)
          c.in_ok-i-4.i.now c.in_ok-i-4.ensures.allowed;
      cipher_suites = c.in_ok-i-5.ensures.leads;
      compression_methods = c.in_ok-i-6.ensures.leads;
      extensions =
          extensions_lead c.in_ok-i-6.i.now (option_map (λ x. x.now) c.extension_block.result.1)
          c.extension_block.result.0.now c.extension_block.ensures.allowed;
    })
