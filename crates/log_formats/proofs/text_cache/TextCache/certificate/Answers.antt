use Rattle.std.proofs.Common.{◌≡◌, ◌<◌, length, get_or, sym, subst, rules}
use Rattle.log_formats.specs.declared.text_cache.KnownCertificate.{KnownCertificate}
use Rattle.std.specs.Prelude.{List}
use Rattle.log_formats.proofs.text_cache.TextCache.certificate.Goals as goal

pub returns-then-is_of-clause-found : goal.returns-then-is_of-clause-found
returns-then-is_of-clause-found c =
    let i = c.loop-one.one-index in
    let x = c.one-item.result in
    let is = c.is_of.ensures.0 c.if-is_of.true in
    let same : c.deref-one-items.result.now ≡ c.args.self.now.certificates.items = search rules in (
      i,
      x,
      subst (λ (xs : List KnownCertificate). i < length xs) same c.loop-one-test.true,
      subst (λ (xs : List KnownCertificate). get_or xs i x ≡ x) same (sym c.one-item.is),
      (is.0, is.1, search rules),
    )
