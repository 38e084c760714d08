use Rattle.std.proofs.Common.{sym, ◌∙◌, subst, Any}
use Rattle.log_formats.specs.Cached.{IsCertificateText}
use Rattle.log_formats.proofs.CachedLemmas.{emptied_adds, pushed_adds, pushed_has_it}
use Rattle.log_formats.proofs.text_cache.TextCache.cache_certificate.Goals as goal

pub returns-in_err-one-clause-added : goal.returns-in_err-one-clause-added
returns-in_err-one-clause-added c = λ ps cs t h.
    emptied_adds (IsCertificateText ps cs t) _ c.args.self.now.certificates.items
    c.empty_full.new.list.items c.empty_full.ensures.either h

pub returns-in_err-push-clause-added : goal.returns-in_err-push-clause-added
returns-in_err-push-clause-added c = λ ps cs t h.
    emptied_adds (IsCertificateText ps cs t) _ c.args.self.now.certificates.items
    c.empty_full.new.list.items c.empty_full.ensures.either
    (subst (Any (IsCertificateText ps cs t)) c.in_err-push.ensures.items h)

pub returns-clause-added : goal.returns-clause-added
returns-clause-added c = λ ps cs t h.
    pushed_adds (IsCertificateText ps cs t) _ c.args.self.now.certificates.items
    c.empty_full.new.list.items c.push.new.self.items c.in_ok-one.one c.empty_full.ensures.either
    c.in_ok-push.ensures.items
    (λ q. (
      sym q.0 ∙ c.in_ok-one.ensures.0,
      sym q.1 ∙ c.in_ok-one.ensures.1,
      sym q.2 ∙ c.in_ok-one.ensures.2,
    ))
    h

pub returns-clause-there : goal.returns-clause-there
returns-clause-there c = λ certificate_fits text_fits.
    pushed_has_it (IsCertificateText c.args.places.now c.args.certificate.now c.args.text.now) _ _
    c.in_ok-one.one c.in_ok-push.ensures.items c.in_ok-one.ensures
