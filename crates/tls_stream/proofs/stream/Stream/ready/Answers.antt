use Rattle.std.proofs.Common.{◌∙◌, ap, refl, subst}
use Rattle.tls_stream.specs.Stream.{ReadsTheSame, events, fed, joined_to}
use Rattle.tls_stream.specs.declared.stream.Stream.{Stream}
use Rattle.tls_stream.proofs.stream.Stream.ready.Goals as goal

pub fragments-init : goal.fragments-init
fragments-init c = λ s. refl

pub fragments-preserved : goal.fragments-preserved
fragments-preserved c = λ s.
    ap (λ h. events (fed (record {
      limit = c.fragments.self.limit;
      is_tls13 = c.fragments.self.is_tls13;
      has_changed =
          c.fragments.self.has_changed;
      kind = c.in-Joins.kind;
      held = h;
    }) s)) c.join.ensures
    ∙ subst (λ (v : Stream). ReadsTheSame (joined_to v c.in-Joins.kind c.in-Joins.len) v)
    c.view.ensures c.in-Joins.ensures.1 s
    ∙ c.fragments.invariant s
