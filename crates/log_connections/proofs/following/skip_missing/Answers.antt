use Rattle.std.proofs.Common.{◌≡◌, ◌∙◌, ap, subst, sym}
use Rattle.std.specs.Prelude.{◌==◌, false, true}
use Rattle.std.proofs.lemmas.Bool.{ne_eqb}
use Rattle.connections.specs.Lost.{lost_of}
use Rattle.connections.specs.declared.connection.Connection.{Connection}
use Rattle.log_connections.proofs.FollowLemmas.{analysis_stays, skips_none, skips_some}
use Rattle.log_connections.specs.Analysis.{PassesMissing}
use Rattle.log_connections.specs.declared.analysis.TlsAnalysis.{TlsAnalysis}
use Rattle.log_connections.proofs.following.skip_missing.Goals as goal

pub returns-then-skipped-eq0-clause-skips : goal.returns-then-skipped-eq0-clause-skips
returns-then-skipped-eq0-clause-skips g c =
    skips_none c.args.side c.args.before c.args.connection.now c.skip_lost.new.self
    (sym c.awaits.ensures ∙ c.if-not-awaits.false)
    (ap (λ n. n == 0) (sym c.in_ok-skipped.ensures.count ∙ c.if-skipped-eq0.true))
    c.in_ok-skipped.ensures.skipped

pub returns-clause-skips : goal.returns-clause-skips
returns-clause-skips g c =
    let same = ap {A = Connection (TlsAnalysis _)} (λ x. x.attachment) c.in_ok-skipped.ensures.skipped
    ∙ analysis_stays c.args.side c.args.before c.args.connection.now in
    skips_some c.args.side c.args.before c.pass_missing.new.self c.args.connection.now _
    (sym c.awaits.ensures ∙ c.if-not-awaits.false)
    (ap (λ n. n == 0) (sym c.in_ok-skipped.ensures.count) ∙ ne_eqb _ 0 c.if-skipped-eq0.false)
    (subst
    (λ n. PassesMissing c.args.side n c.args.connection.now.attachment c.pass_missing.new.self)
    c.in_ok-skipped.ensures.count
    (subst (λ x. PassesMissing c.args.side c.in_ok-skipped.skipped x c.pass_missing.new.self) same
    c.pass_missing.ensures))
    (ap {A = Connection (TlsAnalysis _)} (λ x. record x { attachment = c.pass_missing.new.self })
    c.in_ok-skipped.ensures.skipped)
