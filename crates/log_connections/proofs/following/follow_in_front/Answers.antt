use Rattle.std.proofs.Common.{◌≡◌, ◌∙◌, ap, subst}
use Rattle.std.specs.Prelude.{◌==◌, ◌&&◌, not}
use Rattle.std.proofs.lemmas.Result.{IfOk-weaker}
use Rattle.connections.specs.Connection.{stream_of}
use Rattle.connections.specs.declared.stream.Stream.{Stream}
use Rattle.log_connections.specs.Analysis.{is_followed_in}
use Rattle.log_connections.specs.Sides.{AnalyzesIf, SkipsMissing, missing_of, other_of}
use Rattle.log_connections.proofs.following.follow_in_front.Goals as goal

pub returns-clause-front : goal.returns-clause-front
returns-clause-front g c =
    let was = c.args.connection.now in
    let first = c.skip_missing.new.connection in
    let second = c.skip_missing-2.new.connection in
    let third = c.search_behind.new.connection in
    let side = c.args.side in
    let of_last : c.last-last.result ≡ (stream_of (other_of side) was).last =
    c.last-last.ensures ∙ ap {A = Stream} (λ t. t.last) c.stream.ensures
    ∙ ap (λ s. (stream_of s was).last) c.other_side-other.ensures in
    let any = c.in_ok-has_missing.ensures.any
    ∙ ap (λ s. not (missing_of s c.last-last.result was == 0)) c.other_side-other.ensures
    ∙ ap (λ n. not (missing_of (other_of side) n was == 0)) of_last in
    IfOk-weaker c.follow_if_any.result _ _
    (λ _ follows. record {
      first = first;
      second = second;
      third = third;
      skips_other =
          subst (λ n. SkipsMissing (other_of side) n was first) of_last
          (subst (λ s. SkipsMissing s c.last-last.result was first) c.other_side-other.ensures
          c.in_ok-has_missing.ensures.skips);
      skips_own =
          subst (λ n. SkipsMissing side n first second) c.first.ensures
          c.in_ok-skip_missing.ensures.skips;
      searches =
          subst
          (λ b. AnalyzesIf (b && not (is_followed_in second.attachment.transport)) side second third)
          any c.in_ok-search_behind.ensures.searches;
      follows = follows;
    }) c.follow_if_any.ensures.follows
