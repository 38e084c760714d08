use Rattle.std.proofs.Common.{◌≡◌, arith, rules, sym, ◌∙◌, drop, true, false}
use Rattle.std.proofs.lemmas.List.{take_rest}
use Rattle.tls_detection.specs.Place.{begins_behind}
use Rattle.tls_detection.proofs.PlaceLemmas.{found, none_left, passed}
use Rattle.tls_detection.proofs.place.place_behind.Goals as goal

pub returns-then-begins_behind : goal.returns-then-begins_behind
returns-then-begins_behind c =
    let here : c.begins_behind.result ≡ begins_behind c.args.answers
    (drop c.loop-place.place c.args.bytes.now) =
    rw (take_rest c.args.bytes.now c.loop-place.place) at c.begins_behind.ensures in
    found c.args.answers c.args.bytes.now c.loop-place.place (search rules)
    (sym here ∙ c.if-begins_behind.true) c.loop-place.invariant.1

pub loop-place-preserved : goal.loop-place-preserved
loop-place-preserved c =
    let here : c.begins_behind.result ≡ begins_behind c.args.answers
    (drop c.loop-place.place c.args.bytes.now) =
    rw (take_rest c.args.bytes.now c.loop-place.place) at c.begins_behind.ensures in (
      omega (arith, c.loop-place-test.true),
      passed c.args.answers c.args.bytes.now c.loop-place.place (search rules)
          (sym here ∙ c.if-begins_behind.false) c.loop-place.invariant.1,
    )

pub returns : goal.returns
returns c =
    none_left c.args.answers c.args.bytes.now c.loop-place.place (search rules)
    c.loop-place.invariant.1
