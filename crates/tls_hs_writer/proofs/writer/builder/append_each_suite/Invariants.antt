use Rattle.std.proofs.Common.{◌≡◌, ◌≤◌, ◌+◌, ◌*◌, ◌^◌, ◌<◌, ◌++◌, map, take, vec_len, vec_capacity}
use Rattle.std.specs.List.{All}
use Rattle.layouts.specs.Text.{numbers_text}
use Rattle.tls_hs_writer.proofs.writer.builder.append_each_suite.Given as goal

abbrev pub invariant-loop-suite : goal.invariant-loop-suite
invariant-loop-suite l = record {
  items : l.out.items ≡ l.fn.out.items ++ numbers_text 2
      (map (λ x. x.0) (take l.suite-index l.suites));
  range : All (λ x. x < 256 ^ 2) (map (λ x. x.0) (take l.suite-index l.suites));
  count : vec_len l.out ≡ vec_len l.fn.out + 2 * l.suite-index;
  room : vec_capacity l.fn.out ≤ vec_capacity l.out;
}
