use Rattle.std.proofs.Common.{◌≡◌, ◌≤◌, ◌+◌, ◌^◌, ◌<◌, ◌++◌, map, take, vec_len, vec_capacity}
use Rattle.std.specs.List.{All}
use Rattle.layouts.specs.Text.{numbers_text}
use Rattle.tls_hs_writer.proofs.writer.builder.append_each_method.Given as goal

abbrev pub invariant-loop-method : goal.invariant-loop-method
invariant-loop-method l = record {
  items : l.out.items ≡ l.fn.out.items ++ numbers_text 1
      (map (λ x. x.0) (take l.method-index l.methods));
  range : All (λ x. x < 256 ^ 1) (map (λ x. x.0) (take l.method-index l.methods));
  count : vec_len l.out ≡ vec_len l.fn.out + l.method-index;
  room : vec_capacity l.fn.out ≤ vec_capacity l.out;
}
