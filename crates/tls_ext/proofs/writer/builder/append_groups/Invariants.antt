use Rattle.std.proofs.Common.{◌≡◌, ◌≤◌, ◌+◌, ◌*◌, ◌^◌, ◌<◌, ◌++◌, map, take, vec_len, vec_capacity}
use Rattle.std.specs.List.{All}
use Rattle.layouts.specs.Text.{numbers_text}
use Rattle.tls_ext.proofs.writer.builder.append_groups.Given as goal

abbrev pub invariant-loop-group : goal.invariant-loop-group
invariant-loop-group l = record {
  items : l.out.items ≡ l.fn.out.items ++ numbers_text 2
      (map (λ g. g.0) (take l.group-index l.groups));
  range : All (λ x. x < 256 ^ 2) (map (λ g. g.0) (take l.group-index l.groups));
  count : vec_len l.out ≡ vec_len l.fn.out + 2 * l.group-index;
  room : vec_capacity l.fn.out ≤ vec_capacity l.out;
}
