use Rattle.std.proofs.Common.{◌≡◌, ◌++◌, map, take, decimal}
use Rattle.std.specs.String.{string_bytes}
use Rattle.json.specs.Token.{string, number}
use Rattle.json_objects.specs.Data.{capped}
use Rattle.json_objects.proofs.lists.write_numbers.Given as goal

abbrev pub invariant-loop-one : goal.invariant-loop-one
invariant-loop-one l = record {
  tokens : l.out.tokens ≡ l.initial.out.tokens ++ map (λ n. number (decimal (capped n))) (take l.one-index l.numbers);
  before : l.out.before ≡ l.initial.out.before;
}
