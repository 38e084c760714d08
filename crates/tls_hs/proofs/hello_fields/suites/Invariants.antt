use Rattle.std.proofs.Common.{◌≡◌, map, take}
use Rattle.std.specs.Prelude.{vec_len, vec_capacity, length}
use Rattle.std.specs.Option.{option_map}
use Rattle.tls_base.specs.CipherTable.{suite_of_id}
use Rattle.tls_hs.proofs.hello_fields.suites.Given as goal

abbrev pub invariant-loop-cipher : goal.invariant-loop-cipher
invariant-loop-cipher l = record {
  suites : map (option_map (λ s. s.now)) l.suites.items ≡ map (suite_of_id l.table)
      (map (λ c. c.0) (take l.cipher-index l.ciphers));
  count : vec_len l.suites ≡ l.cipher-index;
  room : vec_capacity l.suites ≡ length l.ciphers;
}
