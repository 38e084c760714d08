-- A hash of bytes is that of the first ones, extended by the rest.
use Rattle.std.proofs.Common.{ℕ, ◌+◌, ◌*◌, ◌/◌, ◌%◌, ◌^◌, ◌≡◌, ◌++◌, refl, ap, add_comm, [], ◌∷◌}
use Rattle.std.specs.Prelude.{bit_xor, ◌==◌}
use Rattle.layouts.specs.Bytes.{Bytes}
use Rattle.connection_parts.specs.Part.{end_hash, falls_to, fnv_from, protocol_number, spread}
use Rattle.connection_parts.specs.declared.part.Part.{Part}
use Rattle.connections.specs.declared.five_tuple.End.{End}
use Rattle.connections.specs.declared.five_tuple.Protocol.{Protocol}

pub fnv_behind : (h : ℕ) (xs ys : Bytes) → fnv_from (fnv_from h xs) ys ≡ fnv_from h (xs ++ ys)
fnv_behind h [] ys = refl
fnv_behind h (x ∷ xs) ys = fnv_behind (bit_xor h x * 0x100000001b3 % 2 ^ 64) xs ys

pub both_directions : (p : Protocol) (a b : End) (part : Part)
    → falls_to p a b part ≡ falls_to p b a part
both_directions p a b part =
    ap (λ h. spread ((h % 2 ^ 64 + protocol_number p) % 2 ^ 64) / 2 ^
    32 % (part.last + 1) == part.number) (add_comm (end_hash a) (end_hash b))
