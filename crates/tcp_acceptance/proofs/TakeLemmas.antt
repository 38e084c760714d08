-- What waits after a part of a segment was acknowledged.
use Rattle.std.proofs.Common.{◌≡◌, ℕ, Bool, true, false, cond, Option, Some, None, List, remove, slice_get, set, refl, arith}
use Rattle.std.proofs.lemmas.List.{length-drop}
use Rattle.tcp_acceptance.specs.Numbers.{ahead_of}
use Rattle.tcp_acceptance.specs.Doubtful.{Doubtful}
use Rattle.tcp_acceptance.specs.Room.{IsWithin}
use Rattle.tcp_acceptance.specs.Taking.{is_cut, left_at, left_of, rest_of}
use Rattle.tcp_acceptance.proofs.BoundLemmas.{within_removed, within_set}

-- It takes no more space.
within_left : (ack n : ℕ) (o : Option Doubtful) (ks : List Doubtful) → slice_get ks n ≡ o
    → IsWithin ks
    → IsWithin (left_of ack n o ks)
within_left ack n None ks h w = w
within_left ack n (Some k) ks h w = go (is_cut ack k)
  where
    go : (b : Bool) → IsWithin (cond b (set ks n (rest_of ack k)) (remove ks n))
    go true =
        let less = length-drop (ahead_of ack k.first) k.bytes in
        within_set ks n k (rest_of ack k) h (omega (arith, less)) w
    go false = within_removed ks n w

pub within_left_at : (ack : ℕ) (o : Option ℕ) (ks : List Doubtful) → IsWithin ks
    → IsWithin (left_at ack o ks)
within_left_at ack None ks w = w
within_left_at ack (Some n) ks w = within_left ack n (slice_get ks n) ks refl w
