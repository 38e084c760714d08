-- Where TLS begins after other bytes.
use Rattle.std.specs.Prelude.{ℕ, ◌+◌, ◌*◌, suc, Bool, false, ◌&&◌, ◌||◌, ◌==◌, nat_le, if◌then◌else◌, Option, Some, None, List, [], ◌∷◌, length, take, slice_index}
use Rattle.std.specs.Option.{option_map}
use Rattle.layouts.specs.Bytes.{Bytes}

-- The first bytes of a record with a hello of this type: content type 22, the major version 3, a
-- length of 4 to 2^14 (RFC 8446, section 5.1); then the message's type and its length of 3 bytes
-- (section 4), and its version, 03 00 to 03 03 (section 4.1.2).
unfoldable pub is_hello : ℕ → Bytes → Bool
is_hello msg_type b =
    slice_index b 0 == 22
    && (slice_index b 1 == 3
    && (nat_le 4 (slice_index b 3 * 256 + slice_index b 4)
    && (nat_le (slice_index b 3 * 256 + slice_index b 4) 16384
    && (slice_index b 5 == msg_type && (slice_index b 9 == 3 && nat_le (slice_index b 10) 3)))))

-- The first bytes of an alert in the clear: content type 21, the major version 3, a length of 2,
-- and level 1 or 2 (section 6).
unfoldable pub is_alert : Bytes → Bool
is_alert b =
    slice_index b 0 == 21
    && (slice_index b 1 == 3
    && (slice_index b 3 == 0
    && (slice_index b 4 == 2 && (slice_index b 5 == 1 || slice_index b 5 == 2))))

-- A server begins with a ServerHello or an alert, a client with a ClientHello. 11 bytes decide it.
unfoldable pub is_answer : Bytes → Bool
is_answer b = is_hello 2 b || is_alert b

unfoldable pub begins_behind : Bool → Bytes → Bool
begins_behind answers b =
    if nat_le 11 (length b) then
    (if answers then is_answer (take 11 b) else is_hello 1 (take 11 b)) else false

-- The first place where it begins.
unfoldable pub place_behind : Bool → Bytes → Option ℕ
place_behind answers [] = None
place_behind answers (x ∷ b) =
    if begins_behind answers (x ∷ b) then Some 0 else option_map suc (place_behind answers b)
