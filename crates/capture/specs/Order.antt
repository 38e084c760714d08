-- Numbers in the byte order of the machine that wrote a file (draft-ietf-opsawg-pcap, section 4;
-- draft-ietf-opsawg-pcapng, section 4.1).
use Rattle.std.specs.Prelude.{ℕ, ◌+◌, ◌*◌, [], ◌∷◌}
use Rattle.layouts.specs.Bytes.{Bytes}
use Rattle.layouts.specs.Layout.{Layout, number, block, mapped}
use Rattle.capture.specs.declared.order.Order.{Order}
use Rattle.capture.specs.declared.order.Order.TheVariants.{Big, Little}

-- The little-endian number in these bytes.
abbrev pub little_of : Bytes → ℕ
little_of [] = 0
little_of (b ∷ bs) = b + 256 * little_of bs

-- A little-endian number of k bytes.
unfoldable pub little : ℕ → Layout ℕ
little k = mapped little_of (block k)

-- A number of k bytes in this byte order.
unfoldable pub number_by : Order → ℕ → Layout ℕ
number_by Big k = number k
number_by Little k = little k
