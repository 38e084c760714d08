-- A tagged extension is read as bytes first, and then its content within these bytes.
use Rattle.std.proofs.Common.{◌≡◌, ℕ, Ok, Err, refl}
use Rattle.layouts.specs.Bytes.{Bytes, bytes_of}
use Rattle.layouts.specs.Layout.{Layout, counted, counted_window}
use Rattle.layouts.specs.Meaning.{Answer}
use Rattle.layouts.specs.Reading.{reading, ◌and_then◌, split_at, number_at, tag_at}
use Rattle.tls_ext.specs.Extension.{Extension}
use Rattle.tls_ext.specs.Tagged.{tagged, tagged_bytes}

-- the content in a window, and the bytes after the window
abbrev pub in_window : Layout Extension → Bytes × Bytes → Answer Extension
in_window l w = reading l w.0 and_then λ x. Ok (x.0, w.1)

window_opens : (l : Layout Extension) (n : Answer ℕ) →
    (n and_then λ k. split_at k.0 k.1 and_then in_window l) ≡ (n and_then λ k. split_at k.0 k.1)
    and_then in_window l
window_opens l (Ok k) = refl
window_opens l (Err e) = refl

tagged_opens : (l : Layout Extension) (t : Answer Unit) →
    (t and_then λ x. reading (counted_window 2 l) x.1) ≡ (t and_then λ x. reading (counted 2) x.1)
    and_then in_window l
tagged_opens l (Ok x) = window_opens l (number_at 2 x.1)
tagged_opens l (Err e) = refl

pub tagged_opened : (kind : ℕ) (l : Layout Extension) (b : Bytes)
    → reading (tagged kind l) b ≡ reading (tagged_bytes kind) b and_then in_window l
unfolding tagged tagged_bytes
tagged_opened kind l b = tagged_opens l (tag_at (bytes_of 2 kind) b)
