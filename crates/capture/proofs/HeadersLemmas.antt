-- Extension headers of IPv6, by how many may still come.
use Rattle.std.proofs.Common.{◌≡◌, ◌≢◌, ℕ, zero, suc, ◌-◌, refl, ap, arith}
use Rattle.layouts.specs.Layout.{chain}
use Rattle.capture.specs.Transport.{transport}
use Rattle.layouts.specs.Layout.{refuse}
use Rattle.layouts.specs.declared.result.ErrorKind.TheVariants.{Switch}
use Rattle.capture.specs.Fragment.{piece_behind, piece_step_at, piece_then}
use Rattle.capture.specs.Ip.{headers, step, step_then}

pub none_left : (next : ℕ) → headers 0 next ≡ transport next
unfolding headers
none_left next = refl

pub one_more : (n next : ℕ) → n ≢ 0
    → headers n next ≡ chain (step next) (step_then (headers (n - 1)) next)
unfolding headers
one_more zero next some = absurd (some refl)
one_more (suc n) next some =
    let same : n ≡ suc n - 1 = omega arith in
    ap (λ k. chain (step next) (step_then (headers k) next)) same

pub no_piece_left : (next : ℕ) → piece_behind 0 next ≡ refuse Switch
unfolding piece_behind
no_piece_left next = refl

pub one_more_piece : (n next : ℕ) → n ≢ 0
    → piece_behind n next ≡ chain (piece_step_at next) (piece_then (piece_behind (n - 1)))
unfolding piece_behind
one_more_piece zero next some = absurd (some refl)
one_more_piece (suc n) next some =
    let same : n ≡ suc n - 1 = omega arith in
    ap (λ k. chain (piece_step_at next) (piece_then (piece_behind k))) same
