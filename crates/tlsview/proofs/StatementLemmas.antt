-- Which lines are well-formed.
use Rattle.std.proofs.Common.{
  ◌≡◌,
  ℕ,
  Bool,
  true,
  false,
  cond,
  List,
  [],
  ◌∷◌,
  Option,
  Some,
  None,
  Result,
  Ok,
  Err,
  IsSome,
  refl,
}
use Rattle.std.proofs.Math.Dec.{eqb}
use Rattle.std.specs.Prelude.{◌↔◌}
use Rattle.std.proofs.lemmas.Bool.{eqb-true}
use Rattle.hex.specs.declared.error.FromHexError.{FromHexError}
use Rattle.hex.specs.Hex.{decode_of}
use Rattle.hex.proofs.HexLemmas.{decode_of-ok, decode_of-digits}
use Rattle.tlsview.specs.Direction.{sign_of, direction_of}
use Rattle.tlsview.specs.Statement.{with_direction, line_of, IsStatement}
use Rattle.tlsview.specs.declared.direction.LineDirection.{LineDirection}
use Rattle.tlsview.specs.declared.direction.LineDirection.TheVariants.{ToServer, FromServer}

sign_back : (d : LineDirection) → direction_of (sign_of d) ≡ Some d
sign_back ToServer = refl
sign_back FromServer = refl

sign_stands : (sign : ℕ) (d : LineDirection) → direction_of sign ≡ Some d → sign ≡ sign_of d
sign_stands sign d h = tests (eqb sign 62) (eqb sign 60) refl refl h
  where
    tests : (s t : Bool) → eqb sign 62 ≡ s → eqb sign 60 ≡ t
        → cond s (Some ToServer) (cond t (Some FromServer) None) ≡ Some d → sign ≡ sign_of d
    tests true t e f g = let is : d ≡ ToServer = cc in rw (is, eqb-true sign 62 e) refl
    tests false true e f g = let is : d ≡ FromServer = cc in rw (is, eqb-true sign 60 f) refl
    tests false false e f g = cc

-- the parts of a line whose digits are decoded
decoded : (d : Option LineDirection) (digits : List ℕ) → IsSome (with_direction d digits)
    → (e : LineDirection) × (d ≡ Some e) × (bytes : List ℕ) × (decode_of digits ≡ Ok bytes)
decoded None digits h = cc h
decoded (Some e) digits h = let found = go (decode_of digits) refl in (e, refl, found.0, found.1)
  where
    go : (r : Result (List ℕ) FromHexError) → decode_of digits ≡ r
        → (bytes : List ℕ) × (decode_of digits ≡ Ok bytes)
    go (Ok bytes) f = (bytes, f)
    go (Err g) f = cc (rw f at h)

statement-from_some : (line : List ℕ) → IsSome (line_of line) → IsStatement line
statement-from_some [] h = cc h
statement-from_some (s ∷ []) h = cc h
statement-from_some (s ∷ p ∷ digits) h = go (eqb p 32) refl h
  where
    go : (t : Bool) → eqb p 32 ≡ t → IsSome (cond t (with_direction (direction_of s) digits) None)
        → IsStatement (s ∷ p ∷ digits)
    go false e g = cc g
    go true e g =
        let parts = decoded (direction_of s) digits g in
        let space : p ≡ 32 = eqb-true p 32 e in
        let sign : s ≡ sign_of parts.0 = sign_stands s parts.0 parts.1 in
        let ok = decode_of-ok digits parts.2 parts.3 in
        record {
          direction = parts.0;
          digits = digits;
          spelled = cc;
          even = ok.0;
          hexadecimal = ok.1;
        }

some-from_statement : (line : List ℕ) → IsStatement line → IsSome (line_of line)
some-from_statement line h =
    let read = decode_of-digits h.digits h.even h.hexadecimal in
    rw (h.spelled, sign_back h.direction, read.1) refl

pub statement_form : (line : List ℕ) → IsSome (line_of line) ↔ IsStatement line
statement_form line = (statement-from_some line, some-from_statement line)
