-- Signatures.
use Rattle.std.specs.Prelude.{ℕ, ◌++◌, Bool, Option, Some, None, Ok, Err, ◌≡◌, codes}
use Rattle.std.specs.Option.{option_map}
use Rattle.layouts.specs.Bytes.{Bytes}
use Rattle.layouts.specs.Layout.{Layout, done, number, ◌>>=◌, mapped, choose, counted}
use Rattle.layouts.specs.Answers.{Returned, Gives}
use Rattle.tls_base.specs.Names.{Text, name}
use Rattle.tls_base.specs.Constants.{hash_algorithms, signature_algorithms}
use Rattle.tls_key_exchange.specs.declared.signature.SignatureAndHashAlgorithm as algorithm_of
use Rattle.tls_key_exchange.specs.declared.signature.DigitallySigned as signed_of

-- struct { HashAlgorithm hash; SignatureAlgorithm signature; } SignatureAndHashAlgorithm (RFC 5246,
-- section 7.4.1.4.1).
pub record SignatureAndHashAlgorithm : Type 0 where
  pub hash : ℕ
  pub signature : ℕ

abbrev pub view_algorithm : algorithm_of.SignatureAndHashAlgorithm → SignatureAndHashAlgorithm
view_algorithm a = record { hash = a.hash.0; signature = a.sign.0 }

unfoldable pub algorithm : Layout SignatureAndHashAlgorithm
algorithm = do
  hash ← number 1
  signature ← number 1
  done (record { hash = hash; signature = signature })

-- How the pair is shown.
abbrev pub algorithm_text : algorithm_of.SignatureAndHashAlgorithm → Text
algorithm_text a =
    codes "HashSign("
    ++ name (codes "HashAlgorithm") hash_algorithms a.hash.0
    ++ codes ","
    ++ name (codes "SignAlgorithm") signature_algorithms a.sign.0
    ++ codes ")"

-- struct { SignatureAndHashAlgorithm algorithm; opaque signature<0..2^16-1>; } DigitallySigned (RFC
-- 5246, section 4.7). Before TLS 1.2 it has no algorithm (RFC 4346, section 4.7).
pub record DigitallySigned : Type 0 where
  pub algorithm : Option SignatureAndHashAlgorithm
  pub signature : Bytes

abbrev pub view_signed : signed_of.DigitallySigned → DigitallySigned
view_signed s = record { algorithm = option_map view_algorithm s.alg; signature = s.bytes.now }

unfoldable pub digitally_signed : Layout DigitallySigned
digitally_signed = do
  a ← algorithm
  signature ← counted 2
  done (record { algorithm = Some a; signature = signature })

unfoldable pub digitally_signed_old : Layout DigitallySigned
digitally_signed_old =
    mapped (λ signature. record { algorithm = None; signature = signature }) (counted 2)

-- The form of TLS 1.2 if `ext`, else the older one.
unfoldable pub signature : Bool → Layout DigitallySigned
signature ext = choose ext digitally_signed digitally_signed_old

-- Content that was read before, with the signature after it.
unfoldable pub beside_signature : {T : Type 0} → T → Bool → Layout (T × DigitallySigned)
beside_signature content ext = mapped (λ s. (content, s)) (signature ext)

-- What the call returns after the reader of the content: a refusal is passed on, and after a value
-- the signature gives the answer.
abbrev pub GivesSignature : {T : Type 0} → Bool → Returned T
    → Returned (T × signed_of.DigitallySigned) → Type 0
GivesSignature ext (Err e) result = result ≡ Err e
GivesSignature ext (Ok x) result =
    Gives (λ v. (v.0, view_signed v.1)) (beside_signature x.1 ext) x.0.now result
